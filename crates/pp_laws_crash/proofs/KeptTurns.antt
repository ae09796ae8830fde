-- Replies, the clock, the phases of a turn and its end keep what the disk is about.
use Rattle.std.proofs.Common.{◌≡◌, refl, ℕ, zero, suc, ◌+◌, nat_lt, max, Bool, true, false, not, ◌&&◌, List, [], ◌∷◌, inr, sym, ap, ◌∙◌}
use Rattle.pp_world.specs.declared.event.Wants.{Wants}
use Rattle.pp_world.specs.declared.note.Decision.{Decision}
use Rattle.pp_law.specs.After.{event, opened, owing, reached, paid, said, gone, take_decision, evicted, refused_row, shut, out}
use Rattle.pp_law.specs.Asking.{asking, is_writing, hear, ask_body, ask_next, ask, hang_up, asked_text}
use Rattle.pp_law.specs.Connections.{client, conn, front_of_line, on_client, on_conn, is_outstanding}
use Rattle.pp_law.specs.Hearing.{heard_by}
use Rattle.pp_law.specs.Lists.{Bytes}
use Rattle.pp_law.specs.Opening.{is_at}
use Rattle.pp_law.specs.Phases.{phases, in_phase, behind, next, due_victim, is_done, come, come_to, come_to_decide, decides, deciding, ending}
use Rattle.pp_law.specs.Replies.{begin_replies, use_chunks, use_from, use_said, of_body, is_said, next_request, end_reply, end_said, is_finished, close_finished, end_replies, regained, said_by}
use Rattle.pp_law.specs.State.{State, Phase, Before, IsWoken, IsConfigured, IsRooted, IsListed, IsListening, IsStuck, Awaiting, Handling, Evicting, Keeping, Deciding, Following, Connecting, DecidingAgain, Owed, Free, Client, Conn, Exchange, Instance}
use Rattle.pp_law.specs.Table.{Next, next_of}
use Rattle.pp_law.specs.Turn.{marked_client, marked_conn, touch, is_leap, marks_anew, owes_answer, is_idle_conn, end_patience, close_idle_conn, renew_marks, tick_to, tick, rest_with}
use Rattle.pp_laws_crash.proofs.Frames.{Kept, PartsOf, kept, parts_of, recovers, takes_turns, when, each_of}
use Rattle.pp_laws_crash.proofs.KeptTable.{swept-kept, forget-kept, use_chunk-kept, drop_chunk-kept, on_conn-kept, on_exchange-kept, on_client-kept, on_client_of-kept, each_client-kept, each_conn-kept, fail-kept, close_conn-kept, close_client-kept, forsake-kept, placing-kept}
use Rattle.pp_laws_crash.proofs.KeptExchanges.{decided-kept, drop_unseen-kept, ended-kept, fill-kept, give_up_asks-kept}

-- ---- replies

pub begin_replies-kept : {o : State} (s : State) → Kept o s → Kept o (begin_replies s)
unfolding begin_replies
begin_replies-kept s h = swept-kept _ (forsake-kept _ _ (kept (parts_of h)))

use_chunks-kept : {o : State} (most id i : ℕ) (s : State) → Kept o s → Kept o (use_chunks most id i s)
unfolding use_chunks
use_chunks-kept zero id i s h = h
use_chunks-kept (suc more) id i s h = use_chunks-kept more id (i + 1) _ (use_chunk-kept id i s h)

use_from-kept : {o : State} (n : ℕ) (x : Next) (s : State) → Kept o s → Kept o (use_from n x s)
unfolding use_from
use_from-kept n x s h = use_chunks-kept _ _ _ s h

use_said-kept : {o : State} (n : ℕ) (c : Client) (s : State) → Kept o s → Kept o (use_said n c s)
unfolding use_said
use_said-kept n c s h = when (nat_lt 0 (of_body n c)) (each_of (next_of s c) h (λ x. use_from-kept (of_body n c) x s h)) h

end_reply-kept : {o : State} (c : Client) (s : State) → Kept o s → Kept o (end_reply c s)
unfolding end_reply
end_reply-kept c s h = when c.closes (close_client-kept c.number false s h) (swept-kept _ (forsake-kept _ _ (on_client-kept c.number next_request s h)))

end_said-kept : {o : State} (c : Client) (s : State) → Kept o s → Kept o (end_said c s)
unfolding end_said
end_said-kept c s h = when (is_said c && not c.is_closing) (end_reply-kept c s h) h

close_finished-kept : {o : State} (c : Client) (s : State) → Kept o s → Kept o (close_finished c s)
unfolding close_finished
close_finished-kept c s h = when (is_finished c) (close_client-kept c.number false s h) h

pub end_replies-kept : {o : State} (s : State) → Kept o s → Kept o (end_replies s)
unfolding end_replies
end_replies-kept s h = each_client-kept close_finished (λ c t ht. close_finished-kept c t ht) _ _ (each_client-kept end_said (λ c t ht. end_said-kept c t ht) _ s h)

pub regained-kept : {o : State} (s : State) → Kept o s → Kept o (regained s)
unfolding regained
regained-kept s h = kept (parts_of h)

-- ---- asks

pub hear-kept : {o : State} (n : ℕ) (bytes : Bytes) (s : State) → Kept o s → Kept o (hear n bytes s)
unfolding hear
hear-kept n bytes s h = end_replies-kept _ (on_client-kept n (heard_by bytes) s h)

ask_body-kept : {o : State} (e : Exchange) (n : ℕ) (s : State) → Kept o s → Kept o (ask_body e n s)
unfolding ask_body
ask_body-kept e n s h = on_client_of-kept e _ _ (on_exchange-kept e.number _ s h)

ask_next-kept : {o : State} (e : Exchange) (n : ℕ) (s : State) → Kept o s → Kept o (ask_next e n s)
unfolding ask_next
ask_next-kept e n s h = when (is_outstanding e) (ask_body-kept e n s h) (on_exchange-kept e.number (asked_text n s.clock) s h)

pub ask-kept : {o : State} (k n : ℕ) (s : State) → Kept o s → Kept o (ask k n s)
unfolding ask
ask-kept k n s h = each_of (asking s k) h (λ e. ask_next-kept e n s h)

pub hang_up-kept : {o : State} (n : ℕ) (s : State) → Kept o s → Kept o (hang_up n s)
unfolding hang_up
hang_up-kept n s h = when (is_writing s.owed n) (close_client-kept n false s h) (end_replies-kept _ (on_client-kept n _ s h))

-- ---- marks, and the clock

pub touch-kept : {o : State} (n : ℕ) (s : State) → Kept o s → Kept o (touch n s)
unfolding touch
touch-kept n s h = on_conn-kept n (marked_conn s.clock) _ (on_client-kept n (marked_client s.clock) s h)

marks_anew-kept : {o : State} (now : ℕ) (s : State) → Kept o s → Kept o (marks_anew now s)
unfolding marks_anew
marks_anew-kept now s h = when (is_leap now s) (kept (parts_of h)) h

end_patience-kept : {o : State} (k : Conn) (s : State) → Kept o s → Kept o (end_patience k s)
unfolding end_patience
end_patience-kept k s h = when (owes_answer s k) (each_of (front_of_line s k) h (λ e. fail-kept e s h)) h

close_idle_conn-kept : {o : State} (k : Conn) (s : State) → Kept o s → Kept o (close_idle_conn k s)
unfolding close_idle_conn
close_idle_conn-kept k s h = when (is_idle_conn s k) (close_conn-kept true k _ (end_patience-kept k s h)) h

renew_marks-kept : {o : State} (now : ℕ) (s : State) → Kept o s → Kept o (renew_marks now s)
unfolding renew_marks
renew_marks-kept now s h = kept (parts_of h)

tick_to-kept : {o : State} (now : ℕ) (s : State) → Kept o s → Kept o (tick_to now s)
unfolding tick_to
tick_to-kept {o} now s h = each_conn-kept close_idle_conn (λ k t ht. close_idle_conn-kept k t ht) _ _ marked
  where
    marked : Kept o (record (renew_marks now (marks_anew now s)) { clock = now; is_ticked = true; has_lost_draft = false })
    marked = kept (parts_of (renew_marks-kept now _ (marks_anew-kept now s h)))

pub tick-kept : {o : State} (now : ℕ) (s : State) → Kept o s → Kept o (tick now s)
unfolding tick
tick-kept now s h = tick_to-kept (max s.clock now) s h

-- ---- phases

-- to a phase of a turn, from one or from where it listens
in_turn : {o : State} (phase : Phase) (s : State) (owed : Owed) → recovers phase ≡ false → takes_turns phase ≡ true → recovers s.phase ≡ false → PartsOf o s → PartsOf o (record s { phase = phase; owed = owed })
in_turn phase s owed recovered turns was p = record {
  disk_is = p.disk_is;
  agenda_is = p.agenda_is;
  under_way_is = p.under_way_is;
  closed_is = p.closed_is;
  acknowledged_is = p.acknowledged_is;
  settings_is = p.settings_is;
  recovers_is = recovered ∙ sym was ∙ p.recovers_is;
  moved = inr turns;
  owed_in = λ isnt. let both : true ≡ false = sym turns ∙ isnt in absurd (cc both);
  were = p.were;
  stay = p.stay;
  same = p.same;
  there = p.there;
  more = p.more;
  grew = p.grew;
}

pub in_phase-kept : {o : State} (phase : Phase) (s : State) → recovers phase ≡ false → takes_turns phase ≡ true → recovers s.phase ≡ false → Kept o s → Kept o (in_phase phase s)
in_phase-kept phase s recovered turns was h = kept (in_turn phase s s.owed recovered turns was (parts_of h))

behind-kept : {o : State} (phase : Phase) (s : State) → s.phase ≡ phase → Kept o s → Kept o (behind phase s)
behind-kept Before s is h = h
behind-kept IsWoken s is h = h
behind-kept IsConfigured s is h = h
behind-kept IsRooted s is h = h
behind-kept IsListed s is h = h
behind-kept IsListening s is h = h
behind-kept IsStuck s is h = h
behind-kept Awaiting s is h = h
behind-kept Handling s is h = in_phase-kept Evicting s refl refl (ap recovers is) h
behind-kept Evicting s is h = give_up_asks-kept _ (in_phase-kept Keeping s refl refl (ap recovers is) h)
behind-kept Keeping s is h = in_phase-kept Deciding s refl refl (ap recovers is) h
behind-kept Deciding s is h = in_phase-kept Following s refl refl (ap recovers is) h
behind-kept Following s is h = fill-kept _ (give_up_asks-kept _ (drop_unseen-kept _ (in_phase-kept Connecting s refl refl (ap recovers is) h)))
behind-kept Connecting s is h = placing-kept _ (in_phase-kept DecidingAgain s refl refl (ap recovers is) h)
behind-kept DecidingAgain s is h = h

pub next-kept : {o : State} (s : State) → Kept o s → Kept o (next s)
unfolding next
next-kept s h = behind-kept s.phase s refl h

come-kept : {o : State} (stops : State → Bool) (ps : List Phase) (s : State) → Kept o s → Kept o (come stops ps s)
unfolding come
come-kept stops [] s h = h
come-kept stops (p ∷ ps) s h = come-kept stops ps _ (when (is_at p s) (when (stops s) h (when (is_done s) (next-kept s h) h)) h)

pub come_to-kept : {o : State} (phase : Phase) (s : State) → Kept o s → Kept o (come_to phase s)
unfolding come_to
come_to-kept phase s h = come-kept (is_at phase) phases s h

pub come_to_decide-kept : {o : State} (s : State) → Kept o s → Kept o (come_to_decide s)
unfolding come_to_decide
come_to_decide-kept s h = come-kept decides phases s h

pub deciding-kept : {o : State} (s : State) → recovers (come_to_decide s).phase ≡ false → Kept o s → Kept o (deciding s)
unfolding deciding
deciding-kept s was h = in_phase-kept Deciding _ refl refl was (come_to_decide-kept s h)

pub ending-kept : {o : State} (s : State) → Kept o s → Kept o (ending s)
unfolding ending
ending-kept s h = begin_replies-kept _ (come_to-kept DecidingAgain s h)

pub rest_with-kept : {o : State} (w : Wants) (s : State) → recovers s.phase ≡ false → Kept o s → Kept o (rest_with w s)
unfolding rest_with
rest_with-kept {o} w s was h = kept (in_turn {o = o} Awaiting s Free refl refl was (parts_of h))

-- ---- events, reads and writes

pub event-kept : {o : State} (s : State) → recovers s.phase ≡ false → Kept o s → Kept o (event s)
unfolding event
event-kept s was h = regained-kept _ (in_phase-kept Handling s refl refl was h)

pub opened-kept : {o : State} (n : ℕ) (s : State) → Kept o s → Kept o (opened n s)
unfolding opened
opened-kept n s h = kept (parts_of h)

pub owing-kept : {o : State} (owed : Owed) (n : ℕ) (s : State) → s.phase ≡ Awaiting → Kept o s → Kept o (owing owed n s)
unfolding owing touch on_conn on_client
owing-kept {o} owed n s is h = kept (record {
  disk_is = (parts_of h).disk_is;
  agenda_is = (parts_of h).agenda_is;
  under_way_is = (parts_of h).under_way_is;
  closed_is = (parts_of h).closed_is;
  acknowledged_is = (parts_of h).acknowledged_is;
  settings_is = (parts_of h).settings_is;
  recovers_is = (parts_of h).recovers_is;
  moved = (parts_of h).moved;
  owed_in = λ isnt. let both : true ≡ false = sym (ap takes_turns is) ∙ isnt in absurd (cc both);
  were = (parts_of h).were;
  stay = (parts_of h).stay;
  same = (parts_of h).same;
  there = (parts_of h).there;
  more = (parts_of h).more;
  grew = (parts_of h).grew;
})

pub reached-kept : {o : State} (n : ℕ) (s : State) → Kept o s → Kept o (reached n s)
unfolding reached
reached-kept n s h = touch-kept n _ (on_conn-kept n (λ k. record k { is_reached = true }) s h)

pub paid-kept : {o : State} (s : State) → Kept o s → Kept o (paid s)
unfolding paid
paid-kept {o} s h = regained-kept _ (kept (record {
  disk_is = (parts_of h).disk_is;
  agenda_is = (parts_of h).agenda_is;
  under_way_is = (parts_of h).under_way_is;
  closed_is = (parts_of h).closed_is;
  acknowledged_is = (parts_of h).acknowledged_is;
  settings_is = (parts_of h).settings_is;
  recovers_is = (parts_of h).recovers_is;
  moved = (parts_of h).moved;
  owed_in = λ isnt. refl;
  were = (parts_of h).were;
  stay = (parts_of h).stay;
  same = (parts_of h).same;
  there = (parts_of h).there;
  more = (parts_of h).more;
  grew = (parts_of h).grew;
}))

pub said-kept : {o : State} (c n : ℕ) (s : State) → Kept o s → Kept o (said c n s)
unfolding said
said-kept c n s h = each_of (client s c) h (λ x. end_replies-kept _ (on_client-kept c (said_by n) _ (use_said-kept n x s h)))

pub gone-kept : {o : State} (is_clean : Bool) (n : ℕ) (s : State) → Kept o s → Kept o (gone is_clean n s)
unfolding gone
gone-kept is_clean n s h = each_of (conn s n) h (λ k. end_replies-kept _ (ended-kept is_clean k s h))

pub take_decision-kept : {o : State} (n : ℕ) (d : Decision) (s : State) → Kept o s → Kept o (take_decision n d s)
unfolding take_decision
take_decision-kept n d s h = each_of (client s n) h (λ c. regained-kept _ (kept (parts_of (decided-kept c d s h))))

pub evicted-kept : {o : State} (s : State) → Kept o s → Kept o (evicted s)
unfolding evicted
evicted-kept s h = each_of (due_victim s) h (λ place. drop_chunk-kept place.0 place.1 s h)

pub refused_row-kept : {o : State} (x : Instance) (s : State) → Kept o s → Kept o (refused_row x s)
unfolding refused_row
refused_row-kept x s h = kept (parts_of (forget-kept x.id s h))

pub shut-kept : {o : State} (n : ℕ) (s : State) → Kept o s → Kept o (shut n s)
unfolding shut
shut-kept n s h = kept (parts_of (close_client-kept n false s h))

pub out-kept : {o : State} (n : ℕ) (s : State) → Kept o s → Kept o (out n s)
unfolding out
out-kept n s h = kept (parts_of h)
