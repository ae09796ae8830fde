-- The phases of a turn, its clock and its end keep the bounds.
use Rattle.std.proofs.Common.{◌≡◌, refl, ℕ, max, Bool, true, false, List, [], ◌∷◌, map, Option, Some, None}
use Rattle.pp_world.specs.declared.event.Wants.{Wants}
use Rattle.pp_law.specs.Connections.{front_of_line}
use Rattle.pp_law.specs.Opening.{is_at}
use Rattle.pp_law.specs.Phases.{phases, in_phase, behind, next, is_done, come, come_to, decides, come_to_decide, deciding, ending}
use Rattle.pp_law.specs.Stages.{bound_of}
use Rattle.pp_law.specs.State.{State, Phase, Before, IsWoken, IsConfigured, IsRooted, IsListed, IsListening, IsStuck, Awaiting, Handling, Evicting, Keeping, Deciding, Following, Connecting, DecidingAgain, Bound, Joining, Conn, Exchange}
use Rattle.pp_law.specs.Turn.{marked_client, marked_conn, touch, is_leap, marks_anew, is_idle_conn, owes_answer, end_patience, close_idle_conn, woken_client, renew_marks, tick_to, tick, rested_client, rested_conn, rest_with}
use Rattle.pp_law.specs.Unseen.{wanted_to, rested_exchange, is_unseen, drop_on, drop_unseen}
use Rattle.pp_laws.proofs.Shrinks.{Shrinks, end_exchange-shrinks, fail-shrinks, shrinks_each, shrinks_same, shrinks_when}
use Rattle.pp_laws_bounds.proofs.Cases.{each_of, when}
use Rattle.pp_laws_bounds.proofs.Changes.{SameConn, SameExchange, clients_mapped, conns_mapped, exchanges_mapped, same_exchange}
use Rattle.pp_laws_bounds.proofs.Clients.{begin_replies-kept, fill-kept, give_up_asks-kept}
use Rattle.pp_laws_bounds.proofs.Closings.{Covers, close_conn-kept, covers, covers_shrunk}
use Rattle.pp_laws_bounds.proofs.Disk.{rephased}
use Rattle.pp_laws_bounds.proofs.Exchanges.{each_conn-kept, end_exchange-kept, fail-kept, on_client-kept, on_conn-kept}
use Rattle.pp_laws_bounds.proofs.Kept.{Kept, facts_of, is_early, kept}
use Rattle.pp_laws_bounds.proofs.Places.{placing-kept}

drop_on-kept : (k : Conn) (s : State) → Covers k s → Kept [] s → Kept [] (drop_on k s)
unfolding drop_on
drop_on-kept k s all h =
    each_of (front_of_line s k) h
    (λ e. when (is_unseen s k e) (close_conn-kept false k _ (covers_shrunk k s _ (end_exchange-shrinks e.number s) all) (end_exchange-kept e.number s h)) h)

drop_unseen-kept : (s : State) → Kept [] s → Kept [] (drop_unseen s)
unfolding drop_unseen
drop_unseen-kept s h = each_conn-kept drop_on (λ k t there ht. drop_on-kept k t (covers k t there ht) ht) _ s h

-- ---- phases

pub in_phase-kept : {but : List ℕ} (phase : Phase) (s : State) → is_early phase ≡ false → Kept but s → Kept but (in_phase phase s)
in_phase-kept phase s apart h = rephased phase s apart h

behind-kept : (phase : Phase) (s : State) → Kept [] s → Kept [] (behind phase s)
behind-kept Before s h = h
behind-kept IsWoken s h = h
behind-kept IsConfigured s h = h
behind-kept IsRooted s h = h
behind-kept IsListed s h = h
behind-kept IsListening s h = h
behind-kept IsStuck s h = h
behind-kept Awaiting s h = h
behind-kept Handling s h = in_phase-kept Evicting s refl h
behind-kept Evicting s h = give_up_asks-kept _ (in_phase-kept Keeping s refl h)
behind-kept Keeping s h = in_phase-kept Deciding s refl h
behind-kept Deciding s h = in_phase-kept Following s refl h
behind-kept Following s h = fill-kept _ (give_up_asks-kept _ (drop_unseen-kept _ (in_phase-kept Connecting s refl h)))
behind-kept Connecting s h = placing-kept _ (in_phase-kept DecidingAgain s refl h)
behind-kept DecidingAgain s h = h

next-kept : (s : State) → Kept [] s → Kept [] (next s)
unfolding next
next-kept s h = behind-kept s.phase s h

come-kept : (stops : State → Bool) (ps : List Phase) (s : State) → Kept [] s → Kept [] (come stops ps s)
unfolding come
come-kept stops [] s h = h
come-kept stops (p ∷ ps) s h = come-kept stops ps _ (when (is_at p s) (when (stops s) h (when (is_done s) (next-kept s h) h)) h)

pub come_to-kept : (phase : Phase) (s : State) → Kept [] s → Kept [] (come_to phase s)
unfolding come_to
come_to-kept phase s h = come-kept (is_at phase) phases s h

pub come_to_decide-kept : (s : State) → Kept [] s → Kept [] (come_to_decide s)
unfolding come_to_decide
come_to_decide-kept s h = come-kept decides phases s h

pub deciding-kept : (s : State) → Kept [] s → Kept [] (deciding s)
unfolding deciding
deciding-kept s h = in_phase-kept Deciding _ refl (come_to_decide-kept s h)

-- ---- marks, and the clock

alike : (k j : Conn) → k.number ≡ j.number → k.host ≡ j.host → k.port ≡ j.port → k.line ≡ j.line → k.is_closing ≡ j.is_closing → SameConn k j
alike k j number host port line closing = record { number = number; host = host; port = port; line = line; closing = closing }

pub touch-kept : {but : List ℕ} (n : ℕ) (s : State) → Kept but s → Kept but (touch n s)
unfolding touch
touch-kept n s h = on_conn-kept n (marked_conn s.clock) _ (λ k. alike _ k refl refl refl refl refl) (on_client-kept n (marked_client s.clock) s h)

marks_anew-kept : {but : List ℕ} (now : ℕ) (s : State) → Kept but s → Kept but (marks_anew now s)
unfolding marks_anew
marks_anew-kept {but} now s h = when (is_leap now s) (kept (clients_mapped but (record s { conns = map (marked_conn now) s.conns }) (marked_client now)
    (conns_mapped but s (marked_conn now) (λ k. alike _ k refl refl refl refl refl) (facts_of h)))) h

end_patience-kept : {but : List ℕ} (k : Conn) (s : State) → Kept but s → Kept but (end_patience k s)
unfolding end_patience
end_patience-kept {but} k s h = when_not (owes_answer s k) h (each_of (front_of_line s k) h (λ e. fail-kept e s h))
  where
    when_not : (t : Bool) {x y : State} → Kept but x → Kept but y → Kept but (elim t as (λ c. State) [ false ↦ x | true ↦ y ])
    when_not false hx hy = hx
    when_not true hx hy = hy

end_patience-shrinks : (k : Conn) (s : State) → Shrinks s (end_patience k s)
unfolding end_patience
end_patience-shrinks k s = shrinks_when s (owes_answer s k) (shrinks_each s (front_of_line s k) (shrinks_same s) (λ e. fail-shrinks e s)) (shrinks_same s)

close_idle_conn-kept : (k : Conn) (s : State) → Covers k s → Kept [] s → Kept [] (close_idle_conn k s)
unfolding close_idle_conn
close_idle_conn-kept k s all h = when (is_idle_conn s k) (close_conn-kept true k _ (covers_shrunk k s _ (end_patience-shrinks k s) all) (end_patience-kept k s h)) h

renew_marks-kept : {but : List ℕ} (now : ℕ) (s : State) → Kept but s → Kept but (renew_marks now s)
unfolding renew_marks
renew_marks-kept {but} now s h = kept (clients_mapped but s (woken_client now s) (facts_of h))

tick_to-kept : (now : ℕ) (s : State) → Kept [] s → Kept [] (tick_to now s)
unfolding tick_to
tick_to-kept now s h = each_conn-kept close_idle_conn (λ k t there ht. close_idle_conn-kept k t (covers k t there ht) ht) _ _ marked
  where
    marked : Kept [] (record (renew_marks now (marks_anew now s)) { clock = now; is_ticked = true; has_lost_draft = false })
    marked = kept (facts_of (renew_marks-kept now _ (marks_anew-kept now s h)))

pub tick-kept : (now : ℕ) (s : State) → Kept [] s → Kept [] (tick now s)
unfolding tick
tick-kept now s h = tick_to-kept (max s.clock now) s h

pub ending-kept : (s : State) → Kept [] s → Kept [] (ending s)
unfolding ending
ending-kept s h = begin_replies-kept _ (come_to-kept DecidingAgain s h)

rested_same : (s : State) (e : Exchange) → SameExchange (rested_exchange s e) e
rested_same s e = by (bound_of e)
  where
    by : (bound : Option Bound) → SameExchange (elim bound as (λ c. Exchange) [ None ↦ e | Some b ↦ record e { body = Joining (wanted_to s b) } ]) e
    by None = same_exchange e e refl refl refl refl
    by (Some b) = same_exchange _ e refl refl refl refl

pub rest_with-kept : {but : List ℕ} (w : Wants) (s : State) → Kept but s → Kept but (rest_with w s)
unfolding rest_with
rest_with-kept {but} w s h = kept (facts_of (rephased Awaiting (record s { clients = map (rested_client s) s.clients; conns = map (rested_conn s w) s.conns; exchanges = map (rested_exchange s) s.exchanges }) refl (kept (clients_mapped but (record s { conns = map (rested_conn s w) s.conns; exchanges = map (rested_exchange s) s.exchanges }) (rested_client s)
    (exchanges_mapped but (record s { conns = map (rested_conn s w) s.conns }) (rested_exchange s) (rested_same s)
    (conns_mapped but s (rested_conn s w) (λ k. alike _ k refl refl refl refl refl) (facts_of h)))))))
