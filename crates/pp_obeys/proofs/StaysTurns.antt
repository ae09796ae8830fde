-- Replies, asks, the clock and the phases of a turn leave the rest of a state as it is.
use Rattle.std.proofs.Common.{◌≡◌, refl, ℕ, zero, suc, ◌+◌, nat_lt, max, Bool, true, false, not, ◌&&◌, List, [], ◌∷◌, map, ap, ◌∙◌}
use Rattle.pp_law.specs.After.{reached, said, gone, evicted, refused_row, shut, out}
use Rattle.pp_law.specs.Asking.{asking, is_writing, hear, ask_body, ask_next, ask, hang_up, asked_text}
use Rattle.pp_law.specs.Connections.{placing, client, conn, front_of_line, is_outstanding}
use Rattle.pp_law.specs.Hearing.{heard_by}
use Rattle.pp_law.specs.Lists.{Bytes}
use Rattle.pp_law.specs.Opening.{is_at}
use Rattle.pp_law.specs.Phases.{phases, in_phase, behind, next, due_victim, is_done, come, come_to, come_to_decide, decides, deciding, ending}
use Rattle.pp_law.specs.Replies.{begin_replies, use_chunks, use_from, use_said, of_body, is_said, next_request, end_reply, end_said, is_finished, close_finished, end_replies, regained, said_by}
use Rattle.pp_law.specs.State.{State, Phase, Before, IsWoken, IsConfigured, IsRooted, IsListed, IsListening, IsStuck, Awaiting, Handling, Evicting, Keeping, Deciding, Following, Connecting, DecidingAgain, Client, Conn, Exchange, Instance}
use Rattle.pp_law.specs.Followers.{fill, give_up_asks}
use Rattle.pp_law.specs.Table.{Next, next_of}
use Rattle.pp_law.specs.Unseen.{drop_unseen}
use Rattle.pp_law.specs.Turn.{marked_client, marked_conn, touch, is_leap, marks_anew, owes_answer, is_idle_conn, end_patience, close_idle_conn, renew_marks, tick_to, tick}
use Rattle.pp_obeys.proofs.Frames.{Frame, Stays, frame, stays, frame_of, when, each_of}
use Rattle.pp_obeys.proofs.StaysTable.{swept-stays, forget-stays, use_chunk-stays, drop_chunk-stays, on_conn-stays, on_exchange-stays, on_client-stays, on_client_of-stays, each_client-stays, each_conn-stays, fail-stays, close_conn-stays, close_client-stays, forsake-stays, placing-stays}
use Rattle.pp_obeys.proofs.StaysAsks.{drop_unseen-stays, fill-stays, give_up_asks-stays}
use Rattle.pp_obeys.proofs.StaysResponses.{ended-stays}

-- ---- replies

pub begin_replies-stays : {all : Bool} {o : Frame} (s : State) → Stays all o s → Stays all o (begin_replies s)
unfolding begin_replies
begin_replies-stays s h = swept-stays _ (forsake-stays _ _ (stays (frame_of h)))

use_chunks-stays : {all : Bool} {o : Frame} (most id i : ℕ) (s : State) → Stays all o s → Stays all o (use_chunks most id i s)
unfolding use_chunks
use_chunks-stays zero id i s h = h
use_chunks-stays (suc more) id i s h = use_chunks-stays more id (i + 1) _ (use_chunk-stays id i s h)

use_from-stays : {all : Bool} {o : Frame} (n : ℕ) (x : Next) (s : State) → Stays all o s → Stays all o (use_from n x s)
unfolding use_from
use_from-stays n x s h = use_chunks-stays _ _ _ s h

use_said-stays : {all : Bool} {o : Frame} (n : ℕ) (c : Client) (s : State) → Stays all o s → Stays all o (use_said n c s)
unfolding use_said
use_said-stays n c s h = when (nat_lt 0 (of_body n c)) (each_of (next_of s c) h (λ x. use_from-stays (of_body n c) x s h)) h

end_reply-stays : {all : Bool} {o : Frame} (c : Client) (s : State) → Stays all o s → Stays all o (end_reply c s)
unfolding end_reply
end_reply-stays c s h = when c.closes (close_client-stays c.number false s h) (swept-stays _ (forsake-stays _ _ (on_client-stays c.number next_request s h)))

end_said-stays : {all : Bool} {o : Frame} (c : Client) (s : State) → Stays all o s → Stays all o (end_said c s)
unfolding end_said
end_said-stays c s h = when (is_said c && not c.is_closing) (end_reply-stays c s h) h

close_finished-stays : {all : Bool} {o : Frame} (c : Client) (s : State) → Stays all o s → Stays all o (close_finished c s)
unfolding close_finished
close_finished-stays c s h = when (is_finished c) (close_client-stays c.number false s h) h

pub end_replies-stays : {all : Bool} {o : Frame} (s : State) → Stays all o s → Stays all o (end_replies s)
unfolding end_replies
end_replies-stays s h = each_client-stays close_finished (λ c t ht. close_finished-stays c t ht) _ _ (each_client-stays end_said (λ c t ht. end_said-stays c t ht) _ s h)

pub regained-stays : {all : Bool} {o : Frame} (s : State) → Stays all o s → Stays all o (regained s)
unfolding regained
regained-stays s h = stays (frame_of h)

-- ---- asks

pub hear-stays : {all : Bool} {o : Frame} (n : ℕ) (bytes : Bytes) (s : State) → Stays all o s → Stays all o (hear n bytes s)
unfolding hear
hear-stays n bytes s h = end_replies-stays _ (on_client-stays n (heard_by bytes) s h)

ask_body-stays : {all : Bool} {o : Frame} (e : Exchange) (n : ℕ) (s : State) → Stays all o s → Stays all o (ask_body e n s)
unfolding ask_body
ask_body-stays e n s h = on_client_of-stays e _ _ (on_exchange-stays e.number _ s h)

ask_next-stays : {all : Bool} {o : Frame} (e : Exchange) (n : ℕ) (s : State) → Stays all o s → Stays all o (ask_next e n s)
unfolding ask_next
ask_next-stays e n s h = when (is_outstanding e) (ask_body-stays e n s h) (on_exchange-stays e.number (asked_text n s.clock) s h)

pub ask-stays : {all : Bool} {o : Frame} (k n : ℕ) (s : State) → Stays all o s → Stays all o (ask k n s)
unfolding ask
ask-stays k n s h = each_of (asking s k) h (λ e. ask_next-stays e n s h)

pub hang_up-stays : {all : Bool} {o : Frame} (n : ℕ) (s : State) → Stays all o s → Stays all o (hang_up n s)
unfolding hang_up
hang_up-stays n s h = when (is_writing s.owed n) (close_client-stays n false s h) (end_replies-stays _ (on_client-stays n _ s h))

-- ---- marks, and the clock

pub touch-stays : {all : Bool} {o : Frame} (n : ℕ) (s : State) → Stays all o s → Stays all o (touch n s)
unfolding touch
touch-stays n s h = on_conn-stays n (marked_conn s.clock) _ (on_client-stays n (marked_client s.clock) s h)

end_patience-stays : {all : Bool} {o : Frame} (k : Conn) (s : State) → Stays all o s → Stays all o (end_patience k s)
unfolding end_patience
end_patience-stays k s h = when (owes_answer s k) (each_of (front_of_line s k) h (λ e. fail-stays e s h)) h

close_idle_conn-stays : {all : Bool} {o : Frame} (k : Conn) (s : State) → Stays all o s → Stays all o (close_idle_conn k s)
unfolding close_idle_conn
close_idle_conn-stays k s h = when (is_idle_conn s k) (close_conn-stays true k _ (end_patience-stays k s h)) h

-- ---- the clock

abbrev pub untimed : Frame → Frame
untimed o = record o { clock = 0; has_ticked = false; has_lost_draft = false; is_ticked = false }

anew-frame : (all : Bool) (now : ℕ) (s : State) → untimed (frame all (marks_anew now s)) ≡ untimed (frame all s)
unfolding marks_anew
anew-frame all now s = by (is_leap now s)
  where
    by : (leaps : Bool)
        → untimed (frame all (elim leaps as (λ c. State) [ false ↦ s | true ↦ record s { has_ticked = true; clients = map (marked_client now) s.clients; conns = map (marked_conn now) s.conns } ])) ≡ untimed (frame all s)
    by false = refl
    by true = refl

marked-frame : (all : Bool) (now : ℕ) (s : State) → untimed (frame all (renew_marks now s)) ≡ untimed (frame all s)
unfolding renew_marks
marked-frame all now s = refl

tick_to-frame : (all : Bool) (now : ℕ) (s : State) → untimed (frame all (tick_to now s)) ≡ untimed (frame all s)
unfolding tick_to
tick_to-frame all now s =
    ap untimed (frame_of (each_conn-stays close_idle_conn (λ k t ht. close_idle_conn-stays k t ht) _ _ (stays refl)))
    ∙ marked-frame all now (marks_anew now s)
    ∙ anew-frame all now s

pub tick-frame : (all : Bool) (now : ℕ) (s : State) → untimed (frame all (tick now s)) ≡ untimed (frame all s)
unfolding tick
tick-frame all now s = tick_to-frame all (max s.clock now) s

-- ---- phases

abbrev pub unphased : Frame → Frame
unphased o = record o { phase = Before }

pub give_up_asks-frame : (all : Bool) (s : State) → frame all (give_up_asks s) ≡ frame all s
give_up_asks-frame all s = frame_of (give_up_asks-stays s (stays refl))

pub followed-frame : (all : Bool) (s : State) → frame all (fill (give_up_asks (drop_unseen s))) ≡ frame all s
followed-frame all s = frame_of (fill-stays _ (give_up_asks-stays _ (drop_unseen-stays s (stays refl))))

pub placing-frame : (all : Bool) (s : State) → frame all (placing s).state ≡ frame all s
placing-frame all s = frame_of (placing-stays s (stays refl))

behind-frame : (all : Bool) (phase : Phase) (s : State) → unphased (frame all (behind phase s)) ≡ unphased (frame all s)
behind-frame all Before s = refl
behind-frame all IsWoken s = refl
behind-frame all IsConfigured s = refl
behind-frame all IsRooted s = refl
behind-frame all IsListed s = refl
behind-frame all IsListening s = refl
behind-frame all IsStuck s = refl
behind-frame all Awaiting s = refl
behind-frame all Handling s = refl
behind-frame all Evicting s = ap unphased (give_up_asks-frame all (in_phase Keeping s))
behind-frame all Keeping s = refl
behind-frame all Deciding s = refl
behind-frame all Following s = ap unphased (followed-frame all (in_phase Connecting s))
behind-frame all Connecting s = ap unphased (placing-frame all (in_phase DecidingAgain s))
behind-frame all DecidingAgain s = refl

pub next-frame : (all : Bool) (s : State) → unphased (frame all (next s)) ≡ unphased (frame all s)
unfolding next
next-frame all s = behind-frame all s.phase s

moved_when : (all : Bool) (o : Frame) (t : Bool) (x y : State) → unphased (frame all x) ≡ o → unphased (frame all y) ≡ o → unphased (frame all (elim t as (λ c. State) [ true ↦ x | false ↦ y ])) ≡ o
moved_when all o true x y hx hy = hx
moved_when all o false x y hx hy = hy

pub come-frame : (all : Bool) (stops : State → Bool) (ps : List Phase) (s : State) → unphased (frame all (come stops ps s)) ≡ unphased (frame all s)
unfolding come
come-frame all stops [] s = refl
come-frame all stops (p ∷ ps) s =
    come-frame all stops ps _
    ∙ moved_when all _ (is_at p s) _ _ (moved_when all _ (stops s) _ _ refl (moved_when all _ (is_done s) _ _ (next-frame all s) refl)) refl

pub come_to-frame : (all : Bool) (phase : Phase) (s : State) → unphased (frame all (come_to phase s)) ≡ unphased (frame all s)
unfolding come_to
come_to-frame all phase s = come-frame all (is_at phase) phases s

pub come_to_decide-frame : (all : Bool) (s : State) → unphased (frame all (come_to_decide s)) ≡ unphased (frame all s)
unfolding come_to_decide
come_to_decide-frame all s = come-frame all decides phases s

pub deciding-frame : (all : Bool) (s : State) → unphased (frame all (deciding s)) ≡ unphased (frame all s)
unfolding deciding come_to_decide
deciding-frame all s = come-frame all decides phases s

pub ending-frame : (all : Bool) (s : State) → unphased (frame all (ending s)) ≡ unphased (frame all s)
unfolding ending
ending-frame all s = ap unphased (frame_of (begin_replies-stays (come_to DecidingAgain s) (stays refl))) ∙ come_to-frame all DecidingAgain s

-- ---- events

pub reached-stays : {all : Bool} {o : Frame} (n : ℕ) (s : State) → Stays all o s → Stays all o (reached n s)
unfolding reached
reached-stays n s h = touch-stays n _ (on_conn-stays n (λ k. record k { is_reached = true }) s h)

pub said-stays : {all : Bool} {o : Frame} (c n : ℕ) (s : State) → Stays all o s → Stays all o (said c n s)
unfolding said
said-stays c n s h = each_of (client s c) h (λ x. end_replies-stays _ (on_client-stays c (said_by n) _ (use_said-stays n x s h)))

pub gone-stays : {o : Frame} (is_clean : Bool) (n : ℕ) (s : State) → Stays false o s → Stays false o (gone is_clean n s)
unfolding gone
gone-stays is_clean n s h = each_of (conn s n) h (λ k. end_replies-stays _ (ended-stays is_clean k s h))

pub evicted-stays : {all : Bool} {o : Frame} (s : State) → Stays all o s → Stays all o (evicted s)
unfolding evicted
evicted-stays s h = each_of (due_victim s) h (λ place. drop_chunk-stays place.0 place.1 s h)

pub refused_row-stays : {all : Bool} {o : Frame} (x : Instance) (s : State) → Stays all o s → Stays all o (refused_row x s)
unfolding refused_row
refused_row-stays x s h = stays (frame_of (forget-stays x.id s h))

pub shut-stays : {all : Bool} {o : Frame} (n : ℕ) (s : State) → Stays all o s → Stays all o (shut n s)
unfolding shut
shut-stays n s h = stays (frame_of (close_client-stays n false s h))

pub out-stays : {all : Bool} {o : Frame} (n : ℕ) (s : State) → Stays all o s → Stays all o (out n s)
unfolding out
out-stays n s h = stays (frame_of h)
