-- A tick leaves all clients their numbers.
use Rattle.std.proofs.Common.{◌≡◌, refl, ap, ◌∙◌, ℕ, zero, suc, Bool, true, false, ◌&&◌, not, cond, find, max, List, [], ◌∷◌, Option, Some, None}
use Rattle.std.specs.List.{fold}
use Rattle.pp_decide.specs.Patience.{is_leap}
use Rattle.pp_desk.specs.Closings.{Sides, closed_conn, closed_line, peer_numbers, sides, with_parts}
use Rattle.pp_desk.specs.Marks.{marked_seat, marked_seats}
use Rattle.pp_desk.specs.Origins.{given_up, is_idle_in, patience_ended, unanswered, without_idle_on}
use Rattle.pp_desk.specs.declared.desk.Desk.{Desk}
use Rattle.pp_due.specs.Waits.{is_waiting, woken_by, woken_seat}
use Rattle.pp_flow.specs.Changes.{entry_of}
use Rattle.pp_flow.specs.Errands.{attempts_in}
use Rattle.pp_flow.specs.declared.entry.Entry.{Entry}
use Rattle.pp_flow.specs.declared.entry.Exchange.{Exchange}
use Rattle.pp_peers.specs.Peers.{is_number}
use Rattle.pp_peers.specs.declared.peers.Peer.{Peer}
use Rattle.pp_proxy.specs.Handling.{TicksOn}
use Rattle.pp_proxy.specs.Ticks.{second_begun}
use Rattle.pp_seats.specs.Courses.{lost_one, without_row}
use Rattle.pp_seats.specs.Seats.{brought_to}
use Rattle.pp_seats.specs.declared.seat.Course.{Course}
use Rattle.pp_seats.specs.declared.seat.Course.TheVariants.{OutOfTries}
use Rattle.pp_seats.specs.declared.seat.PassedEnd.TheVariants.{Short}
use Rattle.pp_seats.specs.declared.seat.Seat.{Seat}
use Rattle.pp_state.proofs.SeatsLemmas.{anew_numbers, changed_numbers, mapped_numbers, without_row-number}
use Rattle.pp_state.specs.Asking.{owed_answer}
use Rattle.pp_state.specs.Ends.{Parts, asked_elsewhere, charged, charged_at, charged_where, cleared_of, cleared_row, cut_short, dropped_row, ended, exchange_at, given_up_row, is_unfilled_at, left_place, left_place_at, lost_attempt, lost_place, may_go_elsewhere, numbers_of, on_seat, on_seat_where, seat_for, with_course}
use Rattle.pp_state.specs.Keys.{key_of}
use Rattle.pp_state.specs.Lines.{first_on, lost_line}
use Rattle.pp_state.specs.declared.state.State.{State}

abbrev Same : Parts → Parts → Type 0
Same p q = numbers_of q.seats ≡ numbers_of p.seats

-- ---- an attempt is lost

clears : (n : ℕ) (p : Parts) → Same p (cleared_row n p)
clears n p = by (key_of n p.flow)
  where
    by : (o : Option (List ℕ)) → Same p (cleared_of o p)
    by None = refl
    by (Some key) = anew_numbers key p.refused p.seats

gives_up : (i : ℕ) (e : Exchange) (p : Parts) → Same p (given_up_row i e p)
unfolding given_up_row
gives_up i e p = by (is_unfilled_at i e p)
  where
    by : (b : Bool) → Same p (cond b (dropped_row i e p) p)
    by true = changed_numbers i without_row (cleared_row e.number p).seats without_row-number ∙ clears e.number p
    by false = refl

costs : (cost : Course → Course) (e : Exchange) (p : Parts) → Same p (charged cost e p)
unfolding charged_at
costs cost e p = by (seat_for e p.seats)
  where
    by : (o : Option ℕ) → Same p (charged_at o cost e p)
    by None = refl
    by (Some i) = gives_up i e (on_seat i (with_course cost) p) ∙ changed_numbers i (with_course cost) p.seats (λ seat. refl)

loses_attempt : (e : Exchange) (p : Parts) → Same p (lost_attempt e p)
loses_attempt e p = by (entry_of e.number p.flow)
  where
    by : (o : Option Entry) → Same p (elim o as (λ t. Parts) [ None ↦ p | Some x ↦ charged (lost_one (attempts_in x.errand.is_asked_once)) e p ])
    by None = refl
    by (Some x) = costs (lost_one (attempts_in x.errand.is_asked_once)) e p

-- ---- the line of a connection is lost

shortens : (e : Exchange) (p : Parts) → Same p (cut_short e p)
shortens e p = by (seat_for e p.seats)
  where
    by : (o : Option ℕ) → Same p (on_seat_where o (λ seat. record seat { brought = brought_to Short seat.brought }) p)
    by None = refl
    by (Some i) = changed_numbers i (λ seat. record seat { brought = brought_to Short seat.brought }) p.seats (λ seat. refl)

leaves : (e : Exchange) (p : Parts) → Same p (left_place e p)
unfolding left_place
leaves e p = by e.headed (may_go_elsewhere e.number p)
  where
    by : (a b : Bool) → Same p (cond a (ended e.number (cut_short e p)) (cond b (asked_elsewhere e.number p) (ended e.number p)))
    by true b = shortens e p
    by false true = refl
    by false false = refl

loses : (n : ℕ) (counts : Bool) (p : Parts) → Same p (lost_place n counts p)
loses n counts p = by (exchange_at n p.flow)
  where
    pays : (b : Bool) (e : Exchange) → Same p (charged_where b e p)
    pays true e = loses_attempt e p
    pays false e = refl

    by : (o : Option Exchange) → Same p (left_place_at o counts p)
    by None = refl
    by (Some e) = leaves e (charged_where counts e p) ∙ pays counts e

line : (most k : ℕ) (counts : Bool) (p : Parts) → Same p (lost_line most k counts p)
line zero k counts p = refl
line (suc more) k counts p = by (first_on k p) (λ n. line more k counts (lost_place n counts p) ∙ loses n counts p)
  where
    by : (o : Option ℕ) → ((n : ℕ) → Same p (lost_line more k counts (lost_place n counts p))) → Same p (elim o as (λ t. Parts) [ None ↦ p | Some n ↦ lost_line more k counts (lost_place n counts p) ])
    by None rest = refl
    by (Some n) rest = rest n

-- ---- those that are idle are closed

closes : (k : ℕ) (counts : Bool) (x : Sides) → Same x.parts (closed_conn k counts x).parts
closes k counts x = by (find (is_number k) x.peers)
  where
    at : (b : Bool) (peer : Peer) → Same x.parts (cond b x.parts (lost_line 1024 k (counts && not peer.has_brought) x.parts))
    at true peer = refl
    at false peer = line 1024 k (counts && not peer.has_brought) x.parts

    by : (o : Option Peer) → Same x.parts (closed_line k counts o x.parts)
    by None = refl
    by (Some peer) = at peer.is_closing peer

unanswers : (o : Option Exchange) (p : Parts) → Same p (unanswered o p)
unanswers None p = refl
unanswers (Some e) p = costs (λ course. OutOfTries) e p

idle_on : (now k : ℕ) (x : Sides) → Same x.parts (without_idle_on now x k).parts
idle_on now k x = by (is_idle_in now x.parts.flow (find (is_number k) x.peers))
  where
    by : (b : Bool) → Same x.parts (cond b (given_up k x) x).parts
    by true = closes k true (with_parts (patience_ended k) x) ∙ unanswers (owed_answer k x.parts.flow) x.parts
    by false = refl

all_idle : (now : ℕ) (ks : List ℕ) (x : Sides) → Same x.parts (fold (without_idle_on now) x ks).parts
all_idle now [] x = refl
all_idle now (k ∷ ks) x = all_idle now ks (without_idle_on now x k) ∙ idle_on now k x

-- ---- a second begins

woken_number : (now : ℕ) (s : State) (seat : Seat) → (woken_seat now s seat).client.id ≡ seat.client.id
woken_number now s seat = by (is_waiting s seat)
  where
    by : (b : Bool) → (woken_by b now seat).client.id ≡ seat.client.id
    by true = refl
    by false = refl

marked_numbers : (b : Bool) (now : ℕ) (seats : List Seat) → numbers_of (marked_seats b now seats) ≡ numbers_of seats
marked_numbers true now seats = mapped_numbers (marked_seat now) seats (λ seat. refl)
marked_numbers false now seats = refl

second_numbers : (now : ℕ) (s : State) (x : Sides) → Same x.parts (second_begun now s x).parts
second_numbers now s x = mapped_numbers (woken_seat now s) (marked_seats (is_leap now s.has_ticked s.now) now x.parts.seats) (λ seat. woken_number now s seat) ∙ marked_numbers (is_leap now s.has_ticked s.now) now x.parts.seats

module _ (seconds : ℕ) (old new : Desk) (ticks : TicksOn seconds old new) where
  abbrev now : ℕ
  now = max old.state.now seconds

  abbrev begun : Sides
  begun = second_begun now old.state (sides old)

  pub tick_numbers : numbers_of new.state.seats.items ≡ numbers_of old.state.seats.items
  tick_numbers = ap (λ (x : Sides). numbers_of x.parts.seats) ticks.is ∙ all_idle now (peer_numbers begun.peers) begun ∙ second_numbers now old.state (sides old)
