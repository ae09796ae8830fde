-- Where connections to origins are closed, no life goes astray.
use Rattle.std.proofs.Common.{◌≡◌, refl, ◌∙◌, ℕ, zero, suc, Bool, true, false, ◌&&◌, not, cond, find, List, [], ◌∷◌, Option, Some, None}
use Rattle.std.specs.List.{fold}
use Rattle.pp_desk.specs.Closings.{Sides, closed_conn, closed_line, with_parts}
use Rattle.pp_desk.specs.Origins.{given_up, is_idle_in, patience_ended, unanswered, without_idle_on}
use Rattle.pp_flow.specs.Changes.{entry_of}
use Rattle.pp_flow.specs.Errands.{attempts_in}
use Rattle.pp_flow.specs.declared.entry.Entry.{Entry}
use Rattle.pp_flow.specs.declared.entry.Exchange.{Exchange}
use Rattle.pp_peers.specs.Peers.{is_number}
use Rattle.pp_peers.specs.declared.peers.Peer.{Peer}
use Rattle.pp_seats.specs.Courses.{lost_one}
use Rattle.pp_seats.specs.Seats.{brought_to}
use Rattle.pp_seats.specs.declared.seat.Course.{Course}
use Rattle.pp_seats.specs.declared.seat.Course.TheVariants.{OutOfTries}
use Rattle.pp_seats.specs.declared.seat.PassedEnd.TheVariants.{Short}
use Rattle.pp_seats.specs.declared.seat.Seat.{Seat}
use Rattle.pp_state.specs.Asking.{owed_answer}
use Rattle.pp_state.specs.Ends.{Parts, asked_elsewhere, charged, charged_at, charged_where, cleared_of, cleared_row, cut_short, dropped_row, ended, exchange_at, given_up_row, is_unfilled_at, left_place, left_place_at, lost_attempt, lost_place, may_go_elsewhere, on_seat, on_seat_where, seat_for, with_course}
use Rattle.pp_state.specs.Keys.{key_of}
use Rattle.pp_state.specs.Lines.{first_on, lost_line}

abbrev IsSame : Parts → Parts → Type 0
IsSame p q = q.is_astray ≡ p.is_astray

pub seated : (o : Option ℕ) (f : Seat → Seat) (p : Parts) → IsSame p (on_seat_where o f p)
seated None f p = refl
seated (Some i) f p = refl

clears : (n : ℕ) (p : Parts) → IsSame p (cleared_row n p)
clears n p = by (key_of n p.flow)
  where
    by : (o : Option (List ℕ)) → IsSame p (cleared_of o p)
    by None = refl
    by (Some key) = refl

given : (i : ℕ) (e : Exchange) (p : Parts) → IsSame p (given_up_row i e p)
unfolding given_up_row
given i e p = by (is_unfilled_at i e p)
  where
    by : (b : Bool) → IsSame p (cond b (dropped_row i e p) p)
    by true = clears e.number p
    by false = refl

costs : (cost : Course → Course) (e : Exchange) (p : Parts) → IsSame p (charged cost e p)
unfolding charged_at
costs cost e p = by (seat_for e p.seats)
  where
    by : (o : Option ℕ) → IsSame p (charged_at o cost e p)
    by None = refl
    by (Some i) = given i e (on_seat i (with_course cost) p)

loses_attempt : (e : Exchange) (p : Parts) → IsSame p (lost_attempt e p)
loses_attempt e p = by (entry_of e.number p.flow)
  where
    by : (o : Option Entry) → IsSame p (elim o as (λ t. Parts) [ None ↦ p | Some x ↦ charged (lost_one (attempts_in x.errand.is_asked_once)) e p ])
    by None = refl
    by (Some x) = costs (lost_one (attempts_in x.errand.is_asked_once)) e p

leaves : (e : Exchange) (p : Parts) → IsSame p (left_place e p)
unfolding left_place
leaves e p = by e.headed (may_go_elsewhere e.number p)
  where
    by : (a b : Bool) → IsSame p (cond a (ended e.number (cut_short e p)) (cond b (asked_elsewhere e.number p) (ended e.number p)))
    by true b = seated (seat_for e p.seats) (λ seat. record seat { brought = brought_to Short seat.brought }) p
    by false true = refl
    by false false = refl

loses : (n : ℕ) (counts : Bool) (p : Parts) → IsSame p (lost_place n counts p)
loses n counts p = by (exchange_at n p.flow)
  where
    pays : (b : Bool) (e : Exchange) → IsSame p (charged_where b e p)
    pays true e = loses_attempt e p
    pays false e = refl

    by : (o : Option Exchange) → IsSame p (left_place_at o counts p)
    by None = refl
    by (Some e) = leaves e (charged_where counts e p) ∙ pays counts e

line : (most k : ℕ) (counts : Bool) (p : Parts) → IsSame p (lost_line most k counts p)
line zero k counts p = refl
line (suc more) k counts p = by (first_on k p) (λ n. line more k counts (lost_place n counts p) ∙ loses n counts p)
  where
    by : (o : Option ℕ) → ((n : ℕ) → IsSame p (lost_line more k counts (lost_place n counts p))) → IsSame p (elim o as (λ t. Parts) [ None ↦ p | Some n ↦ lost_line more k counts (lost_place n counts p) ])
    by None rest = refl
    by (Some n) rest = rest n

pub closes_same : (k : ℕ) (counts : Bool) (x : Sides) → IsSame x.parts (closed_conn k counts x).parts
closes_same k counts x = by (find (is_number k) x.peers)
  where
    at : (b : Bool) (peer : Peer) → IsSame x.parts (cond b x.parts (lost_line 1024 k (counts && not peer.has_brought) x.parts))
    at true peer = refl
    at false peer = line 1024 k (counts && not peer.has_brought) x.parts

    by : (o : Option Peer) → IsSame x.parts (closed_line k counts o x.parts)
    by None = refl
    by (Some peer) = at peer.is_closing peer

unanswers : (o : Option Exchange) (p : Parts) → IsSame p (unanswered o p)
unanswers None p = refl
unanswers (Some e) p = costs (λ course. OutOfTries) e p

idle_on : (now k : ℕ) (x : Sides) → IsSame x.parts (without_idle_on now x k).parts
idle_on now k x = by (is_idle_in now x.parts.flow (find (is_number k) x.peers))
  where
    by : (b : Bool) → IsSame x.parts (cond b (given_up k x) x).parts
    by true = closes_same k true (with_parts (patience_ended k) x) ∙ unanswers (owed_answer k x.parts.flow) x.parts
    by false = refl

pub idle_same : (now : ℕ) (ks : List ℕ) (x : Sides) → IsSame x.parts (fold (without_idle_on now) x ks).parts
idle_same now [] x = refl
idle_same now (k ∷ ks) x = idle_same now ks (without_idle_on now x k) ∙ idle_on now k x
