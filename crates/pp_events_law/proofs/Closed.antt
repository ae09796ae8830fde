-- Where connections to origins are closed, clients keep their places, their requests and their replies, and no instance comes in.
use Rattle.std.proofs.Common.{◌≡◌, refl, ◌∙◌, ℕ, zero, suc, Bool, true, false, ◌&&◌, ◌||◌, not, cond, find, map, List, [], ◌∷◌, Option, Some, None}
use Rattle.std.specs.List.{fold}
use Rattle.std.specs.Prelude.{slice_get}
use Rattle.pp_cache.specs.Memory.{retired_at}
use Rattle.pp_cache.specs.Notes.{has_noted}
use Rattle.pp_desk.proofs.ClosingLemmas.{closed_numbers}
use Rattle.pp_desk.specs.Closings.{Sides, closed_conn, closed_line, peer_numbers, with_parts}
use Rattle.pp_desk.specs.Origins.{given_up, is_idle_in, patience_ended, unanswered, without_idle_on}
use Rattle.pp_flow.specs.Changes.{entry_of}
use Rattle.pp_flow.specs.declared.entry.Entry.{Entry}
use Rattle.pp_flow.specs.declared.entry.Exchange.{Exchange}
use Rattle.pp_objects.specs.Instances.{row_of}
use Rattle.pp_objects.specs.declared.id.ObjectId.{ObjectId}
use Rattle.pp_peers.specs.Peers.{is_number}
use Rattle.pp_peers.specs.declared.peers.Peer.{Peer}
use Rattle.pp_flow.specs.Errands.{attempts_in}
use Rattle.pp_seats.specs.Courses.{has_begun, lost_one, without_row}
use Rattle.pp_seats.specs.Seats.{brought_to, has_key}
use Rattle.pp_seats.specs.declared.seat.Brought.{Brought}
use Rattle.pp_seats.specs.declared.seat.Brought.TheVariants.{Awaited, Useless, Joins, Passes, TooWide, Refused}
use Rattle.pp_seats.specs.declared.seat.Course.{Course}
use Rattle.pp_seats.specs.declared.seat.Course.TheVariants.{OutOfTries, Trying}
use Rattle.pp_seats.specs.declared.seat.PassedEnd.TheVariants.{Short}
use Rattle.pp_seats.specs.declared.seat.Seat.{Seat}
use Rattle.pp_state.proofs.SeatsLemmas.{anew_numbers}
use Rattle.pp_state.specs.Ends.{Parts, asked_elsewhere, charged, charged_at, charged_where, cleared_key, cleared_of, cleared_row, cut_short, decided_anew, dropped_row, ended, exchange_at, failed, given_up_row, is_unfilled_at, left_place, left_place_at, lost_attempt, lost_place, may_go_elsewhere, on_seat, seat_for, useless_if_refused, with_course}
use Rattle.pp_state.specs.Asking.{owed_answer}
use Rattle.pp_state.specs.Keys.{key_of}
use Rattle.pp_state.specs.Lines.{first_on, lost_line}
use Rattle.pp_states_law.proofs.Told.{there_before}
use Rattle.pp_events_law.proofs.Alike.{AreAlike, IsAlike, WasAlike, itself, map_was, none, on_one, on_some, then}

-- ---- a row is cleared

anew_joins : (brought : Brought) (id : ObjectId) (plain : Bool) → useless_if_refused brought ≡ Joins id plain → brought ≡ Joins id plain
anew_joins Awaited id plain is = is
anew_joins Useless id plain is = is
anew_joins (Joins other so) id plain is = is
anew_joins (Passes x) id plain is = is
anew_joins TooWide id plain is = is
anew_joins Refused id plain is = absurd (cc is)

anew_alike : (key : List ℕ) (seat : Seat) → IsAlike seat (decided_anew key seat)
anew_alike key seat = by (has_key key seat)
  where
    by : (b : Bool) → IsAlike seat (cond b (record seat { brought = useless_if_refused seat.brought }) seat)
    by true = record { id = refl; reply = refl; heard = refl; body_left = refl; front = refl; stage = refl; hung_up = refl; closing = refl; joins = λ id plain is. anew_joins seat.brought id plain is }
    by false = itself seat

clears : (key : List ℕ) (p : Parts) → AreAlike p (cleared_key key p)
unfolding retired_at
clears key p = record {
  numbers = anew_numbers key p.refused p.seats;
  was = λ j new at. by j new (has_noted key p.refused) at;
  lives = refl;
  there = λ id is. there_before id (row_of key p.cache.instances) p.cache.instances is;
}
  where
    by : (j : ℕ) (new : Seat) (b : Bool) → slice_get (cond b (map (decided_anew key) p.seats) p.seats) j ≡ Some new → WasAlike p.seats j new
    by j new true at = map_was (decided_anew key) (anew_alike key) p.seats j new at
    by j new false at = record { old = new; here = at; is = itself new }

clears_row : (n : ℕ) (p : Parts) → AreAlike p (cleared_row n p)
clears_row n p = by (key_of n p.flow)
  where
    by : (o : Option (List ℕ)) → AreAlike p (cleared_of o p)
    by None = none p p.flow
    by (Some key) = clears key p

-- ---- what an exchange costs, and where its place is lost

row_alike : (seat : Seat) → IsAlike seat (without_row seat)
row_alike seat = by (has_begun seat || seat.has_given_up)
  where
    by : (b : Bool) → IsAlike seat (elim b as (λ t. Seat) [ true ↦ seat | false ↦ record seat { course = Trying 0; has_given_up = true } ])
    by true = itself seat
    by false = record { id = refl; reply = refl; heard = refl; body_left = refl; front = refl; stage = refl; hung_up = refl; closing = refl; joins = λ id plain is. is }

given : (i : ℕ) (e : Exchange) (p : Parts) → AreAlike p (given_up_row i e p)
unfolding given_up_row
given i e p = by (is_unfilled_at i e p)
  where
    by : (b : Bool) → AreAlike p (cond b (dropped_row i e p) p)
    by true =
        let q : Parts = cleared_row e.number p in
        then p (on_seat i without_row q) (dropped_row i e p) (then p q (on_seat i without_row q) (clears_row e.number p) (on_one i without_row q row_alike)) (none (on_seat i without_row q) (dropped_row i e p).flow)
    by false = none p p.flow

costs : (cost : Course → Course) (e : Exchange) (p : Parts) → AreAlike p (charged cost e p)
unfolding charged_at
costs cost e p = by (seat_for e p.seats)
  where
    by : (o : Option ℕ) → AreAlike p (charged_at o cost e p)
    by None = none p p.flow
    by (Some i) =
        let q : Parts = on_seat i (with_course cost) p in
        then p q (given_up_row i e q) (on_one i (with_course cost) p (λ seat. record { id = refl; reply = refl; heard = refl; body_left = refl; front = refl; stage = refl; hung_up = refl; closing = refl; joins = λ id plain is. is })) (given i e q)

pub fails : (e : Exchange) (p : Parts) → AreAlike p (failed e p)
fails e p = costs (λ course. OutOfTries) e p

loses_attempt : (e : Exchange) (p : Parts) → AreAlike p (lost_attempt e p)
loses_attempt e p = by (entry_of e.number p.flow)
  where
    by : (o : Option Entry) → AreAlike p (elim o as (λ t. Parts) [ None ↦ p | Some x ↦ charged (lost_one (attempts_in x.errand.is_asked_once)) e p ])
    by None = none p p.flow
    by (Some x) = costs (lost_one (attempts_in x.errand.is_asked_once)) e p

short_joins : (brought : Brought) (id : ObjectId) (plain : Bool) → brought_to Short brought ≡ Joins id plain → brought ≡ Joins id plain
short_joins Awaited id plain is = is
short_joins Useless id plain is = is
short_joins (Joins other so) id plain is = is
short_joins (Passes x) id plain is = absurd (cc is)
short_joins TooWide id plain is = is
short_joins Refused id plain is = is

shortens : (e : Exchange) (p : Parts) → AreAlike p (cut_short e p)
shortens e p = on_some (seat_for e p.seats) (λ seat. record seat { brought = brought_to Short seat.brought }) p
    (λ seat. record { id = refl; reply = refl; heard = refl; body_left = refl; front = refl; stage = refl; hung_up = refl; closing = refl; joins = λ id plain is. short_joins seat.brought id plain is })

leaves : (e : Exchange) (p : Parts) → AreAlike p (left_place e p)
unfolding left_place
leaves e p = by e.headed (may_go_elsewhere e.number p)
  where
    by : (a b : Bool) → AreAlike p (cond a (ended e.number (cut_short e p)) (cond b (asked_elsewhere e.number p) (ended e.number p)))
    by true b = then p (cut_short e p) (ended e.number (cut_short e p)) (shortens e p) (none (cut_short e p) (ended e.number (cut_short e p)).flow)
    by false true = none p (asked_elsewhere e.number p).flow
    by false false = none p (ended e.number p).flow

loses : (n : ℕ) (counts : Bool) (p : Parts) → AreAlike p (lost_place n counts p)
loses n counts p = by (exchange_at n p.flow)
  where
    pays : (b : Bool) (e : Exchange) → AreAlike p (charged_where b e p)
    pays true e = loses_attempt e p
    pays false e = none p p.flow

    by : (o : Option Exchange) → AreAlike p (left_place_at o counts p)
    by None = none p p.flow
    by (Some e) = then p (charged_where counts e p) (left_place e (charged_where counts e p)) (pays counts e) (leaves e (charged_where counts e p))

line : (most k : ℕ) (counts : Bool) (p : Parts) → AreAlike p (lost_line most k counts p)
line zero k counts p = none p p.flow
line (suc more) k counts p = by (first_on k p) (λ n. then p (lost_place n counts p) (lost_line more k counts (lost_place n counts p)) (loses n counts p) (line more k counts (lost_place n counts p)))
  where
    by : (o : Option ℕ) → ((n : ℕ) → AreAlike p (lost_line more k counts (lost_place n counts p))) → AreAlike p (elim o as (λ t. Parts) [ None ↦ p | Some n ↦ lost_line more k counts (lost_place n counts p) ])
    by None rest = none p p.flow
    by (Some n) rest = rest n

-- ---- a connection is closed, and one that is idle

pub closes : (k : ℕ) (counts : Bool) (x : Sides) → AreAlike x.parts (closed_conn k counts x).parts
closes k counts x = by (find (is_number k) x.peers)
  where
    at : (b : Bool) (peer : Peer) → AreAlike x.parts (cond b x.parts (lost_line 1024 k (counts && not peer.has_brought) x.parts))
    at true peer = none x.parts x.parts.flow
    at false peer = line 1024 k (counts && not peer.has_brought) x.parts

    by : (o : Option Peer) → AreAlike x.parts (closed_line k counts o x.parts)
    by None = none x.parts x.parts.flow
    by (Some peer) = at peer.is_closing peer

unanswers : (o : Option Exchange) (p : Parts) → AreAlike p (unanswered o p)
unanswers None p = none p p.flow
unanswers (Some e) p = fails e p

idle_on : (now k : ℕ) (x : Sides) → AreAlike x.parts (without_idle_on now x k).parts
idle_on now k x = by (is_idle_in now x.parts.flow (find (is_number k) x.peers))
  where
    by : (b : Bool) → AreAlike x.parts (cond b (given_up k x) x).parts
    by true = then x.parts (patience_ended k x.parts) (given_up k x).parts (unanswers (owed_answer k x.parts.flow) x.parts) (closes k true (with_parts (patience_ended k) x))
    by false = none x.parts x.parts.flow

pub all_idle_on : (now : ℕ) (ks : List ℕ) (x : Sides) → AreAlike x.parts (fold (without_idle_on now) x ks).parts
all_idle_on now [] x = none x.parts x.parts.flow
all_idle_on now (k ∷ ks) x = then x.parts (without_idle_on now x k).parts (fold (without_idle_on now) x (k ∷ ks)).parts (idle_on now k x) (all_idle_on now ks (without_idle_on now x k))

-- and all keep their numbers
idle_numbers : (now k : ℕ) (x : Sides) → peer_numbers (without_idle_on now x k).peers ≡ peer_numbers x.peers
idle_numbers now k x = by (is_idle_in now x.parts.flow (find (is_number k) x.peers))
  where
    by : (b : Bool) → peer_numbers (cond b (given_up k x) x).peers ≡ peer_numbers x.peers
    by true = closed_numbers k x.peers
    by false = refl

pub all_idle_numbers : (now : ℕ) (ks : List ℕ) (x : Sides) → peer_numbers (fold (without_idle_on now) x ks).peers ≡ peer_numbers x.peers
all_idle_numbers now [] x = refl
all_idle_numbers now (k ∷ ks) x = all_idle_numbers now ks (without_idle_on now x k) ∙ idle_numbers now k x
