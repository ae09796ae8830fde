-- What an exchange costs its request, and where a line is lost: clients stay at their requests, and no memory is refused.
use Rattle.std.proofs.Common.{refl, ℕ, zero, suc, Bool, true, false, ◌&&◌, ◌||◌, not, cond, find, List, Option, Some, None}
use Rattle.pp_desk.specs.Closings.{Sides, closed_conn, closed_line}
use Rattle.pp_flow.specs.Changes.{entry_of}
use Rattle.pp_flow.specs.Errands.{attempts_in}
use Rattle.pp_flow.specs.declared.entry.Entry.{Entry}
use Rattle.pp_flow.specs.declared.entry.Exchange.{Exchange}
use Rattle.pp_peers.specs.Peers.{is_number}
use Rattle.pp_peers.specs.declared.peers.Peer.{Peer}
use Rattle.pp_seats.specs.Courses.{has_begun, lost_one, without_row}
use Rattle.pp_seats.specs.Seats.{brought_to}
use Rattle.pp_seats.specs.declared.seat.Course.{Course}
use Rattle.pp_seats.specs.declared.seat.Course.TheVariants.{OutOfTries, Trying}
use Rattle.pp_seats.specs.declared.seat.PassedEnd.TheVariants.{Short}
use Rattle.pp_seats.specs.declared.seat.Seat.{Seat}
use Rattle.pp_state.specs.Ends.{Parts, asked_elsewhere, charged, charged_at, charged_where, cleared_key, cleared_of, cleared_row, cut_short, dropped_row, ended, exchange_at, failed, given_up_row, is_unfilled_at, left_place, left_place_at, lost_attempt, lost_place, may_go_elsewhere, on_seat, seat_for, with_course}
use Rattle.pp_state.specs.Keys.{key_of}
use Rattle.pp_state.specs.Lines.{first_on, lost_line}
use Rattle.pp_reads_law.proofs.Stayed.{Stay, stay_same, stay_then, unnoted_none, where_stays}
use Rattle.pp_reads_law.proofs.StillClients.{all_anew, itself}
use Rattle.pp_reads_law.specs.Stays.{IsStill}

-- ---- a row that is cleared

pub clears : (key : List ℕ) (p : Parts) → Stay p (cleared_key key p)
clears key p = record { clients = all_anew key p.refused p.seats; astray = λ on. on; refused = λ on none. unnoted_none key p.refused none }

pub clears_of : (o : Option (List ℕ)) (p : Parts) → Stay p (cleared_of o p)
clears_of None p = stay_same p
clears_of (Some key) p = clears key p

pub clears_one : (n : ℕ) (p : Parts) → Stay p (cleared_row n p)
clears_one n p = clears_of (key_of n p.flow) p

pub row_seat : (seat : Seat) → IsStill seat (without_row seat)
row_seat seat = by (has_begun seat || seat.has_given_up)
  where
    by : (b : Bool) → IsStill seat (elim b as (λ t. Seat) [ true ↦ seat | false ↦ record seat { course = Trying 0; has_given_up = true } ])
    by true = itself seat
    by false = record { id = refl; front = refl; stage = refl; hung_up = refl; closing = refl }

gives_up : (i : ℕ) (e : Exchange) (p : Parts) → Stay p (given_up_row i e p)
unfolding given_up_row
gives_up i e p = by (is_unfilled_at i e p)
  where
    dropped : Stay p (dropped_row i e p)
    dropped =
        let q : Parts = cleared_row e.number p in
        let all : Stay p (on_seat i without_row q) = stay_then p q (on_seat i without_row q) (clears_one e.number p) (where_stays (Some i) without_row q row_seat) in
        record { clients = all.clients; astray = all.astray; refused = all.refused }

    by : (b : Bool) → Stay p (cond b (dropped_row i e p) p)
    by true = dropped
    by false = stay_same p

-- ---- attempts

costs : (cost : Course → Course) (e : Exchange) (p : Parts) → Stay p (charged cost e p)
unfolding charged_at
costs cost e p = by (seat_for e p.seats)
  where
    by : (o : Option ℕ) → Stay p (charged_at o cost e p)
    by None = stay_same p
    by (Some i) =
        let q : Parts = on_seat i (with_course cost) p in
        stay_then p q (given_up_row i e q) (where_stays (Some i) (with_course cost) p (λ seat. record { id = refl; front = refl; stage = refl; hung_up = refl; closing = refl })) (gives_up i e q)

pub all_failed : (e : Exchange) (p : Parts) → Stay p (failed e p)
all_failed e p = costs (λ course. OutOfTries) e p

pub attempt_lost : (e : Exchange) (p : Parts) → Stay p (lost_attempt e p)
attempt_lost e p = by (entry_of e.number p.flow)
  where
    by : (o : Option Entry) → Stay p (elim o as (λ t. Parts) [ None ↦ p | Some x ↦ charged (lost_one (attempts_in x.errand.is_asked_once)) e p ])
    by None = stay_same p
    by (Some x) = costs (lost_one (attempts_in x.errand.is_asked_once)) e p

-- ---- places

pub over : (n : ℕ) (p q : Parts) → Stay p q → Stay p (ended n q)
over n p q all = record { clients = all.clients; astray = all.astray; refused = all.refused }

leaves : (e : Exchange) (p : Parts) → Stay p (left_place e p)
unfolding left_place
leaves e p = by e.headed (may_go_elsewhere e.number p)
  where
    short : Stay p (cut_short e p)
    short = where_stays (seat_for e p.seats) (λ seat. record seat { brought = brought_to Short seat.brought }) p (λ seat. record { id = refl; front = refl; stage = refl; hung_up = refl; closing = refl })

    anew : Stay p (asked_elsewhere e.number p)
    anew = let all : Stay p p = stay_same p in record { clients = all.clients; astray = all.astray; refused = all.refused }

    by : (a b : Bool) → Stay p (cond a (ended e.number (cut_short e p)) (cond b (asked_elsewhere e.number p) (ended e.number p)))
    by true b = over e.number p (cut_short e p) short
    by false true = anew
    by false false = over e.number p p (stay_same p)

loses : (n : ℕ) (counts : Bool) (p : Parts) → Stay p (lost_place n counts p)
loses n counts p = by (exchange_at n p.flow)
  where
    pays : (b : Bool) (e : Exchange) → Stay p (charged_where b e p)
    pays true e = attempt_lost e p
    pays false e = stay_same p

    by : (o : Option Exchange) → Stay p (left_place_at o counts p)
    by None = stay_same p
    by (Some e) = stay_then p (charged_where counts e p) (left_place e (charged_where counts e p)) (pays counts e) (leaves e (charged_where counts e p))

line : (most k : ℕ) (counts : Bool) (p : Parts) → Stay p (lost_line most k counts p)
line zero k counts p = stay_same p
line (suc more) k counts p = by (first_on k p) (λ n. stay_then p (lost_place n counts p) (lost_line more k counts (lost_place n counts p)) (loses n counts p) (line more k counts (lost_place n counts p)))
  where
    by : (o : Option ℕ) → ((n : ℕ) → Stay p (lost_line more k counts (lost_place n counts p))) → Stay p (elim o as (λ t. Parts) [ None ↦ p | Some n ↦ lost_line more k counts (lost_place n counts p) ])
    by None rest = stay_same p
    by (Some n) rest = rest n

pub conn_closed : (k : ℕ) (counts : Bool) (x : Sides) → Stay x.parts (closed_conn k counts x).parts
conn_closed k counts x = by (find (is_number k) x.peers)
  where
    at : (b : Bool) (peer : Peer) → Stay x.parts (cond b x.parts (lost_line 1024 k (counts && not peer.has_brought) x.parts))
    at true peer = stay_same x.parts
    at false peer = line 1024 k (counts && not peer.has_brought) x.parts

    by : (o : Option Peer) → Stay x.parts (closed_line k counts o x.parts)
    by None = stay_same x.parts
    by (Some peer) = at peer.is_closing peer
