-- What holds of each client holds behind what an exchange costs its request, and where a line is lost.
use Rattle.std.proofs.Common.{ℕ, zero, suc, Bool, true, false, ◌&&◌, not, cond, find, fold, map, List, [], ◌∷◌, Option, Some, None}
use Rattle.pp_desk.specs.Closings.{Sides, closed_conn, closed_line, with_parts}
use Rattle.pp_desk.specs.Origins.{given_up, is_idle_in, patience_ended, unanswered, without_idle_on}
use Rattle.pp_flow.specs.Changes.{entry_of}
use Rattle.pp_flow.specs.Errands.{attempts_in}
use Rattle.pp_flow.specs.declared.entry.Entry.{Entry}
use Rattle.pp_flow.specs.declared.entry.Exchange.{Exchange}
use Rattle.pp_peers.specs.Peers.{is_number}
use Rattle.pp_peers.specs.declared.peers.Peer.{Peer}
use Rattle.pp_seats.specs.Courses.{lost_one, without_row}
use Rattle.pp_seats.specs.Seats.{brought_to}
use Rattle.pp_seats.specs.declared.seat.Course.{Course}
use Rattle.pp_seats.specs.declared.seat.Course.TheVariants.{OutOfTries}
use Rattle.pp_seats.specs.declared.seat.PassedEnd.TheVariants.{Short}
use Rattle.pp_seats.specs.declared.seat.Seat.{Seat}
use Rattle.pp_state.specs.Ends.{Parts, all_decided_anew, asked_elsewhere, charged, charged_at, charged_where, cleared_key, cleared_of, cleared_row, cut_short, decided_anew, dropped_row, ended, exchange_at, failed, given_up_row, is_unfilled_at, left_place, left_place_at, lost_attempt, lost_place, may_go_elsewhere, on_seat, seat_for, with_course}
use Rattle.pp_state.specs.Keys.{key_of}
use Rattle.pp_state.specs.Lines.{first_on, lost_line}
use Rattle.pp_framing.specs.declared.body.BodyRule.{BodyRule}
use Rattle.pp_head.specs.Response.{Response}
use Rattle.pp_state.specs.Asking.{owed_answer}
use Rattle.pp_cache.specs.Notes.{has_noted}
use Rattle.pp_stays_law.proofs.Onward.{anew_on, row_on, short_on}
use Rattle.pp_stays_law.proofs.Walk.{AllAt, mapped_all}
use Rattle.pp_given_law.proofs.Carried.{Stay, Suits, onward, one, stay_same, stay_then, where_stays}

module _ (S : Seat → Type 0) (Fits : List ℕ → Response → BodyRule → Type 0) (suits : Suits S Fits) where
  -- ---- a row that is cleared

  pub anew_all : (key : List ℕ) (refused : List (List ℕ)) (seats : List Seat) → AllAt S seats → AllAt S (all_decided_anew key refused seats)
  anew_all key refused seats all = by (has_noted key refused)
    where
      by : (b : Bool) → AllAt S (cond b (map (decided_anew key) seats) seats)
      by true = mapped_all S (decided_anew key) seats (λ seat its. onward suits seat (decided_anew key seat) (anew_on key seat) its) all
      by false = all

  pub clears : (key : List ℕ) (p : Parts) → Stay S p (cleared_key key p)
  clears key p = record { astray = λ on. on; all = λ on h. anew_all key p.refused p.seats h }

  pub clears_of : (o : Option (List ℕ)) (p : Parts) → Stay S p (cleared_of o p)
  clears_of None p = stay_same p
  clears_of (Some key) p = clears key p

  pub clears_one : (n : ℕ) (p : Parts) → Stay S p (cleared_row n p)
  clears_one n p = clears_of (key_of n p.flow) p

  gives_up : (i : ℕ) (e : Exchange) (p : Parts) → Stay S p (given_up_row i e p)
  unfolding given_up_row
  gives_up i e p = by (is_unfilled_at i e p)
    where
      dropped : Stay S p (dropped_row i e p)
      dropped =
          let q : Parts = cleared_row e.number p in
          let all : Stay S p (on_seat i without_row q) = stay_then p q (on_seat i without_row q) (clears_one e.number p) (one S i without_row q (λ seat its. onward suits seat (without_row seat) (row_on seat) its)) in
          record { astray = all.astray; all = all.all }

      by : (b : Bool) → Stay S p (cond b (dropped_row i e p) p)
      by true = dropped
      by false = stay_same p

  -- ---- attempts

  costs : (cost : Course → Course) (e : Exchange) (p : Parts) → Stay S p (charged cost e p)
  unfolding charged_at
  costs cost e p = by (seat_for e p.seats)
    where
      by : (o : Option ℕ) → Stay S p (charged_at o cost e p)
      by None = stay_same p
      by (Some i) =
          let q : Parts = on_seat i (with_course cost) p in
          stay_then p q (given_up_row i e q) (one S i (with_course cost) p (λ seat its. suits.carry seat (with_course cost seat) (λ is. is) (λ is. is) its)) (gives_up i e q)

  pub all_failed : (e : Exchange) (p : Parts) → Stay S p (failed e p)
  all_failed e p = costs (λ course. OutOfTries) e p

  pub attempt_lost : (e : Exchange) (p : Parts) → Stay S p (lost_attempt e p)
  attempt_lost e p = by (entry_of e.number p.flow)
    where
      by : (o : Option Entry) → Stay S p (elim o as (λ t. Parts) [ None ↦ p | Some x ↦ charged (lost_one (attempts_in x.errand.is_asked_once)) e p ])
      by None = stay_same p
      by (Some x) = costs (lost_one (attempts_in x.errand.is_asked_once)) e p

  -- ---- places

  pub over : (n : ℕ) (p q : Parts) → Stay S p q → Stay S p (ended n q)
  over n p q all = record { astray = all.astray; all = all.all }

  leaves : (e : Exchange) (p : Parts) → Stay S p (left_place e p)
  unfolding left_place
  leaves e p = by e.headed (may_go_elsewhere e.number p)
    where
      short : Stay S p (cut_short e p)
      short = where_stays S (seat_for e p.seats) (λ seat. record seat { brought = brought_to Short seat.brought }) p (λ seat its. onward suits seat (record seat { brought = brought_to Short seat.brought }) (short_on seat) its)

      anew : Stay S p (asked_elsewhere e.number p)
      anew = let all : Stay S p p = stay_same p in record { astray = all.astray; all = all.all }

      by : (a b : Bool) → Stay S p (cond a (ended e.number (cut_short e p)) (cond b (asked_elsewhere e.number p) (ended e.number p)))
      by true b = over e.number p (cut_short e p) short
      by false true = anew
      by false false = over e.number p p (stay_same p)

  loses : (n : ℕ) (counts : Bool) (p : Parts) → Stay S p (lost_place n counts p)
  loses n counts p = by (exchange_at n p.flow)
    where
      pays : (b : Bool) (e : Exchange) → Stay S p (charged_where b e p)
      pays true e = attempt_lost e p
      pays false e = stay_same p

      by : (o : Option Exchange) → Stay S p (left_place_at o counts p)
      by None = stay_same p
      by (Some e) = stay_then p (charged_where counts e p) (left_place e (charged_where counts e p)) (pays counts e) (leaves e (charged_where counts e p))

  line : (most k : ℕ) (counts : Bool) (p : Parts) → Stay S p (lost_line most k counts p)
  line zero k counts p = stay_same p
  line (suc more) k counts p = by (first_on k p) (λ n. stay_then p (lost_place n counts p) (lost_line more k counts (lost_place n counts p)) (loses n counts p) (line more k counts (lost_place n counts p)))
    where
      by : (o : Option ℕ) → ((n : ℕ) → Stay S p (lost_line more k counts (lost_place n counts p))) → Stay S p (elim o as (λ t. Parts) [ None ↦ p | Some n ↦ lost_line more k counts (lost_place n counts p) ])
      by None rest = stay_same p
      by (Some n) rest = rest n

  pub conn_closed : (k : ℕ) (counts : Bool) (x : Sides) → Stay S x.parts (closed_conn k counts x).parts
  conn_closed k counts x = by (find (is_number k) x.peers)
    where
      at : (b : Bool) (peer : Peer) → Stay S x.parts (cond b x.parts (lost_line 1024 k (counts && not peer.has_brought) x.parts))
      at true peer = stay_same x.parts
      at false peer = line 1024 k (counts && not peer.has_brought) x.parts

      by : (o : Option Peer) → Stay S x.parts (closed_line k counts o x.parts)
      by None = stay_same x.parts
      by (Some peer) = at peer.is_closing peer

  -- ---- who is silent is given up

  unanswers : (o : Option Exchange) (p : Parts) → Stay S p (unanswered o p)
  unanswers None p = stay_same p
  unanswers (Some e) p = all_failed e p

  idle_on : (now k : ℕ) (x : Sides) → Stay S x.parts (without_idle_on now x k).parts
  idle_on now k x = by (is_idle_in now x.parts.flow (find (is_number k) x.peers))
    where
      by : (b : Bool) → Stay S x.parts (cond b (given_up k x) x).parts
      by true = stay_then x.parts (patience_ended k x.parts) (given_up k x).parts (unanswers (owed_answer k x.parts.flow) x.parts) (conn_closed k true (with_parts (patience_ended k) x))
      by false = stay_same x.parts

  pub all_idle_on : (now : ℕ) (ks : List ℕ) (x : Sides) → Stay S x.parts (fold (without_idle_on now) x ks).parts
  all_idle_on now [] x = stay_same x.parts
  all_idle_on now (k ∷ ks) x = stay_then x.parts (without_idle_on now x k).parts (fold (without_idle_on now) x (k ∷ ks)).parts (idle_on now k x) (all_idle_on now ks (without_idle_on now x k))
