-- What holds of each exchange with a place holds behind closed connections, and behind responses that are whole or none, where it does of one that
-- is left, or asked from the front on.
use Rattle.std.proofs.Common.{◌≡◌, refl, sym, subst, ℕ, zero, suc, Bool, true, false, ◌&&◌, not, cond, find, List, Option, Some, None}
use Rattle.std.specs.Prelude.{option_and_then}
use Rattle.pp_desk.specs.Closings.{closed_conn, Sides, closed_line, with_parts}
use Rattle.pp_flow.specs.Changes.{Exchanges, entered, entry_of, unplaced as without_place, without}
use Rattle.pp_flow.specs.Entries.{is_number, with_place}
use Rattle.pp_flow.specs.Errands.{attempts_in}
use Rattle.pp_flow.specs.declared.entry.Entry.{Entry}
use Rattle.pp_flow.specs.declared.entry.Exchange.{Exchange as OfEntry}
use Rattle.pp_origins.specs.Responses.{bad_by, bad_for, bad_on, bad_response, charged_by, has_brought_in, response_whole, brought_by, closed_unless, finished, goes_on_by, whole_for}
use Rattle.pp_peers.specs.Peers.{is_number as is_peer}
use Rattle.pp_peers.specs.declared.peers.Peer.{Peer}
use Rattle.pp_seats.specs.Courses.{lost_one as lost_in, without_row as without_row_in}
use Rattle.pp_seats.specs.declared.seat.Course.{Course as CourseOf}
use Rattle.pp_seats.specs.declared.seat.Seat.{Seat}
use Rattle.pp_state.specs.Asking.{is_outstanding}
use Rattle.pp_state.specs.Ends.{failed, Parts, asked_elsewhere, charged_at, charged_where, cleared_of, cleared_row, cut_short, dropped_row, ended, exchange_at, given_up_row, is_unfilled_at, left_place, left_place_at, lost_attempt, lost_place, may_go_elsewhere, on_seat, on_seat_where, seat_for, with_course}
use Rattle.pp_state.specs.Keys.{key_of}
use Rattle.pp_state.specs.Lines.{first_on, lost_line}
use Rattle.pp_stays_law.proofs.Fits.{AnyEntry, AnyMemory, AnySeat, any_entries}
use Rattle.pp_stays_law.proofs.Walk.{Suits, AllOf, Holds, all_without, anew_fine, ended_fine, left_fine}

-- ---- attempts, and places

module _ (W : Entry → Type 0) (suits : Suits AnySeat AnyEntry W AnyMemory) where
  abbrev pub G : Parts → Type 0
  G p = AllOf W p.flow.placed

  pub whole : (p : Parts) → G p → Holds AnySeat AnyEntry W AnyMemory p
  whole p h = record { seats = λ i seat at. tt; waiting = any_entries p.flow.waiting; placed = h; memory = tt }

  ends : (n : ℕ) (p : Parts) → G p → G (ended n p)
  ends n p h = (ended_fine AnySeat AnyEntry W AnyMemory suits n p (whole p h)).placed

  pub cleared_same : (o : Option (List ℕ)) (p : Parts) → (cleared_of o p).flow ≡ p.flow
  cleared_same None p = refl
  cleared_same (Some key) p = refl

  drops : (i : ℕ) (e : OfEntry) (p : Parts) → G p → G (dropped_row i e p)
  drops i e p h =
      let q : Parts = on_seat i without_row_in (cleared_row e.number p) in
      (left_fine AnySeat AnyEntry W AnyMemory suits e.number q (whole q (subst (λ (g : Exchanges). AllOf W g.placed) (sym (cleared_same (key_of e.number p.flow) p)) h))).placed

  gives_up : (i : ℕ) (e : OfEntry) (p : Parts) → G p → G (given_up_row i e p)
  unfolding given_up_row
  gives_up i e p h = by (is_unfilled_at i e p)
    where
      by : (b : Bool) → G (cond b (dropped_row i e p) p)
      by true = drops i e p h
      by false = h

  pub charged_on : (o : Option ℕ) (cost : CourseOf → CourseOf) (e : OfEntry) (p : Parts) → G p → G (charged_at o cost e p)
  unfolding charged_at
  charged_on None cost e p h = h
  charged_on (Some i) cost e p h = gives_up i e (on_seat i (with_course cost) p) h

  pub lost_on : (e : OfEntry) (p : Parts) → G p → G (lost_attempt e p)
  lost_on e p h = by (entry_of e.number p.flow)
    where
      by : (o : Option Entry) → G (elim o as (λ t. Parts) [ None ↦ p | Some x ↦ charged_at (seat_for e p.seats) (lost_in (attempts_in x.errand.is_asked_once)) e p ])
      by None = h
      by (Some x) = charged_on (seat_for e p.seats) (lost_in (attempts_in x.errand.is_asked_once)) e p h

  counts_on : (counts : Bool) (e : OfEntry) (p : Parts) → G p → G (charged_where counts e p)
  counts_on true e p h = lost_on e p h
  counts_on false e p h = h

  pub where_same : (o : Option ℕ) (g : Seat → Seat) (p : Parts) → (on_seat_where o g p).flow ≡ p.flow
  where_same None g p = refl
  where_same (Some i) g p = refl

  cut : (e : OfEntry) (p : Parts) → G p → G (cut_short e p)
  cut e p h = subst (λ (g : Exchanges). AllOf W g.placed) (sym (where_same (seat_for e p.seats) _ p)) h

  unplaces : (n : ℕ) (p : Parts) → G p → G (record p { flow = without_place n p.flow })
  unplaces n p h = by (find (is_number n) p.flow.placed)
    where
      by : (o : Option Entry) → AllOf W (elim o as (λ t. Exchanges) [ None ↦ p.flow | Some e ↦ record p.flow { waiting = entered (with_place None e) p.flow.waiting; placed = without n p.flow.placed } ]).placed
      by None = h
      by (Some e) = all_without W n p.flow.placed h

  elsewhere : (n : ℕ) (p : Parts) → G p → G (asked_elsewhere n p)
  elsewhere n p h =
      let q : Parts = record p { flow = without_place n p.flow } in
      (anew_fine AnySeat AnyEntry W AnyMemory suits n q (whole q (unplaces n p h))).placed

  place_left : (e : OfEntry) (p : Parts) → G p → G (left_place e p)
  unfolding left_place
  place_left e p h = by e.headed (may_go_elsewhere e.number p)
    where
      by : (a b : Bool) → G (cond a (ended e.number (cut_short e p)) (cond b (asked_elsewhere e.number p) (ended e.number p)))
      by true b = ends e.number (cut_short e p) (cut e p h)
      by false true = elsewhere e.number p h
      by false false = ends e.number p h

  place_lost : (n : ℕ) (counts : Bool) (p : Parts) → G p → G (lost_place n counts p)
  place_lost n counts p h = by (exchange_at n p.flow)
    where
      by : (o : Option OfEntry) → G (left_place_at o counts p)
      by None = h
      by (Some e) = place_left e (charged_where counts e p) (counts_on counts e p h)

  line_lost : (more k : ℕ) (counts : Bool) (p : Parts) → G p → G (lost_line more k counts p)
  line_lost zero k counts p h = h
  line_lost (suc more) k counts p h = by (first_on k p) (λ q rest. line_lost more k counts q rest)
    where
      by : (o : Option ℕ) → ((q : Parts) → G q → G (lost_line more k counts q)) → G (elim o as (λ t. Parts) [ None ↦ p | Some n ↦ lost_line more k counts (lost_place n counts p) ])
      by None rest = h
      by (Some n) rest = rest (lost_place n counts p) (place_lost n counts p h)

  pub line_closed : (k : ℕ) (counts : Bool) (o : Option Peer) (p : Parts) → G p → G (closed_line k counts o p)
  line_closed k counts None p h = h
  line_closed k counts (Some peer) p h = by peer.is_closing
    where
      by : (b : Bool) → G (cond b p (lost_line 1024 k (counts && not peer.has_brought) p))
      by true = h
      by false = line_lost 1024 k (counts && not peer.has_brought) p h

  -- ---- a response is whole

  unless : (b : Bool) (k : ℕ) (x : Sides) → G x.parts → G (closed_unless b k x).parts
  unless true k x h = h
  unless false k x h = line_closed k true (find (is_peer k) x.peers) x.parts h

  pub whole_on : (k : ℕ) (o : Option Entry) (x : Sides) → G x.parts → G (whole_for k o x).parts
  whole_on k None x h = h
  whole_on k (Some e) x h =
      let y : Sides = with_parts (finished e.exchange) x in
      let z : Sides = record y { peers = brought_by k (find (is_peer k) y.peers) y.peers } in
      unless (goes_on_by (find (is_peer k) y.peers) e.errand.body_left e.errand.binds_connection) k z (all_without W e.exchange.number x.parts.flow.placed h)

  pub is_whole : (k : ℕ) (x : Sides) → G x.parts → G (response_whole k x).parts
  is_whole k x h = whole_on k (option_and_then (λ number. entry_of number x.parts.flow) (first_on k x.parts)) x h

  -- ---- or none

  failed_on : (e : OfEntry) (p : Parts) → G p → G (failed e p)
  failed_on e p h = charged_on (seat_for e p.seats) _ e p h

  charges_on : (b : Bool) (n : ℕ) (e : OfEntry) (p : Parts) → G p → G (charged_by b n e p)
  charges_on true n e p h = lost_on e p h
  charges_on false n e p h = ends n (failed e p) (failed_on e p h)

  closed_on : (k : ℕ) (counts : Bool) (x : Sides) → G x.parts → G (closed_conn k counts x).parts
  closed_on k counts x h = line_closed k counts (find (is_peer k) x.peers) x.parts h

  pub is_none : (k : ℕ) (x : Sides) → G x.parts → G (bad_response k x).parts
  is_none k x h = by (first_on k x.parts)
    where
      at : (b : Bool) (n : ℕ) (e : OfEntry) → G (bad_by b k n e x).parts
      at false n e = closed_on k true x h
      at true n e =
          let costs : Parts → Parts = charged_by (not e.headed && has_brought_in (find (is_peer k) x.peers)) n e in
          closed_on k false (with_parts costs x) (charges_on (not e.headed && has_brought_in (find (is_peer k) x.peers)) n e x.parts h)

      found : (n : ℕ) (o : Option Entry) → G (bad_for k n o x).parts
      found n None = closed_on k false x h
      found n (Some e) = at (is_outstanding e) n e.exchange

      by : (o : Option ℕ) → G (bad_on k o x).parts
      by None = closed_on k false x h
      by (Some n) = found n (entry_of n x.parts.flow)
