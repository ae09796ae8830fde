-- What holds of each client, of each exchange and of what is in memory holds behind what nobody sees, asks that are given up, what followers
-- ask for, and places, dials that are refused among them.
use Rattle.std.proofs.Common.{◌≡◌, refl, sym, subst, ◌∙◌, ℕ, zero, suc, Bool, true, false, ◌-◌, cond, find, List, [], ◌∷◌, ◌++◌, map, nat_lt, Option, Some, None}
use Rattle.std.specs.List.{fold}
use Rattle.std.specs.Prelude.{is_some, option_map, slice_get}
use Rattle.pp_cache.specs.Memory.{Memory, retired_at}
use Rattle.pp_cache.specs.Notes.{has_noted}
use Rattle.pp_client.specs.Requests.{Front, Nothing, Begun, Asked as IsAsked, Refused, current_of}
use Rattle.pp_decide.specs.Decide.{fits, text_by}
use Rattle.pp_desk.specs.Closings.{Sides, closed_line, peer_numbers, with_parts}
use Rattle.pp_desk.specs.Origins.{unseen_dropped, without_unseen, without_unseen_on}
use Rattle.pp_flow.specs.Changes.{Exchanges, entered, entry_of, first_of, placed_on, unplaced, without}
use Rattle.pp_flow.specs.Entries.{is_number, with_place}
use Rattle.pp_flow.specs.Errands.{attempts_in}
use Rattle.pp_flow.specs.declared.entry.Aim.TheVariants.{Hole}
use Rattle.pp_flow.specs.declared.entry.Entry.{Entry}
use Rattle.pp_flow.specs.declared.entry.Exchange.{Exchange}
use Rattle.pp_flow.specs.declared.errand.Body.TheVariants.{Pending}
use Rattle.pp_flow.specs.declared.errand.Errand.{Errand}
use Rattle.pp_flow.specs.declared.errand.Kind.TheVariants.{Hole as AsHole}
use Rattle.pp_objects.specs.Instances.{Instance}
use Rattle.pp_peers.specs.Peers.{is_number as is_peer}
use Rattle.pp_peers.specs.declared.peers.Peer.{Peer}
use Rattle.pp_peers.specs.declared.placing.Placed.{Placed}
use Rattle.pp_peers.specs.declared.placing.Placed.TheVariants.{On, Dial, CloseThenDial, Wait}
use Rattle.pp_places.specs.Around.{Around, Moment, with_sides}
use Rattle.pp_places.specs.Placing.{ArePlaced, IsDialledFor, IsDialledTo, IsPlaced, IsPlacedAs, dials_to, goes_on_behind, host_of, is_put, met_at, new_one, next_waiting, place_for, put_last, put_on}
use Rattle.pp_seats.specs.Courses.{is_trying_in, lost_one, without_row}
use Rattle.pp_seats.specs.Follows.{next_of}
use Rattle.pp_seats.specs.Seats.{brought_to}
use Rattle.pp_seats.specs.declared.front.Asked.{Asked}
use Rattle.pp_seats.specs.declared.key.Key.{Key}
use Rattle.pp_seats.specs.declared.seat.Course.{Course}
use Rattle.pp_seats.specs.declared.seat.Course.TheVariants.{AskTooLong}
use Rattle.pp_seats.specs.declared.seat.Next.{Next}
use Rattle.pp_seats.specs.declared.seat.PassedEnd.TheVariants.{Short}
use Rattle.pp_seats.specs.declared.seat.Seat.{Seat}
use Rattle.pp_seats.specs.Heads.{asked_in}
use Rattle.pp_state.specs.Asking.{is_useless}
use Rattle.pp_state.specs.Astray.{astray_where}
use Rattle.pp_state.specs.Bringing.{need_of}
use Rattle.pp_state.specs.Ends.{Parts, asked_elsewhere, charged_at, cleared_key, cleared_of, cleared_row, cut_short, decided_anew, dropped_row, ended, exchange_at, given_up_row, is_unfilled_at, left_place, left_place_at, lost_attempt, lost_place, may_ask_again, may_go_elsewhere, on_seat, on_seat_where, seat_for, with_course}
use Rattle.pp_state.specs.Lines.{first_on, lost_line}
use Rattle.pp_state.specs.Unseen.{unseen_on}
use Rattle.pp_take.specs.Deciding.{Ask, by_asked, by_front, by_key, by_seat, errand_by, may_ask}
use Rattle.pp_take.specs.Filling.{all_filled, asked_of_row, filled, filled_for, hole_ask, hole_ask_at, hole_asked, instance_of, need_asked, next_asked, seat_asked, span_asked}
use Rattle.pp_take.specs.GivingUp.{all_given_up, given_up_if}
use Rattle.pp_take.specs.Unplaced.{asked_again_where, refused_dial}
use Rattle.pp_valid.specs.declared.version.Version.{Version}
use Rattle.pp_world.specs.Log.{Log}
use Rattle.pp_stays_law.proofs.Onward.{anew_on, row_on, short_on}
use Rattle.pp_stays_law.proofs.Walk.{AllOf, Holds, Suits, all_found, all_last, all_without, anew_fine, ended_fine, exchange_fine, left_fine, mapped_all, on_seat_fine}

-- where places come, one that waits gets one, and the row of a key may be cleared
pub record SuitsPlaces (W Q : Entry → Type 0) (C : Memory → Type 0) : Type 0 where
  pub put : (k : ℕ) (x : Entry) → W x → Q (with_place (Some k) x)
  pub clears : (x : Entry) (m : Memory) → W x → C m → C (retired_at x.key.items m)
  pub clears_placed : (x : Entry) (m : Memory) → Q x → C m → C (retired_at x.key.items m)

module _ (S : Seat → Type 0) (W Q : Entry → Type 0) (C : Memory → Type 0) (suits : Suits S W Q C) where
  abbrev Good : Parts → Type 0
  Good p = Holds S W Q C p

  same_fine : (p q : Parts) → q ≡ p → Good p → Good q
  same_fine p q same h = subst (λ (r : Parts). Good r) (sym same) h

  -- ---- asks that bring nothing

  pub given_up_fine : (ns : List ℕ) (p : Parts) → Good p → Good (all_given_up ns p)
  unfolding all_given_up
  given_up_fine [] p h = h
  given_up_fine (n ∷ ns) p h = given_up_fine ns (given_up_if n p) (by (is_useless p.cache p.seats (entry_of n p.flow)))
    where
      by : (b : Bool) → Good (elim b as (λ t. Parts) [ true ↦ ended n p | false ↦ p ])
      by true = ended_fine S W Q C suits n p h
      by false = h

  -- ---- what followers ask for

  too_long_fine : (i : ℕ) (v : Version) (span : ℕ × ℕ) (p : Parts) → Good p → Good (hole_asked i v span None p)
  unfolding hole_asked
  too_long_fine i v span p h = on_seat_fine S W Q C suits i (λ (seat : Seat). record seat { course = AskTooLong }) p (λ seat. record { front = refl; given = λ is. is; short = λ is. is }) h

  one_asked_fine : (i : ℕ) (v : Version) (span : ℕ × ℕ) (ask : Ask) (p : Parts) → ask.0.body ≡ Pending → Good p → Good (hole_asked i v span (Some ask) p)
  unfolding hole_asked
  one_asked_fine i v span ask p pending h = exchange_fine S W Q C suits i (Hole v span.0 span.1) ask.0 ask.1 p pending h

  hole_fine : (name : List ℕ) (i : ℕ) (v : Version) (span : ℕ × ℕ) (p : Parts) → Good p → Good (hole_asked i v span (hole_ask_at name i v span p) p)
  hole_fine name i v span p h = by (slice_get p.seats i)
    where
      none : Good (hole_asked i v span None p)
      none = too_long_fine i v span p h

      some : (ask : Ask) → ask.0.body ≡ Pending → Good (hole_asked i v span (Some ask) p)
      some ask pending = one_asked_fine i v span ask p pending h

      by_text : (errand : Errand) (text : List ℕ) → errand.body ≡ Pending → (b : Bool) → Good (hole_asked i v span (elim b as (λ t. Option Ask) [ true ↦ Some (errand, text) | false ↦ None ]) p)
      by_text errand text pending true = some (errand, text) pending
      by_text errand text pending false = none

      named : (seat : Seat) (a : Asked) (key : Key) (front : Front) → Good (hole_asked i v span (by_front (hole_ask name v span seat a key) front) p)
      named seat a key Nothing = none
      named seat a key Begun = none
      named seat a key (Refused status) = none
      named seat a key (IsAsked head fault) =
          by_text (errand_by a key head (AsHole span.0 (span.1 - 1) v.tag)) (text_by name head key (AsHole span.0 (span.1 - 1) v.tag)) refl (fits (text_by name head key (AsHole span.0 (span.1 - 1) v.tag)))

      owned : (seat : Seat) (a : Asked) (o : Option Key) → Good (hole_asked i v span (by_key (hole_ask name v span seat a) (current_of seat.client.heard) o) p)
      owned seat a None = none
      owned seat a (Some key) = named seat a key (current_of seat.client.heard)

      at : (seat : Seat) (o : Option Asked) → Good (hole_asked i v span (by_asked (hole_ask name v span seat) (current_of seat.client.heard) o) p)
      at seat None = none
      at seat (Some a) = owned seat a a.key

      by : (o : Option Seat) → Good (hole_asked i v span (by_seat (hole_ask name v span) o) p)
      by None = none
      by (Some seat) = at seat (asked_in seat.front)

  of_row_fine : (name : List ℕ) (i : ℕ) (span : ℕ × ℕ) (o : Option Instance) (p : Parts) → Good p → Good (asked_of_row name i span o p)
  of_row_fine name i span None p h = h
  of_row_fine name i span (Some x) p h = hole_fine name i x.version span p h

  span_fine : (name : List ℕ) (i : ℕ) (next : Next) (span : ℕ × ℕ) (p : Parts) → Good p → Good (span_asked name i next span p)
  unfolding span_asked
  span_fine name i next span p h = by (may_ask p.flow)
    where
      by : (b : Bool) → Good (elim b as (λ t. Parts) [ true ↦ asked_of_row name i span (instance_of next.source p.cache) p | false ↦ p ])
      by true = of_row_fine name i span (instance_of next.source p.cache) p h
      by false = h

  need_fine : (name : List ℕ) (i : ℕ) (next : Next) (o : Option (ℕ × ℕ)) (p : Parts) → Good p → Good (need_asked name i next o p)
  need_fine name i next None p h = h
  need_fine name i next (Some span) p h = span_fine name i next span p h

  next_fine : (name : List ℕ) (i : ℕ) (o : Option Next) (p : Parts) → Good p → Good (next_asked name i o p)
  next_fine name i None p h = h
  next_fine name i (Some next) p h = need_fine name i next (need_of next p.cache p.flow) p h

  seat_fine : (name : List ℕ) (i : ℕ) (o : Option Seat) (p : Parts) → Good p → Good (seat_asked name i o p)
  seat_fine name i None p h = h
  seat_fine name i (Some seat) p h = by (is_trying_in seat.course)
    where
      by : (b : Bool) → Good (elim b as (λ t. Parts) [ true ↦ next_asked name i (next_of seat) p | false ↦ p ])
      by true = next_fine name i (next_of seat) p h
      by false = h

  one_fine : (name : List ℕ) (i : ℕ) (p : Parts) → Good p → Good (filled_for name i p)
  unfolding filled_for
  one_fine name i p h = seat_fine name i (slice_get p.seats i) p h

  all_fine : (name places : List ℕ) (p : Parts) → Good p → Good (all_filled name places p)
  unfolding all_filled
  all_fine name [] p h = h
  all_fine name (i ∷ places) p h = all_fine name places (filled_for name i p) (one_fine name i p h)

  pub filled_fine : (stopped : Bool) (name awake : List ℕ) (p : Parts) → Good p → Good (filled stopped name awake p)
  filled_fine true name awake p h = h
  filled_fine false name awake p h = all_fine name awake p h

  -- ---- what nobody sees, where one that loses its place waits again

  module _ (again : (x : Entry) → Q x → W (with_place None x)) where
    entered_all : (x : Entry) (xs : List Entry) → W x → AllOf W xs → AllOf W (entered x xs)
    entered_all x [] one all = (one, tt)
    entered_all x (y ∷ ys) one all = by (nat_lt x.exchange.number y.exchange.number) (entered_all x ys one all.1)
      where
        by : (b : Bool) → AllOf W (entered x ys) → AllOf W (cond b (x ∷ y ∷ ys) (y ∷ entered x ys))
        by true rest = (one, all)
        by false rest = (all.0, rest)

    unplaced_fine : (n : ℕ) (p : Parts) → Good p → Good (record p { flow = unplaced n p.flow })
    unplaced_fine n p h = by (find (is_number n) p.flow.placed) refl
      where
        by : (o : Option Entry) → find (is_number n) p.flow.placed ≡ o
            → Good (record p { flow = elim o as (λ t. Exchanges) [ None ↦ p.flow | Some e ↦ record p.flow { waiting = entered (with_place None e) p.flow.waiting; placed = without n p.flow.placed } ] })
        by None none = h
        by (Some e) found = record {
          seats = h.seats;
          waiting = entered_all (with_place None e) p.flow.waiting (again e (all_found Q (is_number n) p.flow.placed e found h.placed)) h.waiting;
          placed = all_without Q n p.flow.placed h.placed;
          memory = h.memory;
        }

    short_fine : (e : Exchange) (p : Parts) → Good p → Good (cut_short e p)
    short_fine e p h = by (seat_for e p.seats)
      where
        by : (o : Option ℕ) → Good (on_seat_where o (λ (seat : Seat). record seat { brought = brought_to Short seat.brought }) p)
        by None = h
        by (Some i) = on_seat_fine S W Q C suits i (λ (seat : Seat). record seat { brought = brought_to Short seat.brought }) p short_on h

    place_fine : (e : Exchange) (p : Parts) → Good p → Good (left_place e p)
    unfolding left_place
    place_fine e p h = by e.headed (may_go_elsewhere e.number p)
      where
        by : (a b : Bool) → Good (cond a (ended e.number (cut_short e p)) (cond b (asked_elsewhere e.number p) (ended e.number p)))
        by true b = ended_fine S W Q C suits e.number (cut_short e p) (short_fine e p h)
        by false true = anew_fine S W Q C suits e.number (record p { flow = unplaced e.number p.flow }) (unplaced_fine e.number p h)
        by false false = ended_fine S W Q C suits e.number p h

    lost_place_fine : (n : ℕ) (p : Parts) → Good p → Good (lost_place n false p)
    lost_place_fine n p h = by (exchange_at n p.flow)
      where
        by : (o : Option Exchange) → Good (left_place_at o false p)
        by None = h
        by (Some e) = place_fine e p h

    line_fine : (more k : ℕ) (p : Parts) → Good p → Good (lost_line more k false p)
    line_fine zero k p h = h
    line_fine (suc more) k p h = by (first_on k p) (λ q rest. line_fine more k q rest)
      where
        by : (o : Option ℕ) → ((q : Parts) → Good q → Good (lost_line more k false q)) → Good (elim o as (λ t. Parts) [ None ↦ p | Some n ↦ lost_line more k false (lost_place n false p) ])
        by None rest = h
        by (Some n) rest = rest (lost_place n false p) (lost_place_fine n p h)

    closed_fine : (k : ℕ) (o : Option Peer) (p : Parts) → Good p → Good (closed_line k false o p)
    closed_fine k None p h = h
    closed_fine k (Some peer) p h = by peer.is_closing
      where
        by : (b : Bool) → Good (cond b p (lost_line 1024 k false p))
        by true = h
        by false = line_fine 1024 k p h

    dropped_fine : (k : ℕ) (o : Option ℕ) (x : Sides) → Good x.parts → Good (unseen_dropped k o x).parts
    dropped_fine k None x h = h
    dropped_fine k (Some n) x h = closed_fine k (find (is_peer k) x.peers) (ended n x.parts) (ended_fine S W Q C suits n x.parts h)

    each_fine : (ns : List ℕ) (x : Sides) → Good x.parts → Good (fold without_unseen_on x ns).parts
    each_fine [] x h = h
    each_fine (n ∷ ns) x h = each_fine ns (without_unseen_on x n) (dropped_fine n (unseen_on n x.parts.seats x.parts.flow) x h)

    pub unseen_fine : (x : Sides) → Good x.parts → Good (without_unseen x).parts
    unseen_fine x h = each_fine (peer_numbers x.peers) x h

  -- ---- places

  module _ (placing : SuitsPlaces W Q C) where
    -- an attempt is lost
    entry_clears : (n : ℕ) (p : Parts) (x : Entry) → entry_of n p.flow ≡ Some x → Good p → C (retired_at x.key.items p.cache)
    entry_clears n p x there h = by (find (is_number n) p.flow.waiting) (find (is_number n) p.flow.placed) refl refl there
      where
        by : (a b : Option Entry) → find (is_number n) p.flow.waiting ≡ a → find (is_number n) p.flow.placed ≡ b → first_of a b ≡ Some x → C (retired_at x.key.items p.cache)
        by (Some y) b one two is = placing.clears x p.cache (all_found W (is_number n) p.flow.waiting x (one ∙ is) h.waiting) h.memory
        by None b one two is = placing.clears_placed x p.cache (all_found Q (is_number n) p.flow.placed x (two ∙ is) h.placed) h.memory

    cleared_fine : (n : ℕ) (p : Parts) → Good p → Good (cleared_row n p)
    cleared_fine n p h = by (entry_of n p.flow) refl
      where
        at : (key : List ℕ) → C (retired_at key p.cache) → (b : Bool) → Good (record (cleared_key key p) { seats = cond b (map (decided_anew key) p.seats) p.seats })
        at key its true = record { seats = mapped_all S (decided_anew key) p.seats (λ seat one. suits.seat seat (decided_anew key seat) (anew_on key seat) one) h.seats; waiting = h.waiting; placed = h.placed; memory = its }
        at key its false = record { seats = h.seats; waiting = h.waiting; placed = h.placed; memory = its }

        by : (o : Option Entry) → entry_of n p.flow ≡ o → Good (cleared_of (option_map (λ (x : Entry). x.key.items) o) p)
        by None there = h
        by (Some x) there = at x.key.items (entry_clears n p x there h) (has_noted x.key.items p.refused)

    row_fine : (i : ℕ) (e : Exchange) (p : Parts) → Good p → Good (given_up_row i e p)
    unfolding given_up_row
    row_fine i e p h = by (is_unfilled_at i e p)
      where
        by : (b : Bool) → Good (cond b (dropped_row i e p) p)
        by true = left_fine S W Q C suits e.number (on_seat i without_row (cleared_row e.number p)) (on_seat_fine S W Q C suits i without_row (cleared_row e.number p) row_on (cleared_fine e.number p h))
        by false = h

    charged_fine : (o : Option ℕ) (cost : Course → Course) (e : Exchange) (p : Parts) → Good p → Good (charged_at o cost e p)
    unfolding charged_at
    charged_fine None cost e p h = h
    charged_fine (Some i) cost e p h = row_fine i e (on_seat i (with_course cost) p) (on_seat_fine S W Q C suits i (with_course cost) p (λ seat. record { front = refl; given = λ is. is; short = λ is. is }) h)

    pub lost_fine : (e : Exchange) (p : Parts) → Good p → Good (lost_attempt e p)
    lost_fine e p h = by (entry_of e.number p.flow)
      where
        by : (o : Option Entry) → Good (elim o as (λ t. Parts) [ None ↦ p | Some x ↦ charged_at (seat_for e p.seats) (lost_one (attempts_in x.errand.is_asked_once)) e p ])
        by None = h
        by (Some x) = charged_fine (seat_for e p.seats) (lost_one (attempts_in x.errand.is_asked_once)) e p h

    pub refused_fine : (stopped : Bool) (name awake : List ℕ) (e : Exchange) (p : Parts) → Good p → Good (refused_dial stopped name awake e p)
    refused_fine stopped name awake e p h = by (may_ask_again e.number (lost_attempt e p))
      where
        by : (b : Bool) → Good (asked_again_where b stopped name awake e.number (lost_attempt e p))
        by true = lost_fine e p h
        by false = filled_fine stopped name awake (ended e.number (lost_attempt e p)) (ended_fine S W Q C suits e.number (lost_attempt e p) (lost_fine e p h))

    -- it is put on a line
    put_fine : (n k : ℕ) (x : Sides) → Good x.parts → Good (put_on n k x).parts
    put_fine n k x h = by (is_put n k (entry_of n x.parts.flow) x.parts.flow x.peers)
      where
        onto : Good (record x.parts { flow = placed_on k n x.parts.flow })
        onto = at (find (is_number n) x.parts.flow.waiting) refl
          where
            at : (o : Option Entry) → find (is_number n) x.parts.flow.waiting ≡ o
                → Good (record x.parts { flow = elim o as (λ t. Exchanges) [ None ↦ x.parts.flow | Some e ↦ record x.parts.flow { waiting = without n x.parts.flow.waiting; placed = x.parts.flow.placed ++ with_place (Some k) e ∷ [] } ] })
            at None none = h
            at (Some e) found = record {
              seats = h.seats;
              waiting = all_without W n x.parts.flow.waiting h.waiting;
              placed = all_last Q x.parts.flow.placed (with_place (Some k) e) h.placed (placing.put k e (all_found W (is_number n) x.parts.flow.waiting e found h.waiting));
              memory = h.memory;
            }

        by : (b : Bool) → Good (record x.parts { flow = put_last b n k x.parts.flow })
        by true = anew_fine S W Q C suits n (record x.parts { flow = placed_on k n x.parts.flow }) onto
        by false = h

    met_fine : (m : Moment) (n : ℕ) (e : Entry) (host : List ℕ) (o : Option ℕ) (x : Sides) → Good x.parts → Good (met_at m n e host o x).parts
    met_fine m n e host None x h = refused_fine m.is_stopped m.name m.awake e.exchange x.parts h
    met_fine m n e host (Some k) x h = put_fine n k _ h

    dialled_to : (m : Moment) (n : ℕ) (e : Entry) (o : Option (List ℕ)) (x y : Around) (log : Log) → IsDialledTo m n e o x log y → Good x.sides.parts → Good y.sides.parts
    dialled_to m n e None x y log is h = subst (λ (z : Around). Good z.sides.parts) (sym is.1) (ended_fine S W Q C suits n x.sides.parts h)
    dialled_to m n e (Some host) x y log is h = subst (λ (z : Sides). Good z.parts) (sym is.sides) (met_fine m n e host (new_one is.answer x.sides.peers) x.sides h)

    dialled : (m : Moment) (n : ℕ) (o : Option Entry) (x y : Around) (log : Log) → IsDialledFor m n o x log y → Good x.sides.parts → Good y.sides.parts
    dialled m n None x y log is h = subst (λ (z : Around). Good z.sides.parts) (sym is.1) h
    dialled m n (Some e) x y log is h = dialled_to m n e (dials_to (host_of e) x.sides.peers) x y log is h

    pub placed_as : (w : Placed) (m : Moment) (n : ℕ) (x y : Around) (log : Log) → IsPlacedAs w m n x log y → Good x.sides.parts → Good y.sides.parts
    placed_as (On k) m n x y log is h = subst (λ (z : Around). Good z.sides.parts) (sym is.1) (put_fine n k x.sides h)
    placed_as Dial m n x y log is h = dialled m n (entry_of n x.sides.parts.flow) x y log is h
    placed_as (CloseThenDial k) m n x y log is h = subst (λ (z : Around). Good z.sides.parts) (sym is.1) h
    placed_as Wait m n x y log is h = subst (λ (z : Around). Good z.sides.parts) (sym is.1) h

    abbrev Onward : ℕ → Moment → Type 0
    Onward more m = (after : Option ℕ) (x y : Around) (log : Log) → ArePlaced more m after x log y → Good x.sides.parts → Good y.sides.parts

    abbrev Steps : ℕ → Moment → Around → Log → Around → Option ℕ → Type 0
    Steps more m x log y o = elim o [
      | None ↦ (log ≡ []) × (y ≡ x)
      | Some n ↦ (next : Around) × (first : Log) × (rest : Log) × (log ≡ first ++ rest) × IsPlaced m n x first next × ArePlaced more m (goes_on_behind (place_for m.limits n x.sides) n) next rest y
    ]

    one_more : (more : ℕ) (m : Moment) → Onward more m → (x y : Around) (log : Log) (o : Option ℕ) → Steps more m x log y o → Good x.sides.parts → Good y.sides.parts
    one_more more m onward x y log None is h = subst (λ (z : Around). Good z.sides.parts) (sym is.1) h
    one_more more m onward x y log (Some n) (next, first, rest, is, placed, others) h =
        onward (goes_on_behind (place_for m.limits n x.sides) n) next y rest others (placed_as (place_for m.limits n x.sides) m n x next first placed h)

    -- where one is left, this life goes astray
    astray_fine : (b : Bool) (x : Around) → Good x.sides.parts → Good (with_sides (with_parts (astray_where b)) x).sides.parts
    astray_fine false x h = h
    astray_fine true x h = record { seats = h.seats; waiting = h.waiting; placed = h.placed; memory = h.memory }

    pub places_fine : (more : ℕ) (m : Moment) → Onward more m
    unfolding ArePlaced
    places_fine zero m after x y log is h = subst (λ (z : Around). Good z.sides.parts) (sym is.1) (astray_fine (is_some (next_waiting after x.sides)) x h)
    places_fine (suc more) m after x y log is h = one_more more m (places_fine more m) x y log (next_waiting after x.sides) is h
