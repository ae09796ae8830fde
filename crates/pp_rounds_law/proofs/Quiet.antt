-- What a turn does without a word leaves each client as it was: what nobody sees is dropped, asks are given up, and followers ask.
use Rattle.std.proofs.Common.{refl, ℕ, zero, suc, Bool, true, false, cond, find, List, [], ◌∷◌, Option, Some, None}
use Rattle.std.specs.List.{fold}
use Rattle.std.specs.Prelude.{slice_get}
use Rattle.pp_desk.specs.Closings.{Sides, closed_line, dropped_with, peer_numbers}
use Rattle.pp_desk.specs.Origins.{unseen_dropped, without_unseen, without_unseen_on}
use Rattle.pp_flow.specs.Changes.{entry_of}
use Rattle.pp_flow.specs.declared.entry.Aim.{Aim}
use Rattle.pp_flow.specs.declared.entry.Exchange.{Exchange}
use Rattle.pp_flow.specs.declared.errand.Errand.{Errand}
use Rattle.pp_objects.specs.Instances.{Instance}
use Rattle.pp_peers.specs.Peers.{is_number}
use Rattle.pp_peers.specs.declared.peers.Peer.{Peer}
use Rattle.pp_seats.specs.Courses.{is_trying_in}
use Rattle.pp_seats.specs.Follows.{next_of}
use Rattle.pp_seats.specs.declared.seat.Course.TheVariants.{AskTooLong}
use Rattle.pp_seats.specs.declared.seat.Next.{Next}
use Rattle.pp_seats.specs.declared.seat.Seat.{Seat}
use Rattle.pp_state.specs.Asking.{is_useless}
use Rattle.pp_state.specs.Bringing.{need_of}
use Rattle.pp_state.specs.Ends.{Parts, asked_elsewhere, cut_short, ended, exchange_at, left_at_decision, left_place, left_place_at, lost_attempt, lost_place, may_ask_again, may_go_elsewhere}
use Rattle.pp_state.specs.Lines.{first_on, lost_line}
use Rattle.pp_state.specs.Unseen.{unseen_on}
use Rattle.pp_take.specs.Deciding.{Ask, begun_at, exchange_begun, may_ask}
use Rattle.pp_take.specs.Filling.{all_filled, asked_of_row, filled, filled_for, hole_ask_at, hole_asked, instance_of, need_asked, next_asked, seat_asked, span_asked}
use Rattle.pp_take.specs.GivingUp.{all_given_up, given_up_if}
use Rattle.pp_take.specs.Unplaced.{asked_again_where, refused_dial}
use Rattle.pp_valid.specs.declared.version.Version.{Version}
use Rattle.pp_rounds_law.proofs.Carried.{Carries, carries_decision, carries_ended, carries_flow, carries_itself, carries_lost, carries_seat, carries_short, carries_then, loosely}

-- ---- what nobody sees

carries_place : (e : Exchange) (p : Parts) → Carries true p (left_place e p)
unfolding left_place
carries_place e p = by e.headed (may_go_elsewhere e.number p)
  where
    by : (a b : Bool) → Carries true p (cond a (ended e.number (cut_short e p)) (cond b (asked_elsewhere e.number p) (ended e.number p)))
    by true b = carries_then true p (cut_short e p) (ended e.number (cut_short e p)) (carries_short true e p) (carries_ended true e.number (cut_short e p))
    by false true = carries_flow true p _
    by false false = carries_ended true e.number p

carries_lost_place : (n : ℕ) (p : Parts) → Carries true p (lost_place n false p)
carries_lost_place n p = by (exchange_at n p.flow)
  where
    by : (o : Option Exchange) → Carries true p (left_place_at o false p)
    by None = carries_itself true p
    by (Some e) = carries_place e p

carries_line : (more k : ℕ) (p : Parts) → Carries true p (lost_line more k false p)
carries_line zero k p = carries_itself true p
carries_line (suc more) k p = by (first_on k p) (λ q. carries_line more k q)
  where
    by : (o : Option ℕ) → ((q : Parts) → Carries true q (lost_line more k false q)) → Carries true p (elim o as (λ t. Parts) [ None ↦ p | Some n ↦ lost_line more k false (lost_place n false p) ])
    by None rest = carries_itself true p
    by (Some n) rest = carries_then true p (lost_place n false p) (lost_line more k false (lost_place n false p)) (carries_lost_place n p) (rest (lost_place n false p))

carries_closed : (k : ℕ) (o : Option Peer) (p : Parts) → Carries true p (closed_line k false o p)
carries_closed k None p = carries_itself true p
carries_closed k (Some peer) p = by peer.is_closing
  where
    by : (b : Bool) → Carries true p (cond b p (lost_line 1024 k false p))
    by true = carries_itself true p
    by false = carries_line 1024 k p

carries_dropped : (k : ℕ) (o : Option ℕ) (x : Sides) → Carries true x.parts (unseen_dropped k o x).parts
carries_dropped k None x = carries_itself true x.parts
carries_dropped k (Some n) x =
    carries_then true x.parts (ended n x.parts) (dropped_with n k x).parts (carries_ended true n x.parts) (carries_closed k (find (is_number k) x.peers) (ended n x.parts))

carries_each : (ns : List ℕ) (x : Sides) → Carries true x.parts (fold without_unseen_on x ns).parts
carries_each [] x = carries_itself true x.parts
carries_each (n ∷ ns) x =
    carries_then true x.parts (without_unseen_on x n).parts (fold without_unseen_on (without_unseen_on x n) ns).parts (carries_dropped n (unseen_on n x.parts.seats x.parts.flow) x) (carries_each ns (without_unseen_on x n))

pub carries_unseen : (x : Sides) → Carries true x.parts (without_unseen x).parts
carries_unseen x = carries_each (peer_numbers x.peers) x

-- ---- asks that bring nothing

pub carries_given_up : (ns : List ℕ) (p : Parts) → Carries true p (all_given_up ns p)
unfolding all_given_up
carries_given_up [] p = carries_itself true p
carries_given_up (n ∷ ns) p = carries_then true p (given_up_if n p) (all_given_up ns (given_up_if n p)) (by (is_useless p.cache p.seats (entry_of n p.flow))) (carries_given_up ns (given_up_if n p))
  where
    by : (b : Bool) → Carries true p (elim b as (λ t. Parts) [ true ↦ ended n p | false ↦ p ])
    by true = carries_ended true n p
    by false = carries_itself true p

-- ---- what followers ask for

carries_begun : (i : ℕ) (aim : Aim) (errand : Errand) (text : List ℕ) (p : Parts) → Carries true p (exchange_begun i aim errand text p)
unfolding exchange_begun
carries_begun i aim errand text p =
    carries_then true p (left_at_decision i p) (begun_at i aim errand text (left_at_decision i p)) (carries_decision true i p) (carries_flow true (left_at_decision i p) _)

carries_hole : (i : ℕ) (v : Version) (span : ℕ × ℕ) (o : Option Ask) (p : Parts) → Carries true p (hole_asked i v span o p)
unfolding hole_asked
carries_hole i v span None p = carries_seat true i (λ (seat : Seat). record seat { course = AskTooLong }) p (λ seat. record { stage = refl; front = refl; hung_up = refl; closing = refl; joins = λ id plain is. is })
carries_hole i v span (Some ask) p = carries_begun i _ ask.0 ask.1 p

carries_of_row : (name : List ℕ) (i : ℕ) (span : ℕ × ℕ) (o : Option Instance) (p : Parts) → Carries true p (asked_of_row name i span o p)
carries_of_row name i span None p = carries_itself true p
carries_of_row name i span (Some x) p = carries_hole i x.version span (hole_ask_at name i x.version span p) p

carries_span : (name : List ℕ) (i : ℕ) (next : Next) (span : ℕ × ℕ) (p : Parts) → Carries true p (span_asked name i next span p)
unfolding span_asked
carries_span name i next span p = by (may_ask p.flow)
  where
    by : (b : Bool) → Carries true p (elim b as (λ t. Parts) [ true ↦ asked_of_row name i span (instance_of next.source p.cache) p | false ↦ p ])
    by true = carries_of_row name i span (instance_of next.source p.cache) p
    by false = carries_itself true p

carries_need : (name : List ℕ) (i : ℕ) (next : Next) (o : Option (ℕ × ℕ)) (p : Parts) → Carries true p (need_asked name i next o p)
carries_need name i next None p = carries_itself true p
carries_need name i next (Some span) p = carries_span name i next span p

carries_next : (name : List ℕ) (i : ℕ) (o : Option Next) (p : Parts) → Carries true p (next_asked name i o p)
carries_next name i None p = carries_itself true p
carries_next name i (Some next) p = carries_need name i next (need_of next p.cache p.flow) p

carries_seat_asked : (name : List ℕ) (i : ℕ) (o : Option Seat) (p : Parts) → Carries true p (seat_asked name i o p)
carries_seat_asked name i None p = carries_itself true p
carries_seat_asked name i (Some seat) p = by (is_trying_in seat.course)
  where
    by : (b : Bool) → Carries true p (elim b as (λ t. Parts) [ true ↦ next_asked name i (next_of seat) p | false ↦ p ])
    by true = carries_next name i (next_of seat) p
    by false = carries_itself true p

carries_one : (name : List ℕ) (i : ℕ) (p : Parts) → Carries true p (filled_for name i p)
unfolding filled_for
carries_one name i p = carries_seat_asked name i (slice_get p.seats i) p

carries_all : (name is : List ℕ) (p : Parts) → Carries true p (all_filled name is p)
unfolding all_filled
carries_all name [] p = carries_itself true p
carries_all name (i ∷ is) p = carries_then true p (filled_for name i p) (all_filled name is (filled_for name i p)) (carries_one name i p) (carries_all name is (filled_for name i p))

pub carries_filled : (is_stopped : Bool) (name awake : List ℕ) (p : Parts) → Carries true p (filled is_stopped name awake p)
carries_filled true name awake p = carries_itself true p
carries_filled false name awake p = carries_all name awake p

-- ---- a dial is refused

pub carries_refused : (is_stopped : Bool) (name awake : List ℕ) (e : Exchange) (p : Parts) → Carries false p (refused_dial is_stopped name awake e p)
carries_refused is_stopped name awake e p = carries_then false p lost (refused_dial is_stopped name awake e p) (carries_lost e p) (by (may_ask_again e.number lost))
  where
    lost : Parts
    lost = lost_attempt e p

    by : (b : Bool) → Carries false lost (asked_again_where b is_stopped name awake e.number lost)
    by true = carries_itself false lost
    by false =
        carries_then false lost (ended e.number lost) (filled is_stopped name awake (ended e.number lost)) (carries_ended false e.number lost)
        (loosely (ended e.number lost) (filled is_stopped name awake (ended e.number lost)) (carries_filled is_stopped name awake (ended e.number lost)))
