-- Where replies end, clients at other places stay as they are, and connections keep their numbers.
use Rattle.std.proofs.Common.{◌≡◌, refl, sym, subst, ap, ◌∙◌, ℕ, Bool, true, false, ◌==◌, cond, List, [], ◌∷◌, Option, Some, None, option_map}
use Rattle.std.specs.Prelude.{slice_get, slice_set}
use Rattle.pp_turns_law.proofs.Regained.{get_other}
use Rattle.pp_desk.proofs.ClosingLemmas.{unasked_numbers}
use Rattle.pp_desk.specs.Closings.{Sides, closed_client, closing_at, left_at, left_by_errand, left_own, peer_numbers, place_on, unasked_at, with_parts, withdrawn}
use Rattle.pp_desk.specs.Replies.{EndsBy, EndsReplies, EndsSaid, EndsSaidOf, EndsWhere, IsLookedAt, account_renewed, at_next, closes_in, is_finished_in, without_finished, without_finished_at}
use Rattle.pp_events_law.proofs.Lists.{first_off, rest_off}
use Rattle.pp_flow.specs.Changes.{entry_of}
use Rattle.pp_flow.specs.declared.entry.Exchange.{Exchange}
use Rattle.pp_flow.specs.declared.errand.Errand.{Errand}
use Rattle.pp_law.specs.Lists.{has_number}
use Rattle.pp_objects.specs.declared.id.ObjectId.{ObjectId}
use Rattle.pp_peers.specs.declared.peers.Peer.{Peer}
use Rattle.pp_seats.specs.Seats.{IsRead, at_next_request}
use Rattle.pp_seats.specs.declared.seat.Seat.{Seat}
use Rattle.pp_state.specs.Ends.{Parts, changed_at, ended, exchange_of, forsaken, left, left_source, on_seat, source_at, unfollowed, without_source}
use Rattle.pp_state.specs.Hearing.{is_said_in, with_end}
use Rattle.pp_state.specs.Places.{IsChangedIn}

-- who is at another place
pub record IsBeside (i : ℕ) (x z : Sides) : Type 0 where
  pub others : (j : ℕ) → (i == j) ≡ false → slice_get z.parts.seats j ≡ slice_get x.parts.seats j
  pub peers : peer_numbers z.peers ≡ peer_numbers x.peers

beside_then : (i : ℕ) (x y z : Sides) → IsBeside i x y → IsBeside i y z → IsBeside i x z
beside_then i x y z one two = record { others = λ j off. two.others j off ∙ one.others j off; peers = two.peers ∙ one.peers }

same_seats : (i : ℕ) (x z : Sides) → z.parts.seats ≡ x.parts.seats → z.peers ≡ x.peers → IsBeside i x z
same_seats i x z seats peers = record { others = λ j off. ap (λ (ss : List Seat). slice_get ss j) seats; peers = ap (λ (ps : List Peer). peer_numbers ps) peers }

-- ---- one is changed

changed_other : (i : ℕ) (f : Seat → Seat) (seats : List Seat) (j : ℕ) → (i == j) ≡ false → slice_get (changed_at i f seats) j ≡ slice_get seats j
changed_other i f seats j off = by (slice_get seats i)
  where
    by : (o : Option Seat) → slice_get (elim o as (λ t. List Seat) [ None ↦ seats | Some seat ↦ slice_set seats i (f seat) ]) j ≡ slice_get seats j
    by None = refl
    by (Some seat) = get_other i j seats (f seat) off

on_it : (i : ℕ) (f : Seat → Seat) (x : Sides) → IsBeside i x (with_parts (on_seat i f) x)
on_it i f x = record { others = λ j off. changed_other i f x.parts.seats j off; peers = refl }

leaves_source : (i : ℕ) (x : Sides) → IsBeside i x (with_parts (left_source i) x)
leaves_source i x = by (source_at i x.parts)
  where
    by : (o : Option ObjectId) → IsBeside i x (record x { parts = elim o as (λ t. Parts) [ None ↦ x.parts | Some id ↦ record x.parts { seats = changed_at i without_source x.parts.seats; cache = unfollowed id x.parts.cache } ] })
    by None = same_seats i x x refl refl
    by (Some id) = record { others = λ j off. changed_other i without_source x.parts.seats j off; peers = refl }

forsakes : (i : ℕ) (x : Sides) → IsBeside i x (with_parts (forsaken i) x)
forsakes i x = by (exchange_of i x.parts)
  where
    by : (o : Option Exchange) → IsBeside i x (record x { parts = elim o as (λ t. Parts) [ None ↦ x.parts | Some e ↦ left e.number x.parts ] })
    by None = same_seats i x x refl refl
    by (Some e) = same_seats i x (record x { parts = left e.number x.parts }) refl refl

-- ---- one is closed

withdraws : (i number k : ℕ) (x : Sides) → IsBeside i x (withdrawn number k x)
withdraws i number k x = by (place_on k number x.parts.flow)
  where
    by : (o : Option ℕ) → IsBeside i x (record { parts = ended number x.parts; peers = unasked_at k o x.peers })
    by None = same_seats i x (record x { parts = ended number x.parts }) refl refl
    by (Some place) = record { others = λ j off. refl; peers = unasked_numbers k place x.peers }

leaves_ask : (i : ℕ) (o : Option Exchange) (x : Sides) → IsBeside i x (left_own i o x)
leaves_ask i None x = same_seats i x x refl refl
leaves_ask i (Some e) x = by (option_map (λ entry. entry.errand) (entry_of e.number x.parts.flow))
  where
    on : (b : Bool) (k : ℕ) → IsBeside i x (cond b (withdrawn e.number k x) (with_parts (forsaken i) x))
    on true k = withdraws i e.number k x
    on false k = forsakes i x

    at : (errand : Errand) (o : Option ℕ) → IsBeside i x (left_at i e.number errand o x)
    at errand None = same_seats i x (with_parts (ended e.number) x) refl refl
    at errand (Some k) = on (errand.asked == 0) k

    by : (o : Option Errand) → IsBeside i x (left_by_errand i e o x)
    by None = same_seats i x x refl refl
    by (Some errand) = at errand e.place

pub closes_one : (i : ℕ) (x : Sides) → IsBeside i x (closed_client i x)
closes_one i x =
    let y : Sides = with_parts (left_source i) x in
    let z : Sides = with_parts (closing_at i) x in
    beside_then i x z (closed_client i x) (beside_then i x y z (leaves_source i x) (on_it i (λ seat. record seat { is_closing = true }) y)) (leaves_ask i (exchange_of i (closing_at i x.parts)) z)

-- ---- its reply is over

looks : (i : ℕ) (x z : Sides) → IsLookedAt i x z → IsBeside i x z
looks i x z is = record { others = λ j off. by j off (slice_get x.parts.seats i) is.0; peers = ap (λ (y : Sides). peer_numbers y.peers) is.1 }
  where
    by : (j : ℕ) → (i == j) ≡ false → (o : Option Seat) → IsChangedIn IsRead o i x.parts.seats z.parts.seats → slice_get z.parts.seats j ≡ slice_get x.parts.seats j
    by j off None same = ap (λ (ss : List Seat). slice_get ss j) same
    by j off (Some seat) change = ap (λ (ss : List Seat). slice_get ss j) change.2 ∙ get_other i j x.parts.seats change.0 off

ends_by : (i : ℕ) (b : Bool) (x z : Sides) → EndsBy b i x z → IsBeside i x z
ends_by i true x z is = subst (λ (y : Sides). IsBeside i x y) (sym is) (closes_one i x)
ends_by i false x z is =
    let a : Sides = with_parts (left_source i) x in
    let b : Sides = with_parts (forsaken i) a in
    let c : Sides = with_parts (at_next i) x in
    beside_then i x c z (beside_then i x b c (beside_then i x a b (leaves_source i x) (forsakes i a)) (on_it i at_next_request b)) (looks i c z is)

ends_where : (i : ℕ) (b : Bool) (x z : Sides) → EndsWhere b i x z → IsBeside i x z
ends_where i true x z is =
    let y : Sides = with_parts (on_seat i account_renewed) x in
    beside_then i x y z (on_it i account_renewed x) (ends_by i (closes_in (slice_get x.parts.seats i)) y z is)
ends_where i false x z is = subst (λ (y : Sides). IsBeside i x y) (sym is) (same_seats i x x refl refl)

pub ends_of : (i : ℕ) (x z : Sides) → EndsSaidOf i x z → IsBeside i x z
ends_of i x z is =
    let y : Sides = with_parts (on_seat i with_end) x in
    beside_then i x y z (on_it i with_end x) (ends_where i (is_said_in (slice_get x.parts.seats i)) y z is)

-- ---- all of them

pub record AreBeside (is : List ℕ) (x z : Sides) : Type 0 where
  pub others : (j : ℕ) → has_number j is ≡ false → slice_get z.parts.seats j ≡ slice_get x.parts.seats j
  pub peers : peer_numbers z.peers ≡ peer_numbers x.peers

one_more : (i : ℕ) (is : List ℕ) (x y z : Sides) → IsBeside i x y → AreBeside is y z → AreBeside (i ∷ is) x z
one_more i is x y z one rest = record {
  others = λ j none. rest.others j (rest_off (i == j) (has_number j is) none) ∙ one.others j (first_off (i == j) (has_number j is) none);
  peers = rest.peers ∙ one.peers;
}

said_beside : (is : List ℕ) (x z : Sides) → EndsSaid is x z → AreBeside is x z
said_beside [] x z ends = record { others = λ j none. ap (λ (y : Sides). slice_get y.parts.seats j) ends; peers = ap (λ (y : Sides). peer_numbers y.peers) ends }
said_beside (i ∷ is) x z ends = one_more i is x ends.0 z (ends_of i x ends.0 ends.1) (said_beside is ends.0 z ends.2)

finished_one : (i : ℕ) (x : Sides) → IsBeside i x (without_finished_at x i)
finished_one i x = by (is_finished_in (slice_get x.parts.seats i))
  where
    by : (b : Bool) → IsBeside i x (cond b (closed_client i x) x)
    by true = closes_one i x
    by false = same_seats i x x refl refl

finished_beside : (is : List ℕ) (x : Sides) → AreBeside is x (without_finished is x)
finished_beside [] x = record { others = λ j none. refl; peers = refl }
finished_beside (i ∷ is) x = one_more i is x (without_finished_at x i) (without_finished (i ∷ is) x) (finished_one i x) (finished_beside is (without_finished_at x i))

pub replies_beside : (is : List ℕ) (x z : Sides) → EndsReplies is x z → AreBeside is x z
replies_beside is x z ends =
    let said : AreBeside is x ends.0 = said_beside is x ends.0 ends.1 in
    let closed : AreBeside is ends.0 z = subst (λ (y : Sides). AreBeside is ends.0 y) (sym ends.2) (finished_beside is ends.0) in
    record { others = λ j none. closed.others j none ∙ said.others j none; peers = closed.peers ∙ said.peers }
