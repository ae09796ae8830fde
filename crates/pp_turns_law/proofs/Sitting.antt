-- The client at a place: its number is there alone, and what it follows.
use Rattle.std.proofs.Common.{◌≡◌, ◌<◌, refl, sym, subst, ap, ◌∙◌, ℕ, zero, suc, ◌+◌, ◌-◌, ◌^◌, min, Bool, true, false, ◌&&◌, find, get_or, length, List, [], ◌∷◌, Some, None, Option, arith}
use Rattle.std.specs.Prelude.{option_and_then, slice_get, slice_set}
use Rattle.pp_cache_law.proofs.Numbers.{some_is}
use Rattle.pp_client.specs.Replies.{Reply as Said, with_interim as interim_on}
use Rattle.pp_flow_law.proofs.Entries.{none_some}
use Rattle.pp_law.specs.Connections.{is_client}
use Rattle.pp_law.specs.Lists.{Bytes, is_some_with, is_this}
use Rattle.pp_law.specs.Stages.{reply_of}
use Rattle.pp_law.specs.State.{Client, Reply, Stage, Undecided, Waiting, Passing, Answering}
use Rattle.pp_objects.specs.declared.id.ObjectId.{ObjectId}
use Rattle.pp_seats.specs.Decided.{with_interim}
use Rattle.pp_seats.specs.Follows.{answer_in}
use Rattle.pp_seats.specs.declared.seat.Seat.{Seat}
use Rattle.pp_seats.specs.declared.seat.Stage.{Stage as SeatStage}
use Rattle.pp_seats.specs.declared.seat.Stage.TheVariants.{Undecided as IsUndecided, Waiting as IsWaiting, Passing as IsPassing, Answering as IsAnswering}
use Rattle.pp_seats_law.proofs.AllSeats.{places}
use Rattle.pp_seats_law.proofs.Nexts.{reply_in}
use Rattle.pp_seats_law.specs.Clients.{AreShown, IsAt, IsFound}
use Rattle.pp_seats_law.specs.Replies.{ShowsStage, source_number}
use Rattle.pp_seats_law.specs.Seats.{ShowsSeat}
use Rattle.pp_state.proofs.SeatsLemmas.{found-at}
use Rattle.pp_state.specs.Ends.{AreInOrder, Parts, changed_at, left_source, numbers_of, on_seat, source_at, source_of, unfollowed, without_source}
use Rattle.pp_state.specs.Passing.{may_answer}
use Rattle.pp_states_law.proofs.Places.{at_place}
use Rattle.pp_turns_law.proofs.Changed.{get_set, set_set}

-- ---- its place

within : (i : ℕ) (seats : List Seat) (seat : Seat) → slice_get seats i ≡ Some seat → i < length (numbers_of seats)
within i [] seat there = absurd (none_some seat there)
within zero (first ∷ seats) seat there = omega arith
within (suc i) (first ∷ seats) seat there = omega (arith, within i seats seat there)

number_there : (i : ℕ) (seats : List Seat) (seat : Seat) → slice_get seats i ≡ Some seat → get_or (numbers_of seats) i 0 ≡ seat.client.id
number_there i [] seat there = absurd (none_some seat there)
number_there zero (first ∷ seats) seat there = ap (λ (x : Seat). x.client.id) (some_is first seat there)
number_there (suc i) (first ∷ seats) seat there = number_there i seats seat there

pub is_at : (i : ℕ) (seats : List Seat) (seat : Seat) → AreInOrder (numbers_of seats) → slice_get seats i ≡ Some seat → IsAt seat.client.id i seats
is_at i seats seat order there =
    at_place seat.client.id i seats order (found-at seat.client.id (numbers_of seats) i order (within i seats seat there) (number_there i seats seat there))

-- the client of the law that a seat shows
pub shown_at : (number : ℕ → ℕ) (name : Bytes) (owed : List Bytes) (seats : List Seat) (cs : List Client) (n i : ℕ) (seat : Seat) (c : Client) → AreShown number name owed seats cs → IsAt n i seats → slice_get seats i ≡ Some seat
    → find (is_client n) cs ≡ Some c → ShowsSeat number name owed seat c
shown_at number name owed seats cs n i seat c shown at here there =
    let found : IsFound number name owed seat n cs = places number name owed seats cs n i seat shown at here in
    subst (λ (x : Client). ShowsSeat number name owed seat x) (some_is found.client c (sym found.there ∙ there)) found.shows

-- ---- the interim answer leaves all else

abbrev interim_if : Bool → Seat → Seat
interim_if b seat = elim b as (λ t. Seat) [
  | true ↦ record seat { client = record seat.client { reply = interim_on seat.client.reply }; before_body = min (seat.before_body + 25) (2 ^ 64 - 1) }
  | false ↦ seat
]

record IsKept (seat new : Seat) : Type 0 where
  id : new.client.id ≡ seat.client.id
  stage : new.stage ≡ seat.stage
  front : new.front ≡ seat.front

kept_if : (b : Bool) (seat : Seat) → IsKept seat (interim_if b seat)
kept_if true seat = record { id = refl; stage = refl; front = refl }
kept_if false seat = record { id = refl; stage = refl; front = refl }

interim_keeps : (seat : Seat) → IsKept seat (with_interim seat)
interim_keeps seat = kept_if _ seat

pub interim_number : (seat : Seat) → (with_interim seat).client.id ≡ seat.client.id
interim_number seat = (interim_keeps seat).id

may_if : (b : Bool) (seat : Seat) → may_answer (interim_if b seat).client ≡ may_answer seat.client
may_if true seat = refl
may_if false seat = refl

pub interim_may : (seat : Seat) → may_answer (with_interim seat).client ≡ may_answer seat.client
interim_may seat = may_if _ seat

pub interim_front : (seat : Seat) → (with_interim seat).front ≡ seat.front
interim_front seat = (interim_keeps seat).front

pub interim_source : (seat : Seat) → source_of (with_interim seat) ≡ source_of seat
interim_source seat = ap (λ (stage : SeatStage). option_and_then (λ a. a.source) (answer_in stage)) (interim_keeps seat).stage

-- ---- it is changed, and changed again

pub on_seat_is : (i : ℕ) (f : Seat → Seat) (p : Parts) (seat : Seat) → slice_get p.seats i ≡ Some seat → on_seat i f p ≡ record p { seats = slice_set p.seats i (f seat) }
on_seat_is i f p seat here = ap (λ (o : Option Seat). record p { seats = elim o as (λ t. List Seat) [ None ↦ p.seats | Some x ↦ slice_set p.seats i (f x) ] }) here

pub seat_again : (i : ℕ) (g : Seat → Seat) (p : Parts) (seat new : Seat) → slice_get p.seats i ≡ Some seat → on_seat i g (record p { seats = slice_set p.seats i new }) ≡ record p { seats = slice_set p.seats i (g new) }
seat_again i g p seat new here =
    on_seat_is i g (record p { seats = slice_set p.seats i new }) new (get_set i p.seats seat new here) ∙ ap (λ (seats : List Seat). record p { seats = seats }) (set_set i p.seats new (g new))

-- one that follows nothing leaves nothing
pub leaves_none : (i : ℕ) (p : Parts) → source_at i p ≡ None → left_source i p ≡ p
leaves_none i p none = ap (λ (o : Option ObjectId). elim o as (λ t. Parts) [ None ↦ p | Some id ↦ record p { seats = changed_at i without_source p.seats; cache = unfollowed id p.cache } ]) none

-- ---- what it follows is what the law's follows

pub follows_none : (number : ℕ → ℕ) (id : ℕ) (said : Said) (stage : SeatStage) (other : Stage) → ShowsStage number said stage other → option_and_then (λ a. a.source) (answer_in stage) ≡ None → is_some_with (λ r. is_this id r.source) (reply_in other) ≡ false
follows_none number id said IsUndecided Undecided shows none = refl
follows_none number id said IsWaiting Waiting shows none = refl
follows_none number id said IsPassing Passing shows none = refl
follows_none number id said (IsAnswering a) (Answering r) shows none = ap (λ o. is_this id o) (sym shows.source ∙ ap (λ o. source_number number o) none)
follows_none number id said stage other shows none = absurd shows
