-- Memory was refused for nobody, and what is to be said first has room: from one wait to the next.
use Rattle.std.proofs.Common.{arith, ◌≡◌, ◌≤◌, refl, ℕ, Bool, true, false, length, List, Option, Some, None}
use Rattle.pp_desk.specs.declared.desk.Desk.{Desk}
use Rattle.pp_framing.specs.declared.body.BodyRule.{BodyRule}
use Rattle.pp_head.specs.Response.{Response}
use Rattle.pp_proxy.specs.Accepting.{newcomer}
use Rattle.pp_seats.specs.Dues.{is_refused_in}
use Rattle.pp_seats.specs.Heads.{asked_in}
use Rattle.pp_seats.specs.declared.front.Asked.{Asked}
use Rattle.pp_seats.specs.declared.seat.Seat.{Seat}
use Rattle.pp_state.specs.Passing.{head_for, may_answer, passed_on, passed_to, with_head}
use Rattle.pp_given_law.proofs.Carried.{Suits}
use Rattle.pp_given_law.proofs.Events.{handles_stay}
use Rattle.pp_given_law.proofs.HeadRoom.{heads_are_short}
use Rattle.pp_given_law.proofs.Waits.{keeps_stay, leaves_stay, waits_stay}
use Rattle.pp_given_law.specs.Stays.{HasRoomAs}
use Rattle.pp_given_law.specs.Laws.{GivenBehindEvents, GivenInEvents, GivenOverWaits, TextsBehindEvents, TextsInEvents, TextsOverWaits}

-- ---- whatever head comes

abbrev IsGiven : Seat → Type 0
IsGiven seat = is_refused_in seat.brought ≡ false

abbrev AnyHead : List ℕ → Response → BodyRule → Type 0
AnyHead name head rule = Unit {0}

passed_given : (name : List ℕ) (head : Response) (rule : BodyRule) (seat : Seat) → AnyHead name head rule → IsGiven seat → IsGiven (passed_to name head rule seat)
passed_given name head rule seat any its = by (asked_in seat.front) (may_answer seat.client)
  where
    at : (a : Asked) (b : Bool) → IsGiven (elim b as (λ t. Seat) [ true ↦ with_head (head_for name head rule a) head rule a seat | false ↦ seat ])
    at a true = refl
    at a false = its

    by : (o : Option Asked) (b : Bool) → IsGiven (passed_on name head rule o b seat)
    by None b = its
    by (Some a) b = at a b

given_suits : Suits IsGiven AnyHead
given_suits = record { carry = λ a b given short its. given its; passes = passed_given }

pub given_waits : GivenOverWaits
given_waits before wants clients old awaiting rested awaits rests h = waits_stay IsGiven AnyHead given_suits before wants clients old awaiting rested awaits rests h

pub given_events : GivenInEvents
given_events event x y room handles on h = (handles_stay IsGiven AnyHead given_suits (λ c d. refl) event x y (λ k peer bytes told old new head is step there asks rule its. tt) room handles).all on h

pub given_behind : GivenBehindEvents
given_behind = record {
  leaves = λ x y log order leaves h. leaves_stay IsGiven AnyHead given_suits x y log order leaves h;
  keeps = λ x y keeps h. keeps_stay IsGiven AnyHead given_suits x y keeps h;
}

-- ---- what is to be said first

abbrev IsShort : Seat → Type 0
IsShort seat = length seat.client.reply.text ≤ 20480

passed_short : (name : List ℕ) (head : Response) (rule : BodyRule) (seat : Seat) → HasRoomAs name head rule → IsShort seat → IsShort (passed_to name head rule seat)
passed_short name head rule seat fits its = by (asked_in seat.front) (may_answer seat.client)
  where
    at : (a : Asked) (b : Bool) → IsShort (elim b as (λ t. Seat) [ true ↦ with_head (head_for name head rule a) head rule a seat | false ↦ seat ])
    at a true = fits a.minor a.is_head a.keeps_open
    at a false = its

    by : (o : Option Asked) (b : Bool) → IsShort (passed_on name head rule o b seat)
    by None b = its
    by (Some a) b = at a b

short_suits : Suits IsShort HasRoomAs
short_suits = record { carry = λ a b given short its. short its; passes = passed_short }

-- of a newcomer nothing is to be said yet
newcomer_short : (c : ℕ) (d : Desk) → IsShort (newcomer c d)
newcomer_short c d = omega (arith)

pub texts_wait : TextsOverWaits
texts_wait before wants clients old awaiting rested awaits rests h = waits_stay IsShort HasRoomAs short_suits before wants clients old awaiting rested awaits rests h

pub texts_events : TextsInEvents
texts_events event x y named room handles on h = (handles_stay IsShort HasRoomAs short_suits newcomer_short event x y (heads_are_short x.moving.desk.state.name.items named) room handles).all on h

pub texts_behind : TextsBehindEvents
texts_behind = record {
  leaves = λ x y log order leaves h. leaves_stay IsShort HasRoomAs short_suits x y log order leaves h;
  keeps = λ x y keeps h. keeps_stay IsShort HasRoomAs short_suits x y keeps h;
}
