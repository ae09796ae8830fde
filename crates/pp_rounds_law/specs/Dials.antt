-- Wherever the places of a round come to, each dial may be refused: an attempt is lost, and where its exchange is over, followers ask for
-- what is missing (RFC 2616, section 8.1.4; RFC 7233, section 3.2).
use Rattle.std.specs.Prelude.{◌≡◌, ◌≤◌, ◌+◌, ◌-◌, ◌^◌, ℕ, false, length, List, ◌++◌, Option, Some, None}
use Rattle.pp_turns_law.specs.Decides.{IsAtPlace}
use Rattle.pp_turns_law.specs.Fills.{MayWant}
use Rattle.pp_flow.specs.Changes.{entry_of}
use Rattle.pp_flow.specs.declared.entry.Entry.{Entry}
use Rattle.pp_law.specs.Connections.{WaitsDial, client, end_exchange, placing}
use Rattle.pp_law.specs.State.{State, Client, Exchange, Term}
use Rattle.pp_law.specs.Table.{Next, next_of}
use Rattle.pp_obeys.specs.Moves.{Leads}
use Rattle.pp_obeys.specs.Obeys.{Obeys}
use Rattle.pp_places.specs.Around.{Around, moment_of}
use Rattle.pp_places_law.specs.Around.{MayPlace, ShowsAround}
use Rattle.pp_places_law.specs.Places.{Reaches}
use Rattle.pp_places_law.specs.Refusals.{MayBeRefused, lost_in}
use Rattle.pp_rounds_law.specs.Coming.{Affords, IsBrief}
use Rattle.pp_seats.specs.Follows.{next_of as next_in_turn}
use Rattle.pp_seats.specs.declared.seat.Next.{Next as SeatNext}
use Rattle.pp_seats.specs.declared.seat.Seat.{Seat}
use Rattle.pp_seats_law.specs.Fates.{is_refused}
use Rattle.pp_state.specs.Ends.{Parts, ended, lost_attempt, parts}
use Rattle.pp_state.specs.declared.state.State.{State as Turn}
use Rattle.pp_turns_law.specs.Firsts.{AreAwake}
use Rattle.pp_turns_law.specs.Needs.{IsWithin}
use Rattle.pp_turns_law.specs.Rows.{AreReady}
use Rattle.pp_world.specs.Log.{Log}

-- ---- where the places begin

pub record StandsToPlace (number : ℕ → ℕ) (p : Turn) (x : Around) (s : State) : Type 0 where
  -- as `ShowsAround` of `pp_places_law` has it, from what stands amid a round (Stands.`StandsAmid`)
  pub shows : ShowsAround number p x s
  -- what is placed is the turn's own: Around.`around` of `pp_places` has it so
  pub is : x.sides.parts ≡ parts p
  -- `StandsAmid`, `ready` and `awake`
  pub ready : AreReady number p.cache s.next_instance p.seats.items
  pub awake : AreAwake p

-- ---- what a refusal rests on, beside what stands (`pp_asks_law` has it)

-- what followers rest on as they ask behind a loss (Supplies.`MayAskMore` has the same of those that ask before)
pub record MayAskBehind (awake : List ℕ) (q : Parts) (s : State) : Type 0 where
  -- what follows a row has a key, and memory was refused for no row
  pub wants : (i : ℕ) (seat : Seat) (c : Client) (x : SeatNext) → IsAtPlace i q s seat c → c.is_closing ≡ false → next_in_turn seat ≡ Some x → MayWant seat c
  -- its next byte is one of the body (`IsDecidedTurn` of `pp_laws_decided`, `next`, before the loss); and what is kept of that ends with a
  -- chunk, or with the body
  pub within : (i : ℕ) (seat : Seat) (c : Client) (n : Next) → IsAtPlace i q s seat c → c.is_closing ≡ false → next_of s c ≡ Some n → IsWithin s n
  -- no count ends at 2 ^ 64, where the log has fewer than 2 ^ 50 happenings
  pub numbers : s.next_exchange + length awake ≤ 2 ^ 64 - 1

-- of a dial that may be refused
pub record MayGoWithout (p : Turn) (z : Around) (s : State) (e : Exchange) : Type 0 where
  -- memory was refused for no row
  pub given : (n : ℕ) (c : Client) → client s n ≡ Some c → is_refused c.course ≡ false
  pub asks : (y : Entry) → entry_of e.number z.sides.parts.flow ≡ Some y → MayAskBehind p.awake.items (ended e.number (lost_attempt y.exchange z.sides.parts)) (end_exchange e.number (lost_in e s))

-- ---- one dial

-- where the places come to it, and a lawful log may go on as from there
abbrev pub DialsMayBeRefused : Type 0
DialsMayBeRefused = (terms : List Term) (log : Log) (number : ℕ → ℕ) (p : Turn) (x z : Around) (steps : ℕ) (hs : Log) (s t : State) (e : Exchange) → StandsToPlace number p x s → Reaches steps (moment_of p) None x hs z → Obeys terms t log → MayPlace t
    → ShowsAround number p z (placing t).state → (placing t).pause ≡ WaitsDial e → MayGoWithout p z (placing t).state e → MayBeRefused p z (placing t).state e

-- ---- all of them

-- wherever the places come to, while the outside may fail so often, and there may be so many happenings
abbrev pub OfAffordedDials : (Around → State → Exchange → Type 0) → ℕ → Log → (ℕ → ℕ) → Turn → Option ℕ → Around → State → Type 0
OfAffordedDials P most before number p after x s = (steps : ℕ) (hs : Log) (z : Around) (t : State) (e : Exchange) → Affords s hs → IsBrief most (before ++ hs) → Reaches steps (moment_of p) after x hs z → Leads hs s t → MayPlace t → ShowsAround number p z (placing t).state → (placing t).pause ≡ WaitsDial e
    → P z (placing t).state e

abbrev pub AllDialsMayBeRefused : Type 0
AllDialsMayBeRefused = (terms : List Term) (most : ℕ) (before : Log) (number : ℕ → ℕ) (p : Turn) (x : Around) (s : State) → Obeys terms s before → StandsToPlace number p x s → OfAffordedDials (MayGoWithout p) most before number p None x s → OfAffordedDials (MayBeRefused p) most before number p None x s
