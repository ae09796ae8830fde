-- A dial is refused amid the places: its exchange is asked elsewhere, or is over, and followers ask for what is missing at once (RFC 2616,
-- section 8.1.4; RFC 7233, section 3.2).
use Rattle.std.specs.Prelude.{◌≡◌, ◌+◌, ℕ, false, Option, Some, None}
use Rattle.pp_cache.specs.Bounds.{IsBounded}
use Rattle.pp_turns_law.specs.Fills.{HasRoomForAll, IsFilled, MayAllFill}
use Rattle.pp_flow.specs.Changes.{entry_of}
use Rattle.pp_flow.specs.declared.entry.Entry.{Entry}
use Rattle.pp_law.specs.Connections.{WaitsDial, end_exchange, lose_attempt, may_ask_again, placing}
use Rattle.pp_law.specs.State.{State, Exchange}
use Rattle.pp_obeys.specs.Moves.{Leads}
use Rattle.pp_places.specs.Around.{Around, moment_of}
use Rattle.pp_places.specs.Placing.{ArePlaced, IsDialledFor}
use Rattle.pp_state.specs.Ends.{KeepsRest, Parts, ended, lost_attempt, parts}
use Rattle.pp_state.specs.declared.state.State.{State as Turn}
use Rattle.pp_states_law.specs.Charges.{GoesOn, IsFor}
use Rattle.pp_turns_law.specs.Firsts.{AreAwake}
use Rattle.pp_world.specs.Log.{Log}
use Rattle.pp_places_law.specs.Around.{MayPlace, ShowsAround}
use Rattle.pp_places_law.specs.Places.{AreLed, IsLed, IsUnplaced, OfPlaces, OfPlacing, Reaches}

-- ---- what is so amid it

-- the outside failed once more, and an attempt is lost
abbrev pub lost_in : Exchange → State → State
lost_in e s = lose_attempt e (record s { failures = s.failures + 1 })

-- where it is over: the turn has these clients, exchanges and rows then, and those behind it where followers asked
pub record MayFillThen (p : Turn) (q : Parts) (s : State) : Type 0 where
  pub turn : Turn
  pub is : parts turn ≡ q
  pub rest : KeepsRest p turn
  pub behind : Turn
  pub filled : IsFilled turn behind
  -- from wait to wait: a loss leaves who is silent as he is
  pub awake : AreAwake turn
  -- what each client that goes on follows is there, as before the loss
  pub fill : MayAllFill turn s
  -- as before: at most 768 exchanges are there, and 256 clients (SoundTurn.`IsSoundTurn` of `pp_laws_turn`, `bounded`)
  pub room : s.is_stopped ≡ false → HasRoomForAll turn s

-- behind the attempt that is lost
pub record MayBeRefused (p : Turn) (x : Around) (s : State) (e : Exchange) : Type 0 where
  -- its client goes on (SoundTurn.`IsSoundTurn` of `pp_laws_turn`, `askers`), and memory was refused for no row that it waits for
  pub goes : IsFor s e GoesOn
  -- the cache is bounded, as each is (`Cache::bounds` of `pp_cache`)
  pub bounded : (y : Entry) → entry_of e.number x.sides.parts.flow ≡ Some y → IsBounded (lost_attempt y.exchange x.sides.parts).cache
  pub then : (y : Entry) → entry_of e.number x.sides.parts.flow ≡ Some y → may_ask_again (lost_in e s) e.number ≡ false
      → MayFillThen p (ended e.number (lost_attempt y.exchange x.sides.parts)) (end_exchange e.number (lost_in e s))

-- ---- one dial

-- whatever the world answers
abbrev pub AnswersAreTheLaws : Type 0
AnswersAreTheLaws = OfPlacing (λ number p x s. (e : Exchange) (log : Log) (y : Around) → IsUnplaced (placing s).state e → (placing s).pause ≡ WaitsDial e → MayBeRefused p x (placing s).state e
    → IsDialledFor (moment_of p) e.number (entry_of e.number x.sides.parts.flow) x log y → IsLed number p log y s)

-- ---- all of them

-- wherever the turn comes to, each dial may be refused
abbrev pub EachMayBeRefused : (ℕ → ℕ) → Turn → Option ℕ → Around → State → Type 0
EachMayBeRefused number p after x s = (steps : ℕ) (hs : Log) (z : Around) (t : State) (e : Exchange) → Reaches steps (moment_of p) after x hs z → Leads hs s t → MayPlace t → ShowsAround number p z (placing t).state → (placing t).pause ≡ WaitsDial e
    → MayBeRefused p z (placing t).state e

abbrev pub AllAnswersAreTheLaws : Type 0
AllAnswersAreTheLaws = OfPlaces (λ number p x s. (more : ℕ) (log : Log) (y : Around) → EachMayBeRefused number p None x s → ArePlaced more (moment_of p) None x log y → AreLed number p log y s)
