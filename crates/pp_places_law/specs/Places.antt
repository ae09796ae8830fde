-- Each exchange without a place gets the law's, one behind the other: on a line, on a connection that is dialled for it, or on one behind
-- another that gives way (RFC 2616, sections 8.1 and 8.1.2.2).
use Rattle.std.specs.Prelude.{◌≡◌, ℕ, zero, suc, true, false, [], ◌∷◌, ◌++◌, Option, Some, None}
use Rattle.pp_desk.specs.Shutting.{closings}
use Rattle.pp_flow.specs.Changes.{entry_of}
use Rattle.pp_law.specs.Connections.{WaitsDial, WaitsDrop, exchange, place_for, placing, put_on}
use Rattle.pp_law.specs.Phases.{is_done, is_placed, next}
use Rattle.pp_law.specs.State.{State, Exchange}
use Rattle.pp_obeys.specs.Moves.{AreCalm, Leads}
use Rattle.pp_peers.specs.declared.placing.Placed.TheVariants.{On}
use Rattle.pp_places.specs.Around.{Around, Moment, moment_of, with_sides}
use Rattle.pp_places.specs.Placing.{ArePlaced, IsDialledFor, IsPlaced, given_way, goes_on_behind, next_waiting, place_for as place_in_turn, put_on as put_in_turn}
use Rattle.pp_state.specs.declared.state.State.{State as Turn}
use Rattle.pp_world.specs.Log.{Log}
use Rattle.pp_places_law.specs.Around.{MayPlace, ShowsAround}

-- ---- one exchange

pub record IsUnplaced (s : State) (e : Exchange) : Type 0 where
  pub there : exchange s e.number ≡ Some e
  pub waits : e.place ≡ None

-- amid a turn that shows the law's state, while connections are placed
abbrev pub OfPlaces : ((ℕ → ℕ) → Turn → Around → State → Type 0) → Type 0
OfPlaces P = (number : ℕ → ℕ) (p : Turn) (x : Around) (s : State) → ShowsAround number p x s → MayPlace s → P number p x s

-- it is asked where the law asks it
abbrev pub PlacesAreTheLaws : Type 0
PlacesAreTheLaws = OfPlaces (λ number p x s. (e : Exchange) → IsUnplaced s e → place_in_turn p.limits e.number x.sides ≡ place_for s e)

-- on a line, without a happening
abbrev pub PutsAreTheLaws : Type 0
PutsAreTheLaws = OfPlaces (λ number p x s. (e : Exchange) (k : ℕ) → IsUnplaced s e → place_for s e ≡ On k
    → ShowsAround number p (with_sides (put_in_turn e.number k) x) (put_on e.number k s) × MayPlace (put_on e.number k s))

-- ---- with a happening, which the law waits for behind those that have their places

-- it may come, and what the program has then shows the state that it leads to
pub record IsLed (number : ℕ → ℕ) (p : Turn) (log : Log) (y : Around) (s : State) : Type 0 where
  pub state : State
  pub leads : Leads log s state
  pub shows : ShowsAround number p y state
  pub may : MayPlace state

-- what the program has shows the law's state with those that have their places
abbrev pub OfPlacing : ((ℕ → ℕ) → Turn → Around → State → Type 0) → Type 0
OfPlacing P = (number : ℕ → ℕ) (p : Turn) (x : Around) (s : State) → ShowsAround number p x (placing s).state → MayPlace s → P number p x s

-- an idle connection gives way
abbrev pub WaysAreTheLaws : Type 0
WaysAreTheLaws = OfPlacing (λ number p x s. (k : ℕ) (e : Exchange) → (placing s).pause ≡ WaitsDrop k e → IsLed number p (closings (k ∷ []) x.links) (given_way k x) s)

-- one is dialled, where that is not refused
abbrev pub DialsAreTheLaws : Type 0
DialsAreTheLaws = OfPlacing (λ number p x s. (e : Exchange) (log : Log) (y : Around) → IsUnplaced (placing s).state e → (placing s).pause ≡ WaitsDial e → AreCalm log → IsDialledFor (moment_of p) e.number (entry_of e.number x.sides.parts.flow) x log y → IsLed number p log y s)

-- ---- all of them

-- so many got a place or found none, one behind the other, or a connection gave way: where a turn comes to amid its places
unfoldable pub Reaches : ℕ → Moment → Option ℕ → Around → Log → Around → Type 0
Reaches zero m after x log y = (log ≡ []) × (y ≡ x)
Reaches (suc more) m after x log y =
    (number : ℕ) × (next : Around) × (first : Log) × (rest : Log) × (next_waiting after x.sides ≡ Some number) × (log ≡ first ++ rest) × IsPlaced m number x first next × Reaches more m (goes_on_behind (place_in_turn m.limits number x.sides) number) next rest y

-- each has its place, or none to go to: the law goes on where the program does, to the phase behind this one
pub record HavePlaces (number : ℕ → ℕ) (p : Turn) (y : Around) (s : State) : Type 0 where
  pub placed : is_placed (placing s).pause ≡ true
  pub shows : ShowsAround number p y (placing s).state
  pub may : MayPlace s
  pub done : is_done s ≡ true
  pub behind : ShowsAround number p y (next s)

-- the happenings may come, one behind the other, and lead there, unless this life went astray: the end of `Placing.ArePlaced` of
-- `pp_places` says so, where one is left that has not had its place
pub record AreLed (number : ℕ → ℕ) (p : Turn) (log : Log) (y : Around) (s : State) : Type 0 where
  pub state : State
  pub leads : Leads log s state
  pub ends : y.sides.parts.is_astray ≡ false → HavePlaces number p y state

-- where no dial is refused
abbrev pub AllPlacesAreTheLaws : Type 0
AllPlacesAreTheLaws = OfPlaces (λ number p x s. (more : ℕ) (log : Log) (y : Around) → AreCalm log → ArePlaced more (moment_of p) None x log y → AreLed number p log y s)
