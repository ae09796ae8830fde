-- Wherever the places of a round come to, a dial may be refused, and its followers may ask for what is missing then (RFC 2616, section 8.1.4; RFC
-- 7233, section 3.2).
use Rattle.std.specs.Prelude.{◌<◌, ◌^◌, ℕ, List, None}
use Rattle.pp_asks_law.specs.Rests.{HasNumbers, RestsOn}
use Rattle.pp_law.specs.State.{State, Term}
use Rattle.pp_obeys.specs.Obeys.{Obeys}
use Rattle.pp_places.specs.Around.{Around}
use Rattle.pp_places_law.specs.Around.{MayPlace}
use Rattle.pp_rounds_law.specs.Dials.{MayGoWithout, OfAffordedDials, StandsToPlace}
use Rattle.pp_state.specs.declared.state.State.{State as Turn}
use Rattle.pp_store.specs.Kept.{KeptMap}
use Rattle.pp_world.specs.Log.{Log}

-- there are numbers wherever they come to
abbrev pub NumbersGoOn : ℕ → Log → (ℕ → ℕ) → Turn → Around → State → Type 0
NumbersGoOn most before number p x s = OfAffordedDials (λ z now e. HasNumbers p now) most before number p None x s

-- on the way there clients keep their requests and their replies, and no row and no entry comes
abbrev pub DialsMayGoWithout : Type 0
DialsMayGoWithout = (terms : List Term) (most : ℕ) (before : Log) (number : ℕ → ℕ) (shelf : KeptMap) (p : Turn) (x : Around) (s : State) → Obeys terms s before → StandsToPlace number p x s → RestsOn shelf p s → NumbersGoOn most before number p x s → OfAffordedDials (MayGoWithout p) most before number p None x s

-- as in a log of so many happenings few exchanges began (`pp_laws_sides`)
abbrev pub FewNumbersAreGiven : Type 0
FewNumbersAreGiven = (terms : List Term) (most : ℕ) (before : Log) (number : ℕ → ℕ) (p : Turn) (x : Around) (s : State) → Obeys terms s before → StandsToPlace number p x s → MayPlace s → most < 2 ^ 50 → NumbersGoOn most before number p x s
