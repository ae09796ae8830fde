-- The cache is bounded still, where a dial is refused (RFC 2616, section 8.1.4): an attempt is lost, its exchange is over, and followers ask.
use Rattle.std.specs.Prelude.{ℕ, Bool, List}
use Rattle.pp_cache.specs.Bounds.{IsBounded}
use Rattle.pp_cache.specs.Memory.{Memory, retired_at}
use Rattle.pp_flow.specs.declared.entry.Exchange.{Exchange}
use Rattle.pp_state.specs.Ends.{Parts, ended, lost_attempt}
use Rattle.pp_take.specs.Filling.{filled}
use Rattle.pp_take.specs.Unplaced.{refused_dial}

-- the row of a key is not known any more
abbrev pub RowsLeaveBounded : Type 0
RowsLeaveBounded = (key : List ℕ) (m : Memory) → IsBounded m → IsBounded (retired_at key m)

-- an attempt is lost
abbrev pub LossesLeaveBounded : Type 0
LossesLeaveBounded = (e : Exchange) (p : Parts) → IsBounded p.cache → IsBounded (lost_attempt e p).cache

-- it is over
abbrev pub EndsLeaveBounded : Type 0
EndsLeaveBounded = (number : ℕ) (p : Parts) → IsBounded p.cache → IsBounded (ended number p).cache

-- those that are looked at ask for what they lack
abbrev pub AsksLeaveBounded : Type 0
AsksLeaveBounded = (is_stopped : Bool) (name awake : List ℕ) (p : Parts) → IsBounded p.cache → IsBounded (filled is_stopped name awake p).cache

-- all of it
abbrev pub RefusalsLeaveBounded : Type 0
RefusalsLeaveBounded = (is_stopped : Bool) (name awake : List ℕ) (e : Exchange) (p : Parts) → IsBounded p.cache → IsBounded (refused_dial is_stopped name awake e p).cache
