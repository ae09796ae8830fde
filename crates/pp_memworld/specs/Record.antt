-- What the calls on the record of a world in memory change.
use Rattle.std.specs.Prelude.{◌≡◌, ℕ, ◌+◌, ◌-◌, ◌^◌, true, min, [], ◌∷◌, ◌++◌, Option}
use Rattle.pp_world.specs.declared.happening.Happening.{Happening}
use Rattle.pp_world.specs.Log.{Log}
use Rattle.pp_memworld.specs.declared.record.Record.{Record}
use Rattle.pp_memworld.specs.Sides.{log_if}

-- the log, where it is told
abbrev pub record_log : Record → Option Log
record_log r = log_if r.told r.log.items

-- a log that is told still has this happening more
pub record Tells (old new : Record) (happening : Happening) : Type 0 where
  pub told : new.told ≡ true → old.told ≡ true
  pub log : new.told ≡ true → new.log.items ≡ old.log.items ++ happening ∷ []

-- the numbers of connections and of faults are as they were
pub record SameNumbers (old new : Record) : Type 0 where
  pub sides : new.sides ≡ old.sides
  pub top : new.top ≡ old.top
  pub faults : new.faults ≡ old.faults

-- nothing happened, though the log may be told no more
pub record Stays (old new : Record) : Type 0 where
  pub told : new.told ≡ true → old.told ≡ true
  pub log : new.log.items ≡ old.log.items
  pub sides : new.sides ≡ old.sides
  pub top : new.top ≡ old.top
  pub faults : new.faults ≡ old.faults

-- one more fault; the count stands still at its type's end
abbrev pub one_more : ℕ → ℕ
one_more faults = min (faults + 1) (2 ^ 64 - 1)
