-- The life behind a crash has changed nothing yet.
use Rattle.std.proofs.Common.{◌≡◌, ℕ, Option, Some, None}
use Rattle.pp_world.specs.Files.{Files}
use Rattle.pp_world.specs.Log.{Log, Told}
use Rattle.pp_memworld.specs.Crash.{Crashes}
use Rattle.pp_memworld.specs.MemWorld.{told_log}
use Rattle.pp_memworld.specs.declared.memworld.MemWorld.{MemWorld}
use Rattle.pp_recover.specs.Opening.{IsFresh}
use Rattle.pp_shelf.proofs.OpeningLemmas.{fresh_life}

pub fresh_crashed : (at : ℕ) (old : Option Log) (w : MemWorld) → Crashes at old (Some w) → Told (told_log w) (λ l. (files : Files) × IsFresh files l)
fresh_crashed at None w none = absurd (let bad : Some w ≡ None = none in cc)
fresh_crashed at (Some log) w (fits, goes) = fresh_life _ goes.image goes.goes_on
