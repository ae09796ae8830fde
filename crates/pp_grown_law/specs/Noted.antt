-- What memory notes for the disk, behind all that is taken away and kept in a turn (ours).
use Rattle.std.specs.Prelude.{◌≡◌, ℕ, false, []}
use Rattle.pp_cache.specs.Memory.{Memory}
use Rattle.pp_keeping.specs.Keeping.{KeepsAll, Keeping as Kept}

-- no name is outdated, and no instance has grown
pub record NotesNothing (m : Memory) : Type 0 where
  pub outdated : m.outdated ≡ []
  pub grown : m.grown ≡ []

-- where no loop ended with anything left
abbrev pub NothingIsNoted : Type 0
NothingIsNoted = (room : ℕ) (x y : Kept) → KeepsAll room x y → y.state.is_astray ≡ false → NotesNothing y.state.cache
