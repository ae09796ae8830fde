-- The fields of a row are those that are kept of them: so a row that is drafted comes back into memory with the fields that it had.
use Rattle.std.specs.Prelude.{◌≡◌, ℕ, List, Some}
use Rattle.pp_fresh.specs.declared.aging.Times.{Times}
use Rattle.pp_objects.specs.Kept.{kept_of, refreshed_of}
use Rattle.pp_store.specs.Kept.{Kept, KeptMap, kept_of as kept_in_store}
use Rattle.pp_text.specs.Fields.{Field}

abbrev pub AreKept : List Field → Times → Type 0
AreKept fields times = kept_of fields times ≡ fields

-- of each entry that is kept on the disk
abbrev pub AreAsKept : KeptMap → Type 0
AreAsKept shelf = (key : List ℕ) (kept : Kept) → kept_in_store key shelf ≡ Some kept → AreKept kept.entry.fields kept.entry.times

-- of a row that a response makes
abbrev pub KeptAreKept : Type 0
KeptAreKept = (fields : List Field) (times : Times) → AreKept (kept_of fields times) times

-- and behind a later response of its version
abbrev pub RefreshedAreKept : Type 0
RefreshedAreKept = (kept fields : List Field) (before times : Times) → AreKept kept before → AreKept (refreshed_of kept fields times) times
