-- The files one of which stands under a name, and those of all names.
use Rattle.std.specs.Prelude.{◌≡◌, Bool, true, false, IsTrue, List, [], ◌∷◌, map, cond, bytes_eq, Option, Some, None}
use Rattle.std.specs.BTreeMap.{BTreeMap, get}
use Rattle.pp_world.specs.Disk.{Bytes, Stored, is_rising, settled}
use Rattle.pp_world.specs.Files.{Files, name_order}

-- the file that reads give, and those that may stand in its place
abbrev pub Candidates : Type 0
Candidates = List (Option Stored)

abbrev pub Slots : Type 0
Slots = BTreeMap Bytes Candidates

abbrev pub first_of : Candidates → Option Stored
first_of [] = None
first_of (file ∷ files) = file

abbrev pub is_file : Option Stored → Bool
is_file None = false
is_file (Some f) = true

-- no file stands under a name that has no slot
abbrev pub files_in : Option Candidates → Candidates
files_in None = None ∷ []
files_in (Some files) = files

abbrev pub files_at : Bytes → Slots → Candidates
files_at name slots = files_in (get name_order slots name)

-- what stands under this name is changed so, and all else is as before
abbrev pub Changes : Bytes → (Candidates → Candidates) → Slots → Slots → Type 0
Changes name change old new = (other : Bytes) → files_at other new ≡ cond (bytes_eq name other) (change (files_at other old)) (files_at other old)

-- a folder lists each name once, in the order of names
abbrev pub AreListed : Files → Type 0
AreListed files = IsTrue (is_rising (map (λ file. file.0) files))

-- a file that a crash left
abbrev pub rested : Bytes × Bytes → Bytes × Candidates
rested file = (file.0, Some (settled file.1) ∷ [])
