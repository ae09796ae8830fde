-- The files of a folder: a finite map from names to contents, as a list in the order of names.
use Rattle.std.specs.Prelude.{◌≡◌, ◌≢◌, ℕ, Bool, true, List, [], ◌∷◌, filter, Option, Some, None}
use Rattle.std.specs.declared.cmp.Ordering.{Ordering}
use Rattle.std.specs.Ordering.{nat_cmp, is_eq, is_lt}
use Rattle.std.specs.Cmp.Lexicographic.{slice_cmp}
use Rattle.std.specs.Map.{lookup}
use Rattle.std.specs.BTreeMap.{insert_entry}

abbrev pub Files : Type 0
Files = List (List ℕ × List ℕ)

-- names are in the order of their bytes
abbrev pub name_order : List ℕ → List ℕ → Ordering
name_order one other = slice_cmp nat_cmp one other

-- the file of this name
abbrev pub file_of : List ℕ → Files → Option (List ℕ)
file_of name files = lookup (λ n. is_eq (name_order name n)) files

-- this file has this name, and all others are as before
abbrev pub with_file : List ℕ → List ℕ → Files → Files
with_file name file files = insert_entry name_order files name file

-- the same, file by file
pub record SetsFile (name file : List ℕ) (old new : Files) : Type 0 where
  pub this : file_of name new ≡ Some file
  pub others : (other : List ℕ) → other ≢ name → file_of other new ≡ file_of other old

-- the names above this one; all, without one
abbrev pub is_above : Option (List ℕ) → List ℕ → Bool
is_above None name = true
is_above (Some after) name = is_lt (name_order after name)

abbrev pub first_name : Files → Option (List ℕ)
first_name [] = None
first_name (file ∷ files) = Some file.0

-- the least name above this one
abbrev pub next_name : Option (List ℕ) → Files → Option (List ℕ)
next_name after files = first_name (filter (λ file. is_above after file.0) files)
