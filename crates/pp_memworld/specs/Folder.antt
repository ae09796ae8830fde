-- What a folder in memory is to the log.
use Rattle.std.specs.Prelude.{◌≡◌, Bool, true, nat_lt, ◌&&◌, List, [], ◌∷◌, ◌++◌, length, map, filter, take, cond}
use Rattle.pp_world.specs.declared.happening.Happening.{Happening}
use Rattle.pp_world.specs.declared.happening.Happening.TheVariants.{Woke}
use Rattle.pp_world.specs.Disk.{Bytes, View, is_name, is_rising, view_after, view_of}
use Rattle.pp_world.specs.Log.{Log}
use Rattle.pp_memworld.specs.declared.folder.Folder.{Folder}
use Rattle.pp_memworld.specs.Failures.{has_failed}
use Rattle.pp_memworld.specs.Slots.{Candidates, files_at, first_of, is_file}

-- what a log says of this name is what the folder has
pub record IsShown (name : Bytes) (view : View) (folder : Folder) : Type 0 where
  pub draft : view.draft ≡ folder.draft
  pub slot : view.slot ≡ files_at name folder.slots
  pub failed : view.failed ≡ has_failed name folder.failed

-- where it is so before a happening, it is so after it
pub record Hears (happening : Happening) (old new : Folder) : Type 0 where
  pub hears : (name : Bytes) (view : View) → IsShown name view old → IsShown name (view_after name view happening) new

pub record Follows (log : Log) (folder : Folder) : Type 0 where
  pub shown : (name : Bytes) → IsShown name (view_of name log) folder

-- each Woke of a log has a listed image
abbrev pub is_sound : Happening → Bool
is_sound (Woke files) = is_rising (map (λ file. file.0) files)
is_sound happening = true

-- the names that files have
abbrev pub standing_in : List (Bytes × Candidates) → List Bytes
standing_in slots = map (λ slot. slot.0) (filter (λ slot. is_file (first_of slot.1)) slots)

abbrev pub listed_in : List (Bytes × Candidates) → List Bytes
listed_in slots = take 65536 (filter is_name (standing_in slots))

-- one more, where a file has the name and there is room
abbrev pub listed_one : Bytes → Candidates → List Bytes → List Bytes
listed_one name slot names = cond ((nat_lt (length names) 65536 && is_file (first_of slot)) && is_name name) (names ++ name ∷ []) names
