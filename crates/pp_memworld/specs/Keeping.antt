-- What a folder in memory keeps of the log, where that is told.
use Rattle.std.specs.Prelude.{◌≡◌, Bool, true, map, Option, Some}
use Rattle.std.specs.List.{list_all}
use Rattle.pp_world.specs.declared.happening.Happening.{Happening}
use Rattle.pp_world.specs.Disk.{Bytes, View, image_after, image_of, view_after}
use Rattle.pp_world.specs.Files.{Files}
use Rattle.pp_world.specs.Log.{Log}
use Rattle.pp_memworld.specs.declared.folder.Folder.{Folder}
use Rattle.pp_memworld.specs.Folder.{Follows, is_sound}
use Rattle.pp_memworld.specs.Slots.{rested}

-- while the log is told, the folder has what the log says, the files of the last image as long as nothing was changed, and
-- each image of the log is listed
pub record Keeps (told : Bool) (log : Log) (folder : Folder) : Type 0 where
  pub follows : told ≡ true → Follows log folder
  pub rests : told ≡ true → (files : Files) → image_of log ≡ Some files → folder.slots.entries ≡ map rested files
  pub sound : told ≡ true → list_all is_sound log ≡ true

-- no file changes by it, and no operation on one fails
pub record KeepsFiles (happening : Happening) : Type 0 where
  pub draft : (name : Bytes) (view : View) → (view_after name view happening).draft ≡ view.draft
  pub slot : (name : Bytes) (view : View) → (view_after name view happening).slot ≡ view.slot
  pub failed : (name : Bytes) (view : View) → (view_after name view happening).failed ≡ view.failed
  pub image : (image : Option Files) → image_after image happening ≡ image
  pub sound : is_sound happening ≡ true
