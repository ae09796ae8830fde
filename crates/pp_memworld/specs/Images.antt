-- The first file of a folder.
use Rattle.std.specs.Prelude.{[], ◌∷◌, Option, Some, None}
use Rattle.pp_world.specs.Disk.{Bytes}
use Rattle.pp_world.specs.Files.{Files}

abbrev pub first_file : Files → Option (Bytes × Bytes)
first_file [] = None
first_file (file ∷ files) = Some file
