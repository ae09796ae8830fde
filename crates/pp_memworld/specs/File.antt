-- What the log says of a file in memory.
use Rattle.std.specs.Prelude.{◌≤◌, map}
use Rattle.pp_world.specs.Disk.{Stored}
use Rattle.pp_memworld.specs.declared.file.File.TheInside.{Inside}
use Rattle.pp_memworld.specs.Edit.{range_of}

abbrev pub stored_of : Inside → Stored
stored_of f = record { bytes = f.bytes.items; synced = f.synced; end = f.end; loose = map range_of f.loose.items }

-- no file is synced past its greatest end
abbrev pub IsSound : Inside → Type 0
IsSound f = f.synced ≤ f.end
