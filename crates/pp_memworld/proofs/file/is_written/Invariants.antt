use Rattle.std.proofs.Common.{◌≡◌, drop}
use Rattle.std.specs.Prelude.{map}
use Rattle.pp_world.specs.Disk.{is_loose}
use Rattle.pp_memworld.specs.Edit.{range_of}
use Rattle.pp_memworld.proofs.file.is_written.Given as goal

abbrev pub invariant-loop-write : goal.invariant-loop-write
invariant-loop-write l = is_loose l.at (map range_of (drop l.write-index l.writes)) ≡ is_loose l.at (map range_of l.writes)
