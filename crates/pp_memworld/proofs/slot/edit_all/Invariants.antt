use Rattle.std.proofs.Common.{◌≡◌}
use Rattle.pp_world.specs.Disk.{on_file}
use Rattle.pp_memworld.proofs.Edits.{changed_front}
use Rattle.pp_memworld.specs.Edit.{edited}
use Rattle.pp_memworld.proofs.slot.edit_all.Given as goal

abbrev pub invariant-loop-index : goal.invariant-loop-index
invariant-loop-index l = l.files ≡ changed_front (on_file (edited l.edit)) l.index l.initial.files
