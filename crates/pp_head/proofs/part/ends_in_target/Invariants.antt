use Rattle.std.proofs.Common.{◌≡◌, take}
use Rattle.pp_head.specs.Part.{part_of}
use Rattle.pp_head.proofs.part.ends_in_target.Given as goal

abbrev pub invariant-loop-b : goal.invariant-loop-b
invariant-loop-b l = l.part ≡ part_of (take l.b-index l.bytes)
