use Rattle.std.proofs.Common.{◌≡◌, drop, ◌++◌, flat_map}
use Rattle.pp_access.specs.Lines.{escaped}
use Rattle.pp_access.proofs.line.put_escaped.Given as goal

-- what is written, and what is left
abbrev pub invariant-loop-byte : goal.invariant-loop-byte
invariant-loop-byte l = l.initial.out.items ++ flat_map escaped l.fn.bytes ≡ l.out.items ++ flat_map escaped (drop l.byte-index l.bytes)
