use Rattle.std.proofs.Common.{◌≡◌, ◌++◌, take}
use Rattle.pp_text.specs.Bytes.{lower}
use Rattle.pp_entry.proofs.lines.put_lower.Given as goal

abbrev pub invariant-loop-byte : goal.invariant-loop-byte
invariant-loop-byte l = l.out.items ≡ l.initial.out.items ++ lower (take l.byte-index l.text)
