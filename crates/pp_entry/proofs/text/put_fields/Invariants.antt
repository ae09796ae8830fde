use Rattle.std.proofs.Common.{◌≡◌, ◌++◌, take}
use Rattle.pp_text.specs.Lines.{lines_of}
use Rattle.pp_entry.proofs.text.put_fields.Given as goal

abbrev pub invariant-loop-index : goal.invariant-loop-index
invariant-loop-index l = l.out.items ≡ l.initial.out.items ++ lines_of (take l.index l.fields)
