use Rattle.std.proofs.Common.{◌≡◌, ◌≤◌, ◌+◌, ◌++◌, length, drop}
use Rattle.pp_text.specs.Lines.{lines_of}
use Rattle.pp_reply.proofs.kept.put_all.Given as goal

abbrev pub invariant-loop-index : goal.invariant-loop-index
invariant-loop-index l = record {
  text : l.initial.out.items ++ lines_of l.fields ≡ l.out.items ++ lines_of (drop l.index l.fields);
  room : length l.out.items + length (lines_of (drop l.index l.fields)) ≤ length l.initial.out.items + length (lines_of l.fields);
}
