use Rattle.std.proofs.Common.{◌≡◌, ◌≤◌, ◌+◌, ◌++◌, filter, length, drop}
use Rattle.pp_text.specs.Lines.{lines_of}
use Rattle.pp_reply.specs.Kept.{is_described}
use Rattle.pp_reply.proofs.kept.put_described.Given as goal

abbrev pub invariant-loop-index : goal.invariant-loop-index
invariant-loop-index l = record {
  text : l.initial.out.items ++ lines_of (filter is_described l.fields) ≡ l.out.items ++ lines_of (filter is_described (drop l.index l.fields));
  room : length l.out.items + length (lines_of (drop l.index l.fields)) ≤ length l.initial.out.items + length (lines_of l.fields);
}
