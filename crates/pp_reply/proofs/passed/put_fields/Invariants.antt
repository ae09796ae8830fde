use Rattle.std.proofs.Common.{◌≡◌, ◌≤◌, ◌+◌, ◌*◌, ◌++◌, length, sum_by, drop}
use Rattle.pp_head.specs.Agreement.{field_len}
use Rattle.pp_reply.specs.Texts.{goes_on}
use Rattle.pp_reply.proofs.PassedLemmas.{lines}
use Rattle.pp_reply.proofs.passed.put_fields.Given as goal

abbrev pub invariant-loop-index : goal.invariant-loop-index
invariant-loop-index l = record {
  text : l.initial.out.items ++ lines (goes_on l.fields) l.fields ≡ l.out.items ++ lines (goes_on l.fields) (drop l.index l.fields);
  room : length l.out.items + sum_by field_len (drop l.index l.fields) + 2 * length (drop l.index l.fields) ≤ length l.initial.out.items + sum_by field_len l.fields + 2 * length l.fields;
}
