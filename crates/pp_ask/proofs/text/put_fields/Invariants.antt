use Rattle.std.proofs.Common.{◌≡◌, ◌++◌, drop}
use Rattle.pp_ask.specs.Texts.{goes_on}
use Rattle.pp_ask.proofs.FieldLemmas.{lines}
use Rattle.pp_ask.proofs.text.put_fields.Given as goal

abbrev pub invariant-loop-index : goal.invariant-loop-index
invariant-loop-index l = l.initial.out.items ++ lines (goes_on l.kind l.fields) l.fields ≡ l.out.items ++ lines (goes_on l.kind l.fields) (drop l.index l.fields)
