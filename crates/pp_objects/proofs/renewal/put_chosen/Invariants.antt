use Rattle.std.proofs.Common.{filter, take}
use Rattle.pp_objects.specs.Texts.{AddsFields, is_chosen}
use Rattle.pp_objects.proofs.renewal.put_chosen.Given as goal

abbrev pub invariant-loop-index : goal.invariant-loop-index
invariant-loop-index l = AddsFields l.initial.text l.text (filter (is_chosen l.choice l.fields) (take l.index l.fields))
