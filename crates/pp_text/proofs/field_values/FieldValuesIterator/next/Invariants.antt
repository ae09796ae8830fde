use Rattle.std.proofs.Common.{◌≡◌, ◌-◌, length, drop}
use Rattle.pp_text.specs.Fields.{values_of}
use Rattle.pp_text.proofs.field_values.FieldValuesIterator.next.Given as goal

abbrev pub invariant-loop-self : goal.invariant-loop-self
invariant-loop-self l =
    let was = l.initial.self-inside in
    let is = l.self-inside in
    values_of was.name.now (drop was.next was.fields) ≡ values_of is.name.now (drop is.next is.fields)

abbrev pub decreases-loop-self : goal.decreases-loop-self
decreases-loop-self l = length l.self-inside.fields - l.self-inside.next
