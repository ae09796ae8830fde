use Rattle.std.proofs.Common.{◌≡◌, ◌++◌, length}
use Rattle.std.specs.Prelude.{flat_map}
use Rattle.pp_text.specs.Lists.{items_of}
use Rattle.pp_text.proofs.field_items.FieldItemsIterator.next.Given as goal

abbrev pub invariant-loop-item : goal.invariant-loop-item
invariant-loop-item l =
    l.initial.self-inside.items ++ flat_map items_of l.initial.self-inside.values ≡ l.self-inside.items ++ flat_map items_of l.self-inside.values

abbrev pub decreases-loop-item : goal.decreases-loop-item
decreases-loop-item l = length l.self-inside.values
