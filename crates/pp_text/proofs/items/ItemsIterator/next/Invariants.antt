use Rattle.std.proofs.Common.{◌≡◌, length}
use Rattle.pp_text.specs.Lists.{items_of}
use Rattle.pp_text.proofs.items.ItemsIterator.next.Given as goal

abbrev pub invariant-loop-self : goal.invariant-loop-self
invariant-loop-self l = items_of l.initial.self-inside.rest.now ≡ items_of l.self-inside.rest.now

abbrev pub decreases-loop-self : goal.decreases-loop-self
decreases-loop-self l = length l.self-inside.rest.now
