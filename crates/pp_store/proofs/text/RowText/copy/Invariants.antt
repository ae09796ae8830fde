use Rattle.std.proofs.Common.{◌≡◌, take}
use Rattle.pp_store.proofs.text.RowText.copy.Given as goal

abbrev pub invariant-loop-index : goal.invariant-loop-index
invariant-loop-index l = l.text ≡ record { key = l.key; fields = take l.index l.fields }
