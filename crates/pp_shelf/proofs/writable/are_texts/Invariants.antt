use Rattle.std.proofs.Common.{◌≡◌, true, take}
use Rattle.std.specs.List.{list_all}
use Rattle.pp_shelf.specs.Texts.{is_text}
use Rattle.pp_shelf.proofs.writable.are_texts.Given as goal

abbrev pub invariant-loop-index : goal.invariant-loop-index
invariant-loop-index l = list_all is_text (take l.index l.fields) ≡ true
