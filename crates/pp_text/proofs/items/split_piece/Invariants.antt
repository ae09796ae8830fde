use Rattle.std.proofs.Common.{◌≡◌, take, drop}
use Rattle.pp_text.specs.declared.quoting.Quoting.TheVariants.{Outside}
use Rattle.pp_text.specs.Lists.{split_from}
use Rattle.pp_text.proofs.Pieces.{onto_front}
use Rattle.pp_text.proofs.items.split_piece.Given as goal

abbrev pub invariant-loop-index : goal.invariant-loop-index
invariant-loop-index l = split_from Outside l.text ≡ onto_front (take l.index l.text) (split_from l.quoting (drop l.index l.text))
