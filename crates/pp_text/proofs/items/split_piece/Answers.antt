use Rattle.std.proofs.Common.{sym}
use Rattle.pp_text.specs.declared.quoting.Quoting.TheVariants.{Outside}
use Rattle.pp_text.proofs.Pieces.{split_all}
use Rattle.pp_text.proofs.items.split_piece.Goals as goal

pub loop-index-init : goal.loop-index-init
loop-index-init c = sym (split_all Outside c.args.text.now)
