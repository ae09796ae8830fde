use Rattle.pp_given_law.proofs.CountedPieces.{behind_pieces}
use Rattle.pp_given_law.proofs.pieces.what_is_dropped_stays_counted_behind_pieces.Goals as goal

pub returns : goal.returns
returns c = behind_pieces
