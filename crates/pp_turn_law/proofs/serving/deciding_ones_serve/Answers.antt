use Rattle.pp_turn_law.proofs.Serves.{deciding_serve, handled_serve}
use Rattle.pp_turn_law.proofs.serving.deciding_ones_serve.Goals as goal

pub returns : goal.returns
returns c = record { deciding = deciding_serve; handled = handled_serve }
