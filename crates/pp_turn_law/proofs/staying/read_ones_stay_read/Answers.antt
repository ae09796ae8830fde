use Rattle.pp_turn_law.proofs.AwakeOn.{read_on}
use Rattle.pp_turn_law.proofs.staying.read_ones_stay_read.Goals as goal

pub returns : goal.returns
returns c = read_on
