use Rattle.pp_given_law.proofs.NumbersOnce.{read_ones}
use Rattle.pp_given_law.proofs.apart.those_who_are_read_are_clients.Goals as goal

pub returns : goal.returns
returns c = read_ones
