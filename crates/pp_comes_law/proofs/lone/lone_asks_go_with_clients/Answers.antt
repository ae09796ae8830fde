use Rattle.pp_comes_law.proofs.LoneLaws.{lone_go_with_clients}
use Rattle.pp_comes_law.proofs.lone.lone_asks_go_with_clients.Goals as goal

pub returns : goal.returns
returns c = record { awaited = lone_go_with_clients }
