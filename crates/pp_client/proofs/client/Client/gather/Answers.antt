use Rattle.pp_holes.specs.Places.{shown}
use Rattle.pp_client.proofs.SaidInOrder.{front_of_left}
use Rattle.pp_client.proofs.client.Client.gather.Goals as goal

pub returns-clause-left : goal.returns-clause-left
returns-clause-left c = front_of_left c.args.self.now.reply (shown c.args.pool.now.used)
