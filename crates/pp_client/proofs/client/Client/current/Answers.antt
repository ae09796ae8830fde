use Rattle.pp_client.proofs.ReadInOrder.{read_in_order}
use Rattle.pp_client.proofs.client.Client.current.Goals as goal

pub returns-clause-order : goal.returns-clause-order
returns-clause-order c = read_in_order
