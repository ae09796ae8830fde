use Rattle.pp_laws_sent.proofs.Hosts.{asks_go}
use Rattle.pp_laws_sent.proofs.stands.asks_go_to_their_hosts.Goals as goal

pub returns : goal.returns
returns c = record { dialled = asks_go }
