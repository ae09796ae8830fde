use Rattle.pp_links.proofs.QuietLemmas.{quiet_then}
use Rattle.pp_desk.specs.Shutting.{over_clients, over_peers}
use Rattle.pp_desk.proofs.ShuttingLemmas.{closed_then}
use Rattle.pp_desk.proofs.desk.Desk.close_over.Goals as goal

pub returns-clause-quiet : goal.returns-clause-quiet
returns-clause-quiet g c = quiet_then c.shut_clients.ensures.quiet c.drop_origins.ensures.quiet

pub returns-clause-told : goal.returns-clause-told
returns-clause-told g c =
    let d = c.args.self.now in
    closed_then (over_clients d.state) (over_peers d.state.is_stopped d.peers) c.args.links.now c.shut_clients.new.links c.shut_clients.ensures.told c.shut_clients.ensures.links c.drop_origins.ensures.told
