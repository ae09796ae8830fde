use Rattle.std.proofs.Common.{◌∙◌, ap}
use Rattle.pp_desk.specs.Closings.{peer_numbers}
use Rattle.pp_desk.proofs.ClosingLemmas.{closed_numbers}
use Rattle.pp_desk.proofs.desk.Desk.drop_with.Goals as goal

pub returns-clause-connections : goal.returns-clause-connections
returns-clause-connections c = ap peer_numbers c.close_origin.ensures.peers ∙ closed_numbers c.args.k c.args.self.now.peers
