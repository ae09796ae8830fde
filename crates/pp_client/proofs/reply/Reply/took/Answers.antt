use Rattle.std.proofs.Common.{◌≤◌, subst}
use Rattle.pp_client.specs.Replies.{Reply, interim_left}
use Rattle.pp_client.proofs.SaidInOrder.{said_first}
use Rattle.pp_client.proofs.reply.Reply.took.Goals as goal

pub returns-in-Begun-clause-first : goal.returns-in-Begun-clause-first
returns-in-Begun-clause-first c =
    said_first c.args.n c.args.self.now (subst (λ (r : Reply). interim_left r.interim ≤ 25) c.self.view_is c.self.invariant.interim) c.requires
