use Rattle.std.proofs.Common.{◌∙◌, ap}
use Rattle.pp_desk.specs.Closings.{peer_numbers}
use Rattle.pp_desk.specs.declared.desk.Desk.{Desk}
use Rattle.pp_desk.proofs.ClosingLemmas.{unasked_numbers}
use Rattle.pp_desk.proofs.desk.Desk.withdraw.Goals as goal
use Rattle.pp_desk.proofs.desk.Desk.withdraw.Goals.{in-Some, in_default}

pub returns-clause-connections : goal.returns-clause-connections
returns-clause-connections c = elim c.match-place_on.branch [
  | in-Some w ↦ ap (λ (d : Desk). peer_numbers d.peers) w.self-is ∙ ap peer_numbers w.unask.ensures ∙ unasked_numbers c.args.k w.in-Some.place c.args.self.now.peers
  | in_default w ↦ ap (λ (d : Desk). peer_numbers d.peers) w.self-is
]
