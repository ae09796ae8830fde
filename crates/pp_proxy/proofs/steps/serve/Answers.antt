use Rattle.std.proofs.Common.{sym, subst, ℕ, List}
use Rattle.pp_proxy.proofs.RoundsLemmas.{serves_on}
use Rattle.pp_proxy.specs.Moving.{moving}
use Rattle.pp_state.specs.Ends.{AreInOrder}
use Rattle.pp_proxy.proofs.steps.serve.Goals as goal

pub returns-clause-is : goal.returns-clause-is
returns-clause-is g c = λ seated.
    let top = g.W.Logged.top in
    let log = g.W.Logged.log in
    let faults = g.W.Logged.faults in
    let mid = c.go_rounds.new in
    serves_on c.args.shelf.now (moving c.args.desk.now c.args.links.now (top c.args.world.now)) (moving mid.desk mid.links (top mid.world)) c.begin_replies.new.state (log c.args.world.now) (log mid.world) (faults c.args.world.now)
    (faults mid.world) (c.go_rounds.ensures.is seated) c.begin_replies.ensures.is c.begin_replies.ensures.numbers

pub returns-clause-seated : goal.returns-clause-seated
returns-clause-seated g c = λ seated. subst (λ (ns : List ℕ). AreInOrder ns) (sym c.begin_replies.ensures.numbers) (c.go_rounds.ensures.seated seated)
