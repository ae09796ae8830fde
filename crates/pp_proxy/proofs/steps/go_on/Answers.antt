use Rattle.std.proofs.Common.{sym, subst, refl, Bool}
use Rattle.pp_desk.specs.declared.desk.Desk.{Desk}
use Rattle.pp_proxy.proofs.StepsLemmas.{closes_on}
use Rattle.pp_proxy.specs.Moving.{LeadsOn, moving}
use Rattle.pp_proxy.specs.Settling.{GoesOn}
use Rattle.pp_proxy.proofs.steps.go_on.Goals as goal

pub returns-then-desk-clause-is : goal.returns-then-desk-clause-is
returns-then-desk-clause-is g c = λ seated.
    let old : Desk = c.args.desk.now in
    let new : Desk = c.close_over.new.self in
    let top = g.W.Logged.top in
    let log = g.W.Logged.log in
    let faults = g.W.Logged.faults in
    let step = c.close_over.ensures in
    let x = moving old c.args.links.now (top c.args.world.now) in
    let y = moving new c.close_over.new.links (top c.close_over.new.world) in
    subst (λ (b : Bool). LeadsOn (GoesOn b c.args.shelf.now) x y (log c.args.world.now) (log c.close_over.new.world) (faults c.args.world.now) (faults c.close_over.new.world)) (sym c.if-desk.true)
    (closes_on x y (log c.args.world.now) (log c.close_over.new.world) (faults c.args.world.now) (faults c.close_over.new.world)
    (record { log_is = refl; links = step.links; top = step.top; seats = step.seats; awake = step.awake; room = step.room; peers = step.peers; rest = step.rest }) step.told step.faults)
