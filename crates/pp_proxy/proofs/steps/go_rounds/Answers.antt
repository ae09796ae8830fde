use Rattle.std.proofs.Common.{◌≡◌, true, false, subst, sym, arith}
use Rattle.std.proofs.lemmas.Grind.{common_steps}
use Rattle.pp_links.proofs.QuietLemmas.{quiet_none, quiet_then}
use Rattle.pp_proxy.proofs.RoundsLemmas.{all_rounds, most_rounds, no_round, one_more_round}
use Rattle.pp_proxy.specs.Moving.{LeadsOn, moving, with_state}
use Rattle.pp_proxy.specs.Rounds.{GoRounds}
use Rattle.pp_state.specs.Ends.{AreSeated}
use Rattle.pp_state.specs.declared.state.State.{State}
use Rattle.pp_proxy.proofs.steps.go_rounds.Goals as goal

pub loop-round-init : goal.loop-round-init
loop-round-init g c = record {
  linked = c.requires;
  quiet = quiet_none _;
  is = λ seated. no_round c.args.shelf.now (moving c.args.desk.now c.args.links.now (g.W.Logged.top c.args.world.now)) (g.W.Logged.log c.args.world.now) (g.W.Logged.faults c.args.world.now);
  seated = λ seated. seated;
  faults = omega (arith);
}

pub loop-round-preserved : goal.loop-round-preserved
loop-round-preserved g c =
    let top = g.W.Logged.top in
    let log = g.W.Logged.log in
    let faults = g.W.Logged.faults in
    let before = c.loop-round.invariant in
    let step = c.go_round-is_decided.ensures in
    let new = c.go_round-is_decided.new in
    let goes : c.loop-round.is_decided ≡ true = grind (arith, common_steps) in
    record {
      linked = step.linked;
      quiet = quiet_then before.quiet step.quiet;
      is = λ seated.
          one_more_round c.loop-round._round c.args.shelf.now (moving c.args.desk.now c.args.links.now (top c.args.world.now)) (moving c.loop-round.desk c.loop-round.links (top c.loop-round.world)) (moving new.desk new.links (top new.world))
          c.loop-round.is_decided c.go_round-is_decided.result (log c.args.world.now) (log c.loop-round.world) (log new.world) (faults c.args.world.now) (faults c.loop-round.world) (faults new.world)
          c.loop-round-test.true goes (before.is seated) (step.is (before.seated seated));
      seated = λ seated. step.seated (before.seated seated);
      faults = omega (arith, before.faults, step.faults);
    }

pub returns-clause-is : goal.returns-clause-is
returns-clause-is g c = λ seated.
    let top = g.W.Logged.top in
    let log = g.W.Logged.log in
    let faults = g.W.Logged.faults in
    let shelf = c.args.shelf.now in
    let x = moving c.args.desk.now c.args.links.now (top c.args.world.now) in
    let mid = moving c.loop-round.desk c.loop-round.links (top c.loop-round.world) in
    subst (λ (s : State). LeadsOn (λ a l b. GoRounds 65536 shelf true a l b) x (with_state s mid) (log c.args.world.now) (log c.loop-round.world) (faults c.args.world.now) (faults c.loop-round.world)) (sym c.note_more.ensures)
    (most_rounds c.loop-round._round shelf x mid c.loop-round.is_decided (log c.args.world.now)
    (log c.loop-round.world) (faults c.args.world.now) (faults c.loop-round.world) (omega (arith, c.loop-round-test.false)) (c.loop-round.invariant.is seated))

pub returns-clause-seated : goal.returns-clause-seated
returns-clause-seated g c = λ seated. subst (λ (s : State). AreSeated s) (sym c.note_more.ensures) (c.loop-round.invariant.seated seated)

pub returns-then-not-is_decided-clause-is : goal.returns-then-not-is_decided-clause-is
returns-then-not-is_decided-clause-is g c = λ seated.
    let top = g.W.Logged.top in
    let log = g.W.Logged.log in
    let faults = g.W.Logged.faults in
    let none : c.loop-round.is_decided ≡ false = grind (arith, common_steps) in
    all_rounds c.loop-round._round c.args.shelf.now (moving c.args.desk.now c.args.links.now (top c.args.world.now)) (moving c.loop-round.desk c.loop-round.links (top c.loop-round.world)) c.loop-round.is_decided (log c.args.world.now)
    (log c.loop-round.world) (faults c.args.world.now) (faults c.loop-round.world) none (c.loop-round.invariant.is seated)
