use Rattle.std.proofs.Common.{ap, slice_get, refl, arith}
use Rattle.pp_desk.specs.Replies.{without_finished_at}
use Rattle.pp_desk.specs.declared.desk.Desk.{Desk}
use Rattle.pp_desk.proofs.OriginLemmas.{done_next, done_whole}
use Rattle.pp_desk.proofs.desk.Desk.close_finished.Goals as goal

pub loop-turn-init : goal.loop-turn-init
loop-turn-init c = record { is = λ seated. refl; numbers = refl; rest = refl }

pub loop-turn-preserved : goal.loop-turn-preserved
loop-turn-preserved c =
    let step = c.close_finished_in_turn.ensures in
    done_next without_finished_at c.args.self.now.state.awake.items c.loop-turn.turn (slice_get c.loop-turn.self.state.awake.items c.loop-turn.turn) c.args.self.now c.loop-turn.self c.close_finished_in_turn.new.self c.loop-turn.invariant
    (ap (λ (d : Desk). slice_get d.state.awake.items c.loop-turn.turn) c.loop-turn.invariant.rest) step.is step.numbers step.rest

pub returns-clause-is : goal.returns-clause-is
returns-clause-is c = done_whole without_finished_at c.args.self.now.state.awake.items c.loop-turn.turn c.args.self.now c.loop-turn.self (omega (arith, c.loop-turn-test.false, c.len-turn-end.ensures)) c.loop-turn.invariant
