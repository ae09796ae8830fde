use Rattle.std.proofs.Common.{arith}
use Rattle.pp_run.proofs.TurnByTurn.{all_turns, goes_none, goes_stopped, goes_then, last_turn, linked_none, no_turn, one_more_turn}
use Rattle.pp_run.proofs.serving.serve.Goals as goal

pub loop-turn-init : goal.loop-turn-init
loop-turn-init g c = record { linked = linked_none _ _ _ c.requires.links; holds = c.requires.holds; goes = goes_none _; turns = no_turn c.args.most_turns _; faults = omega arith }

pub returns-in-Stopped : goal.returns-in-Stopped
returns-in-Stopped g c = record {
  goes = goes_stopped c.loop-turn._turn c.args.most_turns _ c.turn.result c.loop-turn-test.true c.loop-turn.invariant.goes c.turn.ensures.turn c.in-Stopped.is;
  turns = last_turn c.loop-turn._turn c.args.most_turns _ _ _ c.turn.result c.loop-turn-test.true c.in-Stopped.is c.loop-turn.invariant.turns c.turn.ensures.on;
  faults = omega (arith, c.loop-turn.invariant.faults, c.turn.ensures.faults);
}

pub loop-turn-preserved : goal.loop-turn-preserved
loop-turn-preserved g c = record {
  linked = c.turn.ensures.linked;
  holds = c.turn.ensures.holds;
  goes = goes_then c.loop-turn._turn _ c.turn.result c.loop-turn.invariant.goes c.turn.ensures.turn c.in_default.not-Stopped;
  turns = one_more_turn c.loop-turn._turn c.args.most_turns _ _ _ c.turn.result c.loop-turn-test.true c.in_default.not-Stopped c.loop-turn.invariant.turns c.turn.ensures.on;
  faults = omega (arith, c.loop-turn.invariant.faults, c.turn.ensures.faults);
}

pub returns-clause-turns : goal.returns-clause-turns
returns-clause-turns g c = all_turns c.loop-turn._turn c.args.most_turns _ _ (omega (arith, c.loop-turn-test.false)) c.loop-turn.invariant.turns
