use Rattle.std.proofs.Common.{◌≡◌}
use Rattle.std.specs.Prelude.{take}
use Rattle.pp_steps.specs.Begins.{BeginsReplies}
use Rattle.pp_state.specs.Ends.{numbers_of}
use Rattle.pp_steps.proofs.begin.begin_replies.Given as goal

abbrev pub invariant-loop-turn : goal.invariant-loop-turn
invariant-loop-turn l = record {
  begun : BeginsReplies (take l.turn l.initial.state.awake.items) l.initial.state l.state;
  numbers : numbers_of l.state.seats.items ≡ numbers_of l.initial.state.seats.items;
  awake : l.state.awake ≡ l.initial.state.awake;
}
