use Rattle.std.proofs.Common.{◌≡◌, ℕ, drop, Option}
use Rattle.pp_seats.specs.declared.due.Due.{Due}
use Rattle.pp_due.specs.Entering.{FirstDue}
use Rattle.pp_state.specs.declared.state.State.{State}
use Rattle.pp_due.proofs.due.first_due.Given as goal

abbrev pub invariant-loop-turn : goal.invariant-loop-turn
invariant-loop-turn l = record {
  awake : l.state.awake ≡ l.fn.state.awake;
  later : (new : State) (found : Option (ℕ × Due)) → FirstDue l.shelf (drop l.turn l.fn.state.awake.items) l.state new found → FirstDue l.shelf l.fn.state.awake.items l.fn.state new found;
}
