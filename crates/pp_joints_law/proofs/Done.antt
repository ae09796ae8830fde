-- Where an event is handled, memory may be left.
use Rattle.std.proofs.Common.{◌≡◌, subst, ap, ℕ}
use Rattle.pp_joints_law.specs.Handled.{HandledOnesAreDone}
use Rattle.pp_law.specs.Replies.{regained}
use Rattle.pp_law.specs.State.{State}
use Rattle.pp_turns_law.specs.Rows.{AreReady}

next_as : (s h : State) → s ≡ regained h → s.next_instance ≡ h.next_instance
unfolding regained
next_as s h is = ap (λ (t : State). t.next_instance) is

pub handled_done : HandledOnesAreDone
handled_done number x s it ready = record {
  at = it.stands.law.at;
  owes = it.stands.law.owes;
  none = it.stands.law.none;
  turn = it.stands.desk.turn;
  apart = it.stands.desk.may.apart;
  awake = it.stands.awake;
  ready = subst (λ (n : ℕ). AreReady number x.desk.state.cache n x.desk.state.seats.items) (next_as s it.handled it.anew) ready;
}
