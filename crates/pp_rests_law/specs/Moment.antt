-- What is known, beside what the turn shows, of the moment in which a decision is found. All of it is ours.
use Rattle.std.specs.Prelude.{◌<◌, ◌-◌, ◌^◌, List}
use Rattle.pp_law.specs.State.{State, Term}
use Rattle.pp_obeys.specs.Obeys.{Obeys}
use Rattle.pp_world.specs.Log.{Log}

pub record IsMoment (terms : List Term) (before : Log) (s : State) : Type 0 where
  -- the log goes on as from this state
  pub obeys : Obeys terms s before
  -- the count of exchanges does not end with the next one: a premise of the life, which one of less than 2 ^ 64 exchanges meets
  pub numbers : s.next_exchange < 2 ^ 64 - 1
