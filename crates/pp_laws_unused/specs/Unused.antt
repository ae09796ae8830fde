-- What a life has in its opening, before it waits for the first event. All of it is ours.
use Rattle.std.specs.Prelude.{◌≡◌, true, List}
use Rattle.pp_law.specs.Opening.{is_opening}
use Rattle.pp_law.specs.State.{State, Term}
use Rattle.pp_obeys.specs.Obeys.{Obeys}
use Rattle.pp_opening_law.specs.Openings.{IsUnused}
use Rattle.pp_world.specs.Log.{Log}

-- nobody is there and nothing is in memory in each state of an opening that a lawful log may go on as from
abbrev pub OpeningsAreUnused : Type 0
OpeningsAreUnused = (terms : List Term) (s : State) (log : Log) → Obeys terms s log → is_opening s ≡ true → IsUnused s
