-- Which connections are open in a log: those of the law's state (ours).
use Rattle.std.specs.Prelude.{◌≡◌, ℕ, Bool, true, false, is_some, List, Option, Some, None}
use Rattle.pp_world.specs.Connections.{side_of}
use Rattle.pp_world.specs.Log.{Log}
use Rattle.pp_world.specs.declared.event.Side.{Side}
use Rattle.pp_world.specs.declared.event.Side.TheVariants.{Client as OfClient, Origin}
use Rattle.pp_law.specs.Connections.{client}
use Rattle.pp_law.specs.Permits.{has_conn}
use Rattle.pp_law.specs.State.{State, Term}
use Rattle.pp_obeys.specs.Obeys.{Obeys}

-- a client's; an origin's, where it is no client's; or nobody's
abbrev pub side_by : Bool → Bool → Option Side
side_by true of_origin = Some OfClient
side_by false true = Some Origin
side_by false false = None

-- whose the connection of this number is: one that is closing is still there, one that was shut or dropped is not
abbrev pub side_in : State → ℕ → Option Side
side_in s n = side_by (is_some (client s n)) (has_conn s n)

-- in each state that the log goes on as from, between two turns and amid one
abbrev pub SidesAreTheLaws : Type 0
SidesAreTheLaws = (terms : List Term) (s : State) (log : Log) → Obeys terms s log → (n : ℕ) → side_of n log ≡ side_in s n
