-- A log that is told or not, and the table of the connections that are open by it.
use Rattle.std.specs.Prelude.{◌≡◌, ◌≤◌, ℕ, Bool, true, false, length, Option, Some, None}
use Rattle.std.specs.Ordering.{nat_cmp}
use Rattle.std.specs.BTreeMap.{BTreeMap, get}
use Rattle.pp_world.specs.declared.event.Side.{Side}
use Rattle.pp_world.specs.declared.happening.Happening.{Happening}
use Rattle.pp_world.specs.Connections.{side_after, side_of, top_of, top_with}
use Rattle.pp_world.specs.Log.{Log}

abbrev pub log_if : Bool → Log → Option Log
log_if true log = Some log
log_if false log = None

abbrev pub side_at : BTreeMap ℕ Side → ℕ → Option Side
side_at sides id = get nat_cmp sides id

-- while the log is told, the table is that of the log, no number of the log is above the top, and
-- each fault stands in it
pub record IsTied (told : Bool) (log : Log) (sides : BTreeMap ℕ Side) (top faults : ℕ) : Type 0 where
  pub same_sides : told ≡ true → (id : ℕ) → side_at sides id ≡ side_of id log
  pub no_number_above : told ≡ true → top_of log ≤ top
  pub faults_stand : told ≡ true → faults ≤ length log

-- no connection comes or goes by it
pub record KeepsConnections (happening : Happening) : Type 0 where
  pub side : (id : ℕ) (side : Option Side) → side_after id side happening ≡ side
  pub top : (top : ℕ) → top_with top happening ≡ top
