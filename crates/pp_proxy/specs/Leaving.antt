-- Behind the event: attempts count anew, rows and chunks leave memory, and asks that bring nothing are given up (the order is ours).
use Rattle.std.specs.Prelude.{◌≡◌}
use Rattle.pp_desk.specs.declared.desk.Desk.{Desk}
use Rattle.pp_proxy.specs.Moving.{Moving}
use Rattle.pp_proxy.specs.Rounds.{GivesUp}
use Rattle.pp_state.specs.Bodies.{IsButForCells}
use Rattle.pp_state.specs.Ends.{all_regained, numbers_of}
use Rattle.pp_steps.specs.Evicting.{leaving_notes, left_memory}
use Rattle.pp_world.specs.Log.{Log}

-- attempts count anew for those whose next byte is held
pub record Regains (old new : Desk) : Type 0 where
  pub is : new.state.seats.items ≡ all_regained old.state.cache old.state.awake.items old.state.seats.items
  pub numbers : numbers_of new.state.seats.items ≡ numbers_of old.state.seats.items
  pub rest : record new { state = record new.state { seats = old.state.seats } } ≡ old

pub record LeavesMemory (old new : Desk) : Type 0 where
  pub is : IsButForCells (left_memory old.state) new.state
  pub rest : record new { state = old.state } ≡ old

pub record Leaves (x : Moving) (log : Log) (y : Moving) : Type 0 where
  pub anew : Desk
  pub left : Desk
  pub log_is : log ≡ leaving_notes anew.state
  pub regains : Regains x.desk anew
  pub leaves : LeavesMemory anew left
  pub gives : GivesUp left y.desk
  pub links : y.links ≡ x.links
  pub top : y.top ≡ x.top
