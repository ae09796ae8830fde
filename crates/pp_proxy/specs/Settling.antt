-- Behind what is kept on the disk: decisions, and what follows of them; at the end all is closed (the order is ours).
use Rattle.std.specs.Prelude.{◌≡◌, Bool, true, false, ◌++◌}
use Rattle.pp_proxy.specs.Closing.{ClosesOver}
use Rattle.pp_proxy.specs.Deciding.{DecidesAll}
use Rattle.pp_proxy.specs.Moving.{Moving}
use Rattle.pp_proxy.specs.Rounds.{Serves}
use Rattle.pp_store.specs.Kept.{KeptMap}
use Rattle.pp_world.specs.Log.{Log}

-- at Stop all are closed
abbrev pub GoesOn : Bool → KeptMap → Moving → Log → Moving → Type 0
GoesOn true shelf x log y = ClosesOver x log y
GoesOn false shelf x log y = Serves shelf x log y

pub record Settles (shelf : KeptMap) (x : Moving) (log : Log) (y : Moving) : Type 0 where
  pub between : Moving
  pub any : Bool
  pub first : Log
  pub rest : Log
  pub log_is : log ≡ first ++ rest
  pub decides : DecidesAll shelf x first between any
  pub goes : GoesOn between.desk.state.is_stopped shelf between rest y
