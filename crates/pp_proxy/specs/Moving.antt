-- What a turn changes together, and what the log gets of it (ours).
use Rattle.std.specs.Prelude.{ℕ, List, Option}
use Rattle.pp_desk.specs.declared.desk.Desk.{Desk}
pub use Rattle.pp_links.specs.Leading.{LeadsOn}
use Rattle.pp_links.specs.Links.{Link}
use Rattle.pp_state.specs.declared.state.State.{State}
use Rattle.pp_store.specs.Kept.{KeptMap}
use Rattle.pp_world.specs.Log.{Log}

-- ---- the desk, the connections that are open, and the greatest number that was given

pub record Moving : Type 0 where
  pub desk : Desk
  pub links : List Link
  pub top : ℕ

abbrev pub moving : Desk → List Link → ℕ → Moving
moving d links top = record { desk = d; links = links; top = top }

abbrev pub with_desk : Desk → Moving → Moving
with_desk d x = record x { desk = d }

abbrev pub with_state : State → Moving → Moving
with_state s x = record x { desk = record x.desk { state = s } }

-- ---- the same with what is kept on the disk, and what the outside tells and counts

pub record Turning : Type 0 where
  pub shelf : KeptMap
  pub moving : Moving
  pub log : Option Log
  pub faults : ℕ

abbrev pub turning : KeptMap → Desk → List Link → ℕ → Option Log → ℕ → Turning
turning shelf d links top log faults = record { shelf = shelf; moving = moving d links top; log = log; faults = faults }

abbrev pub at_desk : Desk → Turning → Turning
at_desk d x = record x { moving = with_desk d x.moving }
