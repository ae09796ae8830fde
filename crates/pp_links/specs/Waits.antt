-- A wait, and what comes of it.
use Rattle.std.specs.Prelude.{◌≡◌, ◌≤◌, ℕ, IsTrue, List, [], ◌∷◌, ◌++◌, Option, Some, None}
use Rattle.pp_world.specs.declared.event.Event.{Event}
use Rattle.pp_world.specs.declared.event.Event.TheVariants.{Stop, Tick, Accepted, Readable, Writable, Reached, Broken}
use Rattle.pp_world.specs.declared.event.Side.TheVariants.{Client}
use Rattle.pp_world.specs.declared.event.Wants.{Wants}
use Rattle.pp_world.specs.declared.happening.Happening.TheVariants.{Shut}
use Rattle.pp_world.specs.Log.{Log, AppendsAll}
use Rattle.pp_world.specs.Wire.{IsNewNumber, is_wanted, wait_happenings}
use Rattle.pp_links.specs.Links.{Link, max_links}
use Rattle.pp_links.specs.Quiet.{GrowsBy, IsQuiet}

abbrev pub newcomer_of : Event → Option ℕ
newcomer_of Stop = None
newcomer_of (Tick seconds) = None
newcomer_of (Accepted c) = Some c
newcomer_of (Readable id) = None
newcomer_of (Writable id) = None
newcomer_of (Reached k) = None
newcomer_of (Broken k) = None

abbrev pub joined : Option ℕ → List Link → List Link
joined None links = links
joined (Some c) links = links ++ (c, Client) ∷ []

-- a client that was accepted stands behind the others, unless it was turned away
abbrev pub links_after : Option Event → List Link → List Link
links_after None links = links
links_after (Some event) links = joined (newcomer_of event) links

-- a client was accepted for whom there was no room, and it was closed
pub record TurnsAway (count : ℕ) (wants : Wants) (old new : Option Log) (before now : ℕ) : Type 0 where
  pub client : ℕ
  pub full : max_links ≤ count
  pub wanted : IsTrue (is_wanted wants (Accepted client))
  pub number : IsNewNumber before client
  pub top : now ≡ client
  pub told : AppendsAll old new (λ l. wait_happenings wants (Accepted client) ++ Shut client ∷ [])

-- one wait, and behind its event nothing but such a closing
pub record WaitsOnce (wants : Wants) (old new : Option Log) : Type 0 where
  pub event : Event
  pub wanted : IsTrue (is_wanted wants event)
  pub grows : GrowsBy (wait_happenings wants event) IsQuiet old new
