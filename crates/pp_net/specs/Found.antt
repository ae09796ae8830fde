-- An event that was found for an interest set.
use Rattle.std.specs.Prelude.{◌≡◌, ℕ, IsTrue, Option, MatchOption}
use Rattle.pp_world.specs.declared.event.Event.{Event}
use Rattle.pp_world.specs.declared.event.Wants.{Wants}
use Rattle.pp_world.specs.Wire.{IsNumbered, is_wanted, top_after}

-- it is wanted; a client that it accepts has a number above all before, and no other event gives one
pub record IsFoundFor (wants : Wants) (before now : ℕ) (event : Event) : Type 0 where
  pub wanted : IsTrue (is_wanted wants event)
  pub number : IsNumbered before event
  pub top : now ≡ top_after before event

-- where nothing is found, no number is given
abbrev pub Finds : Wants → ℕ → ℕ → Option Event → Type 0
Finds wants before now result = MatchOption result (now ≡ before) (IsFoundFor wants before now)
