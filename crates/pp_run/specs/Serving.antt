-- Turns, one after the other, as they stand in a log.
use Rattle.std.specs.Prelude.{◌≡◌, ◌<◌, ◌⊎◌, ℕ, zero, suc, Bool, true, false, ◌&&◌, List, ◌++◌, length}
use Rattle.std.specs.List.{flat_map, list_all}
use Rattle.pp_world.specs.declared.event.Event.{Event}
use Rattle.pp_world.specs.declared.event.Event.TheVariants.{Stop}
use Rattle.pp_world.specs.declared.event.Wants.{Wants}
use Rattle.pp_world.specs.Log.{Log}
use Rattle.pp_world.specs.Wire.{wait_happenings}
use Rattle.pp_shelf.specs.Steady.{IsSteady, is_steady}
use Rattle.pp_proxy.specs.Awaiting.{Standing, TurnsOn}
use Rattle.pp_proxy.specs.Turns.{turn_by}
use Rattle.pp_proxy.specs.declared.proxy.Turn.{Turn}
use Rattle.pp_proxy.specs.declared.proxy.Turn.TheVariants.{Went, Stopped}

pub record LoggedTurn : Type 0 where
  pub wants : Wants
  pub event : Event
  pub rest : Log

abbrev pub turn_happenings : LoggedTurn → Log
turn_happenings turn = wait_happenings turn.wants turn.event ++ turn.rest

abbrev pub is_going : Turn → Bool
is_going Went = true
is_going Stopped = false

-- its rest is steady, and the world did not stop it
abbrev pub went_on : LoggedTurn → Bool
went_on turn = list_all is_steady turn.rest && is_going (turn_by turn.event)

-- so many turns, and the world stopped none of them
pub record GoesOn (count : ℕ) (log : Log) : Type 0 where
  pub turns : List LoggedTurn
  pub counted : length turns ≡ count
  pub going : list_all went_on turns ≡ true
  pub log_is : log ≡ flat_map turn_happenings turns

-- fewer turns than these, and then one that the world stopped
pub record IsStoppedWithin (most : ℕ) (log : Log) : Type 0 where
  pub count : ℕ
  pub fewer : count < most
  pub front : Log
  pub goes : GoesOn count front
  pub last : LoggedTurn
  pub stopped : last.event ≡ Stop
  pub steady : IsSteady last.rest
  pub log_is : log ≡ front ++ turn_happenings last

-- turns until the world stops one, or so many: each waits once, and behind a stop there is none
abbrev pub GoesUpTo : ℕ → Log → Type 0
GoesUpTo most log = GoesOn most log ⊎ IsStoppedWithin most log

-- ---- the same of what the proxy has between them

-- each goes on from where the one before it led, until the world stops one; so many at most
unfoldable pub TurnsUpTo : ℕ → Standing → Standing → Type 0
TurnsUpTo zero x y = y ≡ x
TurnsUpTo (suc more) x y = ((next : Standing) × TurnsOn Went x next × TurnsUpTo more next y) ⊎ TurnsOn Stopped x y
