-- What happenings leave that are none of the disk (ours).
use Rattle.std.specs.Prelude.{◌≡◌, ◌||◌, Bool, true, false, find, is_some, map, not, List, ◌++◌}
use Rattle.std.specs.List.{list_all}
use Rattle.pp_law.specs.Lists.{Bytes, has_text}
use Rattle.pp_law.specs.Phases.{is_awaiting, is_under_way}
use Rattle.pp_law.specs.State.{State, Entry, Term}
use Rattle.pp_law.specs.Table.{is_entry_of}
use Rattle.pp_laws_crash.specs.Changes.{changes_disk}
use Rattle.pp_obeys.specs.Obeys.{Obeys}
use Rattle.pp_world.specs.Log.{Log}

-- none of them is of the disk, nor of the opening of a life
abbrev pub AreQuiet : Log → Type 0
AreQuiet hs = list_all (λ h. not (changes_disk h)) hs ≡ true

-- an entry, but for whether it stands still for its row
abbrev pub but_for_stale : Entry → Entry
but_for_stale e = record e { is_stale = false }

-- a key whose name another took has an entry
abbrev pub AreDisplaced : State → Type 0
AreDisplaced s = (key : Bytes) → has_text key s.displaced ≡ true → is_some (find (is_entry_of key) s.entries) ≡ true

pub record IsLeftOnDisk (s t : State) : Type 0 where
  pub entries : map but_for_stale t.entries ≡ map but_for_stale s.entries
  pub closed : t.closed_names ≡ s.closed_names
  pub under_way : t.under_way ≡ s.under_way
  pub agenda : t.agenda ≡ s.agenda
  pub settings : t.settings ≡ s.settings
  -- there may be more of these
  pub displaced : AreDisplaced s → AreDisplaced t

-- between two turns, or amid one
abbrev pub takes_turns : State → Bool
takes_turns s = is_awaiting s || is_under_way s

-- from such a state that the log goes on as from, to any that it does behind them
abbrev pub QuietOnesLeaveTheDisk : Type 0
QuietOnesLeaveTheDisk = (terms : List Term) (before hs : Log) (s t : State) → Obeys terms s before → Obeys terms t (before ++ hs) → takes_turns s ≡ true → AreQuiet hs → IsLeftOnDisk s t
