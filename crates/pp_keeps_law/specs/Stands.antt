-- What stands in a turn while its keeping goes on, where nothing is left to do of what was begun (ours).
use Rattle.std.specs.Prelude.{◌≡◌, ◌≤◌, ℕ, true, false, All, find, is_some, length}
use Rattle.std.specs.List.{list_any}
use Rattle.pp_cache.specs.Bounds.{IsBounded}
use Rattle.pp_cache_law.specs.Kept.{AreKept}
use Rattle.pp_cache_law.specs.Outdated.{AreNoted}
use Rattle.pp_cache_law.specs.Tables.{ShowsCache}
use Rattle.pp_law.specs.Lists.{Bytes, has_text}
use Rattle.pp_law.specs.State.{State, Instance}
use Rattle.pp_law.specs.Store.{is_closed, run_len}
use Rattle.pp_law.specs.Table.{is_entry_of}
use Rattle.pp_laws.specs.Runs.{IsIn}
use Rattle.pp_shelf_law.specs.Kept.{HasOneRow}
use Rattle.pp_shelf_law.specs.Shelf.{IsResting}
use Rattle.pp_state.specs.declared.state.State.{State as Turn}
use Rattle.pp_store.specs.Kept.{Kept, KeptMap}

-- no entry has a closed name: what failed was noted at once
abbrev pub HasOpenNames : State → Type 0
HasOpenNames s = list_any (λ e. is_closed s e.name) s.entries ≡ false

-- a key whose name another took has an entry
abbrev pub DisplacedOnesAreThere : State → Type 0
DisplacedOnesAreThere s = (key : Bytes) → has_text key s.displaced ≡ true → is_some (find (is_entry_of key) s.entries) ≡ true

-- there is room for its key, and its body has 64 MiB at most
pub record IsShort (kept : Kept) : Type 0 where
  pub key : length kept.entry.key ≤ 8192
  pub body : kept.entry.version.length ≤ 67108864

-- what the turn shows; all of it is carried from step to step
pub record StandsToKeep (number : ℕ → ℕ) (p : Turn) (shelf : KeptMap) (s : State) : Type 0 where
  -- the shelf shows the law's entries and closed names
  pub rests : IsResting shelf s
  -- the cache shows its table, and each is bounded
  pub cache : ShowsCache number p.cache s
  pub bounded : IsBounded p.cache
  -- entries that stand no more are noted by their names
  pub noted : AreNoted p.cache.outdated s.displaced s.entries
  pub names : HasOpenNames s
  -- `clear` displaces those alone that have one, and `note_gone` takes it out with it (Carried of `pp_joints_law`)
  pub displaced : DisplacedOnesAreThere s
  -- row_at gives no other, of a folder (OpenedRowsAreShort of `pp_joints_law`)
  pub short : All IsShort shelf.rows
  -- the flag of both is cleared by a tick
  pub lost : p.has_lost_draft ≡ s.has_lost_draft
  -- RowsStandAlone of pp_shelf_law
  pub alone : HasOneRow s
  -- of each row that a lawful log leads to (`pp_laws_fields`)
  pub fields : (x : Instance) → IsIn x s.instances → AreKept x.fields x.times
  -- ShowsTurn of pp_turns_law
  pub clock : p.now ≡ s.clock
  -- IsSet of the opening; and a setting is 64 at most
  pub run : p.run ≡ run_len s
  pub few : run_len s ≤ 64
