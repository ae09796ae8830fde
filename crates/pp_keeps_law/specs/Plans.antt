-- What is planned for a row is what the law lets begin (ours): its draft, or a run behind what is kept.
use Rattle.std.specs.Prelude.{◌≡◌, ◌≤◌, ℕ, ◌*◌, true, false, nat_le, nat_lt, is_some, [], length, Some, None}
use Rattle.pp_entry.specs.Entries.{Row}
use Rattle.pp_entry.specs.Texts.{body_at}
use Rattle.pp_fresh.specs.Ready.{is_ready}
use Rattle.pp_keeping.specs.Runs.{entry_of, full_run, laid}
use Rattle.pp_law.specs.Lists.{Bytes}
use Rattle.pp_law.specs.State.{State, Entry, Instance as Known}
use Rattle.pp_law.specs.Store.{drafted_with}
use Rattle.pp_law.specs.Table.{instance}
use Rattle.pp_objects.specs.Instances.{Instance}
use Rattle.pp_objects.specs.declared.id.ObjectId.{ObjectId}
use Rattle.pp_seats.specs.Courses.{is_same_version}
use Rattle.pp_shelf.specs.Given.{MayBeDrafted}
use Rattle.pp_shelf_law.specs.Drafts.{IsToDraft}
use Rattle.pp_shelf_law.specs.Seals.{IsToSeal}
use Rattle.pp_state.specs.Bringing.{instance_of}
use Rattle.pp_state.specs.declared.state.State.{State as Turn}
use Rattle.pp_store.specs.Answers.{refusal_of}
use Rattle.pp_store.specs.Kept.{Kept as KeptRow, KeptMap, kept_of}
use Rattle.pp_keeps_law.specs.Stands.{StandsToKeep}

-- ---- a draft

-- so much of the body goes with it: with one chunk a run none, and else none or all of it, as its first run, which is full
pub data GoesWith (p : Turn) (id : ObjectId) (e : Row) (whole : ℕ) : Type 0 where
  at_once : nat_le p.run 1 ≡ true → whole ≡ 0 → GoesWith p id e whole
  of_many : nat_le p.run 1 ≡ false → is_some (full_run p id e.version.length 0) ≡ true → nat_lt (4096 * p.run) e.version.length ≡ true → whole ≡ 0 → GoesWith p id e whole
  as_one : nat_le p.run 1 ≡ false → is_some (full_run p id e.version.length 0) ≡ true → nat_lt (4096 * p.run) e.version.length ≡ false → is_ready [] e.fields e.times p.now ≡ true → whole ≡ e.version.length → GoesWith p id e whole

-- `plan_of` of pp_keeping: of a row of which nothing is kept, where no draft failed before
pub record IsNewDraft (p : Turn) (id : ObjectId) (i : Instance) (shelf : KeptMap) (whole : ℕ) : Type 0 where
  pub row : i.is_retired ≡ false
  pub body : i.version.length ≤ 67108864
  pub none : kept_of i.key shelf ≡ None
  pub lost : p.has_lost_draft ≡ false
  pub with : GoesWith p id (entry_of i) whole

-- the law's instance of that number may be drafted, with so many of these bytes
pub record IsDrafted (number : ℕ → ℕ) (s : State) (id : ObjectId) (whole : ℕ) (bytes : Bytes) : Type 0 where
  pub known : Known
  pub by_number : instance s (number id.life) ≡ Some known
  pub with : drafted_with s known ≡ whole
  pub long : length bytes ≡ whole
  pub to : IsToDraft s known bytes

-- where a draft is planned, its bytes are laid out, one can be made of its row, and nothing stands in the way
abbrev pub DraftsMayBegin : Type 0
DraftsMayBegin = (number : ℕ → ℕ) (p : Turn) (shelf : KeptMap) (s : State) (id : ObjectId) (i : Instance) (whole room size : ℕ) (bytes : Bytes) → StandsToKeep number p shelf s → instance_of id p.cache.instances ≡ Some i → IsNewDraft p id i shelf whole
    → laid (body_at i.version.length) room id 0 whole p.cache ≡ Some bytes → MayBeDrafted shelf (entry_of i) size → refusal_of (entry_of i) shelf ≡ None → IsDrafted number s id whole bytes

-- ---- a run

-- of a row of which this is kept, of the same version
pub record IsNextRun (p : Turn) (id : ObjectId) (i : Instance) (shelf : KeptMap) (kept : KeptRow) (len : ℕ) : Type 0 where
  pub row : i.is_retired ≡ false
  pub there : kept_of i.key shelf ≡ Some kept
  pub same : is_same_version i.version kept.entry.version ≡ true
  pub full : full_run p id i.version.length kept.extent ≡ Some len

-- a run of the law's instance of that number is due behind its entry, and these are its bytes
pub record IsSealed (number : ℕ → ℕ) (s : State) (id : ObjectId) (bytes : Bytes) : Type 0 where
  pub known : Known
  pub by_number : instance s (number id.life) ≡ Some known
  pub row : known.is_retired ≡ false
  pub entry : Entry
  pub to : IsToSeal s known entry bytes

-- where a run is planned, and its bytes are laid out; and no name is outdated
abbrev pub SealsMayBegin : Type 0
SealsMayBegin = (number : ℕ → ℕ) (p : Turn) (shelf : KeptMap) (s : State) (id : ObjectId) (i : Instance) (kept : KeptRow) (len room : ℕ) (bytes : Bytes) → StandsToKeep number p shelf s → p.cache.outdated ≡ [] → instance_of id p.cache.instances ≡ Some i
    → IsNextRun p id i shelf kept len → laid 0 room id kept.extent len p.cache ≡ Some bytes → IsSealed number s id bytes
