-- The next run of an instance: how much of it is to be kept, which bytes are written, and what is noted behind them (ours).
use Rattle.std.specs.Prelude.{◌≡◌, ⊤, ◌≤◌, ◌↔◌, ℕ, ◌+◌, ◌-◌, ◌*◌, Bool, ◌==◌, ◌&&◌, ◌||◌, cond, min, nat_lt, nat_le, IfNone, IfOk, IfSome, IsSome, OnErr, List, [], ◌∷◌, length, take, drop, is_ok, is_some, Option, Some, None, Result, Ok, Err}
use Rattle.pp_cache.specs.Holes.{hole_of}
use Rattle.pp_cache.specs.Memory.{Memory}
use Rattle.pp_client.specs.Replies.{run_at_hand}
use Rattle.pp_entry.specs.Entries.{Row}
use Rattle.pp_entry.specs.Texts.{body_at}
use Rattle.pp_fresh.specs.Ready.{is_ready}
use Rattle.pp_gate.specs.Runs.{RunsOps}
use Rattle.pp_keeping.specs.Kept.{IsStill, Notes, Outside}
use Rattle.pp_keeping.specs.declared.run.Outcome.{Outcome}
use Rattle.pp_keeping.specs.declared.run.Outcome.TheVariants.{LostDraft, To}
use Rattle.pp_keeping.specs.declared.plan.Plan.{Plan}
use Rattle.pp_keeping.specs.declared.plan.Plan.TheVariants.{Draft, Nothing, Seal}
use Rattle.pp_objects.specs.Instances.{Instance}
use Rattle.pp_objects.specs.declared.id.ObjectId.{ObjectId}
use Rattle.pp_objects.specs.declared.objects.RowView.{RowView}
use Rattle.pp_seats.specs.Courses.{is_same_version}
use Rattle.pp_shelf.specs.Given.{MayBeDrafted, is_more_of}
use Rattle.pp_state.specs.Bringing.{instance_of}
use Rattle.pp_state.specs.declared.state.State.{State}
use Rattle.pp_store.specs.Answers.{Answers, KeepCause, RunsKeep, extend_ops, refusal_of}
use Rattle.pp_store.specs.Changes.{entry_with, extended_after, kept_after}
use Rattle.pp_store.specs.Kept.{Kept, KeptMap, kept_of, row_of}
use Rattle.pp_store.specs.declared.faults.KeepFault.{KeepFault}
use Rattle.pp_store.specs.declared.faults.KeepFault.TheVariants.{NoDraft}
use Rattle.pp_valid.specs.declared.version.Version.{Version}
use Rattle.pp_world.specs.Log.{Log, Rises}
use Rattle.pp_world.specs.declared.disk.DiskFault.{DiskFault}
use Rattle.pp_world.specs.declared.happening.Happening.TheVariants.{Noted}
use Rattle.pp_world.specs.declared.note.Remark.TheVariants.{Gone, Kept as KeptNote}

-- the entry of an instance
abbrev pub entry_of : Instance → Row
entry_of i = entry_with i.key i.version i.fields i.times

abbrev pub entry_in : RowView → Row
entry_in row = entry_with row.key.now row.version.now row.fields row.times

-- ---- how much is to be kept

abbrev pub full : ℕ → ℕ → Option ℕ
full run held = cond (nat_lt 0 run && nat_le run held) (Some run) None

-- the run behind an offset of a body of n bytes, where all of it is in memory: it has as many chunks as is set, or ends the body
abbrev pub full_run : State → ObjectId → ℕ → ℕ → Option ℕ
full_run s id n from = full (min (4096 * s.run) (n - from)) ((hole_of id from s.cache).0 - from)

-- a body that is no longer than a run is drafted whole, and only while it can be served as it is
abbrev pub plan_first : State → Row → Plan
plan_first s e = cond (nat_lt (4096 * s.run) e.version.length) (Draft 0) (cond (is_ready [] e.fields e.times s.now) (Draft e.version.length) Nothing)

-- an entry is drafted once its first run is full; with one chunk a run at once
abbrev pub plan_new : State → ObjectId → Row → Plan
plan_new s id e = cond (nat_le s.run 1) (Draft 0) (cond (is_some (full_run s id e.version.length 0)) (plan_first s e) Nothing)

-- and none behind one that failed, before the next tick
abbrev pub plan_draft : State → ObjectId → Row → Plan
plan_draft s id e = cond s.has_lost_draft Nothing (plan_new s id e)

abbrev pub plan_behind : ℕ → Option ℕ → Plan
plan_behind extent None = Nothing
plan_behind extent (Some len) = Seal extent len

-- of an entry of the same version the next run is sealed
abbrev pub plan_seal : State → ObjectId → Version → Version → ℕ → Plan
plan_seal s id version kept extent = cond (is_same_version version kept) (plan_behind extent (full_run s id version.length extent)) Nothing

abbrev pub plan_by : State → ObjectId → Row → Option Kept → Plan
plan_by s id e None = plan_draft s id e
plan_by s id e (Some kept) = plan_seal s id e.version kept.entry.version kept.extent

-- nothing of one that is retired, or longer than 64 MiB
abbrev pub plan_of : State → ObjectId → Bool → Row → KeptMap → Plan
plan_of s id is_retired e shelf = cond (is_retired || nat_lt 67108864 e.version.length) Nothing (plan_by s id e (kept_of e.key shelf))

-- it is within the body
abbrev pub IsInBody : ℕ → Plan → Type 0
IsInBody n Nothing = ⊤
IsInBody n (Draft whole) = (n ≤ 67108864) × (whole ≤ n)
IsInBody n (Seal extent len) = extent + len ≤ n

-- ---- which bytes

-- so many bytes from an offset on, where chunks in memory hold them, at most 64 of them, and there is room for them behind the front
abbrev pub laid : ℕ → ℕ → ObjectId → ℕ → ℕ → Memory → Option (List ℕ)
laid front room id from len m =
    let held = run_at_hand 64 id.slot from m.chunks in
    cond (nat_le (front + len) room && nat_le len (length held)) (Some (take len held)) None

-- a draft stands behind the front of its file
abbrev pub bytes_for : Plan → ℕ → ℕ → ObjectId → Memory → Option (List ℕ)
bytes_for Nothing n room id m = None
bytes_for (Draft whole) n room id m = laid (body_at n) room id 0 whole m
bytes_for (Seal extent len) n room id m = laid 0 room id extent len m

abbrev pub in_file : Plan → ℕ → List ℕ → List ℕ
in_file Nothing n file = []
in_file (Draft whole) n file = take whole (drop (body_at n) file)
in_file (Seal extent len) n file = take len (drop 0 file)

abbrev pub FitsIn : Plan → ℕ → ℕ → Type 0
FitsIn Nothing n room = ⊤
FitsIn (Draft whole) n room = body_at n + whole ≤ room
FitsIn (Seal extent len) n room = len ≤ room

-- ---- calls of the disk

-- an entry is put on the disk, with these first bytes of its body
pub record Drafts (entry : Row) (bytes : List ℕ) (answer : Option (Result (Unit {0}) KeepFault)) (x y : Outside) : Type 0 where
  pub answered : IsSome answer ↔ MayBeDrafted x.shelf entry (body_at entry.version.length + length bytes)
  pub still : IfNone answer (IsStill x y)
  pub refused : IfSome answer (λ r. Answers (refusal_of entry x.shelf) r)
  pub map : IfSome answer (λ r. y.shelf ≡ kept_after r entry (length bytes) x.shelf)
  pub ops : IfSome answer (λ r. RunsKeep x.log y.log entry bytes r)
  pub cause : IfSome answer (λ r. KeepCause y.log x.faults y.faults r)
  pub count : x.faults ≤ y.faults

-- these bytes are kept behind those that are kept of the key
pub record Seals (key bytes : List ℕ) (answer : Option (Result ℕ DiskFault)) (x y : Outside) : Type 0 where
  pub answered : is_some answer ≡ is_more_of (length bytes) (kept_of key x.shelf)
  pub still : IfNone answer (IsStill x y)
  pub extent : IfSome answer (λ r. IfOk r (λ extent. extent ≡ (row_of key x.shelf).extent + length bytes))
  pub map : IfSome answer (λ r. y.shelf ≡ extended_after r key x.shelf)
  pub ops : IfSome answer (λ r. RunsOps x.log y.log (extend_ops (row_of key x.shelf) bytes) (is_ok r))
  pub cause : IfSome answer (λ r. OnErr r (Rises y.log x.faults y.faults))
  pub count : x.faults ≤ y.faults

-- ---- what is noted behind them, and what became of the run

-- so many bytes are kept, through a crash too
abbrev pub kept_note : Row → ℕ → Log
kept_note e extent = Noted (KeptNote e.key e.version.tag e.version.length extent) ∷ []

abbrev pub draft_notes : Option (Result (Unit {0}) KeepFault) → Row → ℕ → Log
draft_notes None e extent = []
draft_notes (Some (Ok done)) e extent = cond (extent == 0) [] (kept_note e extent)
draft_notes (Some (Err fault)) e extent = []

abbrev pub drafted_to : Option (Result (Unit {0}) KeepFault) → ℕ → Option Outcome
drafted_to None extent = None
drafted_to (Some (Ok done)) extent = Some (To extent)
drafted_to (Some (Err NoDraft)) extent = Some LostDraft
drafted_to (Some (Err fault)) extent = None

-- where the disk fails, the entry is gone
abbrev pub seal_notes : Option (Result ℕ DiskFault) → Row → Log
seal_notes None e = []
seal_notes (Some (Ok extent)) e = kept_note e extent
seal_notes (Some (Err fault)) e = Noted (Gone e.key) ∷ []

abbrev pub sealed_to : Option (Result ℕ DiskFault) → Option Outcome
sealed_to None = None
sealed_to (Some (Ok extent)) = Some (To extent)
sealed_to (Some (Err fault)) = Some (To 0)

pub record DraftsRow (entry : Row) (bytes : List ℕ) (x y : Outside) (outcome : Option Outcome) : Type 0 where
  pub answer : Option (Result (Unit {0}) KeepFault)
  pub between : Outside
  pub drafts : Drafts entry bytes answer x between
  pub notes : Notes (draft_notes answer entry (length bytes)) between y
  pub is : outcome ≡ drafted_to answer (length bytes)

pub record SealsRow (entry : Row) (bytes : List ℕ) (x y : Outside) (outcome : Option Outcome) : Type 0 where
  pub answer : Option (Result ℕ DiskFault)
  pub between : Outside
  pub seals : Seals entry.key bytes answer x between
  pub notes : Notes (seal_notes answer entry) between y
  pub is : outcome ≡ sealed_to answer

-- ---- the next run of an instance

-- nothing is to be kept
pub record IsIdle (x y : Outside) (outcome : Option Outcome) : Type 0 where
  pub still : IsStill x y
  pub none : outcome ≡ None

abbrev pub KeepsBytes : Plan → List ℕ → Row → Outside → Outside → Option Outcome → Type 0
KeepsBytes Nothing bytes entry x y outcome = IsIdle x y outcome
KeepsBytes (Draft whole) bytes entry x y outcome = DraftsRow entry bytes x y outcome
KeepsBytes (Seal extent len) bytes entry x y outcome = SealsRow entry bytes x y outcome

abbrev pub KeepsLaid : Plan → Option (List ℕ) → Row → Outside → Outside → Option Outcome → Type 0
KeepsLaid plan None entry x y outcome = IsIdle x y outcome
KeepsLaid plan (Some bytes) entry x y outcome = KeepsBytes plan bytes entry x y outcome

abbrev pub KeepsPlanned : Plan → State → ObjectId → ℕ → Row → Outside → Outside → Option Outcome → Type 0
KeepsPlanned plan s id room entry x y outcome = KeepsLaid plan (bytes_for plan entry.version.length room id s.cache) entry x y outcome

abbrev pub KeepsRow : State → ObjectId → ℕ → Bool → Row → Outside → Outside → Option Outcome → Type 0
KeepsRow s id room is_retired entry x y outcome = KeepsPlanned (plan_of s id is_retired entry x.shelf) s id room entry x y outcome

abbrev pub KeepsNextOf : Option Instance → State → ObjectId → ℕ → Outside → Outside → Option Outcome → Type 0
KeepsNextOf None s id room x y outcome = IsIdle x y outcome
KeepsNextOf (Some i) s id room x y outcome = KeepsRow s id room i.is_retired (entry_of i) x y outcome

-- with a file of this length, in which it is laid out
abbrev pub KeepsNext : State → ObjectId → ℕ → Outside → Outside → Option Outcome → Type 0
KeepsNext s id room x y outcome = KeepsNextOf (instance_of id s.cache.instances) s id room x y outcome
