-- What one run of an instance leaves as it was, and the fields on the shelf behind it.
use Rattle.std.proofs.Common.{◌≡◌, refl, sym, subst, ap, ◌∙◌, ℕ, ◌*◌, Bool, ◌||◌, [], length, Option, Some, None, Result, Ok, Err}
use Rattle.std.specs.Prelude.{nat_le, nat_lt, is_some}
use Rattle.pp_entry.specs.Entries.{Row}
use Rattle.pp_fresh.specs.Ready.{is_ready}
use Rattle.pp_keeping.specs.Keeping.{KeepsRun, Keeping as Kept, with_outcome}
use Rattle.pp_keeping.specs.Kept.{Notes}
use Rattle.pp_keeping.specs.Runs.{Drafts, DraftsRow, IsIdle, KeepsLaid, KeepsNextOf, KeepsPlanned, Seals, SealsRow, bytes_for, draft_notes, drafted_to, entry_of, full_run, laid, plan_behind, plan_by, seal_notes, sealed_to}
use Rattle.pp_keeps_law.proofs.Steps.{cases, laid_cases}
use Rattle.pp_law.specs.Lists.{Bytes}
use Rattle.pp_objects.specs.Instances.{Instance}
use Rattle.pp_objects.specs.declared.id.ObjectId.{ObjectId}
use Rattle.pp_seats.specs.Courses.{is_same_version}
use Rattle.pp_shelf_law.proofs.KeptEntries.{drafts_kept, seals_kept}
use Rattle.pp_shelf_law.specs.AsKept.{EachIsAsKept}
use Rattle.pp_state.specs.Bringing.{instance_of}
use Rattle.pp_state.specs.declared.state.State.{State as Turn}
use Rattle.pp_store.specs.Kept.{Kept as KeptRow, KeptMap, kept_of}
use Rattle.pp_store.specs.declared.faults.KeepFault.{KeepFault}
use Rattle.pp_store.specs.declared.faults.KeepFault.TheVariants.{Closed, Full, TooLong, NoDraft, DiskFault as NotNamed, OutOfMemory}
use Rattle.pp_world.specs.declared.disk.DiskFault.{DiskFault}
use Rattle.pp_grown_law.specs.Kept.{RowsAreKept}

-- ---- in memory

record IsBeside (p q : Turn) : Type 0 where
  names : q.cache.outdated ≡ p.cache.outdated
  rows : q.cache.instances ≡ p.cache.instances
  astray : q.is_astray ≡ p.is_astray
  size : q.cache.size ≡ p.cache.size

drafted_beside : (id : ObjectId) (n : ℕ) (p : Turn) (r : Result (Unit {0}) KeepFault) → IsBeside p (with_outcome id (drafted_to (Some r) n) p)
drafted_beside id n p (Ok done) = record { names = refl; rows = refl; astray = refl; size = refl }
drafted_beside id n p (Err Closed) = record { names = refl; rows = refl; astray = refl; size = refl }
drafted_beside id n p (Err Full) = record { names = refl; rows = refl; astray = refl; size = refl }
drafted_beside id n p (Err TooLong) = record { names = refl; rows = refl; astray = refl; size = refl }
drafted_beside id n p (Err NoDraft) = record { names = refl; rows = refl; astray = refl; size = refl }
drafted_beside id n p (Err NotNamed) = record { names = refl; rows = refl; astray = refl; size = refl }
drafted_beside id n p (Err OutOfMemory) = record { names = refl; rows = refl; astray = refl; size = refl }

sealed_beside : (id : ObjectId) (p : Turn) (r : Result ℕ DiskFault) → IsBeside p (with_outcome id (sealed_to (Some r)) p)
sealed_beside id p (Ok extent) = record { names = refl; rows = refl; astray = refl; size = refl }
sealed_beside id p (Err fault) = record { names = refl; rows = refl; astray = refl; size = refl }

-- ---- behind one

pub record RunStays (x y : Kept) : Type 0 where
  pub names : y.state.cache.outdated ≡ x.state.cache.outdated
  pub rows : y.state.cache.instances ≡ x.state.cache.instances
  pub astray : y.state.is_astray ≡ x.state.is_astray
  pub size : y.state.cache.size ≡ x.state.cache.size
  pub shelf : RowsAreKept x.state.cache.instances → EachIsAsKept x.outside.shelf → EachIsAsKept y.outside.shelf

stays_as : (x y : Kept) (p : Turn) (new : KeptMap) → y.state ≡ p → y.outside.shelf ≡ new → IsBeside x.state p → (RowsAreKept x.state.cache.instances → EachIsAsKept x.outside.shelf → EachIsAsKept new) → RunStays x y
stays_as x y p new state shelf_is beside each = record {
  names = ap (λ (q : Turn). q.cache.outdated) state ∙ beside.names;
  rows = ap (λ (q : Turn). q.cache.instances) state ∙ beside.rows;
  astray = ap (λ (q : Turn). q.is_astray) state ∙ beside.astray;
  size = ap (λ (q : Turn). q.cache.size) state ∙ beside.size;
  shelf = λ rows all. subst EachIsAsKept (sym shelf_is) (each rows all);
}

module _ (id : ObjectId) (room : ℕ) (x y : Kept) (goes : Bool) (kr : KeepsRun id room x y goes) where
  still : y.state ≡ x.state → y.outside.shelf ≡ x.outside.shelf → RunStays x y
  still state shelf_is = stays_as x y x.state x.outside.shelf state shelf_is (record { names = refl; rows = refl; astray = refl; size = refl }) (λ rows all. all)

  idle_stays : IsIdle x.outside y.outside kr.outcome → RunStays x y
  idle_stays idle = still (kr.state ∙ ap (λ o. with_outcome id o x.state) idle.none) idle.still.shelf

  module _ (i : Instance) (found : instance_of id x.state.cache.instances ≡ Some i) where
    abbrev e : Row
    e = entry_of i

    draft_stays : (bytes : Bytes) → DraftsRow e bytes x.outside y.outside kr.outcome → RunStays x y
    draft_stays bytes d = by d.answer d.drafts d.notes (kr.state ∙ ap (λ o. with_outcome id o x.state) d.is)
      where
        by : (answer : Option (Result (Unit {0}) KeepFault)) → Drafts e bytes answer x.outside d.between → Notes (draft_notes answer e (length bytes)) d.between y.outside → y.state ≡ with_outcome id (drafted_to answer (length bytes)) x.state → RunStays x y
        by None asked notes state = still state (notes.shelf ∙ asked.still.shelf)
        by (Some r) asked notes state =
            stays_as x y _ _ state (notes.shelf ∙ asked.map) (drafted_beside id (length bytes) x.state r)
            (λ rows all. drafts_kept x.outside.shelf e (length bytes) r all (rows id i found))

    seal_stays : (bytes : Bytes) → SealsRow e bytes x.outside y.outside kr.outcome → RunStays x y
    seal_stays bytes d = by d.answer d.seals d.notes (kr.state ∙ ap (λ o. with_outcome id o x.state) d.is)
      where
        by : (answer : Option (Result ℕ DiskFault)) → Seals e.key bytes answer x.outside d.between → Notes (seal_notes answer e) d.between y.outside → y.state ≡ with_outcome id (sealed_to answer) x.state → RunStays x y
        by None asked notes state = still state (notes.shelf ∙ asked.still.shelf)
        by (Some r) asked notes state = stays_as x y _ _ state (notes.shelf ∙ asked.map) (sealed_beside id x.state r) (λ rows all. seals_kept x.outside.shelf e.key r all)

    by_first : KeepsPlanned (plan_by x.state id e None) x.state id room e x.outside y.outside kr.outcome → RunStays x y
    by_first keeps =
        cases (λ plan. KeepsPlanned plan x.state id room e x.outside y.outside kr.outcome) x.state.has_lost_draft _ _ keeps (λ lost idle. idle_stays idle) (λ lost rest.
        laid_cases (λ plan. KeepsPlanned plan x.state id room e x.outside y.outside kr.outcome) (λ plan o. KeepsLaid plan o e x.outside y.outside kr.outcome) (λ plan. bytes_for plan e.version.length room id x.state.cache) (nat_le x.state.run 1) _ _ (λ plan keeps. keeps) rest
        (λ one idle. idle_stays idle)
        (λ one bytes is drafts. draft_stays bytes drafts)
        (λ many rest. cases (λ plan. KeepsPlanned plan x.state id room e x.outside y.outside kr.outcome) (is_some (full_run x.state id i.version.length 0)) _ _ rest
        (λ full rest.
        laid_cases (λ plan. KeepsPlanned plan x.state id room e x.outside y.outside kr.outcome) (λ plan o. KeepsLaid plan o e x.outside y.outside kr.outcome) (λ plan. bytes_for plan e.version.length room id x.state.cache) (nat_lt (4096 * x.state.run) i.version.length) _ _ (λ plan keeps. keeps) rest
        (λ long idle. idle_stays idle)
        (λ long bytes is drafts. draft_stays bytes drafts)
        (λ short rest.
        laid_cases (λ plan. KeepsPlanned plan x.state id room e x.outside y.outside kr.outcome) (λ plan o. KeepsLaid plan o e x.outside y.outside kr.outcome) (λ plan. bytes_for plan e.version.length room id x.state.cache) (is_ready [] i.fields i.times x.state.now) _ _ (λ plan keeps. keeps) rest
        (λ ready idle. idle_stays idle)
        (λ ready bytes is drafts. draft_stays bytes drafts)
        (λ ready idle. idle_stays idle)))
        (λ full idle. idle_stays idle)))

    by_next : (kept : KeptRow) → KeepsPlanned (plan_by x.state id e (Some kept)) x.state id room e x.outside y.outside kr.outcome → RunStays x y
    by_next kept keeps =
        cases (λ plan. KeepsPlanned plan x.state id room e x.outside y.outside kr.outcome) (is_same_version i.version kept.entry.version) _ _ keeps
        (λ same rest. by_full (full_run x.state id i.version.length kept.extent) rest) (λ other idle. idle_stays idle)
      where
        by_laid : (len : ℕ) (o : Option Bytes) → KeepsLaid (plan_behind kept.extent (Some len)) o e x.outside y.outside kr.outcome → RunStays x y
        by_laid len None idle = idle_stays idle
        by_laid len (Some bytes) row = seal_stays bytes row

        by_full : (o : Option ℕ) → KeepsPlanned (plan_behind kept.extent o) x.state id room e x.outside y.outside kr.outcome → RunStays x y
        by_full None idle = idle_stays idle
        by_full (Some len) rest = by_laid len (laid 0 room id kept.extent len x.state.cache) rest

    by_plan : KeepsNextOf (Some i) x.state id room x.outside y.outside kr.outcome → RunStays x y
    by_plan keeps =
        cases (λ plan. KeepsPlanned plan x.state id room e x.outside y.outside kr.outcome) (i.is_retired || nat_lt 67108864 i.version.length) _ _ keeps (λ out idle. idle_stays idle)
        (λ within rest. by_kept (kept_of i.key x.outside.shelf) rest)
      where
        by_kept : (o : Option KeptRow) → KeepsPlanned (plan_by x.state id e o) x.state id room e x.outside y.outside kr.outcome → RunStays x y
        by_kept None rest = by_first rest
        by_kept (Some kept) rest = by_next kept rest

  pub run_stays : RunStays x y
  run_stays = by (instance_of id x.state.cache.instances) refl kr.keeps
    where
      by : (o : Option Instance) → instance_of id x.state.cache.instances ≡ o → KeepsNextOf o x.state id room x.outside y.outside kr.outcome → RunStays x y
      by None found idle = idle_stays idle
      by (Some i) found keeps = by_plan i found keeps
