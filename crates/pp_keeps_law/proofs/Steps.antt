-- What the next run of an instance adds to the log.
use Rattle.std.proofs.Common.{◌≡◌, refl, sym, subst, ap, ◌∙◌, ◌≤◌, ℕ, ◌+◌, ◌*◌, Bool, true, false, ◌||◌, cond, is_ok, [], ◌++◌, length, Option, Some, None, Result, Ok, Err}
use Rattle.std.specs.Prelude.{OnErr, is_some, nat_le, nat_lt}
use Rattle.pp_entry.specs.Entries.{Row}
use Rattle.pp_entry.specs.Texts.{body_at}
use Rattle.pp_fresh.specs.Ready.{is_ready}
use Rattle.pp_gate.specs.Runs.{Ran}
use Rattle.pp_keeping.specs.Keeping.{KeepsRun, Keeping as Kept, with_outcome}
use Rattle.pp_keeping.specs.Kept.{Notes}
use Rattle.pp_keeping.specs.Runs.{Drafts, DraftsRow, IsIdle, KeepsLaid, KeepsNextOf, KeepsPlanned, Seals, SealsRow, bytes_for, draft_notes, drafted_to, entry_of, full_run, laid, plan_behind, plan_by, seal_notes, sealed_to}
use Rattle.pp_law.specs.Lists.{Bytes}
use Rattle.pp_law.specs.State.{State}
use Rattle.pp_objects.specs.Instances.{Instance}
use Rattle.pp_objects.specs.declared.id.ObjectId.{ObjectId}
use Rattle.pp_obeys.proofs.Adding.{adds_as, adds_then}
use Rattle.pp_obeys.specs.Moves.{Both, Is, MovesAll}
use Rattle.pp_seats.specs.Courses.{is_same_version}
use Rattle.pp_shelf_law.proofs.Calls.{keeps_add, runs_add}
use Rattle.pp_shelf_law.specs.Drafts.{RanKeep}
use Rattle.pp_state.specs.Bringing.{instance_of}
use Rattle.pp_store.specs.Answers.{extend_ops, file_with}
use Rattle.pp_store.specs.Changes.{extended_after, kept_after}
use Rattle.pp_store.specs.Kept.{Kept as KeptRow, kept_of, row_of}
use Rattle.pp_store.specs.declared.faults.KeepFault.{KeepFault}
use Rattle.pp_target.specs.Name.{name_of}
use Rattle.pp_world.specs.Log.{Log, Rises}
use Rattle.pp_world.specs.declared.disk.DiskFault.{DiskFault}
use Rattle.pp_keeps_law.proofs.Added.{adds_these, note_adds, still_adds}
use Rattle.pp_keeps_law.proofs.Held.{less_false}
use Rattle.pp_keeps_law.proofs.Saving.{calm_drafts, calm_seals, draft_moves, seal_moves}
use Rattle.pp_keeps_law.proofs.Taking.{if_shown}
use Rattle.pp_keeps_law.specs.Keeps.{AddsTo, HasKept, LeadsOn, RunsLeadOn}
use Rattle.pp_keeps_law.specs.Plans.{IsNewDraft, IsNextRun, as_one, at_once, of_many}
use Rattle.pp_keeps_law.specs.Stands.{StandsToKeep}

-- what is planned is told case by case
pub cases : {P : Type 0} (Q : P → Type 0) {R : Type 0} (b : Bool) (x y : P) → Q (cond b x y) → (b ≡ true → Q x → R) → (b ≡ false → Q y → R) → R
cases Q true x y q yes_so not_so = yes_so refl q
cases Q false x y q yes_so not_so = not_so refl q

-- and what is laid out of the first, or not
pub laid_cases : {A P : Type 0} (Q : P → Type 0) (L : P → Option A → Type 0) (o : P → Option A) {R : Type 0} (b : Bool) (x y : P) → ((z : P) → Q z → L z (o z)) → Q (cond b x y)
    → (b ≡ true → L x None → R) → (b ≡ true → (a : A) → o x ≡ Some a → L x (Some a) → R) → (b ≡ false → Q y → R) → R
laid_cases Q L o {R} true x y to q none_so some_so not_so = by (o x) refl (to x q)
  where
    by : (c : Option _) → o x ≡ c → L x c → R
    by None is l = none_so refl l
    by (Some a) is l = some_so refl a is l
laid_cases Q L o false x y to q none_so some_so not_so = not_so refl q

pub or_off : (a b : Bool) → (a || b) ≡ false → (a ≡ false) × (b ≡ false)
or_off true b is = absurd (cc is)
or_off false b is = (refl, is)

module _ (x y : Kept) (id : ObjectId) (room : ℕ) (goes : Bool) (kr : KeepsRun id room x y goes) where
  abbrev Leads : Log → Type 0
  Leads hs = x.state.cache.outdated ≡ [] → LeadsOn x y hs

  stays : (s : State) (number : ℕ → ℕ) → StandsToKeep number x.state x.outside.shelf s → y.state ≡ x.state → y.outside.shelf ≡ x.outside.shelf → MovesAll (HasKept number y.state y.outside.shelf s) [] s
  stays s number stands state shelf = if_shown number y.state x.state y.outside.shelf x.outside.shelf s [] state shelf (record { stands = stands; rest = refl })

  idle_leads : IsIdle x.outside y.outside kr.outcome → AddsTo x y Leads
  idle_leads idle =
      adds_these x.outside.faults y.outside.faults [] Leads
      (λ none number s stands. stays s number stands (kr.state ∙ ap (λ o. with_outcome id o x.state) idle.none) idle.still.shelf)
      (still_adds x.outside y.outside idle.still)

  module _ (i : Instance) (found : instance_of id x.state.cache.instances ≡ Some i) where
    -- ---- a draft

    draft_leads : (whole : ℕ) (bytes : Bytes) → IsNewDraft x.state id i x.outside.shelf whole → laid (body_at i.version.length) room id 0 whole x.state.cache ≡ Some bytes → DraftsRow (entry_of i) bytes x.outside y.outside kr.outcome → AddsTo x y Leads
    draft_leads whole bytes new laid_is d = by d.answer d.drafts d.notes (kr.state ∙ ap (λ o. with_outcome id o x.state) d.is)
      where
        by : (answer : Option (Result (Unit {0}) KeepFault)) → Drafts (entry_of i) bytes answer x.outside d.between → Notes (draft_notes answer (entry_of i) (length bytes)) d.between y.outside → y.state ≡ with_outcome id (drafted_to answer (length bytes)) x.state → AddsTo x y Leads
        by None asked notes state =
            adds_as x.outside.faults y.outside.faults (Both (Is []) (Is [])) Leads
            (λ hs are none number s stands.
            subst (λ (k : Log). MovesAll (HasKept number y.state y.outside.shelf s) k s) (sym (are.is ∙ ap (λ (k : Log). k ++ are.two) are.first ∙ are.then))
            (stays s number stands state (notes.shelf ∙ asked.still.shelf)))
            (adds_then x.outside.faults d.between.faults y.outside.faults (Is []) (Is []) (still_adds x.outside d.between asked.still) (note_adds [] d.between y.outside refl notes))
        by (Some r) asked notes state =
            adds_as x.outside.faults y.outside.faults (Both (RanKeep (name_of (entry_of i).key) (file_with (entry_of i) bytes) r) (Is (draft_notes (Some r) (entry_of i) (length bytes)))) Leads
            (λ hs are none number s stands.
            subst (λ (k : Log). MovesAll (HasKept number y.state y.outside.shelf s) k s) (sym (are.is ∙ ap (λ (k : Log). are.one ++ k) are.then))
            (if_shown number y.state (with_outcome id (drafted_to (Some r) (length bytes)) x.state) y.outside.shelf (kept_after r (entry_of i) (length bytes) x.outside.shelf) s (are.one ++ draft_notes (Some r) (entry_of i) (length bytes)) state (notes.shelf ∙ asked.map)
            (draft_moves number x.state x.outside.shelf s id i stands none found whole room (body_at (entry_of i).version.length + length bytes) bytes new laid_is (asked.answered.0 refl) r are.one are.first asked.refused)))
            (adds_then x.outside.faults d.between.faults y.outside.faults (RanKeep (name_of (entry_of i).key) (file_with (entry_of i) bytes) r) (Is (draft_notes (Some r) (entry_of i) (length bytes)))
            (keeps_add x.outside.log d.between.log (entry_of i) bytes r x.outside.faults d.between.faults asked.ops asked.count asked.cause)
            (note_adds (draft_notes (Some r) (entry_of i) (length bytes)) d.between y.outside (calm_drafts r (entry_of i) (length bytes)) notes))

    -- ---- a run

    seal_leads : (kept : KeptRow) (len : ℕ) (bytes : Bytes) → IsNextRun x.state id i x.outside.shelf kept len → laid 0 room id kept.extent len x.state.cache ≡ Some bytes → SealsRow (entry_of i) bytes x.outside y.outside kr.outcome → AddsTo x y Leads
    seal_leads kept len bytes next laid_is d = by d.answer d.seals d.notes (kr.state ∙ ap (λ o. with_outcome id o x.state) d.is)
      where
        cause : (r : Result ℕ DiskFault) → OnErr r (Rises d.between.log x.outside.faults d.between.faults) → is_ok r ≡ false → Rises d.between.log x.outside.faults d.between.faults
        cause (Ok extent) rises is = absurd (cc is)
        cause (Err fault) rises is = rises

        by : (answer : Option (Result ℕ DiskFault)) → Seals (entry_of i).key bytes answer x.outside d.between → Notes (seal_notes answer (entry_of i)) d.between y.outside → y.state ≡ with_outcome id (sealed_to answer) x.state → AddsTo x y Leads
        by None asked notes state =
            adds_as x.outside.faults y.outside.faults (Both (Is []) (Is [])) Leads
            (λ hs are none number s stands.
            subst (λ (k : Log). MovesAll (HasKept number y.state y.outside.shelf s) k s) (sym (are.is ∙ ap (λ (k : Log). k ++ are.two) are.first ∙ are.then))
            (stays s number stands state (notes.shelf ∙ asked.still.shelf)))
            (adds_then x.outside.faults d.between.faults y.outside.faults (Is []) (Is []) (still_adds x.outside d.between asked.still) (note_adds [] d.between y.outside refl notes))
        by (Some r) asked notes state =
            adds_as x.outside.faults y.outside.faults (Both (Ran (extend_ops (row_of i.key x.outside.shelf) bytes) (is_ok r)) (Is (seal_notes (Some r) (entry_of i)))) Leads
            (λ hs are none number s stands.
            subst (λ (k : Log). MovesAll (HasKept number y.state y.outside.shelf s) k s) (sym (are.is ∙ ap (λ (k : Log). are.one ++ k) are.then))
            (if_shown number y.state (with_outcome id (sealed_to (Some r)) x.state) y.outside.shelf (extended_after r (entry_of i).key x.outside.shelf) s (are.one ++ seal_notes (Some r) (entry_of i)) state (notes.shelf ∙ asked.map)
            (seal_moves number x.state x.outside.shelf s id i stands none found kept len room bytes next laid_is r are.one are.first asked.extent)))
            (adds_then x.outside.faults d.between.faults y.outside.faults (Ran (extend_ops (row_of i.key x.outside.shelf) bytes) (is_ok r)) (Is (seal_notes (Some r) (entry_of i)))
            (runs_add x.outside.log d.between.log (extend_ops (row_of i.key x.outside.shelf) bytes) (is_ok r) x.outside.faults d.between.faults asked.ops asked.count (cause r asked.cause))
            (note_adds (seal_notes (Some r) (entry_of i)) d.between y.outside (calm_seals r (entry_of i)) notes))

    -- ---- what is planned

    abbrev e : Row
    e = entry_of i

    seal_laid : (kept : KeptRow) (len : ℕ) → IsNextRun x.state id i x.outside.shelf kept len → (o : Option Bytes) → laid 0 room id kept.extent len x.state.cache ≡ o → KeepsLaid (plan_behind kept.extent (Some len)) o e x.outside y.outside kr.outcome → AddsTo x y Leads
    seal_laid kept len next None is keeps = idle_leads keeps
    seal_laid kept len next (Some bytes) is keeps = seal_leads kept len bytes next is keeps

    by_first : i.is_retired ≡ false → i.version.length ≤ 67108864 → kept_of i.key x.outside.shelf ≡ None → KeepsPlanned (plan_by x.state id e None) x.state id room e x.outside y.outside kr.outcome → AddsTo x y Leads
    by_first row body nothing keeps =
        cases (λ plan. KeepsPlanned plan x.state id room e x.outside y.outside kr.outcome) x.state.has_lost_draft _ _ keeps (λ lost idle. idle_leads idle) (λ lost rest.
        laid_cases (λ plan. KeepsPlanned plan x.state id room e x.outside y.outside kr.outcome) (λ plan o. KeepsLaid plan o e x.outside y.outside kr.outcome) (λ plan. bytes_for plan e.version.length room id x.state.cache) (nat_le x.state.run 1) _ _ (λ plan keeps. keeps) rest
        (λ one idle. idle_leads idle)
        (λ one bytes is drafts. draft_leads 0 bytes (record { row = row; body = body; none = nothing; lost = lost; with = at_once one refl }) is drafts)
        (λ many rest. cases (λ plan. KeepsPlanned plan x.state id room e x.outside y.outside kr.outcome) (is_some (full_run x.state id i.version.length 0)) _ _ rest
        (λ full rest.
        laid_cases (λ plan. KeepsPlanned plan x.state id room e x.outside y.outside kr.outcome) (λ plan o. KeepsLaid plan o e x.outside y.outside kr.outcome) (λ plan. bytes_for plan e.version.length room id x.state.cache) (nat_lt (4096 * x.state.run) i.version.length) _ _ (λ plan keeps. keeps) rest
        (λ long idle. idle_leads idle)
        (λ long bytes is drafts. draft_leads 0 bytes (record { row = row; body = body; none = nothing; lost = lost; with = of_many many full long refl }) is drafts)
        (λ short rest.
        laid_cases (λ plan. KeepsPlanned plan x.state id room e x.outside y.outside kr.outcome) (λ plan o. KeepsLaid plan o e x.outside y.outside kr.outcome) (λ plan. bytes_for plan e.version.length room id x.state.cache) (is_ready [] i.fields i.times x.state.now) _ _ (λ plan keeps. keeps) rest
        (λ ready idle. idle_leads idle)
        (λ ready bytes is drafts. draft_leads i.version.length bytes (record { row = row; body = body; none = nothing; lost = lost; with = as_one many full short ready refl }) is drafts)
        (λ ready idle. idle_leads idle)))
        (λ full idle. idle_leads idle)))

    by_next : i.is_retired ≡ false → (kept : KeptRow) → kept_of i.key x.outside.shelf ≡ Some kept → KeepsPlanned (plan_by x.state id e (Some kept)) x.state id room e x.outside y.outside kr.outcome → AddsTo x y Leads
    by_next row kept there keeps =
        cases (λ plan. KeepsPlanned plan x.state id room e x.outside y.outside kr.outcome) (is_same_version i.version kept.entry.version) _ _ keeps
        (λ same rest. by_full same (full_run x.state id i.version.length kept.extent) refl rest) (λ other idle. idle_leads idle)
      where
        by_full : is_same_version i.version kept.entry.version ≡ true → (o : Option ℕ) → full_run x.state id i.version.length kept.extent ≡ o → KeepsPlanned (plan_behind kept.extent o) x.state id room e x.outside y.outside kr.outcome → AddsTo x y Leads
        by_full same None is idle = idle_leads idle
        by_full same (Some len) is rest = seal_laid kept len (record { row = row; there = there; same = same; full = is }) (laid 0 room id kept.extent len x.state.cache) refl rest

    by_plan : KeepsNextOf (Some i) x.state id room x.outside y.outside kr.outcome → AddsTo x y Leads
    by_plan keeps =
        cases (λ plan. KeepsPlanned plan x.state id room e x.outside y.outside kr.outcome) (i.is_retired || nat_lt 67108864 i.version.length) _ _ keeps (λ out idle. idle_leads idle)
        (λ within rest. by_kept (or_off i.is_retired (nat_lt 67108864 i.version.length) within).0 (less_false 67108864 i.version.length (or_off i.is_retired (nat_lt 67108864 i.version.length) within).1) (kept_of i.key x.outside.shelf) refl rest)
      where
        by_kept : i.is_retired ≡ false → i.version.length ≤ 67108864 → (o : Option KeptRow) → kept_of i.key x.outside.shelf ≡ o → KeepsPlanned (plan_by x.state id e o) x.state id room e x.outside y.outside kr.outcome → AddsTo x y Leads
        by_kept row body None nothing rest = by_first row body nothing rest
        by_kept row body (Some kept) there rest = by_next row kept there rest

  all_runs : AddsTo x y Leads
  all_runs = by (instance_of id x.state.cache.instances) refl kr.keeps
    where
      by : (o : Option Instance) → instance_of id x.state.cache.instances ≡ o → KeepsNextOf o x.state id room x.outside y.outside kr.outcome → AddsTo x y Leads
      by None found idle = idle_leads idle
      by (Some i) found keeps = by_plan i found keeps

pub runs_lead_on : RunsLeadOn
runs_lead_on x y id room goes kr = all_runs x y id room goes kr
