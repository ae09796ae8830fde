-- What was done of the next run of an instance: a draft, a seal, or nothing, since nothing is due.
use Rattle.std.proofs.Common.{◌≡◌, refl, sym, subst, ap, ap₂, ◌∙◌, ◌≤◌, ℕ, ◌+◌, ◌*◌, Bool, true, false, ◌||◌, IfOk, [], length, length-take, Option, Some, None, Result, Ok, Err, arith}
use Rattle.std.specs.Prelude.{is_some, nat_le, nat_lt, unwrap_or}
use Rattle.pp_client.specs.Replies.{run_at_hand}
use Rattle.pp_entry.specs.Entries.{Row}
use Rattle.pp_entry.specs.Texts.{body_at}
use Rattle.pp_fresh.specs.Ready.{is_ready}
use Rattle.pp_keeping.specs.Keeping.{KeepsRun, Keeping as Kept, goes_on, with_outcome}
use Rattle.pp_keeping.specs.Kept.{Notes}
use Rattle.pp_keeping.specs.Runs.{Drafts, DraftsRow, IsIdle, KeepsLaid, KeepsNextOf, KeepsPlanned, Seals, SealsRow, bytes_for, draft_notes, drafted_to, entry_of, full_run, laid, plan_behind, plan_by, seal_notes, sealed_to}
use Rattle.pp_law.specs.Lists.{Bytes}
use Rattle.pp_law.specs.State.{State}
use Rattle.pp_objects.specs.Instances.{Instance}
use Rattle.pp_objects.specs.declared.id.ObjectId.{ObjectId}
use Rattle.pp_seats.specs.Courses.{is_same_version}
use Rattle.pp_shelf.specs.Given.{is_more, is_more_of}
use Rattle.pp_state.specs.Bringing.{instance_of}
use Rattle.pp_store.specs.Answers.{Answers, refusal_of}
use Rattle.pp_store.specs.Changes.{extended_after, kept_after}
use Rattle.pp_store.specs.Kept.{Kept as KeptRow, kept_of, no_row, row_of as row_in}
use Rattle.pp_store.specs.declared.faults.KeepFault.{KeepFault}
use Rattle.pp_world.specs.declared.disk.DiskFault.{DiskFault}
use Rattle.pp_keeps_law.proofs.Held.{less_false, not_less}
use Rattle.pp_keeps_law.proofs.Planned.{IsLaid, due_laid, due_long, due_more, laid_of}
use Rattle.pp_keeps_law.proofs.Steps.{cases, laid_cases, or_off}
use Rattle.pp_keeps_law.specs.All.{HasNextRun}
use Rattle.pp_keeps_law.specs.Plans.{IsNewDraft, IsNextRun, as_one, at_once, of_many}
use Rattle.pp_keeps_law.specs.Stands.{StandsToKeep}

-- nothing changed, and no run is full
pub record HasStayed (x y : Kept) (id : ObjectId) (goes : Bool) : Type 0 where
  pub state : y.state ≡ x.state
  pub shelf : y.outside.shelf ≡ x.outside.shelf
  pub ends : goes ≡ false
  pub none : (i : Instance) → instance_of id x.state.cache.instances ≡ Some i → HasNextRun x.state x.outside.shelf id i → ⊥

pub record HasDrafted (x y : Kept) (id : ObjectId) (goes : Bool) : Type 0 where
  pub row : Instance
  pub found : instance_of id x.state.cache.instances ≡ Some row
  pub whole : ℕ
  pub new : IsNewDraft x.state id row x.outside.shelf whole
  pub result : Result (Unit {0}) KeepFault
  pub state : y.state ≡ with_outcome id (drafted_to (Some result) whole) x.state
  pub shelf : y.outside.shelf ≡ kept_after result (entry_of row) whole x.outside.shelf
  pub ends : goes ≡ goes_on (drafted_to (Some result) whole)
  pub answers : Answers (refusal_of (entry_of row) x.outside.shelf) result

pub record HasSealed (x y : Kept) (id : ObjectId) (goes : Bool) : Type 0 where
  pub row : Instance
  pub found : instance_of id x.state.cache.instances ≡ Some row
  pub kept : KeptRow
  pub len : ℕ
  pub next : IsNextRun x.state id row x.outside.shelf kept len
  pub result : Result ℕ DiskFault
  pub state : y.state ≡ with_outcome id (sealed_to (Some result)) x.state
  pub shelf : y.outside.shelf ≡ extended_after result row.key x.outside.shelf
  pub ends : goes ≡ goes_on (sealed_to (Some result))
  pub extent : IfOk result (λ far. far ≡ kept.extent + len)

pub data OneRun (x y : Kept) (id : ObjectId) (goes : Bool) : Type 0 where
  stayed : HasStayed x y id goes → OneRun x y id goes
  drafted : HasDrafted x y id goes → OneRun x y id goes
  sealed : HasSealed x y id goes → OneRun x y id goes

same_found : (o : Option Instance) (i j : Instance) → o ≡ Some i → o ≡ Some j → i ≡ j
same_found o i j a b = let both : Some i ≡ Some j = sym a ∙ b in cc both

not_both : (o : Option KeptRow) (k : KeptRow) → o ≡ None → o ≡ Some k → ⊥
not_both o k a b = let both : None ≡ Some k = sym a ∙ b in cc both

module _ (number : ℕ → ℕ) (s : State) (x y : Kept) (id : ObjectId) (room : ℕ) (goes : Bool) (long : 286720 ≤ room) (none : x.state.cache.outdated ≡ []) (stands : StandsToKeep number x.state x.outside.shelf s) (kr : KeepsRun id room x y goes) where
  abbrev Stays : Type 0
  Stays = (i : Instance) → instance_of id x.state.cache.instances ≡ Some i → HasNextRun x.state x.outside.shelf id i → ⊥

  idle_is : IsIdle x.outside y.outside kr.outcome → Stays → OneRun x y id goes
  idle_is idle why = stayed (record {
    state = kr.state ∙ ap (λ o. with_outcome id o x.state) idle.none;
    shelf = idle.still.shelf;
    ends = kr.goes_is ∙ ap (λ o. goes_on o) idle.none;
    none = why;
  })

  module _ (i : Instance) (found : instance_of id x.state.cache.instances ≡ Some i) where
    -- where its next run is none, it has none
    so : (HasNextRun x.state x.outside.shelf id i → ⊥) → Stays
    so never j there next = never (subst (λ (z : Instance). HasNextRun x.state x.outside.shelf id z) (same_found (instance_of id x.state.cache.instances) j i there found) next)

    nothing_kept : kept_of i.key x.outside.shelf ≡ None → Stays
    nothing_kept is = so (λ next. not_both (kept_of i.key x.outside.shelf) next.kept is next.next.there)

    -- ---- a draft

    draft_is : (whole : ℕ) (bytes : Bytes) → IsNewDraft x.state id i x.outside.shelf whole → laid (body_at i.version.length) room id 0 whole x.state.cache ≡ Some bytes → DraftsRow (entry_of i) bytes x.outside y.outside kr.outcome → OneRun x y id goes
    draft_is whole bytes new laid_is d = by d.answer d.drafts d.notes d.is
      where
        out : IsLaid (body_at i.version.length) room whole (run_at_hand 64 id.slot 0 x.state.cache.chunks) bytes
        out = laid_of (body_at i.version.length) room whole (run_at_hand 64 id.slot 0 x.state.cache.chunks) bytes laid_is

        size : length bytes ≡ whole
        size = let is = out.is in let enough = out.long in let taken = length-take whole (run_at_hand 64 id.slot 0 x.state.cache.chunks) in omega (arith, ap (λ (bs : Bytes). length bs) is, enough, taken)

        by : (answer : Option (Result (Unit {0}) KeepFault)) → Drafts (entry_of i) bytes answer x.outside d.between → Notes (draft_notes answer (entry_of i) (length bytes)) d.between y.outside → kr.outcome ≡ drafted_to answer (length bytes) → OneRun x y id goes
        by None asked notes is = stayed (record {
          state = kr.state ∙ ap (λ o. with_outcome id o x.state) is;
          shelf = notes.shelf ∙ asked.still.shelf;
          ends = kr.goes_is ∙ ap (λ o. goes_on o) is;
          none = nothing_kept new.none;
        })
        by (Some r) asked notes is = drafted (record {
          row = i;
          found = found;
          whole = whole;
          new = new;
          result = r;
          state = kr.state ∙ ap (λ o. with_outcome id o x.state) is ∙ ap (λ (n : ℕ). with_outcome id (drafted_to (Some r) n) x.state) size;
          shelf = notes.shelf ∙ asked.map ∙ ap (λ (n : ℕ). kept_after r (entry_of i) n x.outside.shelf) size;
          ends = kr.goes_is ∙ ap (λ o. goes_on o) is ∙ ap (λ (n : ℕ). goes_on (drafted_to (Some r) n)) size;
          answers = asked.refused;
        })

    -- ---- a run

    seal_is : (kept : KeptRow) (len : ℕ) (bytes : Bytes) → IsNextRun x.state id i x.outside.shelf kept len → length bytes ≡ len → is_more kept.entry.version.length kept.extent len ≡ true → SealsRow (entry_of i) bytes x.outside y.outside kr.outcome → OneRun x y id goes
    seal_is kept len bytes next size more d = by d.answer d.seals d.notes d.is
      where
        asked_for : is_more_of (length bytes) (kept_of i.key x.outside.shelf) ≡ true
        asked_for = ap₂ (λ (n : ℕ) (o : Option KeptRow). is_more_of n o) size next.there ∙ more

        by : (answer : Option (Result ℕ DiskFault)) → Seals (entry_of i).key bytes answer x.outside d.between → Notes (seal_notes answer (entry_of i)) d.between y.outside → kr.outcome ≡ sealed_to answer → OneRun x y id goes
        by None asked notes is = absurd (let both : false ≡ true = asked.answered ∙ asked_for in cc both)
        by (Some r) asked notes is = sealed (record {
          row = i;
          found = found;
          kept = kept;
          len = len;
          next = next;
          result = r;
          state = kr.state ∙ ap (λ o. with_outcome id o x.state) is;
          shelf = notes.shelf ∙ asked.map;
          ends = kr.goes_is ∙ ap (λ o. goes_on o) is;
          extent = far r asked.extent;
        })
          where
            far : (r : Result ℕ DiskFault) → IfOk r (λ e. e ≡ (row_in i.key x.outside.shelf).extent + length bytes) → IfOk r (λ e. e ≡ kept.extent + len)
            far (Ok e) is = is ∙ ap₂ (λ (o : Option KeptRow) (n : ℕ). (unwrap_or o no_row).extent + n) next.there size
            far (Err fault) is = is

    abbrev e : Row
    e = entry_of i

    by_first : i.is_retired ≡ false → i.version.length ≤ 67108864 → kept_of i.key x.outside.shelf ≡ None → KeepsPlanned (plan_by x.state id e None) x.state id room e x.outside y.outside kr.outcome → OneRun x y id goes
    by_first row body nothing keeps =
        cases (λ plan. KeepsPlanned plan x.state id room e x.outside y.outside kr.outcome) x.state.has_lost_draft _ _ keeps (λ lost idle. idle_is idle (nothing_kept nothing)) (λ lost rest.
        laid_cases (λ plan. KeepsPlanned plan x.state id room e x.outside y.outside kr.outcome) (λ plan o. KeepsLaid plan o e x.outside y.outside kr.outcome) (λ plan. bytes_for plan e.version.length room id x.state.cache) (nat_le x.state.run 1) _ _ (λ plan keeps. keeps) rest
        (λ one idle. idle_is idle (nothing_kept nothing))
        (λ one bytes is drafts. draft_is 0 bytes (record { row = row; body = body; none = nothing; lost = lost; with = at_once one refl }) is drafts)
        (λ many rest. cases (λ plan. KeepsPlanned plan x.state id room e x.outside y.outside kr.outcome) (is_some (full_run x.state id i.version.length 0)) _ _ rest
        (λ full rest.
        laid_cases (λ plan. KeepsPlanned plan x.state id room e x.outside y.outside kr.outcome) (λ plan o. KeepsLaid plan o e x.outside y.outside kr.outcome) (λ plan. bytes_for plan e.version.length room id x.state.cache) (nat_lt (4096 * x.state.run) i.version.length) _ _ (λ plan keeps. keeps) rest
        (λ long idle. idle_is idle (nothing_kept nothing))
        (λ long bytes is drafts. draft_is 0 bytes (record { row = row; body = body; none = nothing; lost = lost; with = of_many many full long refl }) is drafts)
        (λ short rest.
        laid_cases (λ plan. KeepsPlanned plan x.state id room e x.outside y.outside kr.outcome) (λ plan o. KeepsLaid plan o e x.outside y.outside kr.outcome) (λ plan. bytes_for plan e.version.length room id x.state.cache) (is_ready [] i.fields i.times x.state.now) _ _ (λ plan keeps. keeps) rest
        (λ ready idle. idle_is idle (nothing_kept nothing))
        (λ ready bytes is drafts. draft_is i.version.length bytes (record { row = row; body = body; none = nothing; lost = lost; with = as_one many full short ready refl }) is drafts)
        (λ ready idle. idle_is idle (nothing_kept nothing))))
        (λ full idle. idle_is idle (nothing_kept nothing))))

    same_kept : (kept : KeptRow) → kept_of i.key x.outside.shelf ≡ Some kept → (next : HasNextRun x.state x.outside.shelf id i) → next.kept ≡ kept
    same_kept kept there next = let both : Some next.kept ≡ Some kept = sym next.next.there ∙ there in cc both

    by_next : i.is_retired ≡ false → (kept : KeptRow) → kept_of i.key x.outside.shelf ≡ Some kept → KeepsPlanned (plan_by x.state id e (Some kept)) x.state id room e x.outside y.outside kr.outcome → OneRun x y id goes
    by_next row kept there keeps =
        cases (λ plan. KeepsPlanned plan x.state id room e x.outside y.outside kr.outcome) (is_same_version i.version kept.entry.version) _ _ keeps
        (λ same rest. by_full same (full_run x.state id i.version.length kept.extent) refl rest)
        (λ other idle. idle_is idle (so (λ next. let both : true ≡ false = sym next.next.same ∙ ap (λ (k : KeptRow). is_same_version i.version k.entry.version) (same_kept kept there next) ∙ other in cc both)))
      where
        by_laid : (len : ℕ) → (nr : IsNextRun x.state id i x.outside.shelf kept len) → (o : Option Bytes) → laid 0 room id kept.extent len x.state.cache ≡ o → KeepsLaid (plan_behind kept.extent (Some len)) o e x.outside y.outside kr.outcome → OneRun x y id goes
        by_laid len nr None is idle = absurd (not_some (laid 0 room id kept.extent len x.state.cache) is (due_laid number x.state x.outside.shelf s id i stands found none kept len nr room long))
          where
            not_some : (o : Option Bytes) {bytes : Bytes} → o ≡ None → o ≡ Some bytes → ⊥
            not_some o {bytes} a b = let both : None ≡ Some bytes = sym a ∙ b in cc both
        by_laid len nr (Some bytes) is row =
            seal_is kept len bytes nr (due_long number x.state x.outside.shelf s id i stands found none kept len nr room bytes is) (due_more number x.state x.outside.shelf s id i stands found none kept len nr) row

        by_full : is_same_version i.version kept.entry.version ≡ true → (o : Option ℕ) → full_run x.state id i.version.length kept.extent ≡ o → KeepsPlanned (plan_behind kept.extent o) x.state id room e x.outside y.outside kr.outcome → OneRun x y id goes
        by_full same None is idle =
            idle_is idle (so (λ next. let both : None ≡ Some next.len = sym is ∙ ap (λ (k : KeptRow). full_run x.state id i.version.length k.extent) (sym (same_kept kept there next)) ∙ next.next.full in cc both))
        by_full same (Some len) is rest = by_laid len (record { row = row; there = there; same = same; full = is }) (laid 0 room id kept.extent len x.state.cache) refl rest

    by_plan : KeepsNextOf (Some i) x.state id room x.outside y.outside kr.outcome → OneRun x y id goes
    by_plan keeps =
        cases (λ plan. KeepsPlanned plan x.state id room e x.outside y.outside kr.outcome) (i.is_retired || nat_lt 67108864 i.version.length) _ _ keeps
        (λ out idle. idle_is idle (so (λ next. let both : false ≡ true = sym (within_of next) ∙ out in cc both)))
        (λ within rest. by_kept (or_off i.is_retired (nat_lt 67108864 i.version.length) within).0 (less_false 67108864 i.version.length (or_off i.is_retired (nat_lt 67108864 i.version.length) within).1) (kept_of i.key x.outside.shelf) refl rest)
      where
        within_of : HasNextRun x.state x.outside.shelf id i → (i.is_retired || nat_lt 67108864 i.version.length) ≡ false
        within_of next = ap₂ (λ (a b : Bool). a || b) next.next.row (not_less 67108864 i.version.length next.body)

        by_kept : i.is_retired ≡ false → i.version.length ≤ 67108864 → (o : Option KeptRow) → kept_of i.key x.outside.shelf ≡ o → KeepsPlanned (plan_by x.state id e o) x.state id room e x.outside y.outside kr.outcome → OneRun x y id goes
        by_kept row body None nothing rest = by_first row body nothing rest
        by_kept row body (Some kept) there rest = by_next row kept there rest

  pub one_run : OneRun x y id goes
  one_run = by (instance_of id x.state.cache.instances) refl kr.keeps
    where
      by : (o : Option Instance) → instance_of id x.state.cache.instances ≡ o → KeepsNextOf o x.state id room x.outside y.outside kr.outcome → OneRun x y id goes
      by None found idle = idle_is idle (λ i there next. let both : None ≡ Some i = sym found ∙ there in cc both)
      by (Some i) found keeps = by_plan i found keeps
