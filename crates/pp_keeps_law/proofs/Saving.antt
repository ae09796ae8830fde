-- The next run of an instance is drafted, or sealed.
use Rattle.std.proofs.Common.{◌≡◌, refl, sym, subst, ap, ◌∙◌, ◌≤◌, ℕ, ◌+◌, ◌==◌, Bool, true, false, cond, is_ok, IfOk, [], ◌∷◌, ◌++◌, length, Option, Some, None, Result, Ok, Err}
use Rattle.std.specs.Prelude.{nat_le, unwrap_or}
use Rattle.pp_entry.specs.Entries.{Row}
use Rattle.pp_entry.specs.Spelling.{text_of}
use Rattle.pp_entry.specs.Texts.{body_at}
use Rattle.pp_gate.specs.Runs.{Ran}
use Rattle.pp_keeping.specs.Keeping.{with_outcome}
use Rattle.pp_keeping.specs.Runs.{draft_notes, drafted_to, entry_of, laid, seal_notes, sealed_to}
use Rattle.pp_law.specs.Lists.{Bytes}
use Rattle.pp_law.specs.State.{State, Instance as Known}
use Rattle.pp_law.specs.Store.{drafted_with}
use Rattle.pp_laws_crash.proofs.Begins.{may_draft_is}
use Rattle.pp_laws.proofs.Tests.{second_holds}
use Rattle.pp_cache_law.proofs.Numbers.{some_is}
use Rattle.pp_objects.specs.Instances.{Instance}
use Rattle.pp_objects.specs.declared.id.ObjectId.{ObjectId}
use Rattle.pp_obeys.proofs.Moving.{leads_to}
use Rattle.pp_obeys.specs.Moves.{AreCalm, MovesAll}
use Rattle.pp_shelf.specs.Given.{MayBeDrafted}
use Rattle.pp_shelf_law.proofs.Drafted.{drafts}
use Rattle.pp_shelf_law.proofs.Sealed.{seals}
use Rattle.pp_shelf_law.specs.Drafts.{IsToDraft, RanKeep, draft_notes as law_notes, drafted}
use Rattle.pp_shelf_law.specs.Seals.{IsToSeal, seal_note, sealed}
use Rattle.pp_shelf_law.specs.Takings.{LeadsTo}
use Rattle.pp_state.specs.Bringing.{instance_of}
use Rattle.pp_state.specs.declared.state.State.{State as Turn}
use Rattle.pp_store.specs.Answers.{Answers, IsLate, extend_ops, file_with, is_full, refusal_of}
use Rattle.pp_store.specs.Changes.{entry_with, extended_after, kept_after}
use Rattle.pp_store.specs.Kept.{Kept as KeptRow, KeptMap, is_closed as is_closed_in, kept_of, no_row, row_of}
use Rattle.pp_entry.specs.Texts.{fits}
use Rattle.pp_store.specs.declared.faults.KeepFault.{KeepFault}
use Rattle.pp_store.specs.declared.faults.KeepFault.TheVariants.{Closed, Full, TooLong, NoDraft, DiskFault as NotNamed, OutOfMemory}
use Rattle.pp_target.specs.Name.{name_of}
use Rattle.pp_valid.specs.declared.version.Version.{Version}
use Rattle.pp_world.specs.Log.{Log}
use Rattle.pp_world.specs.declared.disk.DiskFault.{DiskFault}
use Rattle.pp_keeps_law.proofs.Drafting.{drafted_so, key_short}
use Rattle.pp_keeps_law.proofs.Found.{IsKnown, known_of, row_of_known}
use Rattle.pp_keeps_law.proofs.Held.{up_to}
use Rattle.pp_keeps_law.proofs.Planned.{IsUnrefused, drafts_may_begin, seals_may_begin, unrefused}
use Rattle.pp_keeps_law.proofs.Sealing.{sealed_so}
use Rattle.pp_keeps_law.proofs.Taking.{if_shown}
use Rattle.pp_keeps_law.specs.Keeps.{HasKept}
use Rattle.pp_keeps_law.specs.Plans.{IsDrafted, IsNewDraft, IsNextRun, IsSealed}
use Rattle.pp_keeps_law.specs.Stands.{IsShort, StandsToKeep}

-- ---- notes

abbrev calm_by : Bool → Log → Log
calm_by b notes = cond b [] notes

either_calm : (b : Bool) (notes : Log) → AreCalm notes → AreCalm (calm_by b notes)
either_calm true notes calm = refl
either_calm false notes calm = calm

pub calm_drafts : (r : Result (Unit {0}) KeepFault) (e : Row) (n : ℕ) → AreCalm (draft_notes (Some r) e n)
calm_drafts (Ok done) e n = either_calm (n == 0) _ refl
calm_drafts (Err fault) e n = refl

pub calm_seals : (r : Result ℕ DiskFault) (e : Row) → AreCalm (seal_notes (Some r) e)
calm_seals (Ok extent) e = refl
calm_seals (Err fault) e = refl

either_same : (b : Bool) (notes : Log) → calm_by b notes ≡ (elim b as (λ c. Log) [ true ↦ [] | false ↦ notes ])
either_same true notes = refl
either_same false notes = refl

same_drafts : (r : Result (Unit {0}) KeepFault) (e : Row) (n : ℕ) → draft_notes (Some r) e n ≡ law_notes e.key e.version n r
same_drafts (Ok done) e n = either_same (n == 0) _
same_drafts (Err fault) e n = refl

same_seals : (r : Result ℕ DiskFault) (e : Row) → seal_notes (Some r) e ≡ seal_note e.key e.version r ∷ []
same_seals (Ok extent) e = refl
same_seals (Err fault) e = refl

-- ---- what is refused changes nothing

abbrev IsRefusal : Result (Unit {0}) KeepFault → Type 0
IsRefusal (Ok done) = ⊥
IsRefusal (Err Closed) = Unit {0}
IsRefusal (Err Full) = Unit {0}
IsRefusal (Err TooLong) = Unit {0}
IsRefusal (Err NoDraft) = ⊥
IsRefusal (Err NotNamed) = ⊥
IsRefusal (Err OutOfMemory) = ⊥

refusal_is : (e : Row) (shelf : KeptMap) (fault : KeepFault) → refusal_of e shelf ≡ Some fault → IsRefusal (Err fault)
refusal_is e shelf fault is = by (is_closed_in (name_of e.key) shelf) (is_full shelf) (fits e.fields (text_of e)) is
  where
    by : (a b c : Bool) → cond a (Some Closed) (cond b (Some Full) (cond c None (Some TooLong))) ≡ Some fault → IsRefusal (Err fault)
    by true b c eq = let same : Closed ≡ fault = cc eq in subst (λ (f : KeepFault). IsRefusal (Err f)) same tt
    by false true c eq = let same : Full ≡ fault = cc eq in subst (λ (f : KeepFault). IsRefusal (Err f)) same tt
    by false false true eq = absurd (cc eq)
    by false false false eq = let same : TooLong ≡ fault = cc eq in subst (λ (f : KeepFault). IsRefusal (Err f)) same tt

record StaysSo (p : Turn) (id : ObjectId) (shelf : KeptMap) (e : Row) (n : ℕ) (r : Result (Unit {0}) KeepFault) (ops : Log) : Type 0 where
  ops_are : ops ++ draft_notes (Some r) e n ≡ []
  state : with_outcome id (drafted_to (Some r) n) p ≡ p
  shelf_is : kept_after r e n shelf ≡ shelf

stays_so : (p : Turn) (id : ObjectId) (shelf : KeptMap) (e : Row) (n : ℕ) (name file : Bytes) (r : Result (Unit {0}) KeepFault) (ops : Log) → IsRefusal r → RanKeep name file r ops → StaysSo p id shelf e n r ops
stays_so p id shelf e n name file (Ok done) ops refusal ran = absurd refusal
stays_so p id shelf e n name file (Err Closed) ops refusal ran = record { ops_are = ap (λ (k : Log). k ++ []) ran; state = refl; shelf_is = refl }
stays_so p id shelf e n name file (Err Full) ops refusal ran = record { ops_are = ap (λ (k : Log). k ++ []) ran; state = refl; shelf_is = refl }
stays_so p id shelf e n name file (Err TooLong) ops refusal ran = record { ops_are = ap (λ (k : Log). k ++ []) ran; state = refl; shelf_is = refl }
stays_so p id shelf e n name file (Err NoDraft) ops refusal ran = absurd refusal
stays_so p id shelf e n name file (Err NotNamed) ops refusal ran = absurd refusal
stays_so p id shelf e n name file (Err OutOfMemory) ops refusal ran = absurd refusal

-- ---- a draft, in the law

module _ (number : ℕ → ℕ) (p : Turn) (shelf : KeptMap) (s : State) (id : ObjectId) (i : Instance) (stands : StandsToKeep number p shelf s) (none : p.cache.outdated ≡ []) (found : instance_of id p.cache.instances ≡ Some i) where
  abbrev k : IsKnown number p s id i
  k = known_of number p shelf s id i stands found

  abbrev x : Known
  x = k.known

  abbrev ex : Row
  ex = entry_with x.key x.version x.fields x.times

  module _ (whole room size : ℕ) (bytes : Bytes) (new : IsNewDraft p id i shelf whole) (laid_is : laid (body_at i.version.length) room id 0 whole p.cache ≡ Some bytes) (given : MayBeDrafted shelf (entry_of i) size) (r : Result (Unit {0}) KeepFault) (ops : Log) (ran : RanKeep (name_of (entry_of i).key) (file_with (entry_of i) bytes) r ops) where
    refused_moves : (fault : KeepFault) → refusal_of (entry_of i) shelf ≡ Some fault → r ≡ Err fault → MovesAll (HasKept number (with_outcome id (drafted_to (Some r) (length bytes)) p) (kept_after r (entry_of i) (length bytes) shelf) s) (ops ++ draft_notes (Some r) (entry_of i) (length bytes)) s
    refused_moves fault is same =
        let refusal : IsRefusal r = subst (λ (q : Result (Unit {0}) KeepFault). IsRefusal q) (sym same) (refusal_is (entry_of i) shelf fault is) in
        let so : StaysSo p id shelf (entry_of i) (length bytes) r ops = stays_so p id shelf (entry_of i) (length bytes) (name_of (entry_of i).key) (file_with (entry_of i) bytes) r ops refusal ran in
        subst (λ (hs : Log). MovesAll (HasKept number (with_outcome id (drafted_to (Some r) (length bytes)) p) (kept_after r (entry_of i) (length bytes) shelf) s) hs s) (sym so.ops_are)
        (if_shown number (with_outcome id (drafted_to (Some r) (length bytes)) p) p (kept_after r (entry_of i) (length bytes) shelf) shelf s [] so.state so.shelf_is (record { stands = stands; rest = refl }))

    module _ (late : IsLate r) (free : refusal_of (entry_of i) shelf ≡ None) where
      planned : IsDrafted number s id whole bytes
      planned = drafts_may_begin number p shelf s id i whole room size bytes stands found new laid_is given free

      known_same : planned.known ≡ x
      known_same = some_is planned.known x (sym planned.by_number ∙ k.by_number)

      to : IsToDraft s x bytes
      to = subst (λ (z : Known). IsToDraft s z bytes) known_same planned.to

      abbrev w : ℕ
      w = drafted_with s x

      w_is : length bytes ≡ w
      w_is = planned.long ∙ sym planned.with ∙ ap (λ (z : Known). drafted_with s z) known_same

      clear : IsUnrefused (entry_of i) shelf
      clear = unrefused (entry_of i) shelf free

      short : IsShort (record { entry = ex; extent = w })
      short = record {
        key = subst (λ (e : Row). length e.key ≤ 8192) k.entry (key_short (entry_of i) (up_to (length (text_of (entry_of i))) 8192 (second_holds (nat_le (length (entry_of i).fields) 95) (nat_le (length (text_of (entry_of i))) 8192) clear.fits_in)));
        body = subst (λ (v : Version). v.length ≤ 67108864) k.shows.version new.body;
      }

      law_leads : LeadsTo (ops ++ law_notes x.key x.version w r) s (drafted x w r ops s) (kept_after r ex w shelf)
      law_leads = drafts shelf s x bytes r ops stands.rests stands.alone to (subst (λ (e : Row). RanKeep (name_of e.key) (file_with e bytes) r ops) k.entry ran)

      law_moves : MovesAll (HasKept number (with_outcome id (drafted_to (Some r) w) p) (kept_after r ex w shelf) s) (ops ++ law_notes x.key x.version w r) s
      law_moves =
          leads_to (HasKept number (with_outcome id (drafted_to (Some r) w) p) (kept_after r ex w shelf) s) (ops ++ law_notes x.key x.version w r) s (drafted x w r ops s) law_leads.leads
          (drafted_so number p shelf s id x w stands none (row_of_known number p shelf s id i stands k (sym k.shows.retired ∙ new.row)) (may_draft_is s x to.may).free short r late ops law_leads.rests)

      late_moves : MovesAll (HasKept number (with_outcome id (drafted_to (Some r) (length bytes)) p) (kept_after r (entry_of i) (length bytes) shelf) s) (ops ++ draft_notes (Some r) (entry_of i) (length bytes)) s
      late_moves =
          subst (λ (n : ℕ). MovesAll (HasKept number (with_outcome id (drafted_to (Some r) n) p) (kept_after r (entry_of i) n shelf) s) (ops ++ draft_notes (Some r) (entry_of i) n) s) (sym w_is)
          (subst (λ (e : Row). MovesAll (HasKept number (with_outcome id (drafted_to (Some r) w) p) (kept_after r e w shelf) s) (ops ++ draft_notes (Some r) e w) s) (sym k.entry)
          (subst (λ (hs : Log). MovesAll (HasKept number (with_outcome id (drafted_to (Some r) w) p) (kept_after r ex w shelf) s) (ops ++ hs) s) (sym (same_drafts r ex w)) law_moves))

    pub draft_moves : Answers (refusal_of (entry_of i) shelf) r → MovesAll (HasKept number (with_outcome id (drafted_to (Some r) (length bytes)) p) (kept_after r (entry_of i) (length bytes) shelf) s) (ops ++ draft_notes (Some r) (entry_of i) (length bytes)) s
    draft_moves answers = by (refusal_of (entry_of i) shelf) refl answers
      where
        by : (o : Option KeepFault) → refusal_of (entry_of i) shelf ≡ o → Answers o r → MovesAll (HasKept number (with_outcome id (drafted_to (Some r) (length bytes)) p) (kept_after r (entry_of i) (length bytes) shelf) s) (ops ++ draft_notes (Some r) (entry_of i) (length bytes)) s
        by None free late = late_moves late free
        by (Some fault) is same = refused_moves fault is same

  -- ---- a run, in the law

  module _ (kept : KeptRow) (len room : ℕ) (bytes : Bytes) (next : IsNextRun p id i shelf kept len) (laid_is : laid 0 room id kept.extent len p.cache ≡ Some bytes) (r : Result ℕ DiskFault) (ops : Log) (ran : Ran (extend_ops (row_of i.key shelf) bytes) (is_ok r) ops) (extent : IfOk r (λ far. far ≡ (row_of i.key shelf).extent + length bytes)) where
    due : IsSealed number s id bytes
    due = seals_may_begin number p shelf s id i kept len room bytes stands none found next laid_is

    due_same : due.known ≡ x
    due_same = some_is due.known x (sym due.by_number ∙ k.by_number)

    to_seal : IsToSeal s x due.entry bytes
    to_seal = subst (λ (z : Known). IsToSeal s z due.entry bytes) due_same due.to

    row_is : row_of i.key shelf ≡ kept
    row_is = ap (λ (o : Option KeptRow). unwrap_or o no_row) next.there

    seal_leads : LeadsTo (ops ++ seal_note x.key x.version r ∷ []) s (sealed x due.entry r ops s) (extended_after r x.key shelf)
    seal_leads =
        seals shelf s x due.entry kept bytes r ops stands.rests stands.alone to_seal (ap (λ (key : Bytes). kept_of key shelf) (sym k.shows.key) ∙ next.there)
        (subst (λ (row : KeptRow). Ran (extend_ops row bytes) (is_ok r) ops) row_is ran) (subst (λ (row : KeptRow). IfOk r (λ far. far ≡ row.extent + length bytes)) row_is extent)

    law_seals : MovesAll (HasKept number (with_outcome id (sealed_to (Some r)) p) (extended_after r x.key shelf) s) (ops ++ seal_note x.key x.version r ∷ []) s
    law_seals =
        leads_to (HasKept number (with_outcome id (sealed_to (Some r)) p) (extended_after r x.key shelf) s) (ops ++ seal_note x.key x.version r ∷ []) s (sealed x due.entry r ops s) seal_leads.leads
        (sealed_so number p shelf s id x due.entry stands none (row_of_known number p shelf s id i stands k (sym k.shows.retired ∙ next.row)) to_seal.kept r ops seal_leads.rests)

    pub seal_moves : MovesAll (HasKept number (with_outcome id (sealed_to (Some r)) p) (extended_after r (entry_of i).key shelf) s) (ops ++ seal_notes (Some r) (entry_of i)) s
    seal_moves =
        subst (λ (e : Row). MovesAll (HasKept number (with_outcome id (sealed_to (Some r)) p) (extended_after r e.key shelf) s) (ops ++ seal_notes (Some r) e) s) (sym k.entry)
        (subst (λ (hs : Log). MovesAll (HasKept number (with_outcome id (sealed_to (Some r)) p) (extended_after r x.key shelf) s) (ops ++ hs) s) (sym (same_seals r ex)) law_seals)
