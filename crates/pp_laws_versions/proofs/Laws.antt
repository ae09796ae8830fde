-- The law: a row in memory, and the entry that stands for it, are of one version.
use Rattle.std.proofs.Common.{◌≡◌, ◌<◌, ◌*◌, refl, sym, subst, ap, ℕ, zero, suc, Bool, true, false, not, List, [], ◌∷◌, Option, Some, None, arith}
use Rattle.pp_law.specs.After.{after}
use Rattle.pp_law.specs.Lawful.{LawfulFrom}
use Rattle.pp_law.specs.Phases.{next}
use Rattle.pp_law.specs.Chunks.{filled}
use Rattle.pp_law.specs.State.{State, Entry, Term, start}
use Rattle.pp_law.specs.Table.{extent_of, is_entry_of, is_instance, is_kept_row_of, kept_row}
use Rattle.pp_laws.proofs.Lists.{in_find}
use Rattle.pp_laws.proofs.Happenings.{after-sound}
use Rattle.pp_laws.proofs.Laws.{start-sound}
use Rattle.pp_laws.proofs.Sound.{Sound}
use Rattle.pp_laws.proofs.Tests.{first_holds, same_bytes, same_number, second_holds}
use Rattle.pp_laws.specs.Runs.{IsIn, after_all}
use Rattle.pp_laws_crash.proofs.CrashLaws.{one_step, since, start_inv}
use Rattle.pp_laws_crash.proofs.Steps.{Inv}
use Rattle.pp_obeys.proofs.Obeying.{Good, after-good, log-good}
use Rattle.pp_obeys.specs.Obeys.{Obeys, phases_on}
use Rattle.pp_world.specs.Log.{Log}
use Rattle.pp_laws_versions.proofs.Happenings.{changed-keeps}
use Rattle.pp_laws_versions.proofs.Turns.{next-keeps}
use Rattle.pp_laws_versions.proofs.Chunks.{IsAllOrNone}
use Rattle.pp_laws_versions.proofs.Rows.{kept_so}
use Rattle.pp_laws_versions.proofs.View.{FactsOf, Holds, facts_of, holds}
use Rattle.pp_laws_versions.specs.Versions.{FoundOnesHaveOneVersion, TurnsHaveOneVersion}
use Rattle.pp_laws_versions.specs.Wholes.{TurnsHoldAllOrNone}

-- ---- along a log, and some phases on

-- what each state along a log has: what is loaded counts as sent
record Met (s : State) : Type 0 where
  good : Good s
  sound : Sound since s
  inv : Inv s
  held : Holds false s

all-keeps : (s : State) (log : Log) → LawfulFrom s log → Met s → Met (after_all s log)
all-keeps s [] lawful met = met
all-keeps s (e ∷ log) lawful met =
    let step = one_step s e lawful.0 met.sound met.inv in
    all-keeps (after s e) log lawful.1 (record {
      good = after-good s e lawful.0 met.good;
      sound = after-sound s e refl (λ counts. step.0) lawful.0 met.sound;
      inv = step.1;
      held = changed-keeps s e lawful.0 met.good.settled met.inv met.good.sound met.held;
    })

on-keeps : (n : ℕ) (s : State) → Holds false s → Holds false (phases_on n s)
on-keeps zero s h = h
on-keeps (suc n) s h = on-keeps n (next s) (next-keeps s h)

begins : (terms : List Term) → Holds false (start terms)
begins terms = holds (record {
  each = λ e i fresh. absurd i;
  next = λ e i. absurd i;
  pending = λ e d i j is. absurd i;
  still = λ on. refl;
  once = λ e d i. absurd i;
  free = λ e d i. absurd i;
  last = tt;
  whole = λ e i. absurd i;
  enters = λ e i. absurd i;
  notes = λ key tag n extent i. absurd i;
  differ = tt;
  given = λ x i. absurd i;
  chunks_given = λ c i. absurd i;
})

pub obeys-keeps : (terms : List Term) (s : State) (log : Log) → Obeys terms s log → Holds false s
obeys-keeps terms s log obeys =
    subst (λ (t : State). Holds false t) obeys.goes.there
    (on-keeps obeys.goes.phases _ (all-keeps (start terms) log obeys.lawful (record { good = log-good terms [] tt; sound = start-sound since terms refl; inv = start_inv terms; held = begins terms })).held)

-- ---- all

pub turns_have_one : TurnsHaveOneVersion
turns_have_one terms s log obeys x e i stands j fresh is = sym (((facts_of (obeys-keeps terms s log obeys)).each e j fresh).rows x i stands (sym is))

isnt : (b : Bool) → not b ≡ true → b ≡ false
isnt true is = absurd (cc is)
isnt false is = refl

pub found_have_one : FoundOnesHaveOneVersion
found_have_one terms s log obeys id x e found stands kept =
    let w = in_find (is_kept_row_of x.key) e s.entries kept in
    turns_have_one terms s log obeys x e (in_find (is_instance id) x s.instances found).0 stands w.0 (isnt e.is_stale (first_holds (not e.is_stale) (is_entry_of x.key e) w.1)) (same_bytes e.key x.key (second_holds (not e.is_stale) (is_entry_of x.key e) w.1))

-- ---- what is in memory of a chunk

extent_none : (extent at : ℕ) → at < extent → extent ≡ 0 → ⊥
extent_none extent at lt is = omega (arith, lt, is)

pub hold_all_or_none : TurnsHoldAllOrNone
hold_all_or_none terms s log obeys id i x found below = by x.is_retired refl
  where
    h : FactsOf false s
    h = facts_of (obeys-keeps terms s log obeys)

    there : IsIn x s.instances × (is_instance id x ≡ true)
    there = in_find (is_instance id) x s.instances found

    kept : x.is_retired ≡ false → (o : Option Entry) → kept_row s x.key ≡ o → extent_of s x ≡ (elim o as (λ c. ℕ) [ None ↦ 0 | Some e ↦ e.extent ]) → IsAllOrNone x.version.length i (filled id i s.chunks)
    kept stands None none is = absurd (extent_none (extent_of s x) (i * 4096) below is)
    kept stands (Some e) some is =
        let w = kept_so s x.key e some in
        subst (λ (n : ℕ). IsAllOrNone x.version.length i (filled n i s.chunks)) (same_number x.id id there.1) (h.whole e w.0 w.1 x there.0 stands w.2 i (subst (λ (n : ℕ). i * 4096 < n) is below))

    by : (b : Bool) → x.is_retired ≡ b → IsAllOrNone x.version.length i (filled id i s.chunks)
    by true is = absurd (extent_none (extent_of s x) (i * 4096) below (ap (λ (b : Bool). elim b as (λ c. ℕ) [ true ↦ 0 | false ↦ elim (kept_row s x.key) as (λ c. ℕ) [ None ↦ 0 | Some e ↦ e.extent ] ]) is))
    by false is = kept is (kept_row s x.key) refl (ap (λ (b : Bool). elim b as (λ c. ℕ) [ true ↦ 0 | false ↦ elim (kept_row s x.key) as (λ c. ℕ) [ None ↦ 0 | Some e ↦ e.extent ] ]) is)
