-- The operations of a publish, and what they leave at each moment, by its answer.
use Rattle.std.proofs.Common.{◌≡◌, inl, inr, Bool, true, false, List, [], ◌∷◌, ◌++◌, Option, Some, refl, ◌∙◌, ap, append_assoc}
use Rattle.std.specs.Prelude.{OnOk, Result, Ok, Err, is_ok, is_err}
use Rattle.pp_world.specs.declared.happening.Happening.TheVariants.{Began, Did}
use Rattle.pp_world.specs.declared.op.DiskOp.{DiskOp}
use Rattle.pp_world.specs.declared.op.DiskOp.TheVariants.{Draft, SyncDraft, Publish}
use Rattle.pp_world.specs.Log.{AppendsAll, Log, Told}
use Rattle.pp_world.specs.Disk.{Bytes, View, settled}
use Rattle.pp_gate.specs.Gate.{HoldsJust, OldOr, OthersSame, RunsPublish, draft_ops, publish_ops}
use Rattle.pp_gate.specs.Runs.{During, EachMoment, Ran, RunsOps}
use Rattle.pp_gate.specs.declared.publishing.PublishFault.{PublishFault}
use Rattle.pp_gate.specs.declared.publishing.PublishFault.TheVariants.{NoDraft, DiskFault}
use Rattle.pp_gate.proofs.Ops.{IsOldOr, others_moments, published, published_slot}
use Rattle.pp_gate.proofs.Views.{moments, runs_more, told_after}

pub draft_done : {A E : Type 0} (old new : Option Log) (ops : List DiskOp) (r : Result A E) (b : Bool) → RunsOps old new ops (is_ok r) → b ≡ is_err r → b ≡ false → RunsOps old new ops true
draft_done old new ops (Ok a) b runs is good = runs
draft_done old new ops (Err e) b runs is good = absurd cc

pub draft_failed : {A E : Type 0} (old new : Option Log) (ops : List DiskOp) (r : Result A E) (b : Bool) → RunsOps old new ops (is_ok r) → b ≡ is_err r → b ≡ true → RunsOps old new ops false
draft_failed old new ops (Ok a) b runs is bad = absurd cc
draft_failed old new ops (Err e) b runs is bad = runs

-- what a draft that is synced appends
drafted : Bytes → Log
drafted file = Began (Draft file) ∷ Did (Draft file) true ∷ Began SyncDraft ∷ Did SyncDraft true ∷ []

all_ran : (file : Bytes) (hs : Log) → Ran (draft_ops file) true hs → hs ≡ drafted file
unfolding drafted
all_ran file hs (inl failed) = absurd cc
all_ran file hs (inr ran) = ran.1 ∙ ap (λ (l : Log). Began (Draft file) ∷ Did (Draft file) true ∷ l) (by ran.0 ran.2)
  where
    by : (rest : Log) → Ran (SyncDraft ∷ []) true rest → rest ≡ Began SyncDraft ∷ Did SyncDraft true ∷ []
    by rest (inl failed) = absurd cc
    by rest (inr last) = last.1 ∙ ap (λ (l : Log). Began SyncDraft ∷ Did SyncDraft true ∷ l) last.2.1

pub publish_failed : (old mid new : Option Log) (name file : Bytes) → RunsOps old mid (draft_ops file) true → AppendsAll mid new (λ l. Began (Publish name) ∷ Did (Publish name) false ∷ [])
    → AppendsAll old new (λ l. Began (Draft file) ∷ Did (Draft file) true ∷ Began SyncDraft ∷ Did SyncDraft true ∷ Began (Publish name) ∷ Did (Publish name) false ∷ [])
unfolding drafted
publish_failed old mid new name file runs call = record {
  was = λ l is.
      let later = call.was l is in
      let earlier = runs.was later.0 later.1 in
      let before : later.0 ≡ earlier.0 ++ drafted file = earlier.3 ∙ ap (λ (hs : Log). earlier.0 ++ hs) (all_ran file earlier.1 earlier.4) in
      (earlier.0, earlier.2, later.2 ∙ ap (λ (k : Log). k ++ Began (Publish name) ∷ Did (Publish name) false ∷ []) before ∙ joined earlier.0 name file);
}
  where
    joined : (k : Log) (name file : Bytes) → (k ++ drafted file) ++ Began (Publish name) ∷ Did (Publish name) false ∷ []
        ≡ k ++ Began (Draft file) ∷ Did (Draft file) true ∷ Began SyncDraft ∷ Did SyncDraft true ∷ Began (Publish name) ∷ Did (Publish name) false ∷ []
    joined k name file = append_assoc k (drafted file) (Began (Publish name) ∷ Did (Publish name) false ∷ [])

pub published_runs : (old mid new : Option Log) (name file : Bytes) → RunsOps old mid (draft_ops file) true → AppendsAll mid new (λ l. Began (Publish name) ∷ Did (Publish name) true ∷ []) → RunsOps old new (publish_ops name file) true
published_runs old mid new name file runs call = runs_more old mid new (draft_ops file) (Publish name) runs call

pub failed_runs : (old new : Option Log) (name file : Bytes) → AppendsAll old new (λ l. Began (Draft file) ∷ Did (Draft file) true ∷ Began SyncDraft ∷ Did SyncDraft true ∷ Began (Publish name) ∷ Did (Publish name) false ∷ [])
    → RunsOps old new (publish_ops name file) false
failed_runs old new name file call = record {
  was = λ l is. let w = call.was l is in (w.0, _, w.1, w.2, inr (_, refl, inr (_, refl, inl (refl, refl))));
}

old_or : (old new : Option Log) (name file : Bytes) (ok : Bool) → RunsOps old new (publish_ops name file) ok → EachMoment old new (OldOr name (Some file))
old_or old new name file ok runs = moments old new (publish_ops name file) ok name (λ (v : View). Unit {0}) (IsOldOr (Some file)) (record { at = λ l is. tt }) runs (λ v u. published name file v)

-- the old file or this one
pub publish_moments : {A : Type 0} (old new : Option Log) (name file : Bytes) (r : Result A PublishFault) → RunsPublish old new name file r → EachMoment old new (OldOr name (Some file))
publish_moments old new name file (Ok a) runs = old_or old new name file true runs
publish_moments old new name file (Err NoDraft) runs = moments old new (draft_ops file) false name (λ (v : View). Unit {0}) (IsOldOr (Some file)) (record { at = λ l is. tt }) runs (λ v u. drafting v)
  where
    drafting : (v : View) → During name v (draft_ops file) (IsOldOr (Some file) v)
    drafting v = (
      (λ f left. inl left),
      (λ f left. inl left),
      (λ f left. inl left),
      ((λ f left. inl left), (λ f left. inl left), (λ f left. inl left), (λ f left. inl left)),
    )
publish_moments old new name file (Err DiskFault) call = old_or old new name file false (failed_runs old new name file call)

-- every other name stands as before
pub publish_others : {A : Type 0} (old new : Option Log) (name file : Bytes) (r : Result A PublishFault) → RunsPublish old new name file r → EachMoment old new (OthersSame name)
publish_others old new name file (Ok a) runs = others_moments old new (publish_ops name file) true name (tt, (tt, (refl, tt))) runs
publish_others old new name file (Err NoDraft) runs = others_moments old new (draft_ops file) false name (tt, (tt, tt)) runs
publish_others old new name file (Err DiskFault) call = others_moments old new (publish_ops name file) false name (tt, (tt, (refl, tt))) (failed_runs old new name file call)

pub publish_done : {A : Type 0} (old new : Option Log) (name file : Bytes) (r : Result A PublishFault) → RunsPublish old new name file r → OnOk r (Told new (HoldsJust name file))
publish_done old new name file (Ok a) runs =
    told_after old new (publish_ops name file) name (λ (v : View). Unit {0}) (λ (v : View). v.slot ≡ Some (settled file) ∷ []) (record { at = λ l is. tt }) runs (λ v u. published_slot name file v)
publish_done old new name file (Err e) runs = tt
