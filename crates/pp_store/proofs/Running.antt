-- What a run of operations on one name leaves of that name, and of the others.
use Rattle.std.proofs.Common.{◌≡◌, Bool, true, false, ◌||◌, List, [], ◌∷◌, ◌++◌, Option, Some, None, refl, sym, ◌∙◌, ap, subst}
use Rattle.std.specs.Prelude.{bytes_eq}
use Rattle.std.proofs.lemmas.List.{append-nil}
use Rattle.std.proofs.lemmas.Slice.Eq.{bytes_eq-Decides}
use Rattle.pp_world.specs.declared.happening.Happening.TheVariants.{Unread}
use Rattle.pp_world.specs.declared.op.DiskOp.{DiskOp}
use Rattle.pp_world.specs.declared.op.DiskOp.TheVariants.{Draft, SyncDraft, Publish, Write, Sync, Remove}
use Rattle.pp_world.specs.Log.{Log, AppendsAll, Told}
use Rattle.pp_world.specs.Disk.{Bytes, View, view_of, where_on, began, done, undone}
use Rattle.pp_gate.specs.Gate.{OthersSame}
use Rattle.pp_gate.specs.Runs.{Ran, During, IsOn, AllOn, RunsOps, EachMoment}
use Rattle.pp_gate.proofs.Views.{at_each, done_view, ran_to, view_of-append, told_after}

-- after operations on one name: no other was touched, and where all were done, none failed
pub record After (name : Bytes) (ok : Bool) (k l : Log) : Type 0 where
  pub slots : (other : Bytes) → (name ≡ other → ⊥) → (view_of other l).slot ≡ (view_of other k).slot
  pub fails : (other : Bytes) → (name ≡ other → ⊥) → (view_of other l).failed ≡ (view_of other k).failed
  pub own : ok ≡ true → (view_of name l).failed ≡ (view_of name k).failed

pub other_name : (n m : Bytes) → (n ≡ m → ⊥) → bytes_eq n m ≡ false
other_name n m differ = by (bytes_eq n m) refl
  where
    by : (b : Bool) → bytes_eq n m ≡ b → b ≡ false
    by true is = absurd (differ ((bytes_eq-Decides n m).0 is))
    by false is = refl

pub or_not : (a b : Bool) → b ≡ false → (a || b) ≡ a
or_not true b is = refl
or_not false b is = is

began_fails : (name : Bytes) (op : DiskOp) (v : View) → (began name op v).failed ≡ v.failed
began_fails name (Draft b) v = refl
began_fails name SyncDraft v = refl
began_fails name (Publish n) v = refl
began_fails name (Write n at b) v = refl
began_fails name (Sync n) v = refl
began_fails name (Remove n) v = refl

done_fails : (name : Bytes) (op : DiskOp) (v : View) → (done name op v).failed ≡ v.failed
done_fails name (Draft b) v = refl
done_fails name SyncDraft v = refl
done_fails name (Publish n) v = refl
done_fails name (Write n at b) v = refl
done_fails name (Sync n) v = refl
done_fails name (Remove n) v = refl

undone_fails : (name other : Bytes) (op : DiskOp) (v : View) → IsOn name op → (name ≡ other → ⊥) → (undone other op v).failed ≡ v.failed
undone_fails name other (Draft b) v on differ = or_not v.failed false refl
undone_fails name other SyncDraft v on differ = or_not v.failed false refl
undone_fails name other (Publish n) v on differ = or_not v.failed (bytes_eq n other) (other_name n other (λ is. differ (sym on ∙ is)))
undone_fails name other (Write n at b) v on differ = or_not v.failed (bytes_eq n other) (other_name n other (λ is. differ (sym on ∙ is)))
undone_fails name other (Sync n) v on differ = or_not v.failed (bytes_eq n other) (other_name n other (λ is. differ (sym on ∙ is)))
undone_fails name other (Remove n) v on differ = or_not v.failed (bytes_eq n other) (other_name n other (λ is. differ (sym on ∙ is)))

others_fail : (name other : Bytes) (ops : List DiskOp) (v : View) (failed : Bool) → AllOn name ops → (name ≡ other → ⊥) → v.failed ≡ failed → During other v ops (λ w. w.failed ≡ failed)
others_fail name other [] v failed on differ is = is
others_fail name other (op ∷ ops) v failed on differ is =
    let begun : (began other op v).failed ≡ failed = began_fails other op v ∙ is in (
      is,
      begun,
      undone_fails name other op (began other op v) on.0 differ ∙ begun,
      others_fail name other ops (done other op (began other op v)) failed on.1 differ (done_fails other op (began other op v) ∙ begun),
    )

own_fails : (name : Bytes) (ops : List DiskOp) (v : View) → (done_view name v ops).failed ≡ v.failed
own_fails name [] v = refl
own_fails name (op ∷ ops) v = own_fails name ops (done name op (began name op v)) ∙ done_fails name op (began name op v) ∙ began_fails name op v

-- what a call knew, and what it leaves
pub after_runs : (old new : Option Log) (ops : List DiskOp) (ok : Bool) (name : Bytes) (P Q : Log → Type 0) → AllOn name ops → RunsOps old new ops ok → EachMoment old new (OthersSame name)
    → Told old P → ((k l : Log) → old ≡ Some k → new ≡ Some l → P k → After name ok k l → Q l) → Told new Q
after_runs old new ops ok name P Q on runs others told step = record {
  at = λ l is.
      let w = runs.was l is in
      let now : new ≡ Some (w.0 ++ w.1) = is ∙ ap (λ (m : Log). Some m) w.3 in
      let there : After name ok w.0 (w.0 ++ w.1) = record {
        slots = λ other differ. (others.at w.0 w.1 w.2 now).at w.1 [] (sym (append-nil w.1)) other differ;
        fails = λ other differ. (at_each other (λ v. v.failed ≡ (view_of other w.0).failed) w.0 ops ok w.1 (others_fail name other ops (view_of other w.0) (view_of other w.0).failed on differ refl) w.4).at w.1 [] (sym (append-nil w.1));
        own = λ all. own name ops ok w.0 w.1 w.4 all;
      } in
      step w.0 l w.2 is (told.at w.0 w.2) (subst (After name ok w.0) (sym w.3) there);
}
  where
    own : (name : Bytes) (ops : List DiskOp) (ok : Bool) (k hs : Log) → Ran ops ok hs → ok ≡ true → (view_of name (k ++ hs)).failed ≡ (view_of name k).failed
    own name ops ok k hs ran all =
        ap (λ (v : View). v.failed) (view_of-append name k hs ∙ ran_to name (view_of name k) ops hs (subst (λ (b : Bool). Ran ops b hs) all ran)) ∙ own_fails name ops (view_of name k)

-- the same, of a call that appended these happenings
pub after_appends : (old new : Option Log) (hs : Log) (ok : Bool) (name : Bytes) (P Q : Log → Type 0) → AppendsAll old new (λ l. hs) → ((k : Log) → After name ok k (k ++ hs))
    → Told old P → ((k l : Log) → P k → After name ok k l → Q l) → Told new Q
after_appends old new hs ok name P Q call after told step = record {
  at = λ l is.
      let w = call.was l is in
      step w.0 l (told.at w.0 w.1) (subst (After name ok w.0) (sym w.2) (after w.0));
}

-- a file that was removed
pub removed_slot : (old new : Option Log) (name : Bytes) → RunsOps old new (Remove name ∷ []) true → Told new (λ l. (view_of name l).slot ≡ None ∷ [])
removed_slot old new name runs =
    told_after old new (Remove name ∷ []) name (λ (v : View). Unit {0}) (λ (v : View). v.slot ≡ None ∷ []) (record { at = λ l is. tt }) runs
    (λ v u. ap (λ (b : Bool). where_on b (None ∷ []) (began name (Remove name) v).slot) ((bytes_eq-Decides name name).1 refl))

-- two facts of one log
pub told_both : (log : Option Log) (P Q R : Log → Type 0) → Told log P → Told log Q → ((l : Log) → P l → Q l → R l) → Told log R
told_both log P Q R one two step = record { at = λ l is. step l (one.at l is) (two.at l is) }

pub told_map : (log : Option Log) (P Q : Log → Type 0) → Told log P → ((l : Log) → P l → Q l) → Told log Q
told_map log P Q told step = record { at = λ l is. step l (told.at l is) }

-- nothing happened
pub after_none : (name : Bytes) (k : Log) → After name true k k
after_none name k = record { slots = λ other differ. refl; fails = λ other differ. refl; own = λ all. refl }

-- a read that failed
pub after_unread : (name : Bytes) (k : Log) → After name false k (k ++ Unread name ∷ [])
after_unread name k = record {
  slots = λ other differ. ap (λ (v : View). v.slot) (view_of-append other k (Unread name ∷ []));
  fails = λ other differ. ap (λ (v : View). v.failed) (view_of-append other k (Unread name ∷ [])) ∙ or_not (view_of other k).failed (bytes_eq name other) (other_name name other differ);
  own = λ all. absurd cc;
}
