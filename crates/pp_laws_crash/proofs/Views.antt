-- What one happening on the disk does to the view of a name.
use Rattle.std.proofs.Common.{◌≡◌, refl, Bool, true, false, ◌||◌, List, [], ◌∷◌, ◌++◌, bytes_eq, Option, sym, ap, subst, ◌∙◌}
use Rattle.std.proofs.lemmas.Slice.Eq.{bytes_eq-Decides}
use Rattle.pp_gate.specs.Runs.{During, IsOn}
use Rattle.pp_gate.proofs.Ops.{AllLeft}
use Rattle.pp_gate.proofs.Views.{view_of-append}
use Rattle.pp_world.specs.Disk.{View, Stored, began, done, undone, where_on, is_on, LeavesOne, view_of, view_after}
use Rattle.pp_world.specs.Log.{Log}
use Rattle.pp_world.specs.declared.happening.Happening.{Happening}
use Rattle.pp_world.specs.declared.op.DiskOp.{DiskOp}
use Rattle.pp_world.specs.declared.op.DiskOp.TheVariants.{Draft, SyncDraft, Publish, Write, Sync, Remove}
use Rattle.pp_law.specs.Lists.{Bytes}

pub view_more : (name : Bytes) (disk : Log) (h : Happening) → view_of name (disk ++ h ∷ []) ≡ view_after name (view_of name disk) h
view_more name disk h = view_of-append name disk (h ∷ [])

-- ---- names

pub unlike : (b : Bool) → (b ≡ true → ⊥) → b ≡ false
unlike true never = absurd (never refl)
unlike false never = refl

pub same_name : (n m : Bytes) → bytes_eq n m ≡ true → n ≡ m
same_name n m is = (bytes_eq-Decides n m).0 is

pub name_same : (n : Bytes) → bytes_eq n n ≡ true
name_same n = (bytes_eq-Decides n n).1 refl

pub other_name : (n m : Bytes) → (n ≡ m → ⊥) → bytes_eq n m ≡ false
other_name n m differ = unlike (bytes_eq n m) (λ is. differ (same_name n m is))

pub differs : (n m : Bytes) → bytes_eq n m ≡ false → n ≡ m → ⊥
differs n m isnt is = let both : true ≡ false = sym (name_same n) ∙ ap (bytes_eq n) is ∙ isnt in cc both

passed_over : (n m : Bytes) (a b : List (Option Stored)) → (n ≡ m → ⊥) → where_on (bytes_eq n m) a b ≡ b
passed_over n m a b differ = ap (λ (t : Bool). where_on t a b) (other_name n m differ)

-- ---- other names

pub other_began : (name other : Bytes) (op : DiskOp) (v : View) → IsOn name op → (name ≡ other → ⊥) → (began other op v).slot ≡ v.slot
other_began name other (Draft b) v on differ = refl
other_began name other SyncDraft v on differ = refl
other_began name other (Publish n) v on differ = passed_over n other _ _ (λ is. differ (sym on ∙ is))
other_began name other (Write n at b) v on differ = passed_over n other _ _ (λ is. differ (sym on ∙ is))
other_began name other (Sync n) v on differ = refl
other_began name other (Remove n) v on differ = passed_over n other _ _ (λ is. differ (sym on ∙ is))

pub other_done : (name other : Bytes) (op : DiskOp) (v : View) → IsOn name op → (name ≡ other → ⊥) → (done other op v).slot ≡ v.slot
other_done name other (Draft b) v on differ = refl
other_done name other SyncDraft v on differ = refl
other_done name other (Publish n) v on differ = passed_over n other _ _ (λ is. differ (sym on ∙ is))
other_done name other (Write n at b) v on differ = passed_over n other _ _ (λ is. differ (sym on ∙ is))
other_done name other (Sync n) v on differ = passed_over n other _ _ (λ is. differ (sym on ∙ is))
other_done name other (Remove n) v on differ = passed_over n other _ _ (λ is. differ (sym on ∙ is))

pub undone_slot : (name : Bytes) (op : DiskOp) (v : View) → (undone name op v).slot ≡ v.slot
undone_slot name (Draft b) v = refl
undone_slot name SyncDraft v = refl
undone_slot name (Publish n) v = refl
undone_slot name (Write n at b) v = refl
undone_slot name (Sync n) v = refl
undone_slot name (Remove n) v = refl

pub began_failed : (name : Bytes) (op : DiskOp) (v : View) → (began name op v).failed ≡ v.failed
began_failed name (Draft b) v = refl
began_failed name SyncDraft v = refl
began_failed name (Publish n) v = refl
began_failed name (Write n at b) v = refl
began_failed name (Sync n) v = refl
began_failed name (Remove n) v = refl

pub done_failed : (name : Bytes) (op : DiskOp) (v : View) → (done name op v).failed ≡ v.failed
done_failed name (Draft b) v = refl
done_failed name SyncDraft v = refl
done_failed name (Publish n) v = refl
done_failed name (Write n at b) v = refl
done_failed name (Sync n) v = refl
done_failed name (Remove n) v = refl

off : (name other : Bytes) (op : DiskOp) → IsOn name op → (name ≡ other → ⊥) → is_on other op ≡ false
off name other (Draft b) on differ = refl
off name other SyncDraft on differ = refl
off name other (Publish n) on differ = other_name n other (λ is. differ (sym on ∙ is))
off name other (Write n at b) on differ = other_name n other (λ is. differ (sym on ∙ is))
off name other (Sync n) on differ = other_name n other (λ is. differ (sym on ∙ is))
off name other (Remove n) on differ = other_name n other (λ is. differ (sym on ∙ is))

or_false : (b : Bool) → (b || false) ≡ b
or_false true = refl
or_false false = refl

pub other_undone : (name other : Bytes) (op : DiskOp) (v : View) → IsOn name op → (name ≡ other → ⊥) → (undone other op v).failed ≡ v.failed
other_undone name other op v on differ = ap (λ (b : Bool). v.failed || b) (off name other op on differ) ∙ or_false v.failed

-- ---- what a crash leaves, and what holds along operations

pub left_same : (R : Option Bytes → Type 0) (v w : View) → w.slot ≡ v.slot → AllLeft R v → AllLeft R w
left_same R v w is all file left = all file (subst (λ (s : List (Option Stored)). LeavesOne s file) is left)

pub left_map : (R S : Option Bytes → Type 0) (v : View) → ((file : Option Bytes) → R file → S file) → AllLeft R v → AllLeft S v
left_map R S v step all file left = step file (all file left)

pub during_map : (name : Bytes) (v : View) (ops : List DiskOp) (P Q : View → Type 0) → ((w : View) → P w → Q w) → During name v ops P → During name v ops Q
during_map name v [] P Q step d = step v d
during_map name v (op ∷ ops) P Q step d = (step v d.0, step (began name op v) d.1, step (undone name op (began name op v)) d.2, during_map name (done name op (began name op v)) ops P Q step d.3)

pub during_now : (name : Bytes) (v : View) (ops : List DiskOp) (P : View → Type 0) → During name v ops P → P v
during_now name v [] P d = d
during_now name v (op ∷ ops) P d = d.0
