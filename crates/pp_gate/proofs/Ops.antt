-- What operations do to the files of one name, and to those of the others.
use Rattle.std.proofs.Common.{◌≡◌, ◌⊎◌, inl, inr, ⊎_elim, ℕ, ◌+◌, ◌≤◌, Bool, true, false, List, [], ◌∷◌, ◌++◌, length, Option, Some, None, refl, sym, ◌∙◌, ap, subst}
use Rattle.std.proofs.lemmas.Slice.Eq.{bytes_eq-Decides}
use Rattle.std.specs.Prelude.{bytes_eq, map}
use Rattle.pp_world.specs.declared.op.DiskOp.{DiskOp}
use Rattle.pp_world.specs.declared.op.DiskOp.TheVariants.{Draft, SyncDraft, Publish, Write, Sync, Remove}
use Rattle.pp_world.specs.Disk.{Bytes, View, Stored, on_file, settled, unsynced, loosened, written, splice, synced, synced_unless, began, done, undone, where_on, IsLeft, IsLeftOf, LeavesOne, view_of, HasDraft}
use Rattle.pp_world.specs.Log.{Log, Told}
use Rattle.pp_gate.specs.Runs.{During, IsOn, AllOn, RunsOps, EachMoment}
use Rattle.pp_gate.proofs.Views.{at_each, done_view, told_after, runs_at}
use Rattle.pp_gate.proofs.Images.{Torn, settled_leaves, loose_leaves, written_leaves, same_torn}

same_name : (n : Bytes) → bytes_eq n n ≡ true
same_name n = (bytes_eq-Decides n n).1 refl

unlike : (b : Bool) → (b ≡ true → ⊥) → b ≡ false
unlike true never = absurd (never refl)
unlike false never = refl

other_name : (n m : Bytes) → (n ≡ m → ⊥) → bytes_eq n m ≡ false
other_name n m differ = unlike (bytes_eq n m) (λ is. differ ((bytes_eq-Decides n m).0 is))

chosen : (n : Bytes) (a b : List (Option Stored)) → where_on (bytes_eq n n) a b ≡ a
chosen n a b = ap (λ (t : Bool). where_on t a b) (same_name n)

passed : (n m : Bytes) (a b : List (Option Stored)) → (n ≡ m → ⊥) → where_on (bytes_eq n m) a b ≡ b
passed n m a b differ = ap (λ (t : Bool). where_on t a b) (other_name n m differ)

-- other names
other_began : (name other : Bytes) (op : DiskOp) (v : View) → IsOn name op → (name ≡ other → ⊥) → (began other op v).slot ≡ v.slot
other_began name other (Draft b) v on differ = refl
other_began name other SyncDraft v on differ = refl
other_began name other (Publish n) v on differ = passed n other _ _ (λ is. differ (sym on ∙ is))
other_began name other (Write n at b) v on differ = passed n other _ _ (λ is. differ (sym on ∙ is))
other_began name other (Sync n) v on differ = refl
other_began name other (Remove n) v on differ = passed n other _ _ (λ is. differ (sym on ∙ is))

other_failed : (other : Bytes) (op : DiskOp) (v : View) → (undone other op v).slot ≡ v.slot
other_failed other (Draft b) v = refl
other_failed other SyncDraft v = refl
other_failed other (Publish n) v = refl
other_failed other (Write n at b) v = refl
other_failed other (Sync n) v = refl
other_failed other (Remove n) v = refl

other_did : (name other : Bytes) (op : DiskOp) (v : View) → IsOn name op → (name ≡ other → ⊥) → (done other op v).slot ≡ v.slot
other_did name other (Draft b) v on differ = refl
other_did name other SyncDraft v on differ = refl
other_did name other (Publish n) v on differ = passed n other _ _ (λ is. differ (sym on ∙ is))
other_did name other (Write n at b) v on differ = passed n other _ _ (λ is. differ (sym on ∙ is))
other_did name other (Sync n) v on differ = passed n other _ _ (λ is. differ (sym on ∙ is))
other_did name other (Remove n) v on differ = passed n other _ _ (λ is. differ (sym on ∙ is))

pub others_same : (name other : Bytes) (ops : List DiskOp) (v : View) (s : List (Option Stored)) → AllOn name ops → (name ≡ other → ⊥) → v.slot ≡ s → During other v ops (λ w. w.slot ≡ s)
others_same name other [] v s on differ is = is
others_same name other (op ∷ ops) v s on differ is =
    let begun : (began other op v).slot ≡ s = other_began name other op v on.0 differ ∙ is in (
      is,
      begun,
      other_failed other op (began other op v) ∙ begun,
      others_same name other ops (done other op (began other op v)) s on.1 differ (other_did name other op (began other op v) on.0 differ ∙ begun),
    )

-- one file stands under the name
pub one_leaves : (f : Stored) (R : Option Bytes → Type 0) (s : List (Option Stored)) → s ≡ Some f ∷ [] → ((c : Bytes) → IsLeft f c → R (Some c)) → (file : Option Bytes) → LeavesOne s file → R file
one_leaves f R s is each file left = by file (subst (λ (t : List (Option Stored)). LeavesOne t file) is left)
  where
    by : (file : Option Bytes) → LeavesOne (Some f ∷ []) file → R file
    by None (inl bad) = absurd bad
    by None (inr bad) = absurd bad
    by (Some c) (inl left) = each c left
    by (Some c) (inr bad) = absurd bad

-- what each image that the view leaves has
abbrev pub AllLeft : (Option Bytes → Type 0) → View → Type 0
AllLeft R v = (file : Option Bytes) → LeavesOne v.slot file → R file

is_bytes : (at : ℕ) (x base : Bytes) → synced (written at x (loosened at (at + length x) (settled base))) ≡ settled (splice at x base)
unfolding settled loosened written
is_bytes at x base = refl

-- a write, and its sync: at each moment the file is as it was but in the range; then it has the bytes
pub write_then_sync : (name : Bytes) (at : ℕ) (x base : Bytes) (v : View) (ops : List DiskOp) (R : Option Bytes → Type 0) → v.slot ≡ Some (settled base) ∷ [] → v.failed ≡ false → at ≤ length base
    → ((c : Bytes) → Torn at (at + length x) base c → R (Some c))
    → ((w : View) → w.slot ≡ Some (settled (splice at x base)) ∷ [] → w.failed ≡ false → During name w ops (AllLeft R))
    → During name v (Write name at x ∷ Sync name ∷ ops) (AllLeft R)
write_then_sync name at x base v ops R is sound le torn rest =
    let loose_is : (began name (Write name at x) v).slot ≡ Some (loosened at (at + length x) (settled base)) ∷ [] =
    chosen name (map (on_file (loosened at (at + length x))) v.slot) v.slot ∙ ap (λ (s : List (Option Stored)). map (on_file (loosened at (at + length x))) s) is in
    let written_is : (done name (Write name at x) (began name (Write name at x) v)).slot ≡ Some (written at x (loosened at (at + length x) (settled base))) ∷ [] =
    chosen name _ _ ∙ ap (λ (s : List (Option Stored)). map (on_file (written at x)) s) loose_is in
    let synced_is : (done name (Sync name) (done name (Write name at x) (began name (Write name at x) v))).slot ≡ Some (synced (written at x (loosened at (at + length x) (settled base)))) ∷ [] =
    chosen name _ _ ∙ ap (λ (b : Bool). synced_unless b (done name (Write name at x) (began name (Write name at x) v)).slot) sound ∙ ap (λ (s : List (Option Stored)). map (on_file synced) s) written_is in
    let before : AllLeft R v = one_leaves (settled base) R v.slot is (λ c left. torn c (subst (λ (b : Bytes). Torn at (at + length x) base b) (sym (settled_leaves base c left)) (same_torn at (at + length x) base))) in
    let during : AllLeft R (began name (Write name at x) v) = one_leaves _ R _ loose_is (λ c left. torn c (loose_leaves at (at + length x) base c left)) in
    let after : AllLeft R (done name (Write name at x) (began name (Write name at x) v)) = one_leaves _ R _ written_is (λ c left. torn c (written_leaves at x base le c left)) in
    (before, during, during, (after, after, after, rest _ (synced_is ∙ ap (λ (f : Stored). Some f ∷ []) (is_bytes at x base)) sound))

-- the last moment
pub all_settled : (base : Bytes) (R : Option Bytes → Type 0) (v : View) → v.slot ≡ Some (settled base) ∷ [] → R (Some base) → AllLeft R v
all_settled base R v is holds = one_leaves (settled base) R v.slot is (λ c left. subst (λ (b : Bytes). R (Some b)) (sym (settled_leaves base c left)) holds)

last_left : (s : List (Option Stored)) (f : Option Stored) (file : Option Bytes) → LeavesOne (s ++ f ∷ []) file → LeavesOne s file ⊎ IsLeftOf f file
last_left [] f file (inl here) = inr here
last_left [] f file (inr bad) = absurd bad
last_left (g ∷ s) f file (inl here) = inl (inl here)
last_left (g ∷ s) f file (inr there) = ⊎_elim (λ was. inl (inr was)) (λ new. inr new) (last_left s f file there)

leaves_none : (file : Option Bytes) → IsLeftOf None file → file ≡ None
leaves_none None left = refl
leaves_none (Some c) left = absurd left

leaves_settled : (b : Bytes) (file : Option Bytes) → IsLeftOf (Some (settled b)) file → file ≡ Some b
leaves_settled b None left = absurd left
leaves_settled b (Some c) left = ap (λ (x : Bytes). Some x) (settled_leaves b c left)

-- the old file, or this one
abbrev pub IsOldOr : Option Bytes → View → View → Type 0
IsOldOr new v w = (file : Option Bytes) → LeavesOne w.slot file → LeavesOne v.slot file ⊎ (file ≡ new)

old_stays : (new : Option Bytes) (v w : View) → w.slot ≡ v.slot → IsOldOr new v w
old_stays new v w is file left = inl (subst (λ (s : List (Option Stored)). LeavesOne s file) is left)

one_more : (new : Option Bytes) (f : Option Stored) (v w : View) → ((file : Option Bytes) → IsLeftOf f file → file ≡ new) → w.slot ≡ v.slot ++ f ∷ [] → IsOldOr new v w
one_more new f v w leads is file left = ⊎_elim (λ was. inl was) (λ now. inr (leads file now)) (last_left v.slot f file (subst (λ (s : List (Option Stored)). LeavesOne s file) is left))

only_new : (new : Option Bytes) (f : Option Stored) (v w : View) → ((file : Option Bytes) → IsLeftOf f file → file ≡ new) → w.slot ≡ f ∷ [] → IsOldOr new v w
only_new new f v w leads is file left = by (subst (λ (s : List (Option Stored)). LeavesOne s file) is left)
  where
    by : LeavesOne (f ∷ []) file → LeavesOne v.slot file ⊎ (file ≡ new)
    by (inl now) = inr (leads file now)
    by (inr bad) = absurd bad

pub removed : (name : Bytes) (v : View) → During name v (Remove name ∷ []) (IsOldOr None v)
removed name v =
    let begun : (began name (Remove name) v).slot ≡ v.slot ++ None ∷ [] = chosen name _ _ in
    let doubt : IsOldOr None v (began name (Remove name) v) = one_more None None v (began name (Remove name) v) leaves_none begun in
    (old_stays None v v refl, doubt, doubt, only_new None None v (done name (Remove name) (began name (Remove name) v)) leaves_none (chosen name _ _))

leads : (b : Bytes) (file : Option Bytes) → IsLeftOf (on_file synced (Some (unsynced b))) file → file ≡ Some b
unfolding unsynced
leads b file left = leaves_settled b file left

pub published : (name : Bytes) (b : Bytes) (v : View) → During name v (Draft b ∷ SyncDraft ∷ Publish name ∷ []) (IsOldOr (Some b) v)
published name b v =
    let same : IsOldOr (Some b) v v = old_stays (Some b) v v refl in
    let drafted : View = done name SyncDraft (done name (Draft b) (began name (Draft b) v)) in
    let begun : (began name (Publish name) drafted).slot ≡ v.slot ++ drafted.draft ∷ [] = chosen name _ _ in
    let doubt : IsOldOr (Some b) v (began name (Publish name) drafted) = one_more (Some b) drafted.draft v (began name (Publish name) drafted) (leads b) begun in (
      (λ file left. inl left),
      (λ file left. inl left),
      (λ file left. inl left),
      (
        (λ file left. inl left),
        (λ file left. inl left),
        (λ file left. inl left),
        ((λ file left. inl left), doubt, doubt, only_new (Some b) drafted.draft v (done name (Publish name) (began name (Publish name) drafted)) (leads b) (chosen name _ _)),
      ),
    )

-- at each moment of a run of operations on one name every other name stands as before
pub others_moments : (old new : Option Log) (ops : List DiskOp) (ok : Bool) (name : Bytes) → AllOn name ops → RunsOps old new ops ok
    → EachMoment old new (λ k l. (other : Bytes) → (name ≡ other → ⊥) → (view_of other l).slot ≡ (view_of other k).slot)
others_moments old new ops ok name on runs = record {
  at = λ k hs was is. record {
    at = λ p q split other differ. (at_each other (λ v. v.slot ≡ (view_of other k).slot) k ops ok hs (others_same name other ops (view_of other k) (view_of other k).slot on differ refl) (runs_at old new ops ok k hs runs was is)).at p q split;
  };
}

-- the file once it was written, and once it was synced
pub begun_slot : (name : Bytes) (at : ℕ) (x : Bytes) (f : Stored) (v : View) → v.slot ≡ Some f ∷ [] → (began name (Write name at x) v).slot ≡ Some (loosened at (at + length x) f) ∷ []
begun_slot name at x f v is = chosen name _ _ ∙ ap (λ (s : List (Option Stored)). map (on_file (loosened at (at + length x))) s) is

pub write_slot : (name : Bytes) (at : ℕ) (x : Bytes) (f : Stored) (v : View) → v.slot ≡ Some f ∷ [] → (done name (Write name at x) (began name (Write name at x) v)).slot ≡ Some (written at x (loosened at (at + length x) f)) ∷ []
write_slot name at x f v is = chosen name _ _ ∙ ap (λ (s : List (Option Stored)). map (on_file (written at x)) s) (begun_slot name at x f v is)

pub sync_slot : (name : Bytes) (f : Stored) (v : View) → v.slot ≡ Some f ∷ [] → v.failed ≡ false → (done name (Sync name) v).slot ≡ Some (settled f.bytes) ∷ []
sync_slot name f v is sound = chosen name _ _ ∙ ap (λ (b : Bool). synced_unless b v.slot) sound ∙ ap (λ (s : List (Option Stored)). map (on_file synced) s) is

-- the file once it was written and synced
pub write_sync_slot : (name : Bytes) (at : ℕ) (x base : Bytes) (v : View) → v.slot ≡ Some (settled base) ∷ [] → v.failed ≡ false → (done_view name v (Write name at x ∷ Sync name ∷ [])).slot ≡ Some (settled (splice at x base)) ∷ []
write_sync_slot name at x base v is sound =
    chosen name _ _
    ∙ ap (λ (b : Bool). synced_unless b (done name (Write name at x) (began name (Write name at x) v)).slot) sound
    ∙ ap (λ (s : List (Option Stored)). map (on_file synced) s) (
    chosen name _ _
    ∙ ap (λ (s : List (Option Stored)). map (on_file (written at x)) s) (
    chosen name _ _ ∙ ap (λ (s : List (Option Stored)). map (on_file (loosened at (at + length x))) s) is))
    ∙ ap (λ (f : Stored). Some f ∷ []) (is_bytes at x base)

-- the name once it was published
synced_draft : (b : Bytes) → on_file synced (Some (unsynced b)) ≡ Some (settled b)
unfolding unsynced
synced_draft b = refl

pub published_slot : (name : Bytes) (b : Bytes) (v : View) → (done_view name v (Draft b ∷ SyncDraft ∷ Publish name ∷ [])).slot ≡ Some (settled b) ∷ []
published_slot name b v = chosen name _ _ ∙ ap (λ (f : Option Stored). f ∷ []) (synced_draft b)

pub draft_there : (old new : Option Log) (b : Bytes) → RunsOps old new (Draft b ∷ SyncDraft ∷ []) true → Told new HasDraft
draft_there old new b runs = told_after old new (Draft b ∷ SyncDraft ∷ []) [] (λ v. Unit {0}) (λ v. (f : Stored) × (v.draft ≡ Some f)) (record { at = λ l is. tt }) runs (λ v u. (synced (unsynced b), refl))
