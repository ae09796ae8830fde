-- What attending to one name does to what stands under it, and under the others.
use Rattle.std.proofs.Common.{◌≡◌, inl, inr, ℕ, Bool, true, false, List, [], ◌∷◌, ◌++◌, length, Option, Some, None, refl, sym, ◌∙◌, ap, subst}
use Rattle.std.specs.Prelude.{◌||◌, bytes_eq, cond}
use Rattle.std.proofs.lemmas.Slice.Eq.{bytes_eq-Decides}
use Rattle.std.specs.List.{flat_map, range_with_len}
use Rattle.pp_world.specs.declared.happening.Happening.{Happening}
use Rattle.pp_world.specs.declared.happening.Happening.TheVariants.{Unread}
use Rattle.pp_world.specs.declared.op.DiskOp.{DiskOp}
use Rattle.pp_world.specs.declared.op.DiskOp.TheVariants.{Draft, SyncDraft, Publish, Write, Sync, Remove}
use Rattle.pp_world.specs.Log.{Log}
use Rattle.pp_world.specs.Disk.{Bytes, View, Stored, settled, at_rest, where_on, began, done, undone, view_after, LeavesOne}
use Rattle.pp_gate.specs.Runs.{Ran, During}
use Rattle.pp_gate.proofs.Views.{view_from, each_from, done_view, ran_to}
use Rattle.pp_gate.proofs.Ops.{AllLeft, all_settled}
use Rattle.pp_store.specs.Kept.{Kept}
use Rattle.pp_recover.specs.Image.{entry_in}
use Rattle.pp_recover.specs.Closing.{Tends, begins, close_from, close_at, closing, closing_if, closing_of, gates_in, has_strays, writes_over}
use Rattle.pp_recover.proofs.ShutLemmas.{Stays, IsTidy, all_during, all_done, same_is}

same_name : (n : Bytes) → bytes_eq n n ≡ true
same_name n = (bytes_eq-Decides n n).1 refl

unlike : (b : Bool) → (b ≡ true → ⊥) → b ≡ false
unlike true never = absurd (never refl)
unlike false never = refl

pub other_name : (n m : Bytes) → (n ≡ m → ⊥) → bytes_eq n m ≡ false
other_name n m differ = unlike (bytes_eq n m) (λ is. differ ((bytes_eq-Decides n m).0 is))

-- ---- only writes and syncs of the name

abbrev IsClosing : Bytes → DiskOp → Type 0
IsClosing name (Draft bytes) = ⊥
IsClosing name SyncDraft = ⊥
IsClosing name (Publish n) = ⊥
IsClosing name (Write n at bytes) = n ≡ name
IsClosing name (Sync n) = n ≡ name
IsClosing name (Remove n) = ⊥

abbrev AllClosing : Bytes → List DiskOp → Type 0
AllClosing name [] = Unit {0}
AllClosing name (op ∷ ops) = IsClosing name op × AllClosing name ops

closing_each : (name gates : Bytes) (is : List ℕ) → AllClosing name (flat_map (close_at name gates) is ++ Sync name ∷ [])
closing_each name gates [] = (refl, tt)
closing_each name gates (i ∷ is) = by (begins gates i) (closing_each name gates is)
  where
    by : (b : Bool) → AllClosing name (flat_map (close_at name gates) is ++ Sync name ∷ []) → AllClosing name ((cond b (close_from name gates i ∷ []) [] ++ flat_map (close_at name gates) is) ++ Sync name ∷ [])
    by true rest = (refl, rest)
    by false rest = rest

closing_all : (name gates : Bytes) → AllClosing name (closing name gates)
unfolding closing writes_over
closing_all name gates = by (has_strays gates)
  where
    by : (b : Bool) → AllClosing name (cond b (writes_over name gates ++ Sync name ∷ []) [])
    by true = closing_each name gates (range_with_len 0 (length gates))
    by false = tt

closing_all_of : (name : Bytes) (file : Option Bytes) → AllClosing name (closing_of name file)
closing_all_of name None = tt
closing_all_of name (Some file) = by (entry_in name file)
  where
    by : (e : Option Kept) → AllClosing name (closing_if name file e)
    by None = tt
    by (Some kept) = closing_all name (gates_in kept.entry.version.length file)

-- ---- other names

abbrev with_slot : View → List (Option Stored) → View
with_slot v slot = record { draft = v.draft; slot = slot; failed = v.failed }

abbrev with_failed : View → Bool → View
with_failed v failed = record { draft = v.draft; slot = v.slot; failed = failed }

or_none : (b : Bool) → (b || false) ≡ b
or_none true = refl
or_none false = refl

or_some : (b : Bool) → (b || true) ≡ true
or_some true = refl
or_some false = refl

other_slot : (n other : Bytes) (v : View) (changed : List (Option Stored)) → (n ≡ other → ⊥) → with_slot v (where_on (bytes_eq n other) changed v.slot) ≡ v
other_slot n other v changed differ = ap (λ (t : Bool). with_slot v (where_on t changed v.slot)) (other_name n other differ)

other_flag : (n other : Bytes) (v : View) → (n ≡ other → ⊥) → with_failed v (v.failed || bytes_eq n other) ≡ v
other_flag n other v differ = ap (λ (t : Bool). with_failed v (v.failed || t)) (other_name n other differ) ∙ ap (with_failed v) (or_none v.failed)

module _ (name other : Bytes) (differ : name ≡ other → ⊥) where
  other_op : (op : DiskOp) (v : View) → IsClosing name op → (began other op v ≡ v) × (done other op v ≡ v) × (undone other op v ≡ v)
  other_op (Draft b) v bad = absurd bad
  other_op SyncDraft v bad = absurd bad
  other_op (Publish n) v bad = absurd bad
  other_op (Write n at b) v on =
      let no : n ≡ other → ⊥ = λ is. differ (sym on ∙ is) in
      (other_slot n other v _ no, other_slot n other v _ no, other_flag n other v no)
  other_op (Sync n) v on =
      let no : n ≡ other → ⊥ = λ is. differ (sym on ∙ is) in
      (refl, other_slot n other v _ no, other_flag n other v no)
  other_op (Remove n) v bad = absurd bad

  other_during : (v w : View) (ops : List DiskOp) → AllClosing name ops → w ≡ v → During other w ops (λ u. u ≡ v)
  other_during v w [] all is = is
  other_during v w (op ∷ ops) all is =
      let one : began other op w ≡ w = (other_op op w all.0).0 in
      let failed : undone other op (began other op w) ≡ v = ap (undone other op) one ∙ (other_op op w all.0).2 ∙ is in
      let did : done other op (began other op w) ≡ v = ap (done other op) one ∙ (other_op op w all.0).1 ∙ is in
      (is, one ∙ is, failed, other_during v (done other op (began other op w)) ops all.1 did)

  two_ways : (v : View) (p q : Log) → Unread name ∷ [] ≡ p ++ q → view_from other v p ≡ v
  two_ways v [] q is = refl
  two_ways v (h ∷ []) q is =
      let first : h ≡ Unread name = cc in
      ap (view_after other v) first ∙ other_flag name other v differ
  two_ways v (h ∷ i ∷ p) q is = absurd (cc)

  pub tends_other : (file : Option Bytes) (ok : Bool) (v : View) (hs p q : Log) → Tends name file ok hs → hs ≡ p ++ q → view_from other v p ≡ v
  tends_other file ok v hs p q (inl look) split = two_ways v p q (sym look.1 ∙ split)
  tends_other file ok v hs p q (inr ran) split = each_from other (λ w. w ≡ v) v (closing_of name file) ok hs p q (other_during v v (closing_of name file) (closing_all_of name file) refl) ran split

-- ---- the name itself

done_flag : (name : Bytes) (v : View) (ops : List DiskOp) → AllClosing name ops → (done_view name v ops).failed ≡ v.failed
done_flag name v [] all = refl
done_flag name v (Draft b ∷ ops) all = absurd all.0
done_flag name v (SyncDraft ∷ ops) all = absurd all.0
done_flag name v (Publish n ∷ ops) all = absurd all.0
done_flag name v (Write n at b ∷ ops) all = done_flag name (done name (Write n at b) (began name (Write n at b) v)) ops all.1
done_flag name v (Sync n ∷ ops) all = done_flag name (done name (Sync n) (began name (Sync n) v)) ops all.1
done_flag name v (Remove n ∷ ops) all = absurd all.0

flag_on : (name n : Bytes) (b : Bool) → n ≡ name → (b || bytes_eq n name) ≡ true
flag_on name n b is = ap (λ (m : Bytes). b || bytes_eq m name) is ∙ ap (λ (t : Bool). b || t) (same_name name) ∙ or_some b

undone_flag : (name : Bytes) (op : DiskOp) (v : View) → IsClosing name op → (undone name op v).failed ≡ true
undone_flag name (Draft b) v bad = absurd bad
undone_flag name SyncDraft v bad = absurd bad
undone_flag name (Publish n) v bad = absurd bad
undone_flag name (Write n at b) v on = flag_on name n v.failed on
undone_flag name (Sync n) v on = flag_on name n v.failed on
undone_flag name (Remove n) v bad = absurd bad

failed_flag : (name : Bytes) (v : View) (ops : List DiskOp) (hs : Log) → AllClosing name ops → Ran ops false hs → (view_from name v hs).failed ≡ true
failed_flag name v [] hs all ran = absurd (cc)
failed_flag name v (op ∷ ops) hs all (inl failed) = ap (λ (l : Log). (view_from name v l).failed) failed.1 ∙ undone_flag name op (began name op v) all.0
failed_flag name v (op ∷ ops) hs all (inr ran) = ap (λ (l : Log). (view_from name v l).failed) ran.1 ∙ failed_flag name (done name op (began name op v)) ops ran.0 all.1 ran.2

pub tends_sound : (name : Bytes) (file : Option Bytes) (v : View) (hs : Log) → Tends name file true hs → (view_from name v hs).failed ≡ v.failed
tends_sound name file v hs (inl look) = absurd (cc)
tends_sound name file v hs (inr ran) = ap (λ (w : View). w.failed) (ran_to name v (closing_of name file) hs ran) ∙ done_flag name v (closing_of name file) (closing_all_of name file)

pub tends_failed : (name : Bytes) (file : Option Bytes) (v : View) (hs : Log) → Tends name file false hs → (view_from name v hs).failed ≡ true
tends_failed name file v hs (inl look) = ap (λ (l : Log). (view_from name v l).failed) look.1 ∙ flag_on name name v.failed refl
tends_failed name file v hs (inr ran) = failed_flag name v (closing_of name file) hs (closing_all_of name file) ran

-- ---- what a crash leaves

pub at_rest_stays : (name : Bytes) (file : Option Bytes) (v : View) → v.slot ≡ at_rest file ∷ [] → AllLeft (Stays name file) v
at_rest_stays name (Some b) v slot = all_settled b (Stays name (Some b)) v slot (refl, λ kept is o lt. refl)
at_rest_stays name None v slot = λ c left. by c (subst (λ (s : List (Option Stored)). LeavesOne s c) slot left)
  where
    by : (c : Option Bytes) → LeavesOne (None ∷ []) c → Stays name None c
    by None left = (refl, λ kept is o lt. refl)
    by (Some b) (inl bad) = absurd bad
    by (Some b) (inr bad) = absurd bad

closing_stays : (name : Bytes) (file : Option Bytes) (v : View) → v.slot ≡ at_rest file ∷ [] → v.failed ≡ false → During name v (closing_of name file) (AllLeft (Stays name file))
closing_stays name None v slot sound = at_rest_stays name None v slot
closing_stays name (Some file) v slot sound = by (entry_in name file) refl
  where
    by : (e : Option Kept) → entry_in name file ≡ e → During name v (closing_if name file e) (AllLeft (Stays name (Some file)))
    by None is = at_rest_stays name (Some file) v slot
    by (Some kept) is = same_is name file kept is v (closing name (gates_in kept.entry.version.length file)) (all_during name file kept is v slot sound)

look_stays : (name : Bytes) (file : Option Bytes) (v : View) (p q : Log) → v.slot ≡ at_rest file ∷ [] → Unread name ∷ [] ≡ p ++ q → AllLeft (Stays name file) (view_from name v p)
look_stays name file v [] q slot is = at_rest_stays name file v slot
look_stays name file v (h ∷ []) q slot is =
    let first : Unread name ≡ h = cc in
    subst (λ (g : Happening). AllLeft (Stays name file) (view_after name v g)) first (at_rest_stays name file (view_after name v (Unread name)) slot)
look_stays name file v (h ∷ i ∷ p) q slot is = absurd (cc)

pub tends_stays : (name : Bytes) (file : Option Bytes) (ok : Bool) (v : View) (hs p q : Log) → v.slot ≡ at_rest file ∷ [] → v.failed ≡ false → Tends name file ok hs → hs ≡ p ++ q → AllLeft (Stays name file) (view_from name v p)
tends_stays name file ok v hs p q slot sound (inl look) split = look_stays name file v p q slot (sym look.1 ∙ split)
tends_stays name file ok v hs p q slot sound (inr ran) split = each_from name (AllLeft (Stays name file)) v (closing_of name file) ok hs p q (closing_stays name file v slot sound) ran split

-- ---- an entry, once nothing failed
pub tends_done : (name file : Bytes) (kept : Kept) (is : entry_in name file ≡ Some kept) (v : View) (hs : Log) → v.slot ≡ Some (settled file) ∷ [] → v.failed ≡ false → Tends name (Some file) true hs
    → (now : Bytes) × ((view_from name v hs).slot ≡ Some (settled now) ∷ []) × IsTidy name file kept is now
tends_done name file kept is v hs slot sound (inl look) = absurd (cc)
tends_done name file kept is v hs slot sound (inr ran) =
    let all : Ran (closing name (gates_in kept.entry.version.length file)) true hs = subst (λ (e : Option Kept). Ran (closing_if name file e) true hs) is ran in
    let last = all_done name file kept is v slot sound in
    (last.0, ap (λ (w : View). w.slot) (ran_to name v (closing name (gates_in kept.entry.version.length file)) hs all) ∙ last.1, last.2)
