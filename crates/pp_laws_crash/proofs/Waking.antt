-- A life begins with files that a crash left, or with none that is an entry.
use Rattle.std.proofs.Common.{◌≡◌, ◌⊎◌, ⊎_elim, refl, ℕ, zero, suc, ◌+◌, ◌*◌, ◌<◌, ◌≤◌, nat_lt, nat_le, Bool, true, false, ◌==◌, ◌&&◌, ◌||◌, List, [], ◌∷◌, ◌++◌, length, take, drop, map, get_or, Option, Some, None, inl, inr, sym, subst, ap, ap₂, ◌∙◌, arith, length-append, length-drop}
use Rattle.std.specs.Prelude.{min, cond, filter_map, flat_map, bytes_eq, fold}
use Rattle.std.specs.List.{cons_option}
use Rattle.std.proofs.lemmas.List.{get_or-take, get_or-drop, length-take, length-take-le}
use Rattle.std.specs.List.{list_all, list_any}
use Rattle.std.specs.Ordering.{is_eq}
use Rattle.std.proofs.lemmas.Bool.Decides.{nat_tests}
use Rattle.std.proofs.lemmas.Cmp.{nat_list_cmp_total, tied_itself}
use Rattle.pp_entry.specs.Entries.{Row, row_at}
use Rattle.pp_entry.specs.Gates.{leading_open}
use Rattle.pp_entry.specs.Texts.{body_at, chunks_of}
use Rattle.pp_gate.specs.Files.{body, extent_in, gate, open_gates}
use Rattle.pp_gate.proofs.Images.{settled_leaves}
use Rattle.pp_gate.proofs.PlaceLemmas.{gates_below}
use Rattle.pp_recover.proofs.ShutLemmas.{leads_open, leads_within, stops_shut}
use Rattle.pp_target.specs.Name.{name_of}
use Rattle.pp_world.specs.Disk.{View, Stored, IsLeft, IsLeftOf, LeavesOne, at_rest, began, done, is_loose, is_on, is_rising, loosened, on_file, settled, splice, synced, synced_unless, undone, unsynced, view_after, view_of, where_on, woken, written}
use Rattle.pp_world.specs.Files.{Files, file_of, name_order}
use Rattle.pp_world.specs.Log.{Log}
use Rattle.pp_world.specs.declared.happening.Happening.{Happening}
use Rattle.pp_world.specs.declared.happening.Happening.TheVariants.{Woke, Waits, Clock, Opened, CanRead, CanWrite, Heard, HungUp, Said, Shut, Dialled, Undialled, Reached, Ended, Broke, Asked, Got, Dropped, NoneYet, Began, Did, Unread, Noted, Rooted, Listed, Listens, Configured, Printed, Stopped}
use Rattle.pp_world.specs.declared.op.DiskOp.{DiskOp}
use Rattle.pp_world.specs.declared.op.DiskOp.TheVariants.{Draft, SyncDraft, Publish, Write, Sync, Remove}
use Rattle.pp_world.proofs.FileLemmas.{is_eq-name_order}
use Rattle.pp_law.specs.Entries.{entries_in, entry_in}
use Rattle.pp_law.specs.Lists.{Bytes, has_text}
use Rattle.pp_law.specs.Opening.{is_as_it_was, is_left_behind, leaves, leaves_one, leaves_under, names_of, once}
use Rattle.pp_law.specs.State.{Sent, Entry}
use Rattle.pp_laws.specs.Runs.{IsIn}
use Rattle.pp_laws.proofs.Tests.{below, first_holds, second_holds}
use Rattle.pp_recover.proofs.NameLemmas.{Distinct, NotIn, distinct}
use Rattle.pp_laws_crash.proofs.Backing.{Backed, BackedAt, IsEntryIn, body_is, claims, entry_told, is_sent}
use Rattle.pp_laws_crash.proofs.Going.{Rests}
use Rattle.pp_laws_crash.proofs.Inv.{AtRest}
use Rattle.pp_laws_crash.proofs.Lying.{Held, len_of}
use Rattle.pp_laws_crash.proofs.Views.{differs, same_name, view_more}

-- ---- the test of what a crash may leave

le_of : (a b : ℕ) → nat_le a b ≡ true → a ≤ b
le_of a b is = grind (arith, nat_tests)

eq_of : (a b : ℕ) → (a == b) ≡ true → a ≡ b
eq_of a b is = grind (arith, nat_tests)

not_below : (a b : ℕ) → nat_lt a b ≡ false → b ≤ a
not_below a b is = grind (arith, nat_tests)

first_of_two : (a b : Bool) → (a || b) ≡ true → b ≡ false → a ≡ true
first_of_two true b is no_b = refl
first_of_two false b is no_b = let both : false ≡ true = sym no_b ∙ is in absurd (cc both)

as_it_was : (at : ℕ) (f : Stored) (was bytes : Bytes) → is_as_it_was at f was bytes ≡ true → (o : ℕ) → o < length was → o < length bytes → at + o < f.synced → is_loose (at + o) f.loose ≡ false → get_or bytes o 0 ≡ get_or was o 0
as_it_was at f [] bytes is o lt in_bytes below tight = absurd (omega (arith, lt))
as_it_was at f (b ∷ was) [] is o lt in_bytes below tight = absurd (omega (arith, in_bytes))
as_it_was at f (b ∷ was) (c ∷ bytes) is o lt in_bytes below tight = by (nat_lt at f.synced) refl (as_it_was (at + 1) f was bytes) is o lt in_bytes below tight
  where
    by : (t : Bool) → nat_lt at f.synced ≡ t → (is_as_it_was (at + 1) f was bytes ≡ true → (o : ℕ) → o < length was → o < length bytes → at + 1 + o < f.synced → is_loose (at + 1 + o) f.loose ≡ false → get_or bytes o 0 ≡ get_or was o 0) → (elim t as (λ x. Bool) [ true ↦ ((b == c) || is_loose at f.loose) && is_as_it_was (at + 1) f was bytes | false ↦ true ]) ≡ true
        → (o : ℕ) → o < suc (length was) → o < suc (length bytes) → at + o < f.synced → is_loose (at + o) f.loose ≡ false → get_or (c ∷ bytes) o 0 ≡ get_or (b ∷ was) o 0
    by false synced rest is o lt in_bytes below tight = absurd (omega (arith, not_below at f.synced synced, below))
    by true synced rest is zero lt in_bytes below tight =
        sym (eq_of b c (first_of_two (b == c) (is_loose at f.loose) (first_holds ((b == c) || is_loose at f.loose) _ is) (subst (λ k. is_loose k f.loose ≡ false) (nothing at) tight)))
      where
        nothing : (k : ℕ) → k + 0 ≡ k
        nothing k = omega arith
    by true synced rest is (suc o) lt in_bytes below tight =
        rest (second_holds ((b == c) || is_loose at f.loose) _ is) o (omega (arith, lt)) (omega (arith, in_bytes)) (omega (arith, below)) (subst (λ k. is_loose k f.loose ≡ false) (one_more at o) tight)
      where
        one_more : (k i : ℕ) → k + suc i ≡ k + 1 + i
        one_more k i = omega arith

from_none : (k : ℕ) → k ≡ 0 + k
from_none k = omega arith

left_of : (f : Stored) (bytes : Bytes) → f.synced ≤ length f.bytes → leaves f bytes ≡ true → IsLeft f bytes
left_of f bytes solid is =
    let two = first_holds (nat_le f.synced (length bytes) && nat_le (length bytes) f.end) _ is in
    let one : f.synced ≤ length bytes = le_of f.synced (length bytes) (first_holds (nat_le f.synced (length bytes)) _ two) in
    record {
      no_shorter = one;
      no_longer = le_of (length bytes) f.end (second_holds (nat_le f.synced (length bytes)) _ two);
      same = λ o lt tight. as_it_was 0 f f.bytes bytes (second_holds (nat_le f.synced (length bytes) && nat_le (length bytes) f.end) _ is) o (omega (arith, lt, solid)) (omega (arith, lt, one)) (omega (arith, lt)) (subst (λ k. is_loose k f.loose ≡ false) (from_none o) tight);
    }

-- each file has what is synced of it
abbrev pub IsSolid : Option Stored → Type 0
IsSolid None = Unit {0}
IsSolid (Some f) = f.synced ≤ length f.bytes

abbrev pub AreSolid : List (Option Stored) → Type 0
AreSolid [] = Unit {0}
AreSolid (f ∷ fs) = IsSolid f × AreSolid fs

one_left : (f : Option Stored) (file : Option Bytes) → IsSolid f → leaves_one file f ≡ true → IsLeftOf f file
one_left None None solid is = tt
one_left None (Some bytes) solid is = absurd (cc is)
one_left (Some f) None solid is = absurd (cc is)
one_left (Some f) (Some bytes) solid is = left_of f bytes solid is

either_is : (a b : Bool) → (a || b) ≡ true → (a ≡ true) ⊎ (b ≡ true)
either_is true b is = inl refl
either_is false b is = inr is

pub any_left : (file : Option Bytes) (slot : List (Option Stored)) → AreSolid slot → list_any (leaves_one file) slot ≡ true → LeavesOne slot file
any_left file [] solid is = absurd (cc is)
any_left file (f ∷ fs) solid is = ⊎_elim (λ (here : leaves_one file f ≡ true). inl (one_left f file solid.0 here)) (λ (there : list_any (leaves_one file) fs ≡ true). inr (any_left file fs solid.1 there)) (either_is (leaves_one file f) _ is)

-- ---- whatever was done

record SolidView (v : View) : Type 0 where
  slot : AreSolid v.slot
  draft : IsSolid v.draft

solid_map : (change : Stored → Stored) → ((f : Stored) → IsSolid (Some f) → IsSolid (Some (change f))) → (fs : List (Option Stored)) → AreSolid fs → AreSolid (map (on_file change) fs)
solid_map change keeps [] solid = tt
solid_map change keeps (None ∷ fs) solid = (tt, solid_map change keeps fs solid.1)
solid_map change keeps (Some f ∷ fs) solid = (keeps f solid.0, solid_map change keeps fs solid.1)

solid_push : (fs : List (Option Stored)) (f : Option Stored) → AreSolid fs → IsSolid f → AreSolid (fs ++ f ∷ [])
solid_push [] f solid one = (one, tt)
solid_push (g ∷ fs) f solid one = (solid.0, solid_push fs f solid.1 one)

solid_on : (on : Bool) (a b : List (Option Stored)) → AreSolid a → AreSolid b → AreSolid (where_on on a b)
solid_on true a b one two = one
solid_on false a b one two = two

solid_loosened : (from to : ℕ) (f : Stored) → IsSolid (Some f) → IsSolid (Some (loosened from to f))
unfolding loosened
solid_loosened from to f solid = solid

solid_written : (at : ℕ) (x : Bytes) (f : Stored) → IsSolid (Some f) → IsSolid (Some (written at x f))
unfolding written splice
solid_written at x f solid = omega (arith, solid, length-append (take at f.bytes) (x ++ drop (at + length x) f.bytes), length-append x (drop (at + length x) f.bytes), length-drop (at + length x) f.bytes, length-take at f.bytes)

solid_synced : (f : Stored) → IsSolid (Some f) → IsSolid (Some (synced f))
unfolding settled
solid_synced f solid = omega arith

solid_unless : (failed : Bool) (slot : List (Option Stored)) → AreSolid slot → AreSolid (synced_unless failed slot)
solid_unless true slot solid = solid
solid_unless false slot solid = solid_map synced solid_synced slot solid

solid_draft : (bytes : Bytes) → IsSolid (Some (unsynced bytes))
unfolding unsynced
solid_draft bytes = omega arith

solid_draft_synced : (draft : Option Stored) → IsSolid draft → IsSolid (on_file synced draft)
solid_draft_synced None solid = tt
solid_draft_synced (Some f) solid = solid_synced f solid

solid_began : (name : Bytes) (op : DiskOp) (v : View) → SolidView v → SolidView (began name op v)
solid_began name (Draft b) v s = record { slot = s.slot; draft = tt }
solid_began name SyncDraft v s = s
solid_began name (Publish n) v s = record { slot = solid_on (is_on name (Publish n)) _ _ (solid_push v.slot v.draft s.slot s.draft) s.slot; draft = s.draft }
solid_began name (Write n at b) v s = record { slot = solid_on (is_on name (Write n at b)) _ _ (solid_map _ (solid_loosened at (at + length b)) v.slot s.slot) s.slot; draft = s.draft }
solid_began name (Sync n) v s = s
solid_began name (Remove n) v s = record { slot = solid_on (is_on name (Remove n)) _ _ (solid_push v.slot None s.slot tt) s.slot; draft = s.draft }

solid_done : (name : Bytes) (op : DiskOp) (v : View) → SolidView v → SolidView (done name op v)
solid_done name (Draft b) v s = record { slot = s.slot; draft = solid_draft b }
solid_done name SyncDraft v s = record { slot = s.slot; draft = solid_draft_synced v.draft s.draft }
solid_done name (Publish n) v s = record { slot = solid_on (is_on name (Publish n)) _ _ (s.draft, tt) s.slot; draft = tt }
solid_done name (Write n at b) v s = record { slot = solid_on (is_on name (Write n at b)) _ _ (solid_map _ (solid_written at b) v.slot s.slot) s.slot; draft = s.draft }
solid_done name (Sync n) v s = record { slot = solid_on (is_on name (Sync n)) _ _ (solid_unless v.failed v.slot s.slot) s.slot; draft = s.draft }
solid_done name (Remove n) v s = record { slot = solid_on (is_on name (Remove n)) _ _ (tt, tt) s.slot; draft = s.draft }

solid_undone : (name : Bytes) (op : DiskOp) (v : View) → SolidView v → SolidView (undone name op v)
solid_undone name (Draft b) v s = record { slot = s.slot; draft = s.draft }
solid_undone name SyncDraft v s = record { slot = s.slot; draft = tt }
solid_undone name (Publish n) v s = record { slot = s.slot; draft = tt }
solid_undone name (Write n at b) v s = record { slot = s.slot; draft = s.draft }
solid_undone name (Sync n) v s = record { slot = s.slot; draft = s.draft }
solid_undone name (Remove n) v s = record { slot = s.slot; draft = s.draft }

solid_rest : (file : Option Bytes) → IsSolid (at_rest file)
unfolding settled
solid_rest None = tt
solid_rest (Some bytes) = omega arith

solid_woken : (name : Bytes) (image : Files) → SolidView (woken name image)
solid_woken name image = record { slot = (solid_rest (file_of name image), tt); draft = tt }

solid_after : (name : Bytes) (v : View) (h : Happening) → SolidView v → SolidView (view_after name v h)
solid_after name v (Woke image) s = solid_woken name image
solid_after name v (Began op) s = solid_began name op v s
solid_after name v (Did op true) s = solid_done name op v s
solid_after name v (Did op false) s = solid_undone name op v s
solid_after name v (Unread n) s = record { slot = s.slot; draft = s.draft }
solid_after name v (Waits w) s = s
solid_after name v (Clock n) s = s
solid_after name v (Opened n) s = s
solid_after name v (CanRead n) s = s
solid_after name v (CanWrite n) s = s
solid_after name v (Heard n b) s = s
solid_after name v (HungUp n) s = s
solid_after name v (Said n m b) s = s
solid_after name v (Shut n) s = s
solid_after name v (Dialled n b m) s = s
solid_after name v (Undialled b n) s = s
solid_after name v (Reached n) s = s
solid_after name v (Ended n) s = s
solid_after name v (Broke n) s = s
solid_after name v (Asked n b) s = s
solid_after name v (Got n b) s = s
solid_after name v (Dropped n) s = s
solid_after name v (NoneYet n) s = s
solid_after name v (Noted r) s = s
solid_after name v (Rooted b) s = s
solid_after name v (Listed t) s = s
solid_after name v (Listens n t) s = s
solid_after name v (Configured b o) s = s
solid_after name v (Printed b) s = s
solid_after name v Stopped s = s

solid_from : (name : Bytes) (v : View) (log : Log) → SolidView v → SolidView (fold (view_after name) v log)
solid_from name v [] s = s
solid_from name v (h ∷ log) s = solid_from name (view_after name v h) log (solid_after name v h s)

pub solid_view : (name : Bytes) (log : Log) → AreSolid (view_of name log).slot
unfolding view_of
solid_view name log = (solid_from name (woken name []) log (solid_woken name [])).slot

-- ---- of a name in an image

pub has_in : (text : Bytes) (texts : List Bytes) → has_text text texts ≡ true → IsIn text texts
has_in text [] is = absurd (cc is)
has_in text (t ∷ texts) is = ⊎_elim (λ (here : bytes_eq t text ≡ true). inl (sym (same_name t text here))) (λ (there : has_text text texts ≡ true). inr (has_in text texts there)) (either_is (bytes_eq t text) _ is)

once_by : (x name : Bytes) (seen : List Bytes) (b : Bool) → has_text name seen ≡ b → IsIn x seen → IsIn x (elim b as (λ c. List Bytes) [ true ↦ seen | false ↦ name ∷ seen ])
once_by x name seen true is i = i
once_by x name seen false is i = inr i

once_keeps : (x : Bytes) (names seen : List Bytes) → IsIn x seen → IsIn x (once seen names)
once_keeps x [] seen i = i
once_keeps x (name ∷ names) seen i = once_keeps x names _ (once_by x name seen (has_text name seen) refl i)

once_new : (name : Bytes) (seen : List Bytes) (b : Bool) → has_text name seen ≡ b → IsIn name (elim b as (λ c. List Bytes) [ true ↦ seen | false ↦ name ∷ seen ])
once_new name seen true is = has_in name seen is
once_new name seen false is = inl refl

pub once_in : (x : Bytes) (names seen : List Bytes) → IsIn x names → IsIn x (once seen names)
once_in x [] seen i = absurd i
once_in x (name ∷ names) seen (inl eq) = once_keeps x names _ (subst (λ n. IsIn n (elim (has_text name seen) as (λ c. List Bytes) [ true ↦ seen | false ↦ name ∷ seen ])) (sym eq) (once_new name seen (has_text name seen) refl))
once_in x (name ∷ names) seen (inr i) = once_in x names _ i

pub all_in : {A : Type 0} (p : A → Bool) (xs : List A) (x : A) → list_all p xs ≡ true → IsIn x xs → p x ≡ true
all_in p [] x is i = absurd i
all_in p (y ∷ ys) x is (inl eq) = ap p eq ∙ first_holds (p y) _ is
all_in p (y ∷ ys) x is (inr i) = all_in p ys x (second_holds (p y) _ is) i

pub in_back : {A : Type 0} (x : A) (xs ys : List A) → IsIn x ys → IsIn x (xs ++ ys)
in_back x [] ys i = i
in_back x (y ∷ xs) ys i = inr (in_back x xs ys i)

abbrev pub name_of_file : Bytes × Bytes → Bytes
name_of_file file = file.0

named_in : (p : Bytes × Bytes) (image : Files) → IsIn p image → IsIn p.0 (map name_of_file image)
named_in p [] i = absurd i
named_in p (q ∷ image) (inl eq) = inl (ap name_of_file eq)
named_in p (q ∷ image) (inr i) = inr (named_in p image i)

pub left_under : (log : Log) (image : Files) (p : Bytes × Bytes) → is_left_behind log image ≡ true → IsIn p image → file_of p.0 image ≡ Some p.1 → LeavesOne (view_of p.0 log).slot (Some p.1)
left_under log image p is i found =
    subst (LeavesOne (view_of p.0 log).slot) found
    (any_left (file_of p.0 image) (view_of p.0 log).slot (solid_view p.0 log)
    (all_in (leaves_under log image) (once [] (flat_map names_of log ++ map name_of_file image)) p.0 is (once_in p.0 (flat_map names_of log ++ map name_of_file image) [] (in_back p.0 (flat_map names_of log) (map name_of_file image) (named_in p image i)))))

-- each name once: what is in the list is what is found
not_in : (name : Bytes) (q : Bytes × Bytes) (image : Files) → NotIn name (map name_of_file image) → IsIn q image → q.0 ≡ name → ⊥
not_in name q [] none i is = i
not_in name q (p ∷ image) none (inl eq) is = none.0 (ap name_of_file (sym eq) ∙ is)
not_in name q (p ∷ image) none (inr i) is = not_in name q image none.1 i is

found_by : (name : Bytes) (p : Bytes × Bytes) (image : Files) (b : Bool) → is_eq (name_order name p.0) ≡ b → file_of name (p ∷ image) ≡ (cond b (Some p.1) (file_of name image))
found_by name p image b is = ap (λ (t : Bool). cond t (Some p.1) (file_of name image)) is

pub in_image : (image : Files) (q : Bytes × Bytes) → Distinct (map name_of_file image) → IsIn q image → file_of q.0 image ≡ Some q.1
in_image [] q differ i = absurd i
in_image (p ∷ image) q differ (inl eq) = found_by q.0 p image true (ap (λ (n : Bytes). is_eq (name_order q.0 n)) (ap name_of_file (sym eq)) ∙ ap is_eq (tied_itself nat_list_cmp_total q.0)) ∙ ap (λ (r : Bytes × Bytes). Some r.1) (sym eq)
in_image (p ∷ image) q differ (inr i) = found_by q.0 p image false (is_eq-name_order q.0 p.0 (λ is. not_in p.0 q image differ.0 i (sym is))) ∙ in_image image q differ.1 i

abbrev test_at : Bytes → Bytes × Bytes → Bool
test_at name p = is_eq (name_order name p.0)

pub found_in : (image : Files) (name file : Bytes) → file_of name image ≡ Some file → IsIn (name, file) image
found_in [] name file is = absurd (cc is)
found_in (p ∷ image) name file is = by (is_eq (name_order name p.0)) refl (found_in image name file) is
  where
    by : (b : Bool) → is_eq (name_order name p.0) ≡ b → (file_of name image ≡ Some file → IsIn (name, file) image) → cond b (Some p.1) (file_of name image) ≡ Some file → IsIn (name, file) (p ∷ image)
    by true tied rest eq =
        let file_is : p.1 ≡ file = cc eq in
        let name_is : p.0 ≡ name = same_name p.0 name (tied_same (bytes_eq p.0 name) refl tied) in
        inl (pair_is (name, file) p (sym name_is) (sym file_is))
      where
        tied_same : (b : Bool) → bytes_eq p.0 name ≡ b → is_eq (name_order name p.0) ≡ true → bytes_eq p.0 name ≡ true
        tied_same true is tied = is
        tied_same false is tied = let both : false ≡ true = sym (is_eq-name_order name p.0 (differs p.0 name is)) ∙ tied in absurd (cc both)

        pair_is : (a b : Bytes × Bytes) → a.0 ≡ b.0 → a.1 ≡ b.1 → a ≡ b
        pair_is a b one two = ap₂ (λ (x y : Bytes). (x, y)) one two
    by false tied rest eq = inr (rest eq)

-- ---- the entries of an image

pub record FromImage (image : Files) (e : Entry) : Type 0 where
  pub file : Bytes × Bytes
  pub there : IsIn file image
  pub is : entry_in file.0 file.1 ≡ Some e

abbrev pub entry_at : Bytes × Bytes → Option Entry
entry_at file = entry_in file.0 file.1

in_entries_by : (p : Bytes × Bytes) (image : Files) (e : Entry) (o : Option Entry) → entry_at p ≡ o → (IsIn e (filter_map entry_at image) → FromImage image e) → IsIn e (cons_option o (filter_map entry_at image)) → FromImage (p ∷ image) e
in_entries_by p image e None is rest i = let r = rest i in record { file = r.file; there = inr r.there; is = r.is }
in_entries_by p image e (Some d) is rest (inl eq) = record { file = p; there = inl refl; is = is ∙ ap (λ (x : Entry). Some x) (sym eq) }
in_entries_by p image e (Some d) is rest (inr i) = let r = rest i in record { file = r.file; there = inr r.there; is = r.is }

pub in_entries : (image : Files) (e : Entry) → IsIn e (entries_in image) → FromImage image e
in_entries [] e i = absurd i
in_entries (p ∷ image) e i = in_entries_by p image e (entry_at p) refl (in_entries image e) i

entries_there_by : (p : Bytes × Bytes) (e : Entry) (rest : List Entry) (o : Option Entry) → o ≡ Some e → IsIn e (cons_option o rest)
entries_there_by p e rest None is = absurd (cc is)
entries_there_by p e rest (Some d) is = let same : d ≡ e = cc is in inl (sym same)

skip_by : (e : Entry) (rest : List Entry) (o : Option Entry) → IsIn e rest → IsIn e (cons_option o rest)
skip_by e rest None i = i
skip_by e rest (Some d) i = inr i

pub entries_there : (image : Files) (p : Bytes × Bytes) (e : Entry) → IsIn p image → entry_at p ≡ Some e → IsIn e (entries_in image)
entries_there [] p e i is = absurd i
entries_there (q ∷ image) p e (inl eq) is = entries_there_by q e (entries_in image) (entry_at q) (ap entry_at (sym eq) ∙ is)
entries_there (q ∷ image) p e (inr i) is = skip_by e (entries_in image) (entry_at q) (entries_there image p e i is)

-- ---- the life that begins

-- each of its files is backed
abbrev pub BackedImage : List Sent → Files → Type 0
BackedImage sent image = (p : Bytes × Bytes) → IsIn p image → file_of p.0 image ≡ Some p.1 → BackedAt sent p.0 (Some p.1)

pub first_backed : (sent : List Sent) (image : Files) → entries_in image ≡ [] → BackedImage sent image
first_backed sent image none p i found = λ e is. absurd (subst (λ es. IsIn e es) none (entries_there image p e i is))

pub left_backed : (sent : List Sent) (log : Log) (image : Files) → ((name : Bytes) → Backed sent name (view_of name log)) → is_left_behind log image ≡ true → BackedImage sent image
left_backed sent log image backed is p i found = backed p.0 (Some p.1) (left_under log image p is i found)

gate_nth : (n : ℕ) (file : Bytes) (i : ℕ) → i < chunks_of n → get_or (take (chunks_of n) (drop 8192 file)) i 0 ≡ gate file i
unfolding gate
gate_nth n file i lt = get_or-take (chunks_of n) (drop 8192 file) i 0 lt ∙ get_or-drop 8192 file i 0

extent_is : (n : ℕ) (f : Bytes) → extent_in n f ≡ min n (4096 * open_gates n f)
unfolding extent_in
extent_is n f = refl

gates_open : (n : ℕ) (f : Bytes) → leading_open (take (chunks_of n) (drop 8192 f)) ≡ open_gates n f
unfolding open_gates
gates_open n f = refl

module _ (sent : List Sent) (image : Files) (rising : is_rising (map name_of_file image) ≡ true) (backed : BackedImage sent image) where
  differ : Distinct (map name_of_file image)
  differ = distinct (map name_of_file image) (rising)

  at : (name : Bytes) → view_of name (Woke image ∷ []) ≡ woken name image
  at name = view_more name [] (Woke image)

  rest_left : (name : Bytes) (file found : Option Bytes) → file_of name image ≡ found → LeavesOne (at_rest found ∷ []) file → BackedAt sent name file
  rest_left name None found is left = tt
  rest_left name (Some c) None is (inl bad) = absurd bad
  rest_left name (Some c) None is (inr bad) = absurd bad
  rest_left name (Some c) (Some b) is (inl left) = subst (λ x. BackedAt sent name (Some x)) (sym (settled_leaves b c left)) (backed (name, b) (found_in image name b is) is)
  rest_left name (Some c) (Some b) is (inr bad) = absurd bad

  woken_held : (name : Bytes) (e : Entry) → FromImage image e → e.name ≡ name → Held sent true e (woken name image)
  woken_held name e from named = record {
    gates = open_gates (len_of e) file;
    bytes = file;
    slot = ap (λ (o : Option Bytes). at_rest o ∷ []) found;
    lies = record {
      block = take 8192 file;
      row = told.row;
      reads = told.reads;
      key = sym told.key;
      version = sym told.version;
      head = refl;
      is_open = λ i lt. sym (gate_nth (len_of e) file i (omega (arith, lt, within))) ∙ leads_open (take (chunks_of (len_of e)) (drop 8192 file)) i (leads lt);
      shut_next = λ lt is. stops_shut (take (chunks_of (len_of e)) (drop 8192 file)) (omega (arith, lt, size, opened)) (gate_first lt ∙ is);
      within = within;
      long = subst (λ k. body_at (len_of e) + k ≤ length file) (told.extent ∙ extent_is (len_of e) file) told.long;
      short = told.short;
      holds = λ o lt. claim_of told.row (row_at (take 8192 file)) told.reads o (body (len_of e) file o) (subst (λ k. is_sent sent k told.row.version o (body (len_of e) file o) ≡ true) told.key (subst (λ v. is_sent sent e.key v o (body (len_of e) file o) ≡ true) told.version (byte_sent o (subst (λ k. o < k) (sym (told.extent ∙ extent_is (len_of e) file)) lt))));
      extent = λ f. told.extent ∙ extent_is (len_of e) file;
    };
    shut = λ r. absurd (cc r);
  }
    where
      file : Bytes
      file = from.file.1

      told : IsEntryIn from.file.0 from.file.1 e
      told = entry_told from.file.0 from.file.1 e from.is

      name_is : from.file.0 ≡ name
      name_is = sym told.name_is ∙ named

      found : file_of name image ≡ Some from.file.1
      found = subst (λ n. file_of n image ≡ Some from.file.1) name_is (in_image image from.file differ from.there)

      size : length (take (chunks_of (len_of e)) (drop 8192 from.file.1)) ≡ chunks_of (len_of e)
      size = length-take-le (chunks_of (len_of e)) (drop 8192 from.file.1) (omega (arith, length-drop 8192 from.file.1, told.long, gates_below (len_of e)))

      opened : leading_open (take (chunks_of (len_of e)) (drop 8192 from.file.1)) ≡ open_gates (len_of e) from.file.1
      opened = gates_open (len_of e) from.file.1

      within : open_gates (len_of e) from.file.1 ≤ chunks_of (len_of e)
      within = omega (arith, opened, size, leads_within (take (chunks_of (len_of e)) (drop 8192 from.file.1)))

      leads : {i : ℕ} → i < open_gates (len_of e) from.file.1 → i < leading_open (take (chunks_of (len_of e)) (drop 8192 from.file.1))
      leads {i} lt = subst (λ k. i < k) (sym opened) lt

      gate_first : open_gates (len_of e) from.file.1 < chunks_of (len_of e) → get_or (take (chunks_of (len_of e)) (drop 8192 from.file.1)) (leading_open (take (chunks_of (len_of e)) (drop 8192 from.file.1))) 0 ≡ gate from.file.1 (open_gates (len_of e) from.file.1)
      gate_first lt = ap (λ (j : ℕ). get_or (take (chunks_of (len_of e)) (drop 8192 from.file.1)) j 0) opened ∙ gate_nth (len_of e) from.file.1 (open_gates (len_of e) from.file.1) lt

      byte_sent : (o : ℕ) → o < e.extent → is_sent sent e.key e.version o (body (len_of e) from.file.1 o) ≡ true
      byte_sent o lt = subst (λ b. is_sent sent e.key e.version o b ≡ true) (sym (body_is (len_of e) from.file.1 o)) (backed from.file from.there (in_image image from.file differ from.there) e from.is o lt)

      claim_of : (row : Row) (read : Option Row) → read ≡ Some row → (o byte : ℕ) → is_sent sent row.key row.version o byte ≡ true → claims sent o byte read ≡ true
      claim_of row read is o byte all = subst (λ r. claims sent o byte r ≡ true) (sym is) all

  pub woken_rest : AtRest sent (Woke image ∷ []) [] true (entries_in image)
  woken_rest = record {
    backed = λ name. subst (Backed sent name) (sym (at name)) (λ file left. rest_left name file (file_of name image) refl left);
    rests = λ name none. subst (Rests sent true (entries_in image) name) (sym (at name)) (record { sound = refl; held = λ e i named. woken_held name e (in_entries image e i) named });
    own = λ e i. own e (in_entries image e i);
    open_names = λ r e i. refl;
  }
    where
      own : (e : Entry) → FromImage image e → name_of e.key ≡ e.name
      own e from = let told = entry_told from.file.0 from.file.1 e from.is in ap name_of told.key ∙ told.own ∙ sym told.name_is
