-- A life begins with the files that a crash left: they are as few as they were.
use Rattle.std.proofs.Common.{◌≡◌, refl, ◌≤◌, Bool, true, false, not, List, [], ◌∷◌, length, map, filter, cond, Option, Some, None, inl, inr, sym, subst, ap, ◌∙◌, arith}
use Rattle.std.specs.Prelude.{filter_map, is_some}
use Rattle.std.specs.List.{cons_option}
use Rattle.pp_gate.proofs.Images.{settled_leaves}
use Rattle.pp_gate.proofs.Ops.{AllLeft}
use Rattle.pp_recover.proofs.NameLemmas.{Distinct, NotIn}
use Rattle.pp_world.specs.Disk.{LeavesOne, at_rest, view_of, woken as woken_view}
use Rattle.pp_world.specs.Files.{Files, file_of}
use Rattle.pp_world.specs.Log.{Log}
use Rattle.pp_world.specs.declared.happening.Happening.TheVariants.{Woke}
use Rattle.pp_law.specs.Entries.{entries_in, entry_in}
use Rattle.pp_law.specs.Lists.{Bytes, has_text}
use Rattle.pp_law.specs.State.{Entry, no_agenda}
use Rattle.pp_laws.specs.Runs.{IsIn}
use Rattle.pp_laws.proofs.Lists.{in_filter, in_map}
use Rattle.pp_laws_crash.proofs.Backing.{entry_told}
use Rattle.pp_laws_crash.proofs.Views.{view_more}
use Rattle.pp_laws_crash.proofs.Waking.{entries_there, entry_at, found_in, has_in, in_entries, in_image, name_of_file}
use Rattle.pp_laws_found.specs.Counts.{HasFewFiles, is_no_entry}
use Rattle.pp_laws_found.proofs.Apart.{AreApart, entry_name, entry_named, map_length, pigeons}
use Rattle.pp_laws_found.proofs.CountsInv.{AllCounted, CleanAt, CountsOf, IsEntryAt, counts_rest, entry_names}
use Rattle.pp_laws_found.proofs.FoundWaking.{has_of, named_in}

-- ---- names that are distinct

not_in_out : (name : Bytes) (names : List Bytes) → NotIn name names → IsIn name names → ⊥
not_in_out name [] none i = i
not_in_out name (n ∷ names) none (inl eq) = none.0 (sym eq)
not_in_out name (n ∷ names) none (inr i) = not_in_out name names none.1 i

-- the names of what is made of some of them
module _ {A : Type 0} (made : Bytes × Bytes → Option A) (name : A → Bytes) (same : (p : Bytes × Bytes) (x : A) → made p ≡ Some x → name x ≡ p.0) where
  made_in_by : (n : Bytes) (p : Bytes × Bytes) (image : Files) (o : Option A) → made p ≡ o → (IsIn n (map name (filter_map made image)) → IsIn n (map name_of_file image)) → IsIn n (map name (cons_option o (filter_map made image))) → IsIn n (map name_of_file (p ∷ image))
  made_in_by n p image None is rest j = inr (rest j)
  made_in_by n p image (Some x) is rest (inl eq) = inl (eq ∙ same p x is)
  made_in_by n p image (Some x) is rest (inr j) = inr (rest j)

  made_in : (n : Bytes) (image : Files) → IsIn n (map name (filter_map made image)) → IsIn n (map name_of_file image)
  made_in n [] i = absurd i
  made_in n (p ∷ image) i = made_in_by n p image (made p) refl (made_in n image) i

  made_apart_by : (p : Bytes × Bytes) (image : Files) (o : Option A) → made p ≡ o → NotIn p.0 (map name_of_file image) → AreApart (map name (filter_map made image)) → AreApart (map name (cons_option o (filter_map made image)))
  made_apart_by p image None is none rest = rest
  made_apart_by p image (Some x) is none rest = ((λ i. not_in_out p.0 (map name_of_file image) none (subst (λ n. IsIn n (map name_of_file image)) (same p x is) (made_in (name x) image i))), rest)

  made_apart : (image : Files) → Distinct (map name_of_file image) → AreApart (map name (filter_map made image))
  made_apart [] differ = tt
  made_apart (p ∷ image) differ = made_apart_by p image (made p) refl differ.0 (made_apart image differ.1)

entries_apart : (image : Files) → Distinct (map name_of_file image) → AreApart (map entry_name (entries_in image))
entries_apart image differ = made_apart entry_at entry_name (λ p e is. (entry_told p.0 p.1 e is).name_is) image differ

filter_apart_by : (p : Bytes × Bytes) (image : Files) (b : Bool) → NotIn p.0 (map name_of_file image) → AreApart (map name_of_file (filter is_no_entry image)) → AreApart (map name_of_file (cond b (p ∷ filter is_no_entry image) (filter is_no_entry image)))
filter_apart_by p image true none rest = ((λ i. let f = in_map name_of_file p.0 (filter is_no_entry image) i in not_in_out p.0 (map name_of_file image) none (subst (λ n. IsIn n (map name_of_file image)) (sym f.is) (named_in f.was image (in_filter is_no_entry f.was image f.there).0))), rest)
filter_apart_by p image false none rest = rest

others_apart : (image : Files) → Distinct (map name_of_file image) → AreApart (map name_of_file (filter is_no_entry image))
others_apart [] differ = tt
others_apart (p ∷ image) differ = filter_apart_by p image (is_no_entry p) differ.0 (others_apart image differ.1)

-- ---- an image that a crash leaves has few files

abbrev pub IsLeft : Log → Files → Type 0
IsLeft disk image = (name file : Bytes) → file_of name image ≡ Some file → LeavesOne (view_of name disk).slot (Some file)

module _ (others : List Bytes) (disk : Log) (all : AllCounted others disk) (image : Files) (differ : Distinct (map name_of_file image)) (left : IsLeft disk image) where
  covered : (n : Bytes) → IsIn n (map entry_name (entries_in image)) → IsIn n (entry_names disk)
  covered n i =
      let f = in_map entry_name n (entries_in image) i in
      let from = in_entries image f.was f.there in
      let found = in_image image from.file differ from.there in
      subst (λ m. IsIn m (entry_names disk)) (sym (entry_told from.file.0 from.file.1 f.was from.is).name_is ∙ sym f.is) (all.covers from.file.0 from.file.1 (left from.file.0 from.file.1 found) (f.was, from.is))

  pub entries_few : length (entries_in image) ≤ 10000
  entries_few = omega (arith, pigeons (map entry_name (entries_in image)) (entry_names disk) (entries_apart image differ) covered, all.few, map_length entry_name (entries_in image))

  no_entry : (p : Bytes × Bytes) (o : Option Entry) → entry_in p.0 p.1 ≡ o → not (is_some o) ≡ true → IsEntryAt p.0 p.1 → ⊥
  no_entry p None is none e = let both : None ≡ Some e.0 = sym is ∙ e.1 in cc both
  no_entry p (Some d) is none e = cc none

  other_there : (p : Bytes × Bytes) → IsIn p image → is_no_entry p ≡ true → IsIn p.0 others
  other_there p i none = by (has_text p.0 others) refl
    where
      by : (b : Bool) → has_text p.0 others ≡ b → IsIn p.0 others
      by true is = has_in p.0 others is
      by false is = absurd (no_entry p (entry_in p.0 p.1) refl none (all.clean p.0 (λ j. has_of p.0 others j is) (Some p.1) (left p.0 p.1 (in_image image p differ i))))

  others_in : (n : Bytes) → IsIn n (map name_of_file (filter is_no_entry image)) → IsIn n others
  others_in n i =
      let f = in_map name_of_file n (filter is_no_entry image) i in
      let p = in_filter is_no_entry f.was image f.there in
      subst (λ m. IsIn m others) (sym f.is) (other_there f.was p.0 p.1)

  pub others_few : length others ≤ 1000 → length (filter is_no_entry image) ≤ 1000
  others_few few = omega (arith, pigeons (map name_of_file (filter is_no_entry image)) others (others_apart image differ) others_in, few, map_length name_of_file (filter is_no_entry image))

  pub few_files : length others ≤ 1000 → HasFewFiles image
  few_files few = record { entries = entries_few; others = others_few few }

-- ---- the life that begins with it

module _ (others : List Bytes) (image : Files) (differ : Distinct (map name_of_file image)) (few : length (entries_in image) ≤ 10000) (clean : (n file : Bytes) → (IsIn n others → ⊥) → file_of n image ≡ Some file → CleanAt n (Some file)) where
  at : (name : Bytes) → view_of name (Woke image ∷ []) ≡ woken_view name image
  at name = view_more name [] (Woke image)

  clean_by : (n : Bytes) (o : Option Bytes) → file_of n image ≡ o → (IsIn n others → ⊥) → (file : Option Bytes) → LeavesOne (at_rest o ∷ []) file → CleanAt n file
  clean_by n o is out None kept = tt
  clean_by n None is out (Some c) (inl bad) = absurd bad
  clean_by n None is out (Some c) (inr bad) = absurd bad
  clean_by n (Some b) is out (Some c) (inl kept) = subst (λ x. CleanAt n (Some x)) (sym (settled_leaves b c kept)) (clean n b out is)
  clean_by n (Some b) is out (Some c) (inr bad) = absurd bad

  covers_by : (n : Bytes) (o : Option Bytes) → file_of n image ≡ o → (file : Bytes) → LeavesOne (at_rest o ∷ []) (Some file) → IsEntryAt n file → IsIn n (map entry_name (entries_in image))
  covers_by n None is c (inl bad) e = absurd bad
  covers_by n None is c (inr bad) e = absurd bad
  covers_by n (Some b) is c (inl kept) e =
      let same : c ≡ b = settled_leaves b c kept in
      let found : entry_in n b ≡ Some e.0 = ap (entry_in n) (sym same) ∙ e.1 in
      subst (λ m. IsIn m (map entry_name (entries_in image))) (entry_told n b e.0 found).name_is (entry_named e.0 (entries_in image) (entries_there image (n, b) e.0 (found_in image n b is) found))
  covers_by n (Some b) is c (inr bad) e = absurd bad

  woken_all : AllCounted others (Woke image ∷ [])
  woken_all = record {
    clean = λ n out. subst (AllLeft (CleanAt n)) (sym (at n)) (λ file kept. clean_by n (file_of n image) refl out file kept);
    covers = λ n file kept e. covers_by n (file_of n image) refl file (subst (λ v. LeavesOne v.slot (Some file)) (at n) kept) e;
    apart = entries_apart image differ;
    few = omega (arith, few, map_length entry_name (entries_in image));
  }

  pub woken_counts : CountsOf others (Woke image ∷ []) no_agenda None [] (entries_in image)
  woken_counts = counts_rest woken_all (λ n i. let f = in_map entry_name n (entries_in image) i in inr (record { entry = f.was; there = f.there; named = sym f.is })) no_agenda refl
