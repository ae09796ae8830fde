-- Once all names were attended to, an entry stands under a kept or a closed name alone.
use Rattle.std.proofs.Common.{◌≡◌, ℕ, zero, suc, ◌*◌, ◌/◌, ◌%◌, ◌<◌, Bool, true, false, List, [], ◌∷◌, ◌++◌, length, Option, Some, None, refl, sym, ◌∙◌, ap, subst, arith}
use Rattle.std.specs.Prelude.{◌==◌, ◌||◌, nat_lt, bytes_eq, cond, if◌then◌else◌, map, filter, find, slice_index, is_some, Ok}
use Rattle.std.specs.Int.{w32, to_le_bytes}
use Rattle.std.specs.List.{filter_map, cons_option, list_all, list_any}
use Rattle.std.specs.Option.{option_and_then}
use Rattle.std.specs.Ordering.{is_eq}
use Rattle.std.proofs.lemmas.Bool.{and_parts, and_from}
use Rattle.std.proofs.lemmas.Bool.Decides.{nat_tests}
use Rattle.std.proofs.lemmas.List.{append-nil, take_all}
use Rattle.std.proofs.lemmas.List.Folds.{list_all-append}
use Rattle.std.proofs.lemmas.List.Sums.{AllPass-from_list_all}
use Rattle.std.proofs.lemmas.Map.Text.{is_eq-slice_cmp}
use Rattle.std.proofs.lemmas.Slice.Eq.{bytes_eq-Decides}
use Rattle.hex.specs.Hex.{lower_digits, encode_with, encode_lower}
use Rattle.hex.proofs.HexLemmas.{length-encode_with}
use Rattle.md5.specs.Md5.{digest_bytes, md5}
use Rattle.md5.proofs.StandardFacts.{length-md5}
use Rattle.pp_world.specs.Files.{Files, file_of, name_order}
use Rattle.pp_world.specs.Log.{Log}
use Rattle.pp_world.specs.Disk.{Bytes, LeavesOne, names_in, view_of, is_name_byte, is_name as has_form}
use Rattle.pp_target.specs.Name.{name_of}
use Rattle.pp_gate.specs.Files.{extent_in}
use Rattle.pp_gate.specs.Runs.{EachMoment}
use Rattle.pp_store.specs.Held.{IsEntryUnder, Covers}
use Rattle.pp_store.specs.Kept.{Kept, KeptMap, is_closed, is_name, is_under, kept_under}
use Rattle.pp_recover.specs.Image.{HasFewNames, named_for, head_in, entry_in, entry_of}
use Rattle.pp_recover.specs.Looks.{Extends}
use Rattle.pp_recover.specs.Opening.{IsFresh, SameEntries, Opens, entry_unless, failed_on, store_in}
use Rattle.pp_recover.proofs.EntryLemmas.{entry_some, entry_told, extent_same, head_told, fits}

-- ---- the name of a key has the form of a name

digit : (d : ℕ) → d < 16 → is_name_byte (slice_index lower_digits d) ≡ true
digit d lt = AllPass-from_list_all is_name_byte lower_digits refl d 0 lt

abbrev is_byte : ℕ → Bool
is_byte b = nat_lt b 256

digits : (bytes : List ℕ) → list_all is_byte bytes ≡ true → list_all is_name_byte (encode_lower bytes) ≡ true
unfolding encode_with
digits [] small = refl
digits (b ∷ bytes) small =
    let parts = and_parts (is_byte b) (list_all is_byte bytes) small in
    and_from _ _ (digit (b / 16) (high b parts.0)) (and_from _ _ (digit (b % 16) (omega arith)) (digits bytes parts.1))
  where
    high : (b : ℕ) → is_byte b ≡ true → b / 16 < 16
    high b small = grind (arith, nat_tests)

word_bytes : (n : ℕ) → list_all is_byte (to_le_bytes w32 n) ≡ true
word_bytes n = grind (arith, nat_tests)

digest_small : (h : List ℕ) (n : ℕ) → list_all is_byte (digest_bytes h n) ≡ true
unfolding digest_bytes
digest_small h zero = refl
digest_small h (suc n) =
    list_all-append is_byte (digest_bytes h n) (to_le_bytes w32 (slice_index h n))
    ∙ and_from (list_all is_byte (digest_bytes h n)) (list_all is_byte (to_le_bytes w32 (slice_index h n))) (digest_small h n) (word_bytes (slice_index h n))

md5_small : (key : Bytes) → list_all is_byte (md5 key) ≡ true
unfolding md5
md5_small key = digest_small _ 4

name_formed : (key : Bytes) → has_form (name_of key) ≡ true
unfolding name_of
name_formed key = and_from _ _
    (ap (λ (n : ℕ). n == 32) (length-encode_with lower_digits (md5 key) ∙ ap (λ (n : ℕ). 2 * n) (length-md5 key)))
    (digits (md5 key) (md5_small key))

-- ---- a file that stands in the folder has its name among those that are looked at

or_true : (b : Bool) → (b || true) ≡ true
or_true true = refl
or_true false = refl

file_among : (name file : Bytes) (files : Files) → file_of name files ≡ Some file → list_any (is_name name) (map (λ f. f.0) files) ≡ true
file_among name file [] is = absurd (cc)
file_among name file (f ∷ files) is = by (is_eq (name_order name f.0)) refl is (file_among name file files)
  where
    by : (b : Bool) → is_eq (name_order name f.0) ≡ b → cond b (Some f.1) (file_of name files) ≡ Some file
        → (file_of name files ≡ Some file → list_any (is_name name) (map (λ g. g.0) files) ≡ true) → (is_name name f.0 || list_any (is_name name) (map (λ g. g.0) files)) ≡ true
    by true same found rest =
        let there : name ≡ f.0 = (bytes_eq-Decides name f.0).0 (sym (is_eq-slice_cmp name f.0) ∙ same) in
        ap (λ (b : Bool). b || list_any (is_name name) (map (λ g. g.0) files)) ((bytes_eq-Decides f.0 name).1 (sym there))
    by false same found rest = ap (λ (b : Bool). is_name name f.0 || b) (rest found) ∙ or_true (is_name name f.0)

-- a name that passes is among those that pass
passes_among : (p : Bytes → Bool) (name : Bytes) (names : List Bytes) → p name ≡ true → list_any (is_name name) names ≡ true → list_any (is_name name) (filter p names) ≡ true
passes_among p name [] pass is = is
passes_among p name (n ∷ names) pass is = by (bytes_eq n name) (bytes_eq-Decides n name).0 refl is (passes_among p name names pass)
  where
    behind : (c : Bool) → list_any (is_name name) (filter p names) ≡ true → list_any (is_name name) (cond c (n ∷ filter p names) (filter p names)) ≡ true
    behind true rest = ap (λ (b : Bool). is_name name n || b) rest ∙ or_true (is_name name n)
    behind false rest = rest

    by : (b : Bool) → (b ≡ true → n ≡ name) → bytes_eq n name ≡ b → (b || list_any (is_name name) names) ≡ true
        → (list_any (is_name name) names ≡ true → list_any (is_name name) (filter p names) ≡ true) → list_any (is_name name) (cond (p n) (n ∷ filter p names) (filter p names)) ≡ true
    by true same is_same any rest =
        ap (λ (c : Bool). list_any (is_name name) (cond c (n ∷ filter p names) (filter p names))) (ap p (same refl) ∙ pass)
        ∙ ap (λ (b : Bool). b || list_any (is_name name) (filter p names)) is_same
    by false same is_same any rest = behind (p n) (rest any)

looked_at : (name file : Bytes) (files : Files) → has_form name ≡ true → HasFewNames files → file_of name files ≡ Some file → list_any (is_name name) (names_in files) ≡ true
looked_at name file files formed few is =
    let all : names_in files ≡ filter has_form (map (λ f. f.0) files) = take_all 65536 (filter has_form (map (λ f. f.0) files)) few in
    ap (list_any (is_name name)) all ∙ passes_among has_form name (map (λ f. f.0) files) formed (file_among name file files is)

-- ---- and its entry is in the store

row_among : (entry : Bytes → Option Kept) (name : Bytes) (kept : Kept) (names : List Bytes) → entry name ≡ Some kept → is_under name kept ≡ true
    → list_any (is_name name) names ≡ true → is_some (find (is_under name) (filter_map entry names)) ≡ true
row_among entry name kept [] is own any = absurd (cc)
row_among entry name kept (n ∷ names) is own any = by (bytes_eq n name) (bytes_eq-Decides n name).0 any (row_among entry name kept names is own)
  where
    behind : (e : Option Kept) → is_some (find (is_under name) (filter_map entry names)) ≡ true → is_some (find (is_under name) (cons_option e (filter_map entry names))) ≡ true
    behind None rest = rest
    behind (Some other) rest = first (is_under name other)
      where
        first : (b : Bool) → is_some (cond b (Some other) (find (is_under name) (filter_map entry names))) ≡ true
        first true = refl
        first false = rest

    by : (b : Bool) → (b ≡ true → n ≡ name) → (b || list_any (is_name name) names) ≡ true
        → (list_any (is_name name) names ≡ true → is_some (find (is_under name) (filter_map entry names)) ≡ true) → is_some (find (is_under name) (cons_option (entry n) (filter_map entry names))) ≡ true
    by true same here rest =
        ap (λ (e : Option Kept). is_some (find (is_under name) (cons_option e (filter_map entry names)))) (ap entry (same refl) ∙ is)
        ∙ ap (λ (b : Bool). is_some (cond b (Some kept) (find (is_under name) (filter_map entry names)))) own
    by false same there rest = behind (entry n) (rest there)

-- ---- an entry under its name is one that the folder had

abbrev pub kept_under_it : (name file : Bytes) → IsEntryUnder name file → Kept
kept_under_it name file under = record { entry = under.row; extent = extent_in under.row.version.length file }

pub entry_under : (name file : Bytes) (under : IsEntryUnder name file) → entry_in name file ≡ Some (kept_under_it name file under)
unfolding head_in
entry_under name file under =
    entry_some name file under.row (extent_in under.row.version.length file)
    (ap (option_and_then (named_for name)) under.head ∙ ap (λ (b : Bool). if b then Some under.row else None) ((bytes_eq-Decides (name_of under.row.key) name).1 under.own))
    (extent_same under.row.version.length file ∙ ap (λ (b : Bool). if b then Some (extent_in under.row.version.length file) else None) (fits under.row.version.length (extent_in under.row.version.length file) (length file) under.entry.long under.entry.short))

module _ (files : Files) (l : Log) (few : HasFewNames files) where
  -- the entry of a file of the folder is kept, or its name is closed
  found_or_closed : (name file : Bytes) (kept : Kept) → file_of name files ≡ Some file → entry_in name file ≡ Some kept
      → is_some (kept_under name (store_in files l)) ≡ false → is_closed name (store_in files l) ≡ false → ⊥
  found_or_closed name file kept there is absent sound = by (failed_on l name) refl
    where
      own : name_of kept.entry.key ≡ name
      own = (head_told name file kept.entry (entry_told name file kept is).head).own

      among : list_any (is_name name) (names_in files) ≡ true
      among = looked_at name file files (ap has_form (sym own) ∙ name_formed kept.entry.key) few there

      entry : entry_of name (file_of name files) ≡ Some kept
      entry = ap (entry_of name) there ∙ is

      by : (b : Bool) → failed_on l name ≡ b → ⊥
      by true failed = absurd (let bad : true ≡ false = sym (passes_among (failed_on l) name (names_in files) failed among) ∙ sound in cc)
      by false failed = absurd (
          let bad : true ≡ false =
          sym (row_among (λ n. entry_unless (failed_on l n) (entry_of n (file_of n files))) name kept (names_in files)
          (ap (λ (b : Bool). entry_unless b (entry_of name (file_of name files))) failed ∙ entry) ((bytes_eq-Decides (name_of kept.entry.key) name).1 own) among) ∙ absent in
          cc)

  covered : ((name : Bytes) (file : Option Bytes) → LeavesOne (view_of name l).slot file → entry_of name file ≡ entry_of name (file_of name files)) → Covers (store_in files l) l
  covered same = record {
    each = λ name absent sound file left under.
        by name absent sound (kept_under_it name file under) (file_of name files) refl (sym (same name (Some file) left) ∙ entry_under name file under);
  }
    where
      by : (name : Bytes) → is_some (kept_under name (store_in files l)) ≡ false → is_closed name (store_in files l) ≡ false
          → (kept : Kept) (stood : Option Bytes) → file_of name files ≡ stood → entry_of name (file_of name files) ≡ Some kept → ⊥
      by name absent sound kept None there is = absurd (let bad : None ≡ Some kept = sym (ap (entry_of name) there) ∙ is in cc)
      by name absent sound kept (Some file) there is = found_or_closed name file kept there (sym (ap (entry_of name) there) ∙ is) absent sound

-- ---- at the end of the opening
pub covers_ok : (old new : Option Log) (store : KeptMap) → Extends old new (λ before hs. (files : Files) → IsFresh files before → Opens (Ok store) files before hs) → EachMoment old new SameEntries
    → Extends old new (λ before hs. (files : Files) → IsFresh files before → HasFewNames files → Covers store (before ++ hs))
covers_ok old new store opens moments = record {
  was = λ l is.
      let w = opens.was l is in
      let last = moments.at w.0 w.1 w.2 (is ∙ ap Some w.3) in (
        w.0,
        w.1,
        w.2,
        w.3,
        λ files fresh few. subst (λ (s : KeptMap). Covers s (w.0 ++ w.1)) (sym (w.4 files fresh).1)
            (covered files (w.0 ++ w.1) few (last.at w.1 [] (sym (append-nil w.1)) files fresh)),
      );
}
