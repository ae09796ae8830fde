-- Lists of files in the order of their names: what stands behind a name, what is found, where one more goes.
use Rattle.std.proofs.Common.{◌≡◌, Bool, true, false, List, [], ◌∷◌, ◌++◌, map, filter, cond, Option, Some, None, refl, sym, ◌∙◌, ap, subst, append_assoc, append-nil, length, ◌<◌, arith}
use Rattle.std.specs.Prelude.{◌&&◌, Result, Ok, Err, OnOk, OnErr}
use Rattle.std.specs.declared.cmp.Ordering.{Ordering}
use Rattle.std.specs.declared.cmp.Ordering.TheVariants.{Less, Equal, Greater}
use Rattle.std.specs.Ordering.{is_eq, is_lt, ordering_reverse, match_ordering}
use Rattle.std.specs.List.{AllByRecursion}
use Rattle.std.specs.List.Sorted.{IsStrictlySortedBy}
use Rattle.std.specs.BTreeMap.{insert_entry}
use Rattle.std.specs.Map.{lookup}
use Rattle.std.specs.Cmp.{tied_itself}
use Rattle.std.specs.Cmp.Lexicographic.{nat_list_cmp_total}
use Rattle.pp_world.specs.Disk.{Bytes, at_rest, is_rising, settled}
use Rattle.pp_world.specs.Files.{Files, name_order, file_of, with_file, is_above, first_name, next_name}
use Rattle.pp_memworld.specs.Images.{first_file}
use Rattle.pp_memworld.specs.Slots.{AreListed, Candidates, files_in, rested}

abbrev pub Sorted : List Bytes → Type 0
Sorted names = IsStrictlySortedBy name_order names

abbrev pub Above : Bytes → List Bytes → Type 0
Above name names = AllByRecursion (λ other. name_order name other ≡ Less) names

both_of : (a b : Bool) → (a && b) ≡ true → (a ≡ true) × (b ≡ true)
both_of true b is = (refl, is)
both_of false b is = absurd (cc)

lt_is : (order : Ordering) → is_lt order ≡ true → order ≡ Less
lt_is Less is = refl
lt_is Equal is = absurd (cc)
lt_is Greater is = absurd (cc)

further : (name next : Bytes) (names : List Bytes) → name_order name next ≡ Less → Above next names → Above name names
further name next [] less above = tt
further name next (n ∷ names) less above = (nat_list_cmp_total.trans name next n less above.0, further name next names less above.1)

pub sorted_from_rising : (names : List Bytes) → is_rising names ≡ true → Sorted names
unfolding IsStrictlySortedBy
sorted_from_rising [] is = tt
sorted_from_rising (name ∷ []) is = (tt, tt)
sorted_from_rising (name ∷ next ∷ names) is =
    let two = both_of (is_lt (name_order name next)) (is_rising (next ∷ names)) is in
    let rest = sorted_from_rising (next ∷ names) two.1 in
    let less = lt_is (name_order name next) two.0 in
    ((less, further name next names less rest.0), rest)

pub rising_from_sorted : (names : List Bytes) → Sorted names → is_rising names ≡ true
unfolding IsStrictlySortedBy
rising_from_sorted [] sorted = refl
rising_from_sorted (name ∷ []) sorted = refl
rising_from_sorted (name ∷ next ∷ names) sorted = rw (sorted.0.0, rising_from_sorted (next ∷ names) sorted.1) refl

pub head_above : (name : Bytes) (names : List Bytes) → Sorted (name ∷ names) → Above name names
unfolding IsStrictlySortedBy
head_above name names sorted = sorted.0

pub tail_sorted : (name : Bytes) (names : List Bytes) → Sorted (name ∷ names) → Sorted names
unfolding IsStrictlySortedBy
tail_sorted name names sorted = sorted.1

-- in the other order
turned : (one other : Bytes) → name_order one other ≡ Less → name_order other one ≡ Greater
turned one other less = nat_list_cmp_total.antisymm other one ∙ ap ordering_reverse less

pub itself : (name : Bytes) → name_order name name ≡ Equal
itself name = tied_itself nat_list_cmp_total name

module _ {X : Type 0} where
  abbrev pub names_of : List (Bytes × X) → List Bytes
  names_of files = map (λ file. file.0) files

  abbrev pub behind : Option Bytes → List (Bytes × X) → List (Bytes × X)
  behind after files = filter (λ file. is_above after file.0) files

  pub sorted_back : (pre files : List (Bytes × X)) → Sorted (names_of (pre ++ files)) → Sorted (names_of files)
  unfolding IsStrictlySortedBy
  sorted_back [] files sorted = sorted
  sorted_back (x ∷ pre) files sorted = sorted_back pre files sorted.1

  -- each file of the front is below one behind it
  below : (x : Bytes) (pre : List (Bytes × X)) (e : Bytes × X) (rest : List (Bytes × X)) → Above x (names_of (pre ++ e ∷ rest)) → name_order x e.0 ≡ Less
  below x [] e rest above = above.0
  below x (y ∷ pre) e rest above = below x pre e rest above.1

  all_above : (name : Bytes) (files : List (Bytes × X)) → Above name (names_of files) → behind (Some name) files ≡ files
  all_above name [] above = refl
  all_above name (f ∷ files) above = rw (above.0, all_above name files above.1) refl

  behind_one : (pre : List (Bytes × X)) (e : Bytes × X) (rest : List (Bytes × X)) → Sorted (names_of (pre ++ e ∷ rest)) → behind (Some e.0) (pre ++ e ∷ rest) ≡ rest
  unfolding IsStrictlySortedBy
  behind_one [] e rest sorted = rw itself (all_above e.0 rest sorted.0)
  behind_one (x ∷ pre) e rest sorted = rw (turned x.0 e.0 (below x.0 pre e rest sorted.0)) (behind_one pre e rest sorted.1)

  found_one : (pre : List (Bytes × X)) (e : Bytes × X) (rest : List (Bytes × X)) → Sorted (names_of (pre ++ e ∷ rest)) → lookup (λ n. is_eq (name_order e.0 n)) (pre ++ e ∷ rest) ≡ Some e.1
  unfolding IsStrictlySortedBy
  found_one [] e rest sorted = rw itself refl
  found_one (x ∷ pre) e rest sorted = rw (turned x.0 e.0 (below x.0 pre e rest sorted.0)) (found_one pre e rest sorted.1)

  -- one more goes to the end
  pub inserted_last : (pre : List (Bytes × X)) (e : Bytes × X) (rest : List (Bytes × X)) → Sorted (names_of (pre ++ e ∷ rest)) → insert_entry name_order pre e.0 e.1 ≡ pre ++ e ∷ []
  unfolding IsStrictlySortedBy
  inserted_last [] e rest sorted = refl
  inserted_last (x ∷ pre) e rest sorted = rw (turned x.0 e.0 (below x.0 pre e rest sorted.0)) (ap (λ es. x ∷ es) (inserted_last pre e rest sorted.1))

  -- without a name all files are behind
  pub all_behind : (files : List (Bytes × X)) → behind None files ≡ files
  all_behind [] = refl
  all_behind (f ∷ files) = ap (λ fs. f ∷ fs) (all_behind files)

  -- what stands behind a name is the back of the list
  back : (after : Option Bytes) (files : List (Bytes × X)) → Sorted (names_of files) → (pre : List (Bytes × X)) × (files ≡ pre ++ behind after files)
  back None files sorted = ([], sym (all_behind files))
  back (Some name) [] sorted = ([], refl)
  back (Some name) (x ∷ files) sorted = by (name_order name x.0) refl (back (Some name) files (tail_sorted x.0 (names_of files) sorted))
    where
      by : (order : Ordering) → name_order name x.0 ≡ order → (pre : List (Bytes × X)) × (files ≡ pre ++ behind (Some name) files) → (pre : List (Bytes × X)) × (x ∷ files ≡ pre ++ behind (Some name) (x ∷ files))
      by Less is rest = ([], sym (all_above name (x ∷ files) (is, further name x.0 (names_of files) is (head_above x.0 (names_of files) sorted))))
      by Equal is rest = (x ∷ rest.0, rw is (ap (λ fs. x ∷ fs) rest.1))
      by Greater is rest = (x ∷ rest.0, rw is (ap (λ fs. x ∷ fs) rest.1))

  -- the next file: what stands behind it, and that it is found
  pub next_step : (after : Option Bytes) (files : List (Bytes × X)) (e : Bytes × X) (rest : List (Bytes × X)) → Sorted (names_of files) → behind after files ≡ e ∷ rest
      → (behind (Some e.0) files ≡ rest) × (lookup (λ n. is_eq (name_order e.0 n)) files ≡ Some e.1)
  next_step after files e rest sorted is =
      let front = back after files sorted in
      let whole : files ≡ front.0 ++ e ∷ rest = front.1 ∙ ap (λ fs. front.0 ++ fs) is in
      let order : Sorted (names_of (front.0 ++ e ∷ rest)) = subst (λ (fs : List (Bytes × X)). Sorted (names_of fs)) whole sorted in
      (ap (behind (Some e.0)) whole ∙ behind_one front.0 e rest order, ap (lookup (λ n. is_eq (name_order e.0 n))) whole ∙ found_one front.0 e rest order)

-- the least name above another is that of the next file, which is found
pub found_next : (after : Option Bytes) (files : Files) (name : Bytes) → AreListed files → next_name after files ≡ Some name
    → (file : Bytes) × (first_file (behind after files) ≡ Some (name, file)) × (file_of name files ≡ Some file)
found_next after files name listed is = by (behind after files) refl
  where
    by : (rest : Files) → behind after files ≡ rest → (file : Bytes) × (first_file (behind after files) ≡ Some (name, file)) × (file_of name files ≡ Some file)
    by [] none = absurd (let bad : None ≡ Some name = sym (ap first_name none) ∙ is in cc)
    by (e ∷ rest) some =
        let same : Some e.0 ≡ Some name = sym (ap first_name some) ∙ is in
        let name_is : e.0 ≡ name = cc in
        let step = next_step after files e rest (sorted_from_rising (names_of files) listed) some in
        (e.1, ap first_file some ∙ ap (λ (n : Bytes). Some (n, e.1)) name_is, subst (λ (n : Bytes). file_of n files ≡ Some e.1) name_is step.1)

first_is : (files : Files) (e : Bytes × Bytes) → Some e ≡ first_file files → (rest : Files) × (files ≡ e ∷ rest)
first_is [] e is = absurd (cc)
first_is (f ∷ files) e is = (files, (let same : e ≡ f = cc in ap (λ (g : Bytes × Bytes). g ∷ files) (sym same)))

-- the files so far and those behind them are all
abbrev pub IsCopiedTo : Option Bytes → Files → Files → Type 0
IsCopiedTo after copy files = copy ++ behind after files ≡ files

pub copied_one : (after : Option Bytes) (files copy copy' : Files) (e : Bytes × Bytes) → AreListed files → IsCopiedTo after copy files → Some e ≡ first_file (behind after files) → copy' ≡ with_file e.0 e.1 copy
    → IsCopiedTo (Some e.0) copy' files
copied_one after files copy copy' e listed so first put =
    let some = first_is (behind after files) e first in
    let whole : copy ++ e ∷ some.0 ≡ files = sym (ap (λ (fs : Files). copy ++ fs) some.1) ∙ so in
    let order : Sorted (names_of files) = sorted_from_rising (names_of files) listed in
    let one : copy' ≡ copy ++ e ∷ [] = put ∙ inserted_last copy e some.0 (subst (λ (fs : Files). Sorted (names_of fs)) (sym whole) order) in
    ap (λ (fs : Files). copy' ++ fs) (next_step after files e some.0 order some.1).0 ∙ ap (λ (fs : Files). fs ++ some.0) one ∙ append_assoc copy (e ∷ []) some.0 ∙ whole

pub fewer_behind : (after : Option Bytes) (files : Files) (e : Bytes × Bytes) → AreListed files → Some e ≡ first_file (behind after files) → length (behind (Some e.0) files) < length (behind after files)
fewer_behind after files e listed first =
    let some = first_is (behind after files) e first in
    let next : behind (Some e.0) files ≡ some.0 = (next_step after files e some.0 (sorted_from_rising (names_of files) listed) some.1).0 in
    let one : length (behind (Some e.0) files) ≡ length some.0 = ap length next in
    let two : length (behind after files) ≡ length (e ∷ some.0) = ap length some.1 in
    omega (arith, one, two)

pub none_behind : (after : Option Bytes) (files copy : Files) → IsCopiedTo after copy files → None ≡ first_file (behind after files) → copy ≡ files
none_behind after files copy so none = sym (append-nil copy) ∙ sym (ap (λ (fs : Files). copy ++ fs) (empty (behind after files) none)) ∙ so
  where
    empty : (fs : Files) → None ≡ first_file fs → fs ≡ []
    empty [] is = refl
    empty (f ∷ fs) is = absurd (cc)

-- the same with the files at rest
abbrev pub IsRestedTo : Option Bytes → List (Bytes × Candidates) → Files → Type 0
IsRestedTo after slots files = slots ++ map rested (behind after files) ≡ map rested files

rested_names : (files : Files) → names_of (map rested files) ≡ names_of files
rested_names [] = refl
rested_names (f ∷ files) = ap (λ (ns : List Bytes). f.0 ∷ ns) (rested_names files)

pub rested_one : (after : Option Bytes) (files : Files) (slots slots' : List (Bytes × Candidates)) (e : Bytes × Bytes) → AreListed files → IsRestedTo after slots files → Some e ≡ first_file (behind after files)
    → slots' ≡ insert_entry name_order slots e.0 (Some (settled e.1) ∷ []) → IsRestedTo (Some e.0) slots' files
rested_one after files slots slots' e listed so first put =
    let some = first_is (behind after files) e first in
    let whole : slots ++ rested e ∷ map rested some.0 ≡ map rested files = sym (ap (λ (fs : Files). slots ++ map rested fs) some.1) ∙ so in
    let order : Sorted (names_of files) = sorted_from_rising (names_of files) listed in
    let rested_order : Sorted (names_of (map rested files)) = subst Sorted (sym (rested_names files)) order in
    let one : slots' ≡ slots ++ rested e ∷ [] = put ∙ inserted_last slots (rested e) (map rested some.0) (subst (λ (fs : List (Bytes × Candidates)). Sorted (names_of fs)) (sym whole) rested_order) in
    ap (λ (fs : Files). slots' ++ map rested fs) (next_step after files e some.0 order some.1).0 ∙ ap (λ (fs : List (Bytes × Candidates)). fs ++ map rested some.0) one ∙ append_assoc slots (rested e ∷ []) (map rested some.0) ∙ whole

pub none_rests : (after : Option Bytes) (files : Files) (slots : List (Bytes × Candidates)) → IsRestedTo after slots files → None ≡ first_file (behind after files) → slots ≡ map rested files
none_rests after files slots so none = sym (append-nil slots) ∙ sym (ap (λ (fs : Files). slots ++ map rested fs) (empty (behind after files) none)) ∙ so
  where
    empty : (fs : Files) → None ≡ first_file fs → fs ≡ []
    empty [] is = refl
    empty (f ∷ fs) is = absurd (cc)

-- one more file is put in its place
above_insert : {X : Type 0} (x name : Bytes) (value : X) (files : List (Bytes × X)) → name_order x name ≡ Less → Above x (names_of files) → Above x (names_of (insert_entry name_order files name value))
above_insert x name value [] less above = (less, tt)
above_insert x name value (f ∷ files) less above = by (name_order name f.0) (above_insert x name value files less above.1)
  where
    by : (order : Ordering) → Above x (names_of (insert_entry name_order files name value)) → Above x (names_of (match_ordering order ((name, value) ∷ f ∷ files) ((f.0, value) ∷ files) (f ∷ insert_entry name_order files name value)))
    by Less rest = (less, above)
    by Equal rest = above
    by Greater rest = (above.0, rest)

sorted_insert : {X : Type 0} (name : Bytes) (value : X) (files : List (Bytes × X)) → Sorted (names_of files) → Sorted (names_of (insert_entry name_order files name value))
unfolding IsStrictlySortedBy
sorted_insert name value [] sorted = (tt, tt)
sorted_insert name value (f ∷ files) sorted = by (name_order name f.0) refl (sorted_insert name value files sorted.1)
  where
    by : (order : Ordering) → name_order name f.0 ≡ order → Sorted (names_of (insert_entry name_order files name value)) → Sorted (names_of (match_ordering order ((name, value) ∷ f ∷ files) ((f.0, value) ∷ files) (f ∷ insert_entry name_order files name value)))
    by Less is rest = ((is, further name f.0 (names_of files) is sorted.0), sorted)
    by Equal is rest = sorted
    by Greater is rest = (above_insert f.0 name value files (nat_list_cmp_total.antisymm f.0 name ∙ ap ordering_reverse is) sorted.0, rest)

pub listed_put : (name file : Bytes) (files : Files) → AreListed files → AreListed (with_file name file files)
listed_put name file files listed = rising_from_sorted (names_of (with_file name file files)) (sorted_insert name file files (sorted_from_rising (names_of files) listed))

-- what stands at rest under a name
pub rested_at : (test : Bytes → Bool) (files : Files) → files_in (lookup test (map rested files)) ≡ at_rest (lookup test files) ∷ []
rested_at test [] = refl
rested_at test (f ∷ files) = by (test f.0) (rested_at test files)
  where
    by : (b : Bool) → files_in (lookup test (map rested files)) ≡ at_rest (lookup test files) ∷ [] → files_in (cond b (Some (Some (settled f.1) ∷ [])) (lookup test (map rested files))) ≡ at_rest (cond b (Some f.1) (lookup test files)) ∷ []
    by true rest = refl
    by false rest = rest

pub put_listed : {A E : Type 0} (result : Result A E) (name file : Bytes) (image image' : Files) → AreListed image → OnOk result (image' ≡ with_file name file image) → OnErr result (image' ≡ image) → AreListed image'
put_listed (Ok a) name file image image' listed ok err = subst AreListed (sym ok) (listed_put name file image listed)
put_listed (Err e) name file image image' listed ok err = subst AreListed (sym err) listed
