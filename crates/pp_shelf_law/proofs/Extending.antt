-- How an entry that is kept further, or that is new, is shown.
use Rattle.std.proofs.Common.{◌≡◌, refl, sym, subst, ap, ap₂, ◌∙◌, inl, inr, ℕ, Bool, true, false, not, ◌&&◌, cond, find, map, List, [], ◌∷◌, Some, arith}
use Rattle.std.specs.Prelude.{bytes_eq, count_by}
use Rattle.pp_cache_law.specs.Outdated.{AreNamed}
use Rattle.pp_law.specs.Lists.{Bytes, change, without}
use Rattle.pp_law.specs.State.{Entry}
use Rattle.pp_law.specs.Store.{extended, is_named}
use Rattle.pp_law.specs.Table.{is_entry_of, is_kept_row_of}
use Rattle.pp_laws.proofs.Lists.{in_filter}
use Rattle.pp_laws.specs.Runs.{IsIn}
use Rattle.pp_store.proofs.Lists.{count-cons, one}
use Rattle.pp_store.specs.Changes.{extended as extended_in, extended_to}
use Rattle.pp_store.specs.Kept.{IsExtent, Kept, KeptMap, is_of}
use Rattle.pp_target.specs.Name.{name_of}
use Rattle.pp_shelf_law.specs.Shelf.{AreKept, ShowEntries, ShowsEntry, is_shut}
use Rattle.pp_shelf_law.proofs.Finding.{named_in, one_named}
use Rattle.pp_shelf_law.proofs.Lists.{Agree, true_false}
use Rattle.pp_shelf_law.proofs.Shelves.{bytes_by, key_agrees, same_bytes}

-- ---- changes

module _ {A : Type 0} (p : A → Bool) (f : A → A) where
  abbrev now : A → Bool → A
  now x b = elim b as (λ c. A) [ true ↦ f x | false ↦ x ]

  change_by : (r : A → Bool) (x : A) (xs : List A) (a b : Bool) → p x ≡ a → r x ≡ b → r (f x) ≡ r x → without r (change p f xs) ≡ change p f (without r xs)
      → cond (not (r (now x a))) (now x a ∷ without r (change p f xs)) (without r (change p f xs)) ≡ change p f (cond (not b) (x ∷ without r xs) (without r xs))
  change_by r x xs true true ia ib same rest = ap (λ (c : Bool). cond (not c) (f x ∷ without r (change p f xs)) (without r (change p f xs))) (same ∙ ib) ∙ rest
  change_by r x xs true false ia ib same rest =
      ap (λ (c : Bool). cond (not c) (f x ∷ without r (change p f xs)) (without r (change p f xs))) (same ∙ ib)
      ∙ ap₂ (λ (y : A) (ys : List A). y ∷ ys) (sym (ap (now x) ia)) rest
  change_by r x xs false true ia ib same rest = ap (λ (c : Bool). cond (not c) (x ∷ without r (change p f xs)) (without r (change p f xs))) ib ∙ rest
  change_by r x xs false false ia ib same rest =
      ap (λ (c : Bool). cond (not c) (x ∷ without r (change p f xs)) (without r (change p f xs))) ib
      ∙ ap₂ (λ (y : A) (ys : List A). y ∷ ys) (sym (ap (now x) ia)) rest

  out_now : (r : A → Bool) (x : A) (ys : List A) (a : Bool) → p x ≡ a → cond (not (r (now x (p x)))) (now x (p x) ∷ ys) ys ≡ cond (not (r (now x a))) (now x a ∷ ys) ys
  out_now r x ys a is = ap (λ (c : Bool). cond (not (r (now x c))) (now x c ∷ ys) ys) is

  -- a test that the change leaves as it is
  pub without_change : (r : A → Bool) → ((x : A) → r (f x) ≡ r x) → (xs : List A) → without r (change p f xs) ≡ change p f (without r xs)
  without_change r same [] = refl
  without_change r same (x ∷ xs) = out_now r x (without r (change p f xs)) (p x) refl ∙ change_by r x xs (p x) (r x) refl refl (same x) (without_change r same xs)

  now_same : (r : A → Bool) (x : A) (a : Bool) → r (f x) ≡ r x → r (now x a) ≡ r x
  now_same r x true same = same
  now_same r x false same = refl

  pub count_change : (r : A → Bool) → ((x : A) → r (f x) ≡ r x) → (xs : List A) → count_by r (change p f xs) ≡ count_by r xs
  count_change r same [] = refl
  count_change r same (x ∷ xs) = omega (arith, count-cons r (now x (p x)) (change p f xs), count-cons r x xs, ap one (now_same r x (p x) (same x)), count_change r same xs)

pub change_agree : {A : Type 0} (p q : A → Bool) (f : A → A) (xs : List A) → Agree p q xs → change p f xs ≡ change q f xs
change_agree p q f [] agree = refl
change_agree {A} p q f (x ∷ xs) agree = ap₂ (λ (b : Bool) (ys : List A). (elim b as (λ c. A) [ true ↦ f x | false ↦ x ]) ∷ ys) agree.0 (change_agree p q f xs agree.1)

-- ---- an entry is kept further

one_further : (key : Bytes) (extent : ℕ) (k : Kept) (e : Entry) (a b : Bool) → a ≡ b → (b ≡ true → IsExtent e.version.length extent) → ShowsEntry k e
    → ShowsEntry (cond a (extended_to extent k) k) (elim b as (λ c. Entry) [ true ↦ extended extent e | false ↦ e ])
one_further key extent k e true true is whole shows = record { name = shows.name; key = shows.key; version = shows.version; fields = shows.fields; times = shows.times; extent = refl; whole = whole refl }
one_further key extent k e true false is whole shows = true_false is
one_further key extent k e false true is whole shows = true_false (sym is)
one_further key extent k e false false is whole shows = shows

both_further : (key : Bytes) (extent : ℕ) (rows : List Kept) (es : List Entry) → ((d : Entry) → IsIn d es → is_entry_of key d ≡ true → IsExtent d.version.length extent) → ShowEntries rows es
    → ShowEntries (map (λ row. cond (is_of key row) (extended_to extent row) row) rows) (change (is_entry_of key) (extended extent) es)
both_further key extent [] [] whole all = tt
both_further key extent [] (e ∷ es) whole all = absurd all
both_further key extent (k ∷ rows) [] whole all = absurd all
both_further key extent (k ∷ rows) (e ∷ es) whole all = (
  one_further key extent k e (is_of key k) (is_entry_of key e) (ap (λ (xs : Bytes). bytes_eq xs key) all.0.key) (λ is. whole e (inl refl) is) all.0,
  both_further key extent rows es (λ d i is. whole d (inr i) is) all.1,
)

named_change : (p : Entry → Bool) (extent : ℕ) (es : List Entry) → AreNamed es → AreNamed (change p (extended extent) es)
named_change p extent [] named = tt
named_change p extent (e ∷ es) named = (by (p e), named_change p extent es named.1)
  where
    by : (b : Bool) → (elim b as (λ c. Entry) [ true ↦ extended extent e | false ↦ e ]).name ≡ name_of (elim b as (λ c. Entry) [ true ↦ extended extent e | false ↦ e ]).key
    by true = named.0
    by false = named.0

-- a row that is kept stands for the only entry of its key
second : (a b : Bool) → (a && b) ≡ true → b ≡ true
second true b is = is
second false b is = true_false (sym is)

rows_agree : (key : Bytes) (es : List Entry) → AreNamed es → Agree (is_kept_row_of key) (is_named (name_of key)) es → Agree (is_kept_row_of key) (is_entry_of key) es
rows_agree key [] named agree = tt
rows_agree key (e ∷ es) named agree = (by (is_kept_row_of key e) (is_entry_of key e) refl refl, rows_agree key es named.1 agree.1)
  where
    by : (a b : Bool) → is_kept_row_of key e ≡ a → is_entry_of key e ≡ b → a ≡ b
    by true true ia ib = refl
    by true false ia ib = true_false (sym (second (not e.is_stale) (is_entry_of key e) ia) ∙ ib)
    by false true ia ib = true_false (sym (bytes_by e.name (name_of key) (named.0 ∙ ap name_of (same_bytes e.key key ib))) ∙ sym agree.0 ∙ ia)
    by false false ia ib = refl

pub kept_further : (key : Bytes) (extent : ℕ) (shelf : KeptMap) (es : List Entry) (names : List Bytes) (e : Entry) → AreKept shelf es names → find (is_kept_row_of key) es ≡ Some e → IsIn e es → e.key ≡ key → IsExtent e.version.length extent
    → AreKept (extended_in key extent shelf) (change (is_kept_row_of key) (extended extent) es) names
kept_further key extent shelf es names e kept found there of whole = record {
  rows = subst (λ (ds : List Entry). ShowEntries (map (λ row. cond (is_of key row) (extended_to extent row) row) shelf.rows) ds)
      (sym (ap (λ (ds : List Entry). without (is_shut names) ds) same ∙ without_change (is_entry_of key) (extended extent) (is_shut names) (λ d. refl) es))
      (both_further key extent shelf.rows (without (is_shut names) es) all_whole kept.rows);
  closed_same = kept.closed_same;
  count = kept.count;
  named = named_change (is_kept_row_of key) extent es kept.named;
  once = λ name. omega (arith, count_change (is_kept_row_of key) (extended extent) (is_named name) (λ d. refl) es, kept.once name);
}
  where
    same : change (is_kept_row_of key) (extended extent) es ≡ change (is_entry_of key) (extended extent) es
    same = change_agree (is_kept_row_of key) (is_entry_of key) (extended extent) es
        (rows_agree key es kept.named (key_agrees key (is_kept_row_of key) es e (λ d is. second (not d.is_stale) (is_entry_of key d) is) kept.named (kept.once (name_of key)) found))

    all_whole : (d : Entry) → IsIn d (without (is_shut names) es) → is_entry_of key d ≡ true → IsExtent d.version.length extent
    all_whole d i is =
        let there_d = (in_filter (λ x. not (is_shut names x)) d es i).0 in
        let its_key : d.key ≡ key = same_bytes d.key key is in
        let one_is : e ≡ d = one_named (name_of key) e d es (kept.once (name_of key)) there (named_in e es kept.named there ∙ ap name_of of) there_d (named_in d es kept.named there_d ∙ ap name_of its_key) in
        subst (λ (x : Entry). IsExtent x.version.length extent) one_is whole
