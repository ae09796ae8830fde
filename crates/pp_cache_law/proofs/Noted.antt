-- Which entries stand for no row any more is noted as the law has it.
use Rattle.std.proofs.Common.{◌≡◌, ◌<◌, refl, sym, subst, ap, ◌∙◌, ℕ, Bool, true, false, not, ◌&&◌, ◌||◌, cond, find, List, [], ◌∷◌, ◌++◌, length, map, filter, Option, Some, None, arith}
use Rattle.std.specs.Prelude.{bytes_eq, nat_le, ⊤}
use Rattle.std.specs.List.{list_any}
use Rattle.std.proofs.lemmas.Bool.Decides.{nat_tests}
use Rattle.std.proofs.lemmas.Slice.Eq.{bytes_eq-Decides}
use Rattle.pp_cache.specs.Memory.{retired_at, with_outdated}
use Rattle.pp_cache.specs.OnDisk.{outdated_by}
use Rattle.pp_law.specs.Lists.{Bytes, change, has_text, without as law_without}
use Rattle.pp_law.specs.State.{State, Entry}
use Rattle.pp_law.specs.Store.{note_gone, remove_entry}
use Rattle.pp_law.specs.Table.{clear, is_entry_of, is_kept_row_of, is_namesake, swept}
use Rattle.pp_target.specs.Name.{name_of}
use Rattle.pp_cache_law.specs.Outdated.{AreNamed, AreNoted, ClearingsAreTheLaws, KeptRowsAreTheLaws, TakingsAreTheLaws}
use Rattle.pp_cache_law.proofs.Finds.{find_passes}
use Rattle.pp_cache_law.proofs.Numbers.{true_false}
use Rattle.pp_cache_law.proofs.Retiring.{stale}

and_false : (c : Bool) → (c && false) ≡ false
and_false true = refl
and_false false = refl

or_false : (c : Bool) → (c || false) ≡ c
or_false true = refl
or_false false = refl

or_true : (c : Bool) → (c || true) ≡ true
or_true true = refl
or_true false = refl

-- ---- what comes into memory

kept_alike : (key : Bytes) (names displaced : List Bytes) (b : Bool) (es : List Entry) → has_text key displaced ≡ b → AreNoted names displaced es
    → find (λ e. not (list_any (bytes_eq e.name) names) && is_entry_of key e) es ≡ (elim b as (λ c. Option Entry) [ true ↦ None | false ↦ find (is_kept_row_of key) es ])
kept_alike key names displaced true [] of noted = refl
kept_alike key names displaced false [] of noted = refl
kept_alike key names displaced b (e ∷ es) of noted =
    ap (λ (c : Bool). cond (not c && is_entry_of key e) (Some e) (find (λ d. not (list_any (bytes_eq d.name) names) && is_entry_of key d) es)) (sym noted.0)
    ∙ by (bytes_eq e.key key) refl
    ∙ ap (λ (o : Option Entry). elim b as (λ c. Option Entry) [ true ↦ o | false ↦ cond (is_kept_row_of key e) (Some e) o ]) (kept_alike key names displaced b es of noted.1)
    ∙ last b
  where
    rest : Option Entry
    rest = find (λ d. not (list_any (bytes_eq d.name) names) && is_entry_of key d) es

    by : (c : Bool) → bytes_eq e.key key ≡ c → cond (not (e.is_stale || has_text e.key displaced) && c) (Some e) rest ≡ (elim b as (λ c. Option Entry) [ true ↦ rest | false ↦ cond (not e.is_stale && c) (Some e) rest ])
    by true is =
        ap (λ (k : Bytes). cond (not (e.is_stale || has_text k displaced) && true) (Some e) rest) ((bytes_eq-Decides e.key key).0 is)
        ∙ ap (λ (a : Bool). cond (not (e.is_stale || a) && true) (Some e) rest) of ∙ each b e.is_stale
      where
        each : (b stale : Bool) → cond (not (stale || b) && true) (Some e) rest ≡ (elim b as (λ c. Option Entry) [ true ↦ rest | false ↦ cond (not stale && true) (Some e) rest ])
        each true true = refl
        each true false = refl
        each false true = refl
        each false false = refl
    by false isnt = ap (λ (a : Bool). cond a (Some e) rest) (and_false (not (e.is_stale || has_text e.key displaced))) ∙ each b
      where
        each : (b : Bool) → rest ≡ (elim b as (λ c. Option Entry) [ true ↦ rest | false ↦ cond (not e.is_stale && false) (Some e) rest ])
        each true = refl
        each false = sym (ap (λ (a : Bool). cond a (Some e) rest) (and_false (not e.is_stale)))

    last : (b : Bool) → (elim b as (λ c. Option Entry) [ true ↦ elim b as (λ c. Option Entry) [ true ↦ None | false ↦ find (is_kept_row_of key) es ] | false ↦ cond (is_kept_row_of key e) (Some e) (elim b as (λ c. Option Entry) [ true ↦ None | false ↦ find (is_kept_row_of key) es ]) ])
        ≡ (elim b as (λ c. Option Entry) [ true ↦ None | false ↦ find (is_kept_row_of key) (e ∷ es) ])
    last true = refl
    last false = refl

pub kept_rows_of : KeptRowsAreTheLaws
kept_rows_of m s key noted = kept_alike key m.outdated s.displaced (has_text key s.displaced) s.entries refl noted

-- ---- one name more

any_joined : (p : Bytes → Bool) (xs : List Bytes) (y : Bytes) → list_any p (xs ++ y ∷ []) ≡ (list_any p xs || p y)
any_joined p [] y = by (p y)
  where
    by : (b : Bool) → (b || false) ≡ (false || b)
    by true = refl
    by false = refl
any_joined p (x ∷ xs) y = ap (λ (b : Bool). p x || b) (any_joined p xs y) ∙ by (p x) (list_any p xs) (p y)
  where
    by : (a b c : Bool) → (a || (b || c)) ≡ ((a || b) || c)
    by true b c = refl
    by false b c = refl

few_names : (n : ℕ) → n < 2048 → nat_le 2048 n ≡ false
few_names n few = grind (arith, nat_tests)

same_any : (name other : Bytes) (names : List Bytes) → bytes_eq name other ≡ true → list_any (bytes_eq name) names ≡ list_any (bytes_eq other) names
same_any name other names is = ap (λ (t : Bytes). list_any (bytes_eq t) names) ((bytes_eq-Decides name other).0 is)

-- it is among them then, and others are as before
noted_one : (name other : Bytes) (names : List Bytes) (b : Bool) → length names < 2048 → bytes_eq name other ≡ b → list_any (bytes_eq name) (outdated_by other names) ≡ (b || list_any (bytes_eq name) names)
noted_one name other names b few is =
    ap (λ (c : Bool). list_any (bytes_eq name) (cond (list_any (bytes_eq other) names || c) names (names ++ other ∷ []))) (few_names (length names) few) ∙ by (list_any (bytes_eq other) names) refl b is
  where
    by : (a : Bool) → list_any (bytes_eq other) names ≡ a → (b : Bool) → bytes_eq name other ≡ b → list_any (bytes_eq name) (cond (a || false) names (names ++ other ∷ [])) ≡ (b || list_any (bytes_eq name) names)
    by true e true f = same_any name other names f ∙ e
    by true e false f = refl
    by false e true f = any_joined (bytes_eq name) names other ∙ ap (λ (c : Bool). list_any (bytes_eq name) names || c) f ∙ or_true (list_any (bytes_eq name) names)
    by false e false f = any_joined (bytes_eq name) names other ∙ ap (λ (c : Bool). list_any (bytes_eq name) names || c) f ∙ or_false (list_any (bytes_eq name) names)

-- ---- a key is cleared

first_false : (a b : Bool) → (a || b) ≡ false → a ≡ false
first_false false b e = refl
first_false true b e = absurd (true_false e)

second_false : (a b : Bool) → (a || b) ≡ false → b ≡ false
second_false false b e = e
second_false true b e = absurd (true_false e)

any_both : (p : Bytes → Bool) (xs ys : List Bytes) → list_any p (xs ++ ys) ≡ (list_any p xs || list_any p ys)
any_both p [] ys = refl
any_both p (x ∷ xs) ys = ap (λ (b : Bool). p x || b) (any_both p xs ys) ∙ by (p x)
  where
    by : (b : Bool) → (b || (list_any p xs || list_any p ys)) ≡ ((b || list_any p xs) || list_any p ys)
    by true = refl
    by false = refl

same_bytes : (xs : Bytes) → bytes_eq xs xs ≡ true
same_bytes xs = (bytes_eq-Decides xs xs).1 refl

abbrev keys_of : Bytes → List Entry → List Bytes
keys_of key es = map (λ (d : Entry). d.key) (filter (is_namesake key) es)

-- each namesake is among these
abbrev Have : Bytes → List Bytes → List Entry → Type 0
Have key keys [] = ⊤
Have key keys (e ∷ es) = (is_namesake key e ≡ true → has_text e.key keys ≡ true) × Have key keys es

have_more : (key : Bytes) (k : Bytes) (keys : List Bytes) (es : List Entry) → Have key keys es → Have key (k ∷ keys) es
have_more key k keys [] all = tt
have_more key k keys (e ∷ es) all = (λ is. ap (λ (b : Bool). bytes_eq k e.key || b) (all.0 is) ∙ or_true (bytes_eq k e.key), have_more key k keys es all.1)

have_all : (key : Bytes) (es : List Entry) → Have key (keys_of key es) es
have_all key [] = tt
have_all key (e ∷ es) = by (is_namesake key e) refl (have_all key es)
  where
    by : (b : Bool) → is_namesake key e ≡ b → Have key (keys_of key es) es → Have key (map (λ (d : Entry). d.key) (cond b (e ∷ filter (is_namesake key) es) (filter (is_namesake key) es))) (e ∷ es)
    by true is rest = (λ same. ap (λ (b : Bool). b || has_text e.key (keys_of key es)) (same_bytes e.key), have_more key e.key (keys_of key es) es rest)
    by false isnt rest = (λ is. absurd (true_false (sym is ∙ isnt)), rest)

-- and no key of another name
none_else : (key k : Bytes) (es : List Entry) → AreNamed es → bytes_eq (name_of k) (name_of key) ≡ false → has_text k (keys_of key es) ≡ false
none_else key k [] named apart = refl
none_else key k (e ∷ es) named apart = by (bytes_eq e.name (name_of key)) refl (bytes_eq e.key key) (none_else key k es named.1 apart)
  where
    not_it : bytes_eq e.name (name_of key) ≡ true → (b : Bool) → bytes_eq e.key k ≡ b → b ≡ false
    not_it is true f = absurd (true_false (sym is ∙ ap (λ (n : Bytes). bytes_eq n (name_of key)) (named.0 ∙ ap name_of ((bytes_eq-Decides e.key k).0 f)) ∙ apart))
    not_it is false f = refl

    by : (n : Bool) → bytes_eq e.name (name_of key) ≡ n → (a : Bool) → has_text k (keys_of key es) ≡ false → has_text k (map (λ (d : Entry). d.key) (cond (not a && n) (e ∷ filter (is_namesake key) es) (filter (is_namesake key) es))) ≡ false
    by true is true rest = rest
    by true is false rest = ap (λ (b : Bool). b || has_text k (keys_of key es)) (not_it is (bytes_eq e.key k) refl) ∙ rest
    by false isnt true rest = rest
    by false isnt false rest = rest

cleared_noted : (key : Bytes) (names displaced keys : List Bytes) (es : List Entry) → ((k : Bytes) → bytes_eq (name_of k) (name_of key) ≡ false → has_text k keys ≡ false) → AreNoted names displaced es → AreNamed es → Have key keys es
    → length names < 2048 → AreNoted (outdated_by (name_of key) names) (keys ++ displaced) (change (is_entry_of key) stale es)
cleared_noted key names displaced keys [] none noted named have few = tt
cleared_noted key names displaced keys (e ∷ es) none noted named have few =
    (by (bytes_eq e.key key) refl (bytes_eq e.name (name_of key)) refl, cleared_noted key names displaced keys es none noted.1 named.1 have.1 few)
  where
    all : has_text e.key (keys ++ displaced) ≡ (has_text e.key keys || has_text e.key displaced)
    all = any_both (λ t. bytes_eq t e.key) keys displaced

    namesake : bytes_eq e.key key ≡ false → bytes_eq e.name (name_of key) ≡ true → is_namesake key e ≡ true
    namesake apart is = ap (λ (b : Bool). not b && bytes_eq e.name (name_of key)) apart ∙ is

    by : (a : Bool) → bytes_eq e.key key ≡ a → (n : Bool) → bytes_eq e.name (name_of key) ≡ n
        → ((elim a as (λ c. Entry) [ true ↦ stale e | false ↦ e ]).is_stale || has_text (elim a as (λ c. Entry) [ true ↦ stale e | false ↦ e ]).key (keys ++ displaced))
        ≡ list_any (bytes_eq (elim a as (λ c. Entry) [ true ↦ stale e | false ↦ e ]).name) (outdated_by (name_of key) names)
    by true own true is = sym (noted_one e.name (name_of key) names true few is)
    by true own false isnt =
        absurd (true_false (sym (same_bytes (name_of key)) ∙ ap (λ (n : Bytes). bytes_eq n (name_of key)) (ap name_of (sym ((bytes_eq-Decides e.key key).0 own)) ∙ sym named.0) ∙ isnt))
    by false apart true is =
        ap (λ (b : Bool). e.is_stale || b) (all ∙ ap (λ (b : Bool). b || has_text e.key displaced) (have.0 (namesake apart is))) ∙ or_true e.is_stale
        ∙ sym (noted_one e.name (name_of key) names true few is)
    by false apart false isnt =
        ap (λ (b : Bool). e.is_stale || b) (all ∙ ap (λ (b : Bool). b || has_text e.key displaced) (none e.key (ap (λ (n : Bytes). bytes_eq n (name_of key)) (sym named.0) ∙ isnt)))
        ∙ noted.0 ∙ sym (noted_one e.name (name_of key) names false few isnt)

pub clearings_of : ClearingsAreTheLaws
unfolding retired_at with_outdated clear swept
clearings_of m s key noted named few = (both, both)
  where
    both : AreNoted (outdated_by (name_of key) m.outdated) (keys_of key s.entries ++ s.displaced) (change (is_entry_of key) stale s.entries)
    both = cleared_noted key m.outdated s.displaced (keys_of key s.entries) s.entries (λ k apart. none_else key k s.entries named apart) noted named (have_all key s.entries) few

-- ---- one name less

other_noted : (key : Bytes) (names : List Bytes) (e : Entry) (b : Bool) → b ≡ list_any (bytes_eq e.name) (names ++ name_of key ∷ []) → bytes_eq e.name (name_of key) ≡ false → b ≡ list_any (bytes_eq e.name) names
other_noted key names e b noted isnt =
    noted ∙ any_joined (bytes_eq e.name) names (name_of key) ∙ ap (λ (c : Bool). list_any (bytes_eq e.name) names || c) isnt ∙ or_false (list_any (bytes_eq e.name) names)

other_name : (key : Bytes) (e : Entry) (es : List Entry) → list_any (is_namesake key) (e ∷ es) ≡ false → bytes_eq e.key key ≡ false → bytes_eq e.name (name_of key) ≡ false
other_name key e es none apart =
    ap (λ (b : Bool). not b && bytes_eq e.name (name_of key)) (sym apart) ∙ first_false (is_namesake key e) (list_any (is_namesake key) es) none

still_displaced : (k key : Bytes) (displaced : List Bytes) → bytes_eq k key ≡ false → has_text k (law_without (bytes_eq key) displaced) ≡ has_text k displaced
still_displaced k key [] apart = refl
still_displaced k key (t ∷ ts) apart = by (bytes_eq key t) refl (still_displaced k key ts apart)
  where
    not_it : bytes_eq key t ≡ true → (b : Bool) → bytes_eq t k ≡ b → b ≡ false
    not_it is true f = absurd (true_false (sym ((bytes_eq-Decides k key).1 (sym ((bytes_eq-Decides t k).0 f) ∙ sym ((bytes_eq-Decides key t).0 is))) ∙ apart))
    not_it is false f = refl

    by : (b : Bool) → bytes_eq key t ≡ b → has_text k (law_without (bytes_eq key) ts) ≡ has_text k ts → has_text k (cond (not b) (t ∷ law_without (bytes_eq key) ts) (law_without (bytes_eq key) ts)) ≡ has_text k (t ∷ ts)
    by true is rest = rest ∙ ap (λ (b : Bool). b || has_text k ts) (sym (not_it is (bytes_eq t k) refl))
    by false isnt rest = ap (λ (b : Bool). bytes_eq t k || b) rest

taken_noted : (key : Bytes) (names displaced : List Bytes) (es : List Entry) → AreNoted (names ++ name_of key ∷ []) displaced es → list_any (is_namesake key) es ≡ false
    → AreNoted names (law_without (bytes_eq key) displaced) (law_without (is_entry_of key) es)
taken_noted key names displaced [] noted none = tt
taken_noted key names displaced (e ∷ es) noted none = by (bytes_eq e.key key) refl (taken_noted key names displaced es noted.1 (second_false (is_namesake key e) (list_any (is_namesake key) es) none))
  where
    by : (b : Bool) → bytes_eq e.key key ≡ b → AreNoted names (law_without (bytes_eq key) displaced) (law_without (is_entry_of key) es)
        → AreNoted names (law_without (bytes_eq key) displaced) (cond (not b) (e ∷ law_without (is_entry_of key) es) (law_without (is_entry_of key) es))
    by true is rest = rest
    by false isnt rest =
        (ap (λ (b : Bool). e.is_stale || b) (still_displaced e.key key displaced isnt) ∙ other_noted key names e (e.is_stale || has_text e.key displaced) noted.0 (other_name key e es none isnt), rest)

none_noted : (key : Bytes) (names displaced : List Bytes) (es : List Entry) → find (is_entry_of key) es ≡ None → AreNoted (names ++ name_of key ∷ []) displaced es → list_any (is_namesake key) es ≡ false → AreNoted names displaced es
none_noted key names displaced [] nothing noted none = tt
none_noted key names displaced (e ∷ es) nothing noted none =
    by (bytes_eq e.key key) refl nothing (λ f. none_noted key names displaced es f noted.1 (second_false (is_namesake key e) (list_any (is_namesake key) es) none))
  where
    none_some : Some e ≡ None → ⊥
    none_some f = absurd cc

    by : (b : Bool) → bytes_eq e.key key ≡ b → cond b (Some e) (find (is_entry_of key) es) ≡ None → (find (is_entry_of key) es ≡ None → AreNoted names displaced es) → AreNoted names displaced (e ∷ es)
    by true is f rest = absurd (none_some f)
    by false isnt f rest = (other_noted key names e (e.is_stale || has_text e.key displaced) noted.0 (other_name key e es none isnt), rest f)

pub takings_of : TakingsAreTheLaws
unfolding note_gone remove_entry
takings_of m s key names last noted none = by (find (is_entry_of key) s.entries) refl
  where
    all : AreNoted (names ++ name_of key ∷ []) s.displaced s.entries
    all = subst (λ (ns : List Bytes). AreNoted ns s.displaced s.entries) last noted

    by : (o : Option Entry) → find (is_entry_of key) s.entries ≡ o → AreNoted names (elim o as (λ c. State) [ None ↦ s | Some e ↦ remove_entry e s ]).displaced (elim o as (λ c. State) [ None ↦ s | Some e ↦ remove_entry e s ]).entries
    by None f = none_noted key names s.displaced s.entries f all none
    by (Some e) f =
        subst (λ (k : Bytes). AreNoted names (law_without (bytes_eq k) s.displaced) (law_without (is_entry_of k) s.entries)) (sym ((bytes_eq-Decides e.key key).0 (find_passes (is_entry_of key) s.entries e f)))
        (taken_noted key names s.displaced s.entries all none)
