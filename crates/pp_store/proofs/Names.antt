-- Whatever is called, a name is kept once, or closed once, or neither.
use Rattle.std.proofs.Common.{ℕ, ◌+◌, ◌≤◌, ◌≡◌, Bool, true, false, List, [], ◌∷◌, ◌++◌, filter, arith, refl, sym, ◌∙◌, ap, Option, Some, None}
use Rattle.std.specs.Prelude.{count_by, is_some, IsSome, unwrap_or, bytes_eq}
use Rattle.std.specs.List.{find, list_any}
use Rattle.std.proofs.lemmas.Slice.Eq.{bytes_eq-Decides}
use Rattle.pp_target.specs.Name.{name_of}
use Rattle.pp_store.specs.declared.row.Site.{Site}
use Rattle.pp_store.specs.Views.{site_of}
use Rattle.pp_store.specs.Kept.{Kept, KeptMap, HasOwnNames, name_at, is_of, is_under, is_name, is_closed, kept_of, kept_under, row_of, no_row}
use Rattle.pp_store.specs.Changes.{with_row, with_closed, without, lost, extended, extended_to, is_other}
use Rattle.pp_store.proofs.Lists.{one, count-push, count-filter, count-same, count-weaker, find_none, any_none, one_out, found_passes, found_counts, any_counts}

-- a key has one name
pub of_key : (key : List ℕ) (row : Kept) → is_of key row ≡ true → is_under (name_of key) row ≡ true
of_key key row is = (bytes_eq-Decides (name_at row) (name_of key)).1 (ap name_of ((bytes_eq-Decides row.entry.key key).0 is))

pub same_key : (key : List ℕ) (row : Kept) → is_of key row ≡ true → row.entry.key ≡ key
same_key key row is = (bytes_eq-Decides row.entry.key key).0 is

pub is_some_of : {A : Type 0} (o : Option A) (d : A) → is_some o ≡ true → o ≡ Some (unwrap_or o d)
is_some_of None d is = absurd cc
is_some_of (Some a) d is = refl

-- the entry of a key is found
pub found_row : (key : List ℕ) (store : KeptMap) → IsSome (kept_of key store) → find (is_of key) store.rows ≡ Some (row_of key store)
found_row key store kept = is_some_of (kept_of key store) no_row kept

pub row-from : (key : List ℕ) (store : KeptMap) (row : Kept) → find (is_of key) store.rows ≡ Some row → row_of key store ≡ row
row-from key store row e = ap (λ o. unwrap_or o no_row) e

few : (store : KeptMap) (name : List ℕ) → HasOwnNames store → count_by (is_under name) store.rows ≤ 1
few store name own = omega (arith, own.once name)

pub one_key : (store : KeptMap) (key : List ℕ) → HasOwnNames store → count_by (is_of key) store.rows ≤ 1
one_key store key own = omega (arith, few store (name_of key) own, count-weaker (is_under (name_of key)) (is_of key) store.rows (of_key key))

-- an entry more, whose name is neither kept nor closed
pub own-with_row : (store : KeptMap) (row : Kept) → HasOwnNames store → kept_under (name_at row) store ≡ None → is_closed (name_at row) store ≡ false
    → HasOwnNames (with_row row.entry row.extent store)
own-with_row store row own absent free = record { once = λ name. by name (bytes_eq (name_at row) name) refl }
  where
    by : (name : List ℕ) (b : Bool) → bytes_eq (name_at row) name ≡ b → count_by (is_under name) (store.rows ++ row ∷ []) + count_by (is_name name) store.closed ≤ 1
    by name true is =
        let same : name_at row ≡ name = (bytes_eq-Decides (name_at row) name).0 is in
        let no_rows : count_by (is_under name) store.rows ≡ 0 = find_none (is_under name) store.rows (ap (λ n. find (is_under n) store.rows) (sym same) ∙ absent) in
        let none_closed : count_by (is_name name) store.closed ≡ 0 = any_none (is_name name) store.closed (ap (λ n. list_any (is_name n) store.closed) (sym same) ∙ free) in
        omega (arith, count-push (is_under name) store.rows row, ap one is, no_rows, none_closed)
    by name false is = omega (arith, count-push (is_under name) store.rows row, ap one is, own.once name)

-- a closed name more
pub own-with_closed : (store : KeptMap) (name : List ℕ) → HasOwnNames store → kept_under name store ≡ None → is_closed name store ≡ false → HasOwnNames (with_closed name store)
own-with_closed store name own absent free = record { once = λ n. by n (bytes_eq name n) refl }
  where
    by : (n : List ℕ) (b : Bool) → bytes_eq name n ≡ b → count_by (is_under n) store.rows + count_by (is_name n) (store.closed ++ name ∷ []) ≤ 1
    by n true is =
        let same : name ≡ n = (bytes_eq-Decides name n).0 is in
        let no_rows : count_by (is_under n) store.rows ≡ 0 = find_none (is_under n) store.rows (ap (λ m. find (is_under m) store.rows) (sym same) ∙ absent) in
        let none_closed : count_by (is_name n) store.closed ≡ 0 = any_none (is_name n) store.closed (ap (λ m. list_any (is_name m) store.closed) (sym same) ∙ free) in
        omega (arith, count-push (is_name n) store.closed name, ap one is, no_rows, none_closed)
    by n false is = omega (arith, count-push (is_name n) store.closed name, ap one is, own.once n)

pub own-without : (store : KeptMap) (key : List ℕ) → HasOwnNames store → HasOwnNames (without key store)
own-without store key own = record { once = λ name. omega (arith, own.once name, count-filter (is_under name) (is_other key) store.rows) }

pub own-lost : (store : KeptMap) (key : List ℕ) → HasOwnNames store → IsSome (kept_of key store) → HasOwnNames (lost key store)
own-lost store key own kept = record { once = λ n. by n (bytes_eq (name_of key) n) refl }
  where
    by : (n : List ℕ) (b : Bool) → bytes_eq (name_of key) n ≡ b → count_by (is_under n) (filter (is_other key) store.rows) + count_by (is_name n) (store.closed ++ name_of key ∷ []) ≤ 1
    by n true is =
        let same : name_of key ≡ n = (bytes_eq-Decides (name_of key) n).0 is in
        let under : (row : Kept) → is_of key row ≡ true → is_under n row ≡ true = λ row of. ap (λ m. is_under m row) (sym same) ∙ of_key key row of in
        omega (arith, one_out (is_under n) (is_of key) store.rows (row_of key store) under (found_row key store kept), count-push (is_name n) store.closed (name_of key), ap one is, own.once n)
    by n false is = omega (arith, own.once n, count-filter (is_under n) (is_other key) store.rows, count-push (is_name n) store.closed (name_of key), ap one is)

pub own-extended : (store : KeptMap) (key : List ℕ) (extent : ℕ) → HasOwnNames store → HasOwnNames (extended key extent store)
own-extended store key extent own = record { once = λ name. omega (arith, own.once name, count-same (is_under name) (is_of key) (extended_to extent) store.rows (λ row. refl)) }

pub site-name : (key : List ℕ) (store : KeptMap) (site : Site) → IsSome (kept_of key store) → site ≡ site_of (row_of key store) → site.name ≡ name_of key
site-name key store site kept is =
    ap (λ (s : Site). s.name) is ∙ ap name_of (same_key key (row_of key store) (found_passes (is_of key) store.rows (row_of key store) (found_row key store kept)))

-- the name of a key that is kept is kept
pub name-kept : (key : List ℕ) (store : KeptMap) → IsSome (kept_of key store) → is_some (kept_under (name_of key) store) ≡ true
name-kept key store kept = by (kept_under (name_of key) store) refl
  where
    by : (o : Option Kept) → kept_under (name_of key) store ≡ o → is_some o ≡ true
    by (Some row) e = refl
    by None e = absurd (omega (arith, find_none (is_under (name_of key)) store.rows e, found_counts (is_under (name_of key)) (is_of key) store.rows (row_of key store) (of_key key) (found_row key store kept)))

-- and not closed
pub not-closed : (key : List ℕ) (store : KeptMap) → HasOwnNames store → IsSome (kept_of key store) → is_closed (name_of key) store ≡ true → ⊥
not-closed key store own kept is =
    absurd (omega (arith, own.once (name_of key), any_counts (is_name (name_of key)) store.closed is, found_counts (is_under (name_of key)) (is_of key) store.rows (row_of key store) (of_key key) (found_row key store kept)))

pub row-name : (key : List ℕ) (store : KeptMap) → IsSome (kept_of key store) → name_at (row_of key store) ≡ name_of key
row-name key store kept = ap name_of (same_key key (row_of key store) (found_passes (is_of key) store.rows (row_of key store) (found_row key store kept)))
