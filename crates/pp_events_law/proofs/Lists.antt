-- Tests of all, of none, and what is kept of each key without the entry of one.
use Rattle.std.proofs.Common.{◌≡◌, ◌⊎◌, inl, inr, refl, ap, ap₂, ◌∙◌, Bool, true, false, ◌&&◌, ◌||◌, not, find, map, List, [], ◌∷◌, None}
use Rattle.std.specs.List.{list_any}
use Rattle.std.specs.Prelude.{bytes_eq}
use Rattle.pp_cache_law.proofs.Finds.{find_kept, find_out}
use Rattle.pp_law.specs.Lists.{Bytes, without}
use Rattle.pp_law.specs.State.{Entry}
use Rattle.pp_law.specs.Table.{is_entry_of, is_kept_row_of}
use Rattle.pp_laws.proofs.Tests.{second_holds}
use Rattle.pp_laws.specs.Runs.{IsIn}
use Rattle.pp_shelf_law.proofs.Shelves.{same_bytes}

pub first_off : (a b : Bool) → (a || b) ≡ false → a ≡ false
first_off true b none = absurd (cc none)
first_off false b none = refl

pub rest_off : (a b : Bool) → (a || b) ≡ false → b ≡ false
rest_off true b none = absurd (cc none)
rest_off false b none = none

pub any_none : {A : Type 0} (p : A → Bool) (xs : List A) → ((x : A) → IsIn x xs → p x ≡ false) → list_any p xs ≡ false
any_none p [] none = refl
any_none p (x ∷ xs) none = ap₂ (λ (a b : Bool). a || b) (none x (inl refl)) (any_none p xs (λ y i. none y (inr i)))

pub none_in : {A : Type 0} (p : A → Bool) (x : A) (xs : List A) → list_any p xs ≡ false → IsIn x xs → p x ≡ false
none_in p x [] none i = absurd i
none_in p x (y ∷ ys) none (inl is) = ap p is ∙ first_off (p y) (list_any p ys) none
none_in p x (y ∷ ys) none (inr i) = none_in p x ys (rest_off (p y) (list_any p ys) none) i

pub off_by : (b : Bool) → not b ≡ true → b ≡ false
off_by true is = absurd (cc is)
off_by false is = refl

pub and_false : (b : Bool) → (b && false) ≡ false
and_false true = refl
and_false false = refl

-- what is kept of each key, without the entry of one
pub kept_else : (key k : Bytes) (es : List Entry) → (find (is_kept_row_of k) (without (is_entry_of key) es) ≡ None) ⊎ (find (is_kept_row_of k) (without (is_entry_of key) es) ≡ find (is_kept_row_of k) es)
kept_else key k es = by (bytes_eq k key) refl
  where
    by : (b : Bool) → bytes_eq k key ≡ b → (find (is_kept_row_of k) (without (is_entry_of key) es) ≡ None) ⊎ (find (is_kept_row_of k) (without (is_entry_of key) es) ≡ find (is_kept_row_of k) es)
    by true own =
        inl (find_out (is_kept_row_of k) (λ d. not (is_entry_of key d)) es (λ d out. ap (λ (b : Bool). not d.is_stale && b) (ap (λ (j : Bytes). bytes_eq d.key j) (same_bytes k key own) ∙ off_by (is_entry_of key d) out) ∙ and_false (not d.is_stale)))
    by false apart =
        inr (find_kept (is_kept_row_of k) (λ d. not (is_entry_of key d)) es (λ d is. ap (λ (b : Bool). not b) (ap (λ (j : Bytes). bytes_eq j key) (same_bytes d.key k (second_holds (not d.is_stale) (bytes_eq d.key k) is)) ∙ apart)))

-- what changes none of them under one change, changes none under the other
pub all_same : {A : Type 0} (f g : A → A) (xs : List A) → ((x : A) → f x ≡ x → g x ≡ x) → map f xs ≡ xs → map g xs ≡ xs
all_same f g [] one same = refl
all_same f g (x ∷ xs) one same =
    let first : f x ≡ x = cc same in
    let rest : map f xs ≡ xs = cc same in
    ap₂ (λ y ys. y ∷ ys) (one x first) (all_same f g xs one rest)
