-- Names of keys, in lists: which of them are there.
use Rattle.std.proofs.Common.{◌≡◌, refl, sym, ap, ◌∙◌, Bool, true, false, ◌||◌, List, [], ◌∷◌, ◌++◌, map}
use Rattle.std.proofs.lemmas.Slice.Eq.{bytes_eq-Decides}
use Rattle.std.specs.List.{list_any}
use Rattle.std.specs.Prelude.{bytes_eq}
use Rattle.pp_law.specs.Lists.{Bytes, has_text}
use Rattle.pp_target.specs.Name.{name_of}

pub or_true : (c : Bool) → (c || true) ≡ true
or_true true = refl
or_true false = refl

pub same_bytes : (xs : Bytes) → bytes_eq xs xs ≡ true
same_bytes xs = (bytes_eq-Decides xs xs).1 refl

pub any_both : (p : Bytes → Bool) (xs ys : List Bytes) → list_any p (xs ++ ys) ≡ (list_any p xs || list_any p ys)
any_both p [] ys = refl
any_both p (x ∷ xs) ys = ap (λ (b : Bool). p x || b) (any_both p xs ys) ∙ by (p x)
  where
    by : (b : Bool) → (b || (list_any p xs || list_any p ys)) ≡ ((b || list_any p xs) || list_any p ys)
    by true = refl
    by false = refl

pub bool_same : (a b : Bool) → (a ≡ true → b ≡ true) → (b ≡ true → a ≡ true) → a ≡ b
bool_same true b to back = sym (to refl)
bool_same false true to back = absurd (let both : false ≡ true = back refl in cc both)
bool_same false false to back = refl

-- ---- the names of keys

abbrev pub names_of : List Bytes → List Bytes
names_of keys = map name_of keys

name_in : (n k : Bytes) (ks : List Bytes) → has_text k ks ≡ true → bytes_eq n (name_of k) ≡ true → list_any (bytes_eq n) (names_of ks) ≡ true
name_in n k [] has is = absurd (cc has)
name_in n k (x ∷ xs) has is = by (bytes_eq x k) refl has (λ later. name_in n k xs later is)
  where
    by : (b : Bool) → bytes_eq x k ≡ b → (b || has_text k xs) ≡ true → (has_text k xs ≡ true → list_any (bytes_eq n) (names_of xs) ≡ true) → (bytes_eq n (name_of x) || list_any (bytes_eq n) (names_of xs)) ≡ true
    by true same some rest = ap (λ (b : Bool). b || list_any (bytes_eq n) (names_of xs)) (ap (λ (t : Bytes). bytes_eq n (name_of t)) ((bytes_eq-Decides x k).0 same) ∙ is)
    by false other some rest = ap (λ (b : Bool). bytes_eq n (name_of x) || b) (rest some) ∙ or_true (bytes_eq n (name_of x))

names_within : (n : Bytes) (ks bs : List Bytes) → ((k : Bytes) → has_text k ks ≡ true → has_text k bs ≡ true) → list_any (bytes_eq n) (names_of ks) ≡ true → list_any (bytes_eq n) (names_of bs) ≡ true
names_within n [] bs sub is = absurd (cc is)
names_within n (a ∷ ks) bs sub is = by (bytes_eq n (name_of a)) refl is (λ later. names_within n ks bs (λ k has. sub k (ap (λ (b : Bool). bytes_eq a k || b) has ∙ or_true (bytes_eq a k))) later)
  where
    by : (b : Bool) → bytes_eq n (name_of a) ≡ b → (b || list_any (bytes_eq n) (names_of ks)) ≡ true → (list_any (bytes_eq n) (names_of ks) ≡ true → list_any (bytes_eq n) (names_of bs) ≡ true) → list_any (bytes_eq n) (names_of bs) ≡ true
    by true same some rest = name_in n a bs (sub a (ap (λ (b : Bool). b || has_text a ks) (same_bytes a))) same
    by false other some rest = rest some

-- where the same keys are there
pub names_same : (n : Bytes) (ks bs : List Bytes) → ((k : Bytes) → has_text k ks ≡ has_text k bs) → list_any (bytes_eq n) (names_of ks) ≡ list_any (bytes_eq n) (names_of bs)
names_same n ks bs same =
    bool_same (list_any (bytes_eq n) (names_of ks)) (list_any (bytes_eq n) (names_of bs)) (names_within n ks bs (λ k has. sym (same k) ∙ has)) (names_within n bs ks (λ k has. same k ∙ has))
