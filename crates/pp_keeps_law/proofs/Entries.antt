-- Entries, each by itself: which are noted, under which names, and which keys have one.
use Rattle.std.proofs.Common.{◌≡◌, refl, sym, subst, ap, ◌∙◌, inl, inr, Bool, true, false, not, ◌||◌, cond, find, List, [], ◌∷◌, ◌++◌, Some, None}
use Rattle.std.specs.Prelude.{All, bytes_eq}
use Rattle.std.specs.List.{list_any}
use Rattle.std.proofs.lemmas.List.Elements.{All-head, All-tail}
use Rattle.pp_cache_law.proofs.Finds.{find_kept}
use Rattle.pp_cache_law.specs.Outdated.{AreNoted}
use Rattle.pp_law.specs.Lists.{Bytes, has_text, without}
use Rattle.pp_law.specs.State.{Entry}
use Rattle.pp_law.specs.Table.{is_entry_of}
use Rattle.pp_laws.proofs.Lists.{in_filter}
use Rattle.pp_laws.specs.Runs.{IsIn}
use Rattle.pp_shelf_law.proofs.Shelves.{bytes_swap, same_bytes}

pub true_not : {A : Type 0} → true ≡ false → A
true_not is = absurd (cc is)

-- ---- some, and none

pub none_in : {A : Type 0} (p : A → Bool) (xs : List A) → list_any p xs ≡ false → (x : A) → IsIn x xs → p x ≡ false
none_in p [] none x i = absurd i
none_in p (y ∷ ys) none x i = by (p y) refl none i (λ none there. none_in p ys none x there)
  where
    by : (b : Bool) → p y ≡ b → (b || list_any p ys) ≡ false → IsIn x (y ∷ ys) → (list_any p ys ≡ false → IsIn x ys → p x ≡ false) → p x ≡ false
    by true is none i rest = true_not none
    by false is none (inl same) rest = ap p same ∙ is
    by false is none (inr i) rest = rest none i

pub no_one : {A : Type 0} (p : A → Bool) (xs : List A) → ((x : A) → IsIn x xs → p x ≡ false) → list_any p xs ≡ false
no_one p [] each = refl
no_one p (x ∷ xs) each = ap (λ (b : Bool). b || list_any p xs) (each x (inl refl)) ∙ no_one p xs (λ y i. each y (inr i))

pub record HasOne {A : Type 0} (p : A → Bool) (xs : List A) : Type 0 where
  pub one : A
  pub there : IsIn one xs
  pub passes : p one ≡ true

pub has_one : {A : Type 0} (p : A → Bool) (xs : List A) → list_any p xs ≡ true → HasOne p xs
has_one p [] some = true_not (sym some)
has_one p (x ∷ xs) some = by (p x) refl some (has_one p xs)
  where
    by : (b : Bool) → p x ≡ b → (b || list_any p xs) ≡ true → (list_any p xs ≡ true → HasOne p xs) → HasOne p (x ∷ xs)
    by true is more rest = record { one = x; there = inl refl; passes = is }
    by false is more rest = let r = rest more in record { one = r.one; there = inr r.there; passes = r.passes }

pub any_in : {A : Type 0} (p : A → Bool) (x : A) (xs : List A) → IsIn x xs → p x ≡ true → list_any p xs ≡ true
any_in p x [] i is = absurd i
any_in p x (y ∷ ys) (inl same) is = ap (λ (b : Bool). b || list_any p ys) (ap p (sym same) ∙ is)
any_in p x (y ∷ ys) (inr i) is = by (p y) (any_in p x ys i is)
  where
    by : (b : Bool) → list_any p ys ≡ true → (b || list_any p ys) ≡ true
    by true rest = refl
    by false rest = rest

-- ---- which are noted

pub noted_at : (names displaced : List Bytes) (es : List Entry) → AreNoted names displaced es → (e : Entry) → IsIn e es → (e.is_stale || has_text e.key displaced) ≡ list_any (bytes_eq e.name) names
noted_at names displaced [] noted e i = absurd i
noted_at names displaced (d ∷ es) noted e (inl same) = subst (λ (x : Entry). (x.is_stale || has_text x.key displaced) ≡ list_any (bytes_eq x.name) names) (sym same) noted.0
noted_at names displaced (d ∷ es) noted e (inr i) = noted_at names displaced es noted.1 e i

pub noted_all : (names displaced : List Bytes) (es : List Entry) → ((e : Entry) → IsIn e es → (e.is_stale || has_text e.key displaced) ≡ list_any (bytes_eq e.name) names) → AreNoted names displaced es
noted_all names displaced [] each = tt
noted_all names displaced (e ∷ es) each = (each e (inl refl), noted_all names displaced es (λ d i. each d (inr i)))

-- ---- keys

pub record IsOther (key k : Bytes) (keys : List Bytes) : Type 0 where
  pub there : has_text k keys ≡ true
  pub other : bytes_eq k key ≡ false

off : (b : Bool) → not b ≡ true → b ≡ false
off true is = true_not (sym is)
off false is = refl

-- those that are left are others
pub left_key : (key k : Bytes) (keys : List Bytes) → has_text k (without (bytes_eq key) keys) ≡ true → IsOther key k keys
left_key key k keys some =
    let one : HasOne (λ t. bytes_eq t k) (without (bytes_eq key) keys) = has_one (λ t. bytes_eq t k) (without (bytes_eq key) keys) some in
    let parts : IsIn one.one keys × (not (bytes_eq key one.one) ≡ true) = in_filter (λ t. not (bytes_eq key t)) one.one keys one.there in
    record {
      there = any_in (λ t. bytes_eq t k) one.one keys parts.0 one.passes;
      other = ap (λ (t : Bytes). bytes_eq t key) (sym (same_bytes one.one k one.passes)) ∙ bytes_swap one.one key ∙ off (bytes_eq key one.one) parts.1;
    }

-- where none is there, none is left
pub none_left : (key k : Bytes) (keys : List Bytes) → has_text k keys ≡ false → has_text k (without (bytes_eq key) keys) ≡ false
none_left key k keys none = no_one (λ t. bytes_eq t k) (without (bytes_eq key) keys) (λ t i. none_in (λ t. bytes_eq t k) keys none t (in_filter (λ t. not (bytes_eq key t)) t keys i).0)

-- an entry of another key is there still
pub other_found : (key k : Bytes) (es : List Entry) → bytes_eq k key ≡ false → find (is_entry_of k) (without (is_entry_of key) es) ≡ find (is_entry_of k) es
other_found key k es other =
    find_kept (is_entry_of k) (λ e. not (is_entry_of key e)) es (λ e is. ap not (ap (λ (t : Bytes). bytes_eq t key) (same_bytes e.key k is) ∙ other))

pub off_of : (b : Bool) → not b ≡ true → b ≡ false
off_of b is = off b is

-- ---- where they stand

pub in_last : {A : Type 0} (x : A) (xs : List A) → IsIn x (xs ++ x ∷ [])
in_last x [] = inl refl
in_last x (y ∷ ys) = inr (in_last x ys)

pub found_some : {A : Type 0} (p : A → Bool) (x : A) (xs : List A) → IsIn x xs → p x ≡ true → (y : A) × (find p xs ≡ Some y)
found_some p x [] i is = absurd i
found_some p x (y ∷ ys) (inl same) is = (y, ap (λ (b : Bool). cond b (Some y) (find p ys)) (ap p (sym same) ∙ is))
found_some {A} p x (y ∷ ys) (inr i) is = by (p y) (found_some p x ys i is)
  where
    by : (b : Bool) → ((z : A) × (find p ys ≡ Some z)) → (z : A) × (cond b (Some y) (find p ys) ≡ Some z)
    by true rest = (y, refl)
    by false rest = rest

pub none_of : {A : Type 0} (p : A → Bool) (xs : List A) → find p xs ≡ None → list_any p xs ≡ false
none_of p [] none = refl
none_of p (x ∷ xs) none = by (p x) none (none_of p xs)
  where
    by : (b : Bool) → cond b (Some x) (find p xs) ≡ None → (find p xs ≡ None → list_any p xs ≡ false) → (b || list_any p xs) ≡ false
    by true some rest = absurd (cc some)
    by false none rest = rest none

pub any_but : {A : Type 0} (p : A → Bool) (xs : List A) (y : A) → p y ≡ false → list_any p (xs ++ y ∷ []) ≡ list_any p xs
any_but p [] y isnt = ap (λ (b : Bool). b || false) isnt
any_but p (x ∷ xs) y isnt = ap (λ (b : Bool). p x || b) (any_but p xs y isnt)

pub all_found : {A : Type 0} (P : A → Type 0) (p : A → Bool) (xs : List A) (x : A) → All P xs → find p xs ≡ Some x → P x
all_found P p [] x all found = absurd (cc found)
all_found P p (y ∷ ys) x all found = by (p y) found (all_found P p ys x (All-tail P y ys all))
  where
    by : (b : Bool) → cond b (Some y) (find p ys) ≡ Some x → (find p ys ≡ Some x → P x) → P x
    by true is rest = let e : y ≡ x = cc is in subst P e (All-head P y ys all)
    by false is rest = rest is
