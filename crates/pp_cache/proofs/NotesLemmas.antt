-- What stands at the first place of a key, and what becomes of the keys with it.
use Rattle.arrayvec.specs.ArrayVec.{ArrayVec}
use Rattle.std.proofs.Common.{◌≡◌, ◌<◌, ◌+◌, ℕ, zero, suc, Bool, true, false, cond, ◌||◌, List, [], ◌∷◌, take, get_or, remove, length, bytes_eq, add-one, is_some, Option, Some, None, IfNone, IfSome, refl, sym, ◌∙◌, ap, arith}
use Rattle.std.specs.Global.{Box}
use Rattle.std.proofs.lemmas.List.{get_or_default, length-map}
use Rattle.pp_cache.specs.Notes.{has_noted, keys_of, unnoted, IsFirst}

or-left : (a b : Bool) → (a || b) ≡ false → a ≡ false
or-left true b e = e
or-left false b e = refl

or-right : (a b : Bool) → (a || b) ≡ false → b ≡ false
or-right true b e = absurd (let h : true ≡ false = e in cc)
or-right false b e = e

pub absent-unnoted : (key : List ℕ) (ks : List (List ℕ)) → has_noted key ks ≡ false → unnoted key ks ≡ ks
absent-unnoted key [] none = refl
absent-unnoted key (k ∷ ks) none =
    ap (λ b. cond b ks (k ∷ unnoted key ks)) (or-left (bytes_eq key k) (has_noted key ks) none)
    ∙ ap (λ xs. k ∷ xs) (absent-unnoted key ks (or-right (bytes_eq key k) (has_noted key ks) none))

-- the same place in what follows the first
later : (key k : List ℕ) (ks : List (List ℕ)) (i : ℕ) → IsFirst key (k ∷ ks) (suc i) → IsFirst key ks i
later key k ks i first = record {
  within = omega (arith, first.within);
  before = or-right (bytes_eq key k) (has_noted key (take i ks)) first.before;
  here = first.here;
}

not-yet : (key k : List ℕ) (ks : List (List ℕ)) (i : ℕ) → IsFirst key (k ∷ ks) (suc i) → bytes_eq key k ≡ false
not-yet key k ks i first = or-left (bytes_eq key k) (has_noted key (take i ks)) first.before

pub first-unnoted : (key : List ℕ) (ks : List (List ℕ)) (i : ℕ) → IsFirst key ks i → unnoted key ks ≡ remove ks i
first-unnoted key [] i first = absurd (omega (arith, first.within))
first-unnoted key (k ∷ ks) zero first = ap (λ b. cond b ks (k ∷ unnoted key ks)) (first.here k)
first-unnoted key (k ∷ ks) (suc i) first =
    ap (λ b. cond b ks (k ∷ unnoted key ks)) (not-yet key k ks i first) ∙ ap (λ xs. k ∷ xs) (first-unnoted key ks i (later key k ks i first))

pub first-noted : (key : List ℕ) (ks : List (List ℕ)) (i : ℕ) → IsFirst key ks i → has_noted key ks ≡ true
first-noted key [] i first = absurd (omega (arith, first.within))
first-noted key (k ∷ ks) zero first = ap (λ b. b || has_noted key ks) (first.here k)
first-noted key (k ∷ ks) (suc i) first =
    ap (λ b. b || has_noted key ks) (not-yet key k ks i first) ∙ first-noted key ks i (later key k ks i first)

pub keys-remove : (bs : List (Box (ArrayVec ℕ))) (i : ℕ) → keys_of (remove bs i) ≡ remove (keys_of bs) i
keys-remove [] zero = refl
keys-remove [] (suc i) = refl
keys-remove (b ∷ bs) zero = refl
keys-remove (b ∷ bs) (suc i) = ap (λ xs. b.value.items ∷ xs) (keys-remove bs i)

pub keys-at : (bs : List (Box (ArrayVec ℕ))) (i : ℕ) (b : Box (ArrayVec ℕ)) → get_or (keys_of bs) i b.value.items ≡ (get_or bs i b).value.items
keys-at [] zero b = refl
keys-at [] (suc i) b = refl
keys-at (x ∷ bs) zero b = refl
keys-at (x ∷ bs) (suc i) b = keys-at bs i b

any-next-by : (key : List ℕ) (ks : List (List ℕ)) (i : ℕ) (d : List ℕ) → i < length ks → has_noted key (take i ks) ≡ false → bytes_eq key (get_or ks i d) ≡ false → has_noted key (take (suc i) ks) ≡ false
any-next-by key [] i d within before here = refl
any-next-by key (k ∷ ks) zero d within before here = ap (λ b. b || false) here
any-next-by key (k ∷ ks) (suc i) d within before here =
    ap (λ b. b || has_noted key (take (suc i) ks)) (or-left (bytes_eq key k) (has_noted key (take i ks)) before)
    ∙ any-next-by key ks i d (omega (arith, within)) (or-right (bytes_eq key k) (has_noted key (take i ks)) before) here

-- none before the next place, and not there
pub any-next : (key : List ℕ) (bs : List (Box (ArrayVec ℕ))) (i : ℕ) (b : Box (ArrayVec ℕ)) → i < length bs → b ≡ get_or bs i b → has_noted key (take i (keys_of bs)) ≡ false → bytes_eq key b.value.items ≡ false
    → has_noted key (take (i + 1) (keys_of bs)) ≡ false
any-next key bs i b within is before here =
    ap (λ n. has_noted key (take n (keys_of bs))) (add-one i)
    ∙ any-next-by key (keys_of bs) i b.value.items (omega (arith, within, length-map bs (λ (x : Box (ArrayVec ℕ)). x.value.items))) before
    (ap (bytes_eq key) (keys-at bs i b) ∙ ap (λ (x : Box (ArrayVec ℕ)). bytes_eq key x.value.items) (sym is) ∙ here)

pub keys-none : (bs : List (Box (ArrayVec ℕ))) → length bs ≡ 0 → keys_of bs ≡ []
keys-none [] none = refl
keys-none (b ∷ bs) none = absurd (omega (arith, none))

pub noted-where-found : (key : List ℕ) (ks : List (List ℕ)) (place : Option ℕ) → IfSome place (IsFirst key ks) → IfNone place (has_noted key ks ≡ false) → is_some place ≡ has_noted key ks
noted-where-found key ks None some none = sym none
noted-where-found key ks (Some place) some none = sym (first-noted key ks place some)

-- it stands there
pub first-here : (key : List ℕ) (bs : List (Box (ArrayVec ℕ))) (i : ℕ) (b : Box (ArrayVec ℕ)) → i < length bs → b ≡ get_or bs i b → has_noted key (take i (keys_of bs)) ≡ false → bytes_eq key b.value.items ≡ true → IsFirst key (keys_of bs) i
first-here key bs i b within is before here =
    let in-keys : i < length (keys_of bs) = omega (arith, within, length-map bs (λ (x : Box (ArrayVec ℕ)). x.value.items)) in
    record {
      within = in-keys;
      before = before;
      here = λ d. ap (bytes_eq key) (get_or_default (keys_of bs) i d b.value.items in-keys ∙ keys-at bs i b) ∙ ap (λ (x : Box (ArrayVec ℕ)). bytes_eq key x.value.items) (sym is) ∙ here;
    }
