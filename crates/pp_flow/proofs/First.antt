-- What stands at the place of the first exchange with a number, and what becomes of the list with it.
use Rattle.std.proofs.Common.{◌≡◌, ◌<◌, ◌+◌, ℕ, zero, suc, Bool, true, false, cond, ◌||◌, List, [], ◌∷◌, take, get_or, set, remove, length, add-one, refl, sym, ◌∙◌, ap, arith, Some, None}
use Rattle.std.specs.List.{find, list_any}
use Rattle.std.specs.Global.{Box}
use Rattle.std.proofs.lemmas.List.{length-map}
use Rattle.pp_flow.specs.declared.entry.Entry.{Entry}
use Rattle.pp_flow.specs.Entries.{is_number}
use Rattle.pp_flow.specs.Changes.{changed, without}
use Rattle.pp_flow.specs.Inside.{IsFirst, entries}

or-left : (a b : Bool) → (a || b) ≡ false → a ≡ false
or-left true b e = e
or-left false b e = refl

or-right : (a b : Bool) → (a || b) ≡ false → b ≡ false
or-right true b e = absurd (let h : true ≡ false = e in cc)
or-right false b e = e

pub absent-without : (n : ℕ) (es : List Entry) → list_any (is_number n) es ≡ false → without n es ≡ es
absent-without n [] none = refl
absent-without n (e ∷ es) none =
    ap (λ b. cond b es (e ∷ without n es)) (or-left (is_number n e) (list_any (is_number n) es) none)
    ∙ ap (λ xs. e ∷ xs) (absent-without n es (or-right (is_number n e) (list_any (is_number n) es) none))

pub absent-changed : (n : ℕ) (f : Entry → Entry) (es : List Entry) → list_any (is_number n) es ≡ false → changed n f es ≡ es
absent-changed n f [] none = refl
absent-changed n f (e ∷ es) none =
    ap (λ b. cond b (f e ∷ es) (e ∷ changed n f es)) (or-left (is_number n e) (list_any (is_number n) es) none)
    ∙ ap (λ xs. e ∷ xs) (absent-changed n f es (or-right (is_number n e) (list_any (is_number n) es) none))

pub absent-find : (n : ℕ) (es : List Entry) → list_any (is_number n) es ≡ false → find (is_number n) es ≡ None
absent-find n [] none = refl
absent-find n (e ∷ es) none =
    ap (λ b. cond b (Some e) (find (is_number n) es)) (or-left (is_number n e) (list_any (is_number n) es) none)
    ∙ absent-find n es (or-right (is_number n e) (list_any (is_number n) es) none)

-- the same place in what follows the first
later : (n : ℕ) (e : Entry) (es : List Entry) (i : ℕ) → IsFirst n (e ∷ es) (suc i) → IsFirst n es i
later n e es i first = record {
  within = omega (arith, first.within);
  before = or-right (is_number n e) (list_any (is_number n) (take i es)) first.before;
  here = first.here;
}

not-yet : (n : ℕ) (e : Entry) (es : List Entry) (i : ℕ) → IsFirst n (e ∷ es) (suc i) → is_number n e ≡ false
not-yet n e es i first = or-left (is_number n e) (list_any (is_number n) (take i es)) first.before

pub first-without : (n : ℕ) (es : List Entry) (i : ℕ) → IsFirst n es i → without n es ≡ remove es i
first-without n [] i first = absurd (omega (arith, first.within))
first-without n (e ∷ es) zero first = ap (λ b. cond b es (e ∷ without n es)) (first.here e)
first-without n (e ∷ es) (suc i) first =
    ap (λ b. cond b es (e ∷ without n es)) (not-yet n e es i first) ∙ ap (λ xs. e ∷ xs) (first-without n es i (later n e es i first))

pub first-changed : (n : ℕ) (f : Entry → Entry) (es : List Entry) (i : ℕ) (d : Entry) → IsFirst n es i → changed n f es ≡ set es i (f (get_or es i d))
first-changed n f [] i d first = absurd (omega (arith, first.within))
first-changed n f (e ∷ es) zero d first = ap (λ b. cond b (f e ∷ es) (e ∷ changed n f es)) (first.here e)
first-changed n f (e ∷ es) (suc i) d first =
    ap (λ b. cond b (f e ∷ es) (e ∷ changed n f es)) (not-yet n e es i first) ∙ ap (λ xs. e ∷ xs) (first-changed n f es i d (later n e es i first))

pub first-find : (n : ℕ) (es : List Entry) (i : ℕ) (d : Entry) → IsFirst n es i → find (is_number n) es ≡ Some (get_or es i d)
first-find n [] i d first = absurd (omega (arith, first.within))
first-find n (e ∷ es) zero d first = ap (λ b. cond b (Some e) (find (is_number n) es)) (first.here e)
first-find n (e ∷ es) (suc i) d first =
    ap (λ b. cond b (Some e) (find (is_number n) es)) (not-yet n e es i first) ∙ first-find n es i d (later n e es i first)

pub first-any : (n : ℕ) (es : List Entry) (i : ℕ) → IsFirst n es i → list_any (is_number n) es ≡ true
first-any n [] i first = absurd (omega (arith, first.within))
first-any n (e ∷ es) zero first = ap (λ b. b || list_any (is_number n) es) (first.here e)
first-any n (e ∷ es) (suc i) first =
    ap (λ b. b || list_any (is_number n) es) (not-yet n e es i first) ∙ first-any n es i (later n e es i first)

pub entries-remove : (bs : List (Box Entry)) (i : ℕ) → entries (remove bs i) ≡ remove (entries bs) i
entries-remove [] zero = refl
entries-remove [] (suc i) = refl
entries-remove (b ∷ bs) zero = refl
entries-remove (b ∷ bs) (suc i) = ap (λ xs. b.value ∷ xs) (entries-remove bs i)

pub entries-at : (bs : List (Box Entry)) (i : ℕ) (b : Box Entry) → get_or (entries bs) i b.value ≡ (get_or bs i b).value
entries-at [] zero b = refl
entries-at [] (suc i) b = refl
entries-at (x ∷ bs) zero b = refl
entries-at (x ∷ bs) (suc i) b = entries-at bs i b

pub entries-set : (bs : List (Box Entry)) (i : ℕ) (b : Box Entry) → entries (set bs i b) ≡ set (entries bs) i b.value
entries-set [] zero b = refl
entries-set [] (suc i) b = refl
entries-set (x ∷ bs) zero b = refl
entries-set (x ∷ bs) (suc i) b = ap (λ xs. x.value ∷ xs) (entries-set bs i b)

any-next-by : (p : Entry → Bool) (es : List Entry) (i : ℕ) (d : Entry) → i < length es → list_any p (take i es) ≡ false → p (get_or es i d) ≡ false → list_any p (take (suc i) es) ≡ false
any-next-by p [] i d within before here = refl
any-next-by p (e ∷ es) zero d within before here = ap (λ b. b || false) here
any-next-by p (e ∷ es) (suc i) d within before here =
    ap (λ b. b || list_any p (take (suc i) es)) (or-left (p e) (list_any p (take i es)) before)
    ∙ any-next-by p es i d (omega (arith, within)) (or-right (p e) (list_any p (take i es)) before) here

-- none before the next place, and not there
pub any-next : (p : Entry → Bool) (bs : List (Box Entry)) (i : ℕ) (b : Box Entry) → i < length bs → b ≡ get_or bs i b → list_any p (take i (entries bs)) ≡ false → p b.value ≡ false
    → list_any p (take (i + 1) (entries bs)) ≡ false
any-next p bs i b within is before here =
    ap (λ n. list_any p (take n (entries bs))) (add-one i)
    ∙ any-next-by p (entries bs) i b.value (omega (arith, within, length-map bs (λ (x : Box Entry). x.value))) before
    (ap p (entries-at bs i b) ∙ ap (λ (x : Box Entry). p x.value) (sym is) ∙ here)
