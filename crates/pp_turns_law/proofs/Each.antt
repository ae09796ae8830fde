-- What is made of lists, where it is the same of each element.
use Rattle.std.proofs.Common.{◌≡◌, refl, sym, ap, ap₂, ◌∙◌, Bool, true, false, not, ◌&&◌, ◌||◌, cond, find, filter, map, List, [], ◌∷◌, None, Some}
use Rattle.std.specs.Prelude.{⊤}
use Rattle.std.specs.List.{list_any}
use Rattle.pp_cache_law.proofs.Numbers.{some_is, true_false}
use Rattle.pp_cache_law.proofs.PairLemmas.{AreOnly}

none_some : {A : Type 0} (x : A) → None ≡ Some x → ⊥
none_some x e = absurd (cc e)

abbrev pub Each : {A : Type 0} → (A → Type 0) → List A → Type 0
Each P [] = ⊤
Each P (x ∷ xs) = P x × Each P xs

pub each_of : {A : Type 0} (P : A → Type 0) (xs : List A) → ((x : A) → P x) → Each P xs
each_of P [] all = tt
each_of P (x ∷ xs) all = (all x, each_of P xs all)

pub each_so : {A : Type 0} (P Q : A → Type 0) (xs : List A) → ((x : A) → P x → Q x) → Each P xs → Each Q xs
each_so P Q [] to each = tt
each_so P Q (x ∷ xs) to each = (to x each.0, each_so P Q xs to each.1)

pub maps_same : {A B : Type 0} (f g : A → B) (xs : List A) → Each (λ x. f x ≡ g x) xs → map f xs ≡ map g xs
maps_same f g [] each = refl
maps_same {B = B} f g (x ∷ xs) each = ap₂ (λ (y : B) (ys : List B). y ∷ ys) each.0 (maps_same f g xs each.1)

pub maps_none : {A : Type 0} (f : A → A) (xs : List A) → Each (λ x. f x ≡ x) xs → map f xs ≡ xs
maps_none f [] each = refl
maps_none {A = A} f (x ∷ xs) each = ap₂ (λ (y : A) (ys : List A). y ∷ ys) each.0 (maps_none f xs each.1)

pub any_same : {A : Type 0} (p q : A → Bool) (xs : List A) → Each (λ x. p x ≡ q x) xs → list_any p xs ≡ list_any q xs
any_same p q [] each = refl
any_same p q (x ∷ xs) each = ap₂ (λ (a b : Bool). a || b) each.0 (any_same p q xs each.1)

pub any_none : {A : Type 0} (p : A → Bool) (xs : List A) → Each (λ x. p x ≡ false) xs → list_any p xs ≡ false
any_none p [] each = refl
any_none p (x ∷ xs) each = ap₂ (λ (a b : Bool). a || b) each.0 (any_none p xs each.1)

or_true : (b : Bool) → (b || true) ≡ true
or_true true = refl
or_true false = refl

-- one is among them
pub any_found : {A B : Type 0} (p : A → Bool) (q : B → Bool) (f : A → B) (xs : List A) (y : A) → find p xs ≡ Some y → q (f y) ≡ true → list_any q (map f xs) ≡ true
any_found p q f [] y found is = absurd (none_some y found)
any_found {A = A} p q f (x ∷ xs) y found is = by (p x) found (λ there. any_found p q f xs y there is)
  where
    by : (b : Bool) → cond b (Some x) (find p xs) ≡ Some y → (find p xs ≡ Some y → list_any q (map f xs) ≡ true) → (q (f x) || list_any q (map f xs)) ≡ true
    by true there rest = ap (λ (b : Bool). b || list_any q (map f xs)) (ap (λ (z : A). q (f z)) (some_is x y there) ∙ is)
    by false there rest = ap (λ (b : Bool). q (f x) || b) (rest there) ∙ or_true (q (f x))

pub any_there : {A : Type 0} (p : A → Bool) (xs : List A) (y : A) → find p xs ≡ Some y → list_any p xs ≡ true
any_there p [] y found = absurd (none_some y found)
any_there {A = A} p (x ∷ xs) y found = by (p x) refl found (λ there. any_there p xs y there)
  where
    by : (b : Bool) → p x ≡ b → cond b (Some x) (find p xs) ≡ Some y → (find p xs ≡ Some y → list_any p xs ≡ true) → (b || list_any p xs) ≡ true
    by true is there rest = refl
    by false is there rest = rest there

-- where a test holds of no more
pub any_less : {A B : Type 0} (p : B → Bool) (f g : A → B) (xs : List A) → ((x : A) → p (f x) ≡ true → p (g x) ≡ true) → list_any p (map f xs) ≡ true → list_any p (map g xs) ≡ true
any_less p f g [] to is = is
any_less p f g (x ∷ xs) to is = by (p (f x)) refl is (λ later. any_less p f g xs to later)
  where
    by : (b : Bool) → p (f x) ≡ b → (b || list_any p (map f xs)) ≡ true → (list_any p (map f xs) ≡ true → list_any p (map g xs) ≡ true) → (p (g x) || list_any p (map g xs)) ≡ true
    by true first all rest = ap (λ (b : Bool). b || list_any p (map g xs)) (to x first)
    by false first later rest = ap (λ (b : Bool). p (g x) || b) (rest later) ∙ or_true (p (g x))

-- ---- by what a list is parted

moved_out : (a b c : Bool) → (a || (b || c)) ≡ (b || (a || c))
moved_out true true c = refl
moved_out true false c = refl
moved_out false b c = refl

grouped : (a b c : Bool) → (a || (b || c)) ≡ ((a || b) || c)
grouped true b c = refl
grouped false b c = refl

-- of those that a wider test keeps, those that the other keeps, and the rest
pub any_parts : {A : Type 0} (p q r : A → Bool) (xs : List A) → ((x : A) → q x ≡ true → r x ≡ true) → list_any p (filter r xs) ≡ (list_any p (filter q xs) || list_any p (filter r (filter (λ x. not (q x)) xs)))
any_parts p q r [] to = refl
any_parts {A = A} p q r (x ∷ xs) to = by (q x) (r x) refl refl (any_parts p q r xs to)
  where
    rest : List A
    rest = filter (λ x. not (q x)) xs

    by : (a b : Bool) → q x ≡ a → r x ≡ b → list_any p (filter r xs) ≡ (list_any p (filter q xs) || list_any p (filter r rest))
        → list_any p (cond b (x ∷ filter r xs) (filter r xs)) ≡ (list_any p (cond a (x ∷ filter q xs) (filter q xs)) || list_any p (filter r (cond (not a) (x ∷ rest) rest)))
    by true true is so same = ap (λ (c : Bool). p x || c) same ∙ grouped (p x) (list_any p (filter q xs)) (list_any p (filter r rest))
    by true false is so same = absurd (true_false (sym (to x is) ∙ so))
    by false true is so same =
        ap (λ (c : Bool). p x || c) same ∙ moved_out (p x) (list_any p (filter q xs)) (list_any p (filter r rest))
        ∙ sym (ap (λ (c : Bool). list_any p (filter q xs) || list_any p (cond c (x ∷ filter r rest) (filter r rest))) so)
    by false false is so same = same ∙ sym (ap (λ (c : Bool). list_any p (filter q xs) || list_any p (cond c (x ∷ filter r rest) (filter r rest))) so)

-- ---- with one more of which a test holds

one_more : (f p g a r x q : Bool) → (q ≡ true → (f && g) ≡ x) → ((f && ((p || q) && g)) || (a || (r && x))) ≡ (((f && (p && g)) || a) || ((q || r) && x))
one_more f p g a r x false same = grouped (f && ((p || false) && g)) a (r && x) ∙ ap (λ (b : Bool). ((f && (b && g)) || a) || (r && x)) (by p)
  where
    by : (b : Bool) → (b || false) ≡ b
    by true = refl
    by false = refl
one_more f p g a r x true same = ap (λ (y : Bool). (f && ((p || true) && g)) || (a || (r && y))) (sym (same refl)) ∙ by f p g a r ∙ ap (λ (y : Bool). ((f && (p && g)) || a) || y) (same refl)
  where
    by : (f p g a r : Bool) → ((f && ((p || true) && g)) || (a || (r && (f && g)))) ≡ (((f && (p && g)) || a) || (f && g))
    by false p g true r = refl
    by false p g false true = refl
    by false p g false false = refl
    by true true true a r = refl
    by true true false true r = refl
    by true true false false true = refl
    by true true false false false = refl
    by true false true true r = refl
    by true false true false r = refl
    by true false false true r = refl
    by true false false false true = refl
    by true false false false false = refl

-- that one is c, where it is there
pub any_more : {A : Type 0} (f p g q : A → Bool) (c : A) (xs : List A) → AreOnly q c xs
    → list_any (λ x. f x && ((p x || q x) && g x)) xs ≡ (list_any (λ x. f x && (p x && g x)) xs || (list_any q xs && (f c && g c)))
any_more f p g q c [] only = refl
any_more {A = A} f p g q c (x ∷ xs) only =
    ap (λ (b : Bool). (f x && ((p x || q x) && g x)) || b) (any_more f p g q c xs only.1)
    ∙ one_more (f x) (p x) (g x) (list_any (λ x. f x && (p x && g x)) xs) (list_any q xs) (f c && g c) (q x) (λ is. ap (λ (y : A). f y && g y) (only.0 is))
