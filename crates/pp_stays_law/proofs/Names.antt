-- There is room to note one name more, of a key that is asked for.
use Rattle.std.proofs.Common.{◌≡◌, ◌≤◌, ◌<◌, ◌+◌, refl, sym, subst, ap, ◌∙◌, ℕ, Bool, true, false, not, ◌||◌, cond, length, List, [], ◌∷◌, ◌++◌, length-append, arith}
use Rattle.std.proofs.lemmas.Slice.Eq.{bytes_eq-Decides}
use Rattle.std.specs.List.{list_any}
use Rattle.std.specs.Prelude.{bytes_eq, count_by, nat_le}
use Rattle.pp_cache.specs.Memory.{Memory, retired_at}
use Rattle.pp_cache.specs.OnDisk.{outdated_by}
use Rattle.pp_cache_law.proofs.PairLemmas.{count_first}
use Rattle.pp_stays_law.specs.Names.{HasRoomFor, is_among, is_unnoted}
use Rattle.pp_target.specs.Name.{name_of}

abbrev more : List (List ℕ) → List ℕ → List (List ℕ)
more noted name = noted ++ name ∷ []

any_joined : (p : List ℕ → Bool) (xs : List (List ℕ)) (y : List ℕ) → list_any p (xs ++ y ∷ []) ≡ (list_any p xs || p y)
any_joined p [] y = by (p y)
  where
    by : (b : Bool) → (b || false) ≡ (false || b)
    by true = refl
    by false = refl
any_joined p (x ∷ xs) y = ap (λ (b : Bool). p x || b) (any_joined p xs y) ∙ by (p x) (list_any p xs) (p y)
  where
    by : (a b c : Bool) → (a || (b || c)) ≡ ((a || b) || c)
    by true b c = refl
    by false b c = refl

-- whoever is not noted then was not before
fewer : (noted : List (List ℕ)) (name k : List ℕ) → is_unnoted (more noted name) k ≡ true → is_unnoted noted k ≡ true
fewer noted name k is = by (is_among noted k) (bytes_eq k name) (sym (ap not (any_joined (bytes_eq k) noted name)) ∙ is)
  where
    by : (a b : Bool) → not (a || b) ≡ true → not a ≡ true
    by true b is = is
    by false b is = refl

self_noted : (noted : List (List ℕ)) (name : List ℕ) → is_unnoted (more noted name) name ≡ false
self_noted noted name = ap not (any_joined (bytes_eq name) noted name ∙ ap (λ (b : Bool). is_among noted name || b) ((bytes_eq-Decides name name).1 refl)) ∙ by (is_among noted name)
  where
    by : (a : Bool) → not (a || true) ≡ false
    by true = refl
    by false = refl

count_fewer : (noted : List (List ℕ)) (name : List ℕ) (names : List (List ℕ)) → count_by (is_unnoted (more noted name)) names ≤ count_by (is_unnoted noted) names
count_fewer noted name [] = omega arith
count_fewer noted name (k ∷ names) =
    subst (λ (n : ℕ). n ≤ count_by (is_unnoted noted) (k ∷ names)) (sym (count_first (is_unnoted (more noted name)) k names))
    (subst (λ (n : ℕ). cond (is_unnoted (more noted name) k) 1 0 + count_by (is_unnoted (more noted name)) names ≤ n) (sym (count_first (is_unnoted noted) k names))
    (both (is_unnoted (more noted name) k) (is_unnoted noted k) (count_by (is_unnoted (more noted name)) names) (count_by (is_unnoted noted) names) (fewer noted name k) (count_fewer noted name names)))
  where
    both : (a b : Bool) (m n : ℕ) → (a ≡ true → b ≡ true) → m ≤ n → cond a 1 0 + m ≤ cond b 1 0 + n
    both true true m n so less = omega (arith, less)
    both true false m n so less = absurd (let bad : false ≡ true = so refl in cc)
    both false true m n so less = omega (arith, less)
    both false false m n so less = omega (arith, less)

abbrev count_was : List (List ℕ) → List (List ℕ) → ℕ
count_was noted names = count_by (is_unnoted noted) names

abbrev count_now : List (List ℕ) → List ℕ → List (List ℕ) → ℕ
count_now noted name names = count_by (is_unnoted (more noted name)) names

-- and of those there is one less
count_less : (noted : List (List ℕ)) (name : List ℕ) (names : List (List ℕ)) → is_among names name ≡ true → is_among noted name ≡ false → count_by (is_unnoted (more noted name)) names + 1 ≤ count_by (is_unnoted noted) names
count_less noted name [] among out = absurd (cc among)
count_less noted name (k ∷ names) among out = by (bytes_eq name k) refl among (λ later. count_less noted name names later out)
  where
    it : (a b : Bool) (m n : ℕ) → a ≡ false → b ≡ true → m ≤ n → (cond a 1 0 + m) + 1 ≤ cond b 1 0 + n
    it false true m n is isnt less = omega (arith, less)
    it true b m n is isnt less = absurd (cc is)
    it false false m n is isnt less = absurd (cc isnt)

    other : (a b : Bool) (m n : ℕ) → (a ≡ true → b ≡ true) → m + 1 ≤ n → (cond a 1 0 + m) + 1 ≤ cond b 1 0 + n
    other true true m n so less = omega (arith, less)
    other true false m n so less = absurd (let bad : false ≡ true = so refl in cc)
    other false true m n so less = omega (arith, less)
    other false false m n so less = omega (arith, less)

    in_all : (cond (is_unnoted (more noted name) k) 1 0 + count_now noted name names) + 1 ≤ cond (is_unnoted noted k) 1 0 + count_was noted names → count_by (is_unnoted (more noted name)) (k ∷ names) + 1 ≤ count_by (is_unnoted noted) (k ∷ names)
    in_all less =
        subst (λ (n : ℕ). n + 1 ≤ count_by (is_unnoted noted) (k ∷ names)) (sym (count_first (is_unnoted (more noted name)) k names))
        (subst (λ (n : ℕ). (cond (is_unnoted (more noted name) k) 1 0 + count_now noted name names) + 1 ≤ n) (sym (count_first (is_unnoted noted) k names)) less)

    by : (b : Bool) → bytes_eq name k ≡ b → (b || is_among names name) ≡ true → (is_among names name ≡ true → count_now noted name names + 1 ≤ count_was noted names) → count_by (is_unnoted (more noted name)) (k ∷ names) + 1 ≤ count_by (is_unnoted noted) (k ∷ names)
    by true is some rest =
        let same : name ≡ k = (bytes_eq-Decides name k).0 is in
        in_all (it (is_unnoted (more noted name) k) (is_unnoted noted k) (count_now noted name names) (count_was noted names) (ap (λ (j : List ℕ). is_unnoted (more noted name) j) (sym same) ∙ self_noted noted name) (ap (λ (j : List ℕ). is_unnoted noted j) (sym same) ∙ ap not out) (count_fewer noted name names))
    by false is some rest = in_all (other (is_unnoted (more noted name) k) (is_unnoted noted k) (count_now noted name names) (count_was noted names) (fewer noted name k) (rest some))

-- ---- one more is noted

pub few_noted : (names : List (List ℕ)) (m : Memory) → HasRoomFor names m → length m.outdated < 2048
few_noted names m room = omega (arith, room)

noted_room : (names noted : List (List ℕ)) (name : List ℕ) → is_among names name ≡ true → length noted + count_by (is_unnoted noted) names < 2048 → length (outdated_by name noted) + count_by (is_unnoted (outdated_by name noted)) names < 2048
noted_room names noted name among room = by (is_among noted name || nat_le 2048 (length noted)) (is_among noted name) refl refl
  where
    left : (a b c d : ℕ) → a + b < 2048 → c ≡ a + 1 → d + 1 ≤ b → c + d < 2048
    left a b c d less one two = omega (arith, less, one, two)

    isnt : (a b : Bool) → (a || b) ≡ false → a ≡ false
    isnt true b is = absurd (cc is)
    isnt false b is = refl

    by : (b a : Bool) → (is_among noted name || nat_le 2048 (length noted)) ≡ b → is_among noted name ≡ a
        → length (cond b noted (more noted name)) + count_by (is_unnoted (cond b noted (more noted name))) names < 2048
    by true a is at = room
    by false a is at =
        left (length noted) (count_by (is_unnoted noted) names) (length (more noted name)) (count_by (is_unnoted (more noted name)) names) room (length-append noted (name ∷ []))
        (count_less noted name names among (isnt (is_among noted name) (nat_le 2048 (length noted)) is))

pub retired_room : (names : List (List ℕ)) (key : List ℕ) (m : Memory) → is_among names (name_of key) ≡ true → HasRoomFor names m → HasRoomFor names (retired_at key m)
unfolding retired_at
retired_room names key m among room = noted_room names m.outdated (name_of key) among room
