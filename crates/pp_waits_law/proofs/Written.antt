-- Who is among those that are written down, one behind the other.
use Rattle.std.proofs.Common.{◌≡◌, ◌≤◌, ◌<◌, refl, sym, ap, ap₂, ◌∙◌, ℕ, zero, suc, ◌+◌, Bool, true, false, ◌&&◌, ◌||◌, ◌==◌, cond, nat_lt, length, List, [], ◌∷◌, ◌++◌, Some, arith}
use Rattle.std.proofs.lemmas.Bool.Decides.{nat_tests}
use Rattle.std.specs.List.{fold, list_any}
use Rattle.std.specs.Prelude.{slice_get}
use Rattle.pp_cache_law.proofs.Numbers.{some_is}
use Rattle.pp_due.specs.Waits.{with_written_by}
use Rattle.pp_law.specs.Lists.{has_number}

pub or_none : (b : Bool) → (b || false) ≡ b
or_none true = refl
or_none false = refl

or_group : (a b c : Bool) → ((a || b) || c) ≡ (a || (b || c))
or_group true b c = refl
or_group false b c = refl

is_less : (a b : ℕ) → a < b → nat_lt a b ≡ true
is_less a b less = grind (arith, nat_tests, less)

pub at_end : (n m : ℕ) (ms : List ℕ) → has_number n (ms ++ m ∷ []) ≡ (has_number n ms || (m == n))
at_end n m [] = or_none (m == n)
at_end n m (k ∷ ms) = ap (λ (b : Bool). (k == n) || b) (at_end n m ms) ∙ sym (or_group (k == n) (has_number n ms) (m == n))

length_end : (m : ℕ) (ms : List ℕ) → length (ms ++ m ∷ []) ≡ length ms + 1
length_end m [] = refl
length_end m (k ∷ ms) = let rest : length (ms ++ m ∷ []) ≡ length ms + 1 = length_end m ms in omega (arith, rest)

one : (n : ℕ) (b : Bool) (m : ℕ) (ms : List ℕ) → length ms < 320 → has_number n (with_written_by b m ms) ≡ (has_number n ms || (b && (m == n)))
one n false m ms room = sym (or_none (has_number n ms))
one n true m ms room = ap (λ (c : Bool). has_number n (cond c (ms ++ m ∷ []) ms)) (is_less (length ms) 320 room) ∙ at_end n m ms

longer : (b : Bool) (m : ℕ) (ms : List ℕ) → length (with_written_by b m ms) ≤ length ms + 1
longer false m ms = omega arith
longer true m ms = by (nat_lt (length ms) 320)
  where
    by : (c : Bool) → length (cond c (ms ++ m ∷ []) ms) ≤ length ms + 1
    by true = let is : length (ms ++ m ∷ []) ≡ length ms + 1 = length_end m ms in omega (arith, is)
    by false = omega arith

fewer_left : (a b k : ℕ) → a ≤ b + 1 → b + suc k ≤ 320 → a + k ≤ 320
fewer_left a b k more room = omega (arith, more, room)

room_now : (b k : ℕ) → b + suc k ≤ 320 → b < 320
room_now b k room = omega (arith, room)

module _ {A : Type 0} (t : A → Bool) (num : A → ℕ) where
  abbrev step : List ℕ → A → List ℕ
  step ms x = with_written_by (t x) (num x) ms

  pub written : (n : ℕ) (xs : List A) (ms : List ℕ) → length ms + length xs ≤ 320 → has_number n (fold step ms xs) ≡ (has_number n ms || list_any (λ x. t x && (num x == n)) xs)
  written n [] ms room = sym (or_none (has_number n ms))
  written n (x ∷ xs) ms room =
      written n xs (step ms x) (fewer_left (length (step ms x)) (length ms) (length xs) (longer (t x) (num x) ms) room)
      ∙ ap (λ (b : Bool). b || list_any (λ y. t y && (num y == n)) xs) (one n (t x) (num x) ms (room_now (length ms) (length xs) room))
      ∙ or_group (has_number n ms) (t x && (num x == n)) (list_any (λ y. t y && (num y == n)) xs)

  pub added : (xs : List A) (ms : List ℕ) → length (fold step ms xs) ≤ length ms + length xs
  added [] ms = omega arith
  added (x ∷ xs) ms =
      let rest : length (fold step (step ms x) xs) ≤ length (step ms x) + length xs = added xs (step ms x) in
      let now : length (step ms x) ≤ length ms + 1 = longer (t x) (num x) ms in
      omega (arith, rest, now)

  -- where all that have the number agree, and one has it
  agree : (n : ℕ) (b : Bool) (xs : List A) → ((j : ℕ) (y : A) → slice_get xs j ≡ Some y → (num y == n) ≡ true → t y ≡ b) → list_any (λ y. t y && (num y == n)) xs ≡ (b && list_any (λ y. num y == n) xs)
  agree n b [] same = none b
    where
      none : (c : Bool) → false ≡ (c && false)
      none true = refl
      none false = refl
  agree n b (y ∷ ys) same = by (num y == n) refl b refl (agree n b ys (λ j z at is. same (suc j) z at is))
    where
      off : (a : Bool) → (a && false) ≡ false
      off true = refl
      off false = refl

      on : (a : Bool) → (a && true) ≡ a
      on true = refl
      on false = refl

      by : (c : Bool) → (num y == n) ≡ c → (d : Bool) → b ≡ d → list_any (λ z. t z && (num z == n)) ys ≡ (b && list_any (λ z. num z == n) ys)
          → ((t y && (num y == n)) || list_any (λ z. t z && (num z == n)) ys) ≡ (b && ((num y == n) || list_any (λ z. num z == n) ys))
      by true is true so rest =
          ap₂ (λ (u c : Bool). (u && c) || list_any (λ z. t z && (num z == n)) ys) (same 0 y refl is ∙ so) is ∙ sym (ap₂ (λ (u c : Bool). u && (c || list_any (λ z. num z == n) ys)) so is)
      by true is false so rest =
          ap₂ (λ (u c : Bool). (u && c) || list_any (λ z. t z && (num z == n)) ys) (same 0 y refl is ∙ so) is
          ∙ rest
          ∙ ap (λ (u : Bool). u && list_any (λ z. num z == n) ys) so
          ∙ sym (ap₂ (λ (u c : Bool). u && (c || list_any (λ z. num z == n) ys)) so is)
      by false is d so rest = ap₂ (λ (u v : Bool). u || v) (ap (λ (c : Bool). t y && c) is ∙ off (t y)) rest ∙ ap (λ (c : Bool). b && (c || list_any (λ z. num z == n) ys)) (sym is)

  there : (n : ℕ) (xs : List A) (i : ℕ) (x : A) → slice_get xs i ≡ Some x → (num x == n) ≡ true → list_any (λ y. num y == n) xs ≡ true
  there n [] i x at is = absurd (cc at)
  there n (y ∷ ys) zero x at is = ap (λ (c : Bool). c || list_any (λ z. num z == n) ys) (ap (λ (z : A). num z == n) (some_is y x at) ∙ is)
  there n (y ∷ ys) (suc i) x at is = ap (λ (c : Bool). (num y == n) || c) (there n ys i x at is) ∙ or_all (num y == n)
    where
      or_all : (a : Bool) → (a || true) ≡ true
      or_all true = refl
      or_all false = refl

  pub chosen : (n : ℕ) (b : Bool) (xs : List A) (i : ℕ) (x : A) → slice_get xs i ≡ Some x → (num x == n) ≡ true → ((j : ℕ) (y : A) → slice_get xs j ≡ Some y → (num y == n) ≡ true → t y ≡ b) → list_any (λ y. t y && (num y == n)) xs ≡ b
  chosen n b xs i x at is same = agree n b xs same ∙ ap (λ (c : Bool). b && c) (there n xs i x at is) ∙ on b
    where
      on : (a : Bool) → (a && true) ≡ a
      on true = refl
      on false = refl
