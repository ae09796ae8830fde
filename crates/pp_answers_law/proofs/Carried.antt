-- What numbers lives have behind a head: each that was given has its own still.
use Rattle.std.proofs.Common.{◌≡◌, ◌≤◌, refl, sym, subst, ap, ℕ, ◌+◌, cond, le_refl, arith}
use Rattle.pp_cache_law.proofs.Numbers.{same_test}
use Rattle.pp_cache_law.specs.Settles.{numbered}
use Rattle.pp_answers_law.proofs.Numbered.{keeps}
use Rattle.pp_answers_law.specs.Owns.{KeepsNumbers}

pub numbers_stay : (number : ℕ → ℕ) (lives later next : ℕ) → later ≡ lives → KeepsNumbers number number lives later next
numbers_stay number lives later next is = record { same = λ life less. refl; new = λ life from below. absurd (omega (arith, from, below, is)) }

pub one_more : (lives later next : ℕ) (number : ℕ → ℕ) → later ≡ lives + 1 → KeepsNumbers number (numbered lives next number) lives later next
one_more lives later next number is = record { same = λ life less. keeps lives next life number less; new = λ life from below. by life (omega (arith, from, below, is)) }
  where
    by : (life : ℕ) → life ≡ lives → next ≤ numbered lives next number life
    by life one = subst (λ (n : ℕ). next ≤ n) (sym (ap (λ b. cond b next (number life)) (same_test life lives one))) (le_refl next)

pub later_is : (before after : ℕ → ℕ) (lives later now next : ℕ) → now ≡ later → KeepsNumbers before after lives later next → KeepsNumbers before after lives now next
later_is before after lives later now next is all = subst (λ (n : ℕ). KeepsNumbers before after lives n next) (sym is) all
