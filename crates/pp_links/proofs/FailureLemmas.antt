-- Failures that are counted, one step behind the other.
use Rattle.std.proofs.Common.{◌≡◌, ◌≤◌, ◌<◌, ◌+◌, ◌⊎◌, inl, inr, ℕ, List, [], ◌∷◌, ◌++◌, Option, Some, None, cond, sym, ◌∙◌, subst, arith}
use Rattle.std.specs.Prelude.{count_by}
use Rattle.std.proofs.lemmas.List.Sums.{sum_by-append}
use Rattle.pp_links.specs.Failures.{fails}
use Rattle.pp_world.specs.Log.{AppendsAll, Log, Rises, Told}
use Rattle.pp_world.specs.declared.happening.Happening.{Happening}

-- ---- how many there are

pub failures-append : (one two : Log) → count_by fails (one ++ two) ≡ count_by fails one + count_by fails two
failures-append one two = sum_by-append (λ h. cond (fails h) 1 0) one two

neither : (n m : ℕ) → n ≡ 0 → m ≡ 0 → n + m ≡ 0
neither n m first second = omega (arith, first, second)

pub none_in_both : (one two : Log) → count_by fails one ≡ 0 → count_by fails two ≡ 0 → count_by fails (one ++ two) ≡ 0
none_in_both one two first second = failures-append one two ∙ neither (count_by fails one) (count_by fails two) first second

-- ---- each was counted, where the log is told

at_least : (before n now : ℕ) → n ≡ 0 → before ≤ now → before + n ≤ now
at_least before n now none more = omega (arith, none, more)

-- there was none
pub counted_none : {log : Option Log} {before now : ℕ} (added : Log) → count_by fails added ≡ 0 → before ≤ now → Told log (λ l. before + count_by fails added ≤ now)
counted_none {log} {before} {now} added none more = record { at = λ l is. at_least before (count_by fails added) now none more }

one_more : (before now : ℕ) → before < now → before + 1 ≤ now
one_more before now less = omega (arith, less)

-- there was one
pub counted_one : {log : Option Log} (before now : ℕ) → Rises log before now → Told log (λ l. before + 1 ≤ now)
counted_one before now (inl less) = record { at = λ l is. one_more before now less }
counted_one before now (inr untold) = record { at = λ l is. absurd (let bad : None ≡ Some l = sym untold.0 ∙ is in cc) }

both_counted : (before n mid m now : ℕ) → before + n ≤ mid → mid + m ≤ now → before + (n + m) ≤ now
both_counted before n mid m now first second = omega (arith, first, second)

pub counted_then : {log new : Option Log} (before mid now : ℕ) (one two : Log) → Told log (λ l. before + count_by fails one ≤ mid) → AppendsAll log new (λ l. two) → Told new (λ l. mid + count_by fails two ≤ now) → Told new (λ l. before + count_by fails (one ++ two) ≤ now)
counted_then before mid now one two first grows second = record {
  at = λ l is.
      let was = grows.was l is in
      subst (λ (n : ℕ). before + n ≤ now) (sym (failures-append one two)) (both_counted before (count_by fails one) mid (count_by fails two) now (first.at was.0 was.1) (second.at l is));
}
