-- The bytes of whole chunks, one behind the other.
use Rattle.std.proofs.Common.{◌≡◌, refl, ℕ, zero, suc, ◌+◌, ◌-◌, ◌*◌, ◌<◌, ◌≤◌, nat_lt, Bool, true, false, List, length, get_or, length-append, Option, Some, sym, subst, ap, ◌∙◌, arith}
use Rattle.std.specs.Prelude.{min}
use Rattle.pp_entry.specs.Entries.{Row, row_at}
use Rattle.pp_valid.specs.declared.version.Version.{Version}
use Rattle.pp_law.specs.Chunks.{chunk_len, chunk_bytes, filled}
use Rattle.pp_law.specs.Lists.{Bytes}
use Rattle.pp_law.specs.State.{Sent, Chunk}
use Rattle.pp_law.specs.Store.{is_whole_chunk, whole_run, run_bytes}
use Rattle.pp_laws.specs.Origin.{AllSent}
use Rattle.pp_laws.proofs.Joins.{HeldOf, chunk_bytes-sent}
use Rattle.pp_laws.proofs.Sent.{sent-append, sent_at}
use Rattle.pp_laws.proofs.Tests.{below, first_holds, same_number, second_holds}
use Rattle.pp_laws_crash.proofs.Backing.{all_at, claimed, claims, is_sent}

-- so many chunks from this one on are whole
abbrev pub AreWhole : ℕ → ℕ → List Chunk → ℕ → ℕ → Type 0
AreWhole n id chunks i zero = Unit {0}
AreWhole n id chunks i (suc count) = (is_whole_chunk n id chunks i ≡ true) × AreWhole n id chunks (i + 1) count

one_and : (k : ℕ) → suc k ≡ 1 + k
one_and k = omega arith

whole_by : (n id : ℕ) (chunks : List Chunk) (i more : ℕ) (b : Bool) → is_whole_chunk n id chunks i ≡ b → AreWhole n id chunks (i + 1) (whole_run more n id chunks (i + 1))
    → AreWhole n id chunks i (elim b as (λ c. ℕ) [ true ↦ 1 + whole_run more n id chunks (i + 1) | false ↦ 0 ])
whole_by n id chunks i more true is rest = subst (AreWhole n id chunks i) (one_and (whole_run more n id chunks (i + 1))) (is, rest)
whole_by n id chunks i more false is rest = tt

pub run_whole : (most n id : ℕ) (chunks : List Chunk) (i : ℕ) → AreWhole n id chunks i (whole_run most n id chunks i)
run_whole zero n id chunks i = tt
run_whole (suc more) n id chunks i = whole_by n id chunks i more (is_whole_chunk n id chunks i) refl (run_whole more n id chunks (i + 1))

most_by : (b : Bool) (count most : ℕ) → count ≤ most → (elim b as (λ c. ℕ) [ true ↦ 1 + count | false ↦ 0 ]) ≤ suc most
most_by true count most le = omega (arith, le)
most_by false count most le = omega arith

pub run_most : (most n id : ℕ) (chunks : List Chunk) (i : ℕ) → whole_run most n id chunks i ≤ most
run_most zero n id chunks i = omega arith
run_most (suc more) n id chunks i = most_by (is_whole_chunk n id chunks i) (whole_run more n id chunks (i + 1)) more (run_most more n id chunks (i + 1))

pub record IsWhole (n id : ℕ) (chunks : List Chunk) (i : ℕ) : Type 0 where
  pub inside : 4096 * i < n
  pub size : length (chunk_bytes id i chunks) ≡ min 4096 (n - 4096 * i)

times : (i : ℕ) → i * 4096 ≡ 4096 * i
times i = omega arith

pub is_whole : (n id : ℕ) (chunks : List Chunk) (i : ℕ) → is_whole_chunk n id chunks i ≡ true → IsWhole n id chunks i
is_whole n id chunks i is = record {
  inside = subst (λ k. k < n) (times i) (below (i * 4096) n (first_holds (nat_lt (i * 4096) n) _ is));
  size = same_number (filled id i chunks) (min 4096 (n - i * 4096)) (second_holds (nat_lt (i * 4096) n) _ is) ∙ ap (λ k. min 4096 (n - k)) (times i);
}

pub run_length : (n id : ℕ) (chunks : List Chunk) (i count : ℕ) → AreWhole n id chunks i count → length (run_bytes count id chunks i) ≡ min n (4096 * (i + count)) - 4096 * i
run_length n id chunks i zero whole = omega arith
run_length n id chunks i (suc count) whole =
    let one = is_whole n id chunks i whole.0 in
    omega (arith, length-append (chunk_bytes id i chunks) (run_bytes count id chunks (i + 1)), run_length n id chunks (i + 1) count whole.1, one.inside, one.size)

-- the last of them begins within the body
pub run_inside : (n id : ℕ) (chunks : List Chunk) (i count : ℕ) → AreWhole n id chunks i count → 0 < count → 4096 * (i + count - 1) < n
run_inside n id chunks i zero whole some = absurd (omega (arith, some))
run_inside n id chunks i (suc zero) whole some = omega (arith, (is_whole n id chunks i whole.0).inside)
run_inside n id chunks i (suc (suc count)) whole some = omega (arith, run_inside n id chunks (i + 1) (suc count) whole.1 (omega arith))

module _ (sent : List Sent) (key : Bytes) (v : Version) (n id : ℕ) (chunks : List Chunk) (held : HeldOf sent key v id chunks) where
  pub run_sent : (i count : ℕ) → AreWhole n id chunks i count → AllSent sent key v (i * chunk_len) (run_bytes count id chunks i)
  run_sent i zero whole = tt
  run_sent i (suc count) whole = sent-append sent key v (i * chunk_len) (chunk_bytes id i chunks) (run_bytes count id chunks (i + 1)) (chunk_bytes-sent sent key v id i chunks held) (rest count whole.1 (run_sent (i + 1) count whole.1))
    where
      rest : (more : ℕ) → AreWhole n id chunks (i + 1) more → AllSent sent key v ((i + 1) * chunk_len) (run_bytes more id chunks (i + 1)) → AllSent sent key v (i * chunk_len + length (chunk_bytes id i chunks)) (run_bytes more id chunks (i + 1))
      rest zero others all = tt
      rest (suc more) others all = sent_at sent key v (run_bytes (suc more) id chunks (i + 1)) ((i + 1) * chunk_len) (i * chunk_len + length (chunk_bytes id i chunks))
          (omega (arith, (is_whole n id chunks i whole.0).size, (is_whole n id chunks (i + 1) others.0).inside)) all

  claim_by : (row : Row) (found : Option Row) → found ≡ Some row → row.key ≡ key → row.version ≡ v → (o byte : ℕ) → is_sent sent key v o byte ≡ true → claims sent o byte found ≡ true
  claim_by row found is key_is version_is o byte all =
      subst (λ r. claims sent o byte r ≡ true) (sym is) (subst (λ k. is_sent sent k row.version o byte ≡ true) (sym key_is) (subst (λ w. is_sent sent key w o byte ≡ true) (sym version_is) all))

  pub run_claimed : (block : Bytes) (row : Row) → row_at block ≡ Some row → row.key ≡ key → row.version ≡ v → (i count : ℕ) → AreWhole n id chunks i count → (o : ℕ) → o < length (run_bytes count id chunks i)
      → claimed sent block (4096 * i + o) (get_or (run_bytes count id chunks i) o 0) ≡ true
  run_claimed block row reads key_is version_is i count whole o lt =
      claim_by row (row_at block) reads key_is version_is (4096 * i + o) (get_or (run_bytes count id chunks i) o 0)
      (subst (λ k. is_sent sent key v (k + o) (get_or (run_bytes count id chunks i) o 0) ≡ true) (times i) (all_at sent key v (i * chunk_len) (run_bytes count id chunks i) (run_sent i count whole) o lt))
