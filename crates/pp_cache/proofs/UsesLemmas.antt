-- A run of chunks that are used, chunk by chunk.
use Rattle.std.proofs.Common.{◌≡◌, ◌<◌, ◌≤◌, ◌+◌, ◌-◌, ◌*◌, ◌/◌, ◌%◌, ℕ, suc, List, [], ◌∷◌, ◌==◌, true, drop, length, refl, sym, ap, ◌∙◌, arith}
use Rattle.std.specs.Prelude.{cond}
use Rattle.std.proofs.lemmas.Bool.Decides.{nat_tests}
use Rattle.pp_holes.specs.Places.{Chunk, bytes_at, touched}
use Rattle.pp_text.specs.Bytes.{is_empty}
use Rattle.pp_cache.specs.Uses.{used_at, used_run}

pub used_next : (slot index to : ℕ) (cs : List Chunk) → index < to → used_run (to - index) slot index cs ≡ used_run (to - (index + 1)) slot (index + 1) (used_at (slot, index) cs)
unfolding used_run
used_next slot index to cs less = ap (λ n. used_run n slot index cs) (let e : to - index ≡ suc (to - (index + 1)) = omega (arith, less) in e)

pub used_none : (slot index to : ℕ) (cs : List Chunk) → to ≤ index → used_run (to - index) slot index cs ≡ cs
unfolding used_run
used_none slot index to cs past = ap (λ n. used_run n slot index cs) (let e : to - index ≡ 0 = omega (arith, past) in e)

-- ---- a chunk, from its first byte on

pub index_of_begin : (index : ℕ) → index * 4096 / 4096 ≡ index
index_of_begin index = omega arith

pub offset_of_begin : (index : ℕ) → index * 4096 % 4096 ≡ 0
offset_of_begin index = omega arith

pub used_absent : (slot index : ℕ) (cs : List Chunk) → bytes_at (slot, index) cs ≡ [] → used_at (slot, index) cs ≡ cs
unfolding used_at
used_absent slot index cs none = ap (λ l. cond (is_empty l) cs (touched (slot, index) cs)) none

-- where a piece from its first byte on is empty
pub used_of_none : (slot index at : ℕ) (piece : List ℕ) (cs : List Chunk) → at ≡ index * 4096 → piece ≡ drop (at % 4096) (bytes_at (slot, at / 4096) cs) → piece ≡ [] → used_at (slot, index) cs ≡ cs
used_of_none slot index at piece cs is has none =
    used_absent slot index cs
    (sym (ap (λ n. drop (n % 4096) (bytes_at (slot, n / 4096) cs)) is
    ∙ ap (λ n. drop n (bytes_at (slot, index * 4096 / 4096) cs)) (offset_of_begin index)
    ∙ ap (λ n. bytes_at (slot, n) cs) (index_of_begin index)) ∙ sym has ∙ none)

is_zero : (n : ℕ) → (n == 0) ≡ true → n ≡ 0
is_zero n is = grind (arith, nat_tests)

pub none_of : (l : List ℕ) → (length l == 0) ≡ true → l ≡ []
none_of [] is = refl
none_of (b ∷ l) is = let none : suc (length l) ≡ 0 = is_zero (suc (length l)) is in absurd (omega arith)

pub used_there : (slot index : ℕ) (cs : List Chunk) → ¬ (bytes_at (slot, index) cs ≡ []) → used_at (slot, index) cs ≡ touched (slot, index) cs
unfolding used_at
used_there slot index cs some = by (bytes_at (slot, index) cs) some
  where
    by : (l : List ℕ) → ¬ (l ≡ []) → cond (is_empty l) cs (touched (slot, index) cs) ≡ touched (slot, index) cs
    by [] none = absurd (none refl)
    by (b ∷ l) there = refl
