-- What the first offset is that is in memory, or is not, and where a chunk that is held is held to.
use Rattle.std.proofs.Common.{◌≡◌, ◌<◌, ◌≤◌, ◌+◌, ◌-◌, ◌*◌, ◌/◌, ◌%◌, ◌⊎◌, inl, inr, min, refl, sym, subst, ap, ◌∙◌, ℕ, zero, suc, Bool, true, false, not, ◌||◌, cond, List, arith}
use Rattle.std.specs.Prelude.{nat_lt}
use Rattle.std.proofs.lemmas.Bool.{cases_lt}
use Rattle.pp_cache.specs.Holes.{first_from, held_from, hole_in, missing_from}
use Rattle.pp_cache.specs.Memory.{is_in_memory}
use Rattle.pp_cache_law.proofs.Numbers.{true_false}
use Rattle.pp_cache_law.proofs.Reaches.{Fronts, below_extent, enough_steps, in_chunk, is_less, less_is, reach_ends, reach_on}
use Rattle.pp_cache_law.specs.Reads.{IsGap, IsHole}
use Rattle.pp_holes.specs.Places.{Chunk}
use Rattle.pp_law.specs.Chunks.{filled}
use Rattle.pp_law.specs.State.{Chunk as Front}
use Rattle.pp_law.specs.Table.{chunks_in, is_held_by, reach}

-- ---- the first offset of which a test holds

record IsFirst (n at : ℕ) (is : ℕ → Bool) (to : ℕ) : Type 0 where
  pub behind : at ≤ to
  pub within : to ≤ at + n
  pub before : (o : ℕ) → at ≤ o → o < to → is o ≡ false
  pub here : to < at + n → is to ≡ true

first_is : (n at : ℕ) (is : ℕ → Bool) → IsFirst n at is (first_from n at is)
first_is zero at is = record {
  behind = omega arith;
  within = omega arith;
  before = λ o from below. absurd (omega (arith, from, below));
  here = λ less. absurd (omega (arith, less));
}
first_is (suc more) at is = by (is at) refl (first_is more (at + 1) is)
  where
    by : (b : Bool) → is at ≡ b → IsFirst more (at + 1) is (first_from more (at + 1) is) → IsFirst (suc more) at is (cond b at (first_from more (at + 1) is))
    by true here rest = record {
      behind = omega arith;
      within = omega arith;
      before = λ o from below. absurd (omega (arith, from, below));
      here = λ less. here;
    }
    by false here rest = record {
      behind = omega (arith, rest.behind);
      within = omega (arith, rest.within);
      before = λ o from below. of o below (cases_lt at o) from;
      here = λ less. rest.here (omega (arith, less));
    }
      where
        of : (o : ℕ) → o < first_from more (at + 1) is → (at < o) ⊎ (o ≤ at) → at ≤ o → is o ≡ false
        of o below (inl less) from = rest.before o (omega (arith, less)) below
        of o below (inr more_is) from = ap is (let same : o ≡ at = omega (arith, from, more_is) in same) ∙ here

not_false : (b : Bool) → not b ≡ false → b ≡ true
not_false true e = refl
not_false false e = absurd (true_false e)

not_true : (b : Bool) → not b ≡ true → b ≡ false
not_true true e = absurd (true_false (sym e))
not_true false e = refl

-- ---- the hole

module _ (slot total at : ℕ) (cs : List Chunk) where
  begins : IsFirst (total - at) (min at total) (λ o. not (is_in_memory slot o cs)) (missing_from slot total at cs)
  begins = first_is (total - at) (min at total) (λ o. not (is_in_memory slot o cs))

  goes_to : IsFirst (total - missing_from slot total at cs) (missing_from slot total at cs) (λ o. is_in_memory slot o cs) (held_from slot total (missing_from slot total at cs) cs)
  goes_to = first_is (total - missing_from slot total at cs) (missing_from slot total at cs) (λ o. is_in_memory slot o cs)

  inside : missing_from slot total at cs ≤ total
  inside = omega (arith, begins.within)

  isnt_there : missing_from slot total at cs < total → is_in_memory slot (missing_from slot total at cs) cs ≡ false
  isnt_there less = not_true (is_in_memory slot (missing_from slot total at cs) cs) (begins.here (omega (arith, less, begins.behind)))

  pub is_hole : IsHole slot at (hole_in slot total at cs).0 total cs
  is_hole = record {
    behind = begins.behind;
    held = λ o start before. not_false (is_in_memory slot o cs) (begins.before o (omega (arith, start)) before);
    missing = isnt_there;
  }

  pub is_gap : ((o : ℕ) → total ≤ o → is_in_memory slot o cs ≡ false) → IsGap slot (hole_in slot total at cs) total cs
  is_gap none = record {
    some = λ less. by less (cases_lt (missing_from slot total at cs) (held_from slot total (missing_from slot total at cs) cs));
    within = omega (arith, goes_to.within, inside);
    gap = goes_to.before;
    ends = λ less. goes_to.here (omega (arith, less, inside));
    none = none;
  }
    where
      by : missing_from slot total at cs < total → (missing_from slot total at cs < held_from slot total (missing_from slot total at cs) cs) ⊎ (held_from slot total (missing_from slot total at cs) cs ≤ missing_from slot total at cs)
          → missing_from slot total at cs < held_from slot total (missing_from slot total at cs) cs
      by less (inl some) = some
      by less (inr empty) =
          let same : held_from slot total (missing_from slot total at cs) cs ≡ missing_from slot total at cs = omega (arith, empty, goes_to.behind) in
          let there : is_in_memory slot (held_from slot total (missing_from slot total at cs) cs) cs ≡ true = goes_to.here (omega (arith, same, less, inside)) in
          absurd (true_false (sym there ∙ ap (λ (o : ℕ). is_in_memory slot o cs) same ∙ isnt_there less))

-- ---- a byte that is held is before the hole of its chunk

module _ (id ext len at : ℕ) (cs : List Front) (fronts : Fronts id cs) (short : at < len) (held : is_held_by id ext cs at ≡ true) where
  all_before : reach (chunks_in len + 2) id ext cs (at / 4096 * 4096) ≤ at → is_held_by id ext cs (reach (chunks_in len + 2) id ext cs (at / 4096 * 4096)) ≡ true
  all_before less = by (cases_lt at ext)
    where
      r : ℕ
      r = reach (chunks_in len + 2) id ext cs (at / 4096 * 4096)

      on : at / 4096 * 4096 ≤ reach (chunks_in len + 2) id ext cs (at / 4096 * 4096)
      on = reach_on (chunks_in len + 2) id ext cs (at / 4096 * 4096)

      same_chunk : reach (chunks_in len + 2) id ext cs (at / 4096 * 4096) / 4096 ≡ at / 4096
      same_chunk = omega (arith, on, less)

      no_later : reach (chunks_in len + 2) id ext cs (at / 4096 * 4096) % 4096 ≤ at % 4096
      no_later = omega (arith, on, less)

      or_right : (a b : Bool) → a ≡ false → (a || b) ≡ true → b ≡ true
      or_right true b e f = absurd (true_false e)
      or_right false b e f = f

      isnt : (a b : ℕ) → b ≤ a → nat_lt a b ≡ false
      isnt a b more = of (nat_lt a b) refl
        where
          of : (c : Bool) → nat_lt a b ≡ c → c ≡ false
          of true is = absurd (omega (arith, less_is a b is, more))
          of false is = refl

      by : (at < ext) ⊎ (ext ≤ at) → is_held_by id ext cs (reach (chunks_in len + 2) id ext cs (at / 4096 * 4096)) ≡ true
      by (inl below) = below_extent id ext cs (reach (chunks_in len + 2) id ext cs (at / 4096 * 4096)) (omega (arith, less, below))
      by (inr above) =
          let in_it : at % 4096 < filled id (at / 4096) cs = less_is (at % 4096) (filled id (at / 4096) cs) (or_right (nat_lt at ext) (nat_lt (at % 4096) (filled id (at / 4096) cs)) (isnt at ext above) held) in
          in_chunk id ext cs (reach (chunks_in len + 2) id ext cs (at / 4096 * 4096))
          (subst (λ (k : ℕ). reach (chunks_in len + 2) id ext cs (at / 4096 * 4096) % 4096 < filled id k cs) (sym same_chunk) (omega (arith, no_later, in_it)))

  pub held_past : nat_lt at (reach (chunks_in len + 2) id ext cs (at / 4096 * 4096)) ≡ true
  held_past = by (cases_lt at (reach (chunks_in len + 2) id ext cs (at / 4096 * 4096)))
    where
      by : (at < reach (chunks_in len + 2) id ext cs (at / 4096 * 4096)) ⊎ (reach (chunks_in len + 2) id ext cs (at / 4096 * 4096) ≤ at) → nat_lt at (reach (chunks_in len + 2) id ext cs (at / 4096 * 4096)) ≡ true
      by (inl less) = is_less at (reach (chunks_in len + 2) id ext cs (at / 4096 * 4096)) less
      by (inr more) =
          absurd (true_false (sym (all_before more)
          ∙ reach_ends (chunks_in len + 2) id ext cs len fronts (at / 4096 * 4096) (enough_steps ext len (at / 4096 * 4096)) (omega (arith, more, short))))
