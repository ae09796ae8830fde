-- Where a hole begins and ends.
use Rattle.std.proofs.Common.{◌≡◌, ◌<◌, ◌≤◌, ◌+◌, ◌-◌, ◌*◌, ◌/◌, ◌%◌, ◌⊎◌, inl, inr, min, refl, sym, subst, ap, ap₂, ◌∙◌, ℕ, zero, suc, Bool, true, false, ◌||◌, List, length, Some, arith}
use Rattle.std.specs.Prelude.{nat_lt}
use Rattle.std.proofs.lemmas.Bool.{cases_lt}
use Rattle.pp_cache.specs.Memory.{extent_of as bytes_kept, is_in_memory}
use Rattle.pp_holes.specs.Places.{bytes_at}
use Rattle.pp_law.specs.Chunks.{filled}
use Rattle.pp_law.specs.Lists.{Bytes}
use Rattle.pp_law.specs.State.{Instance as Known, Chunk as Front}
use Rattle.pp_law.specs.Table.{chunks_in, extent_of, held_to, is_held, is_held_by, next_held, next_run, reach}
use Rattle.pp_cache_law.specs.Reads.{HolesAreTheLaws}
use Rattle.pp_cache_law.specs.Tables.{number_in}
use Rattle.pp_cache_law.proofs.Alike.{bytes_in_chunks, extents_of}
use Rattle.pp_cache_law.proofs.Changed.{its_number}
use Rattle.pp_cache_law.proofs.Numbers.{number_of_there, true_false}
use Rattle.pp_cache_law.proofs.Reaches.{Fronts, enough_steps, in_chunk, is_less, isnt_less, less_is, reach_ends, reach_held, reach_on}

-- ---- the next chunk of which any byte is held

passes : (more n id ext : ℕ) (cs : List Front) (i : ℕ) → is_held_by id ext cs (i * 4096) ≡ false → next_run (suc more) n id ext cs i ≡ next_run more n id ext cs (i + 1)
passes more n id ext cs i isnt = ap (λ (b : Bool). elim b as (λ c. ℕ) [ true ↦ i * 4096 | false ↦ next_run more n id ext cs (i + 1) ]) isnt

run_to : (more n id ext : ℕ) (cs : List Front) (i j : ℕ) → i ≤ j → j < i + more → ((k : ℕ) → i ≤ k → k < j → is_held_by id ext cs (k * 4096) ≡ false) → is_held_by id ext cs (j * 4096) ≡ true → next_run more n id ext cs i ≡ j * 4096
run_to zero n id ext cs i j from to before there = absurd (omega (arith, from, to))
run_to (suc more) n id ext cs i j from to before there = by (cases_lt i j) (λ less. run_to more n id ext cs (i + 1) j (omega (arith, less)) (omega (arith, to)) (λ k start end. before k (omega (arith, start)) end) there)
  where
    by : (i < j) ⊎ (j ≤ i) → (i < j → next_run more n id ext cs (i + 1) ≡ j * 4096) → next_run (suc more) n id ext cs i ≡ j * 4096
    by (inl less) rest = passes more n id ext cs i (before i (omega arith) less) ∙ rest less
    by (inr more_is) rest =
        let same : j ≡ i = omega (arith, from, more_is) in
        ap (λ (b : Bool). elim b as (λ c. ℕ) [ true ↦ i * 4096 | false ↦ next_run more n id ext cs (i + 1) ]) (ap (λ (k : ℕ). is_held_by id ext cs (k * 4096)) (sym same) ∙ there)
        ∙ ap (λ (k : ℕ). k * 4096) (sym same)

run_out : (more n id ext : ℕ) (cs : List Front) (i : ℕ) → ((k : ℕ) → i ≤ k → is_held_by id ext cs (k * 4096) ≡ false) → next_run more n id ext cs i ≡ n
run_out zero n id ext cs i none = refl
run_out (suc more) n id ext cs i none = passes more n id ext cs i (none i (omega arith)) ∙ run_out more n id ext cs (i + 1) (λ k start. none k (omega (arith, start)))

-- ---- in the words of the law

abbrev inside : ℕ → List Front → ℕ → Bool
inside id cs o = nat_lt (o % 4096) (filled id (o / 4096) cs)

not_held : (id ext : ℕ) (cs : List Front) (o : ℕ) → ext ≤ o → inside id cs o ≡ false → is_held_by id ext cs o ≡ false
not_held id ext cs o above isnt = ap₂ (λ (x y : Bool). x || y) (isnt_less o ext above) isnt

record IsGapIn (id front at : ℕ) (hole : ℕ × ℕ) (len : ℕ) (cs : List Front) : Type 0 where
  pub behind : min front len ≤ hole.0
  pub held : (o : ℕ) → front ≤ o → o < hole.0 → inside id cs o ≡ true
  pub missing : hole.0 < len → inside id cs hole.0 ≡ false
  pub within : hole.1 ≤ len
  pub gap : (o : ℕ) → hole.0 ≤ o → o < hole.1 → inside id cs o ≡ false
  pub ends : hole.1 < len → inside id cs hole.1 ≡ true
  pub none : (o : ℕ) → len ≤ o → inside id cs o ≡ false

module _ (id ext len at : ℕ) (hole : ℕ × ℕ) (cs : List Front) (fronts : Fronts id cs) (below : ext ≤ at / 4096 * 4096) (short : at < len) (missing : is_held_by id ext cs at ≡ false) (is : IsGapIn id (at / 4096 * 4096) at hole len cs) where
  from_front : at / 4096 * 4096 ≤ at
  from_front = omega arith

  -- it begins at that byte or before
  begins : hole.0 ≤ at
  begins = by (cases_lt at hole.0)
    where
      by : (at < hole.0) ⊎ (hole.0 ≤ at) → hole.0 ≤ at
      by (inl less) = absurd (true_false (sym (in_chunk id ext cs at (less_is (at % 4096) (filled id (at / 4096) cs) (is.held at from_front less))) ∙ missing))
      by (inr more) = more

  behind_front : at / 4096 * 4096 ≤ hole.0
  behind_front = omega (arith, is.behind, short)

  hole_isnt : is_held_by id ext cs hole.0 ≡ false
  hole_isnt = not_held id ext cs hole.0 (omega (arith, below, behind_front)) (is.missing (omega (arith, begins, short)))

  reached : reach (chunks_in len + 2) id ext cs (at / 4096 * 4096) ≡ hole.0
  reached = by (cases_lt r at) (cases_lt r hole.0) (cases_lt hole.0 r)
    where
      r : ℕ
      r = reach (chunks_in len + 2) id ext cs (at / 4096 * 4096)

      on : at / 4096 * 4096 ≤ r
      on = reach_on (chunks_in len + 2) id ext cs (at / 4096 * 4096)

      all : (o : ℕ) → at / 4096 * 4096 ≤ o → o < r → is_held_by id ext cs o ≡ true
      all o start before = reach_held (chunks_in len + 2) id ext cs o fronts (at / 4096 * 4096) start before

      ended : r < len → is_held_by id ext cs r ≡ false
      ended less = reach_ends (chunks_in len + 2) id ext cs len fronts (at / 4096 * 4096) (enough_steps ext len (at / 4096 * 4096)) less

      by : (r < at) ⊎ (at ≤ r) → (r < hole.0) ⊎ (hole.0 ≤ r) → (hole.0 < r) ⊎ (r ≤ hole.0) → r ≡ hole.0
      by a (inl less) c =
          absurd (true_false (sym (in_chunk id ext cs r (less_is (r % 4096) (filled id (r / 4096) cs) (is.held r on less))) ∙ ended (omega (arith, less, begins, short))))
      by a (inr more) (inl less) = absurd (true_false (sym (all hole.0 behind_front less) ∙ hole_isnt))
      by a (inr more) (inr same) = omega (arith, more, same)

  -- what is not in memory behind it is not held
  gap_isnt : (o : ℕ) → hole.0 ≤ o → o < hole.1 → is_held_by id ext cs o ≡ false
  gap_isnt o start before = not_held id ext cs o (omega (arith, below, behind_front, start)) (is.gap o start before)

  next_from : (k : ℕ) → at / 4096 + 1 ≤ k → hole.0 ≤ k * 4096
  next_from k start = omega (arith, start, begins)

  chunks_more : (j : ℕ) → j * 4096 < len → j < at / 4096 + 1 + chunks_in len
  chunks_more j less = omega (arith, less)

  begins_chunk : hole.1 < len → hole.0 < hole.1 → hole.1 ≡ hole.1 / 4096 * 4096
  begins_chunk less some = by (cases_lt 0 (hole.1 % 4096))
    where
      before_index : 0 < hole.1 % 4096 → (hole.1 - 1) / 4096 ≡ hole.1 / 4096
      before_index inner = omega (arith, inner)

      before_place : 0 < hole.1 % 4096 → (hole.1 - 1) % 4096 < hole.1 % 4096
      before_place inner = omega (arith, inner)

      in_it : hole.1 % 4096 < filled id (hole.1 / 4096) cs
      in_it = less_is (hole.1 % 4096) (filled id (hole.1 / 4096) cs) (is.ends less)

      before_in : 0 < hole.1 % 4096 → inside id cs (hole.1 - 1) ≡ true
      before_in inner =
          ap (λ (k : ℕ). nat_lt ((hole.1 - 1) % 4096) (filled id k cs)) (before_index inner) ∙ is_less ((hole.1 - 1) % 4096) (filled id (hole.1 / 4096) cs) (omega (arith, before_place inner, in_it))

      by : (0 < hole.1 % 4096) ⊎ (hole.1 % 4096 ≤ 0) → hole.1 ≡ hole.1 / 4096 * 4096
      by (inl inner) = absurd (true_false (sym (before_in inner) ∙ is.gap (hole.1 - 1) (omega (arith, some)) (omega (arith, some))))
      by (inr none) = omega (arith, none)

  ended_at : hole.0 < hole.1 → next_run (chunks_in len) len id ext cs (at / 4096 + 1) ≡ hole.1
  ended_at some = by (cases_lt hole.1 len)
    where
      by : (hole.1 < len) ⊎ (len ≤ hole.1) → next_run (chunks_in len) len id ext cs (at / 4096 + 1) ≡ hole.1
      by (inl less) =
          let same : hole.1 ≡ hole.1 / 4096 * 4096 = begins_chunk less some in
          run_to (chunks_in len) len id ext cs (at / 4096 + 1) (hole.1 / 4096) (omega (arith, same, behind_front, some)) (chunks_more (hole.1 / 4096) (omega (arith, same, less)))
          (λ k start before. gap_isnt (k * 4096) (next_from k start) (omega (arith, before)))
          (subst (λ (o : ℕ). is_held_by id ext cs o ≡ true) same (in_chunk id ext cs hole.1 (less_is (hole.1 % 4096) (filled id (hole.1 / 4096) cs) (is.ends less))))
          ∙ sym same
      by (inr more) =
          let same : len ≡ hole.1 = omega (arith, more, is.within) in
          run_out (chunks_in len) len id ext cs (at / 4096 + 1) (λ k start. of k start (cases_lt (k * 4096) len)) ∙ same
        where
          of : (k : ℕ) → at / 4096 + 1 ≤ k → (k * 4096 < len) ⊎ (len ≤ k * 4096) → is_held_by id ext cs (k * 4096) ≡ false
          of k start (inl inner) = gap_isnt (k * 4096) (next_from k start) (omega (arith, inner, more))
          of k start (inr outer) = not_held id ext cs (k * 4096) (omega (arith, below, start)) (is.none (k * 4096) outer)

pub holes_of : HolesAreTheLaws
holes_of number m s shows id x there known n hole source short missing below fronts is gap =
    subst (λ (y : Known). (held_to s y (n.at / 4096 * 4096), next_held s y (n.at / 4096 + 1)) ≡ hole) (sym source)
    (ap₂ (λ (a b : ℕ). (a, b)) (reached x.id (extent_of s x) x.version.length n.at hole s.chunks few under short none at_it)
    (ended_at x.id (extent_of s x) x.version.length n.at hole s.chunks few under short none at_it
    (gap.some (omega (arith, begins x.id (extent_of s x) x.version.length n.at hole s.chunks few under short none at_it, short)))))
  where
    extent : bytes_kept id m ≡ extent_of s x
    extent = extents_of number m s shows id x there known

    under : extent_of s x ≤ n.at / 4096 * 4096
    under = subst (λ (e : ℕ). e ≤ n.at / 4096 * 4096) extent below

    none : is_held_by x.id (extent_of s x) s.chunks n.at ≡ false
    none = ap (λ (y : Known). is_held s y n.at) (sym source) ∙ missing

    at : number_in number id.slot m.instances ≡ Some x.id
    at = number_of_there number id m.instances there ∙ ap (λ (k : ℕ). Some k) (its_number number m s id x shows there known)

    bytes : (index : ℕ) → length (bytes_at (id.slot, index) m.chunks) ≡ filled x.id index s.chunks
    bytes index = ap (λ (xs : Bytes). length xs) (bytes_in_chunks number m id.slot x.id index m.chunks s.chunks shows.apart at shows.chunks)

    few : Fronts x.id s.chunks
    few index = subst (λ (k : ℕ). k ≤ 4096) (bytes index) (fronts index)

    memory : (o : ℕ) → is_in_memory id.slot o m.chunks ≡ inside x.id s.chunks o
    memory o = ap (λ (k : ℕ). nat_lt (o % 4096) k) (bytes (o / 4096))

    at_it : IsGapIn x.id (n.at / 4096 * 4096) n.at hole x.version.length s.chunks
    at_it = record {
      behind = is.behind;
      held = λ o start before. sym (memory o) ∙ is.held o start before;
      missing = λ less. sym (memory hole.0) ∙ is.missing less;
      within = gap.within;
      gap = λ o start before. sym (memory o) ∙ gap.gap o start before;
      ends = λ less. sym (memory hole.1) ∙ gap.ends less;
      none = λ o start. sym (memory o) ∙ gap.none o start;
    }
