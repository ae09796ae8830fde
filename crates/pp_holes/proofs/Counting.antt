-- How many offsets are in memory: at most what the chunks have room for, and what a change of one chunk does to it.
use Rattle.std.proofs.Common.{ℕ, zero, suc, ◌+◌, ◌-◌, ◌*◌, ◌≡◌, ◌≤◌, ◌<◌, ◌/◌, ◌%◌, false, nat_lt, List, [], ◌∷◌, length, Option, Some, None, replicate, set, arith, refl, sym, ◌∙◌, ap}
use Rattle.std.proofs.lemmas.Grind.{common_steps}
use Rattle.std.proofs.lemmas.List.Sums.{sum_by-cons}
use Rattle.std.proofs.lemmas.List.Folds.{sum_by-replicate}
use Rattle.pp_holes.specs.declared.cell.Cell.{Cell}
use Rattle.pp_holes.specs.Cells.{IsFront, cell_of, filled_of, is_in_memory}
use Rattle.pp_holes.specs.Spans.{AreKnown, IsRaised, held_in}
use Rattle.pp_holes.proofs.Runs.{no_front}

held_cons : (x : Option Cell) (cs : List (Option Cell)) → held_in (x ∷ cs) ≡ filled_of x + held_in cs
held_cons x cs = sum_by-cons filled_of x cs

pub held_none : (n : ℕ) → held_in (replicate n None) ≡ 0
held_none n = sum_by-replicate filled_of n None ∙ omega arith

-- what one chunk holds is counted
pub held_least : (cs : List (Option Cell)) (i : ℕ) → filled_of (cell_of cs i) ≤ held_in cs
held_least [] i = omega arith
held_least (x ∷ cs) zero = omega (arith, held_cons x cs)
held_least (x ∷ cs) (suc i) = omega (arith, held_cons x cs, held_least cs i)

few_in : (x : Option Cell) → IsFront x → filled_of x ≤ 4096
few_in None f = omega arith
few_in (Some c) f = f.1

pub held_most : (cs : List (Option Cell)) → ((i : ℕ) → IsFront (cell_of cs i)) → held_in cs ≤ 4096 * length cs
held_most [] f = omega arith
held_most (x ∷ cs) f = omega (arith, held_cons x cs, few_in x (f 0), held_most cs (λ i. f (suc i)))

-- where nothing is counted, no chunk is there
pub none_held : (cs : List (Option Cell)) → ((i : ℕ) → IsFront (cell_of cs i)) → held_in cs ≡ 0 → (i : ℕ) → cell_of cs i ≡ None
none_held cs f e i = no_front (cell_of cs i) (f i) (omega (arith, held_least cs i, e))

pub all_none : (cs : List (Option Cell)) → ((i : ℕ) → cell_of cs i ≡ None) → held_in cs ≡ 0
all_none [] none = refl
all_none (x ∷ cs) none = omega (arith, held_cons x cs, ap filled_of (none 0), all_none cs (λ i. none (suc i)))

not_below : (n : ℕ) → nat_lt n 0 ≡ false
not_below n = grind (arith, common_steps)

none_in : (cs : List (Option Cell)) → ((i : ℕ) → cell_of cs i ≡ None) → (o : ℕ) → is_in_memory cs o ≡ false
none_in cs none o = ap (λ x. nat_lt (o % 4096) (filled_of x)) (none (o / 4096)) ∙ not_below (o % 4096)

-- what is known where no chunk is there
pub known_none : (cs : List (Option Cell)) (total : ℕ) → ((i : ℕ) → cell_of cs i ≡ None) → AreKnown cs total 0 0 0
known_none cs total none = record {
  count = sym (all_none cs none);
  within = omega arith;
  led = λ o lt. absurd (omega (arith, lt));
  ends = λ lt. none_in cs none 0;
  empty = λ o le. none_in cs none o;
  reached = omega arith;
}

-- a chunk that is out is counted no more
pub held_without : (cs : List (Option Cell)) (i : ℕ) → held_in (set cs i None) ≡ held_in cs - filled_of (cell_of cs i)
held_without [] i = refl
held_without (x ∷ cs) zero = omega (arith, held_cons None cs, held_cons x cs)
held_without (x ∷ cs) (suc i) = omega (arith, held_cons x (set cs i None), held_cons x cs, held_without cs i, held_least cs i)

same_held : (cs ds : List (Option Cell)) → length ds ≡ length cs → ((j : ℕ) → cell_of ds j ≡ cell_of cs j) → held_in ds ≡ held_in cs
same_held [] [] e same = refl
same_held [] (y ∷ ds) e same = absurd (omega (arith, e))
same_held (x ∷ cs) [] e same = absurd (omega (arith, e))
same_held (x ∷ cs) (y ∷ ds) e same =
    omega (arith, held_cons x cs, held_cons y ds, ap filled_of (same 0), same_held cs ds (omega (arith, e)) (λ j. same (suc j)))

raised_by : (cs ds : List (Option Cell)) (i : ℕ) → length ds ≡ length cs → i < length cs → ((j : ℕ) → (j ≡ i → ⊥) → cell_of ds j ≡ cell_of cs j)
    → held_in ds + filled_of (cell_of cs i) ≡ held_in cs + filled_of (cell_of ds i)
raised_by [] ds i e lt rest = absurd (omega (arith, lt))
raised_by (x ∷ cs) [] i e lt rest = absurd (omega (arith, e))
raised_by (x ∷ cs) (y ∷ ds) zero e lt rest =
    omega (arith, held_cons x cs, held_cons y ds, same_held cs ds (omega (arith, e)) (λ j. rest (suc j) (λ q. absurd (omega (arith, q)))))
raised_by (x ∷ cs) (y ∷ ds) (suc i) e lt rest =
    omega (
      arith,
      held_cons x cs,
      held_cons y ds,
      ap filled_of (rest 0 (λ q. absurd (omega (arith, q)))),
      raised_by cs ds i (omega (arith, e)) (omega (arith, lt)) (λ j apart. rest (suc j) (λ q. apart (omega (arith, q)))),
    )

-- a chunk that comes to hold more is counted with what it gained
pub held_raised : (cs ds : List (Option Cell)) (i n m : ℕ) → IsRaised cs ds i n → length ds ≡ length cs → i < length cs → filled_of (cell_of cs i) + m ≡ n
    → held_in ds ≡ held_in cs + m
held_raised cs ds i n m r e lt gained = omega (arith, raised_by cs ds i e lt r.rest, r.here, gained)
