-- Who is not looked at is silent, from wait to wait.
use Rattle.std.proofs.Common.{arith, ◌≡◌, ◌≤◌, ◌<◌, ◌⊎◌, inl, inr, refl, sym, subst, ap, ◌∙◌, ℕ, zero, suc, ◌+◌, Bool, true, false, ◌==◌, ◌||◌, not, cond, nat_lt, length, filter, List, [], ◌∷◌, ◌++◌, Option, Some}
use Rattle.std.proofs.lemmas.Bool.Decides.{nat_tests}
use Rattle.std.proofs.lemmas.Option.{slice_get_within}
use Rattle.std.specs.Prelude.{slice_get}
use Rattle.pp_cache_law.proofs.Numbers.{is_same}
use Rattle.pp_flow_law.specs.Tables.{AreGiven}
use Rattle.pp_law.specs.Lists.{has_number}
use Rattle.pp_seats.specs.Seats.{is_silent}
use Rattle.pp_seats.specs.declared.seat.Seat.{Seat}
use Rattle.pp_due.specs.Waits.{is_loud, is_loud_in}
use Rattle.pp_state.specs.Numbers.{places, with_number}
use Rattle.pp_state.specs.declared.state.State.{State as Turn}
use Rattle.pp_turns_law.specs.Looks.{AllAreAwake, AwakeAreLoud, LoudAreAwake, LoudStayAwake, RousedIsAwake}

-- ---- places that rise

lower : (low from next : ℕ) (ns : List ℕ) → low ≤ from → AreGiven from next ns → AreGiven low next ns
lower low from next [] less given = omega (arith, less, given)
lower low from next (n ∷ ns) less given = (omega (arith, less, given.0), given.1)

none_first : (a b : Bool) → (a || b) ≡ false → a ≡ false
none_first true b none = absurd (cc none)
none_first false b none = refl

none_behind : (a b : Bool) → (a || b) ≡ false → b ≡ false
none_behind true b none = absurd (cc none)
none_behind false b none = none

-- ---- those that are kept

given_kept : (keep : ℕ → Bool) (next : ℕ) (ns : List ℕ) (low : ℕ) → AreGiven low next ns → AreGiven low next (filter keep ns)
given_kept keep next [] low given = given
given_kept keep next (n ∷ ns) low given = by (keep n) (given_kept keep next ns (n + 1) given.1)
  where
    by : (b : Bool) → AreGiven (n + 1) next (filter keep ns) → AreGiven low next (cond b (n ∷ filter keep ns) (filter keep ns))
    by true rest = (given.0, rest)
    by false rest = lower low (n + 1) next (filter keep ns) (omega (arith, given.0)) rest

kept_or_not : (keep : ℕ → Bool) (j : ℕ) (ns : List ℕ) → has_number j (filter keep ns) ≡ false → (has_number j ns ≡ false) ⊎ (keep j ≡ false)
kept_or_not keep j [] none = inl refl
kept_or_not keep j (n ∷ ns) none = by (keep n) (n == j) refl refl none (λ rest. kept_or_not keep j ns rest)
  where
    later : (b : Bool) → b ≡ false → (has_number j ns ≡ false) ⊎ (keep j ≡ false) → ((b || has_number j ns) ≡ false) ⊎ (keep j ≡ false)
    later b isnt (inl rest) = inl (ap (λ (t : Bool). t || has_number j ns) isnt ∙ rest)
    later b isnt (inr out) = inr out

    by : (a b : Bool) → keep n ≡ a → (n == j) ≡ b → has_number j (cond a (n ∷ filter keep ns) (filter keep ns)) ≡ false → (has_number j (filter keep ns) ≡ false → (has_number j ns ≡ false) ⊎ (keep j ≡ false))
        → ((b || has_number j ns) ≡ false) ⊎ (keep j ≡ false)
    by true b kept is none rest = later b (sym is ∙ none_first (n == j) (has_number j (filter keep ns)) none) (rest (none_behind (n == j) (has_number j (filter keep ns)) none))
    by false true out is none rest = inr (ap keep (sym (is_same n j is)) ∙ out)
    by false false out is none rest = rest none

silent_by : (b : Bool) → not b ≡ false → b ≡ true
silent_by true is = refl
silent_by false is = absurd (cc is)

pub stays : LoudStayAwake
stays p q loud awake rest = record {
  order = subst (λ (ns : List ℕ). AreGiven 0 (length q.seats.items) ns) (sym awake)
      (subst (λ (seats : List Seat). AreGiven 0 (length seats) (filter (is_loud p.seats.items) p.awake.items)) (sym same) (given_kept (is_loud p.seats.items) (length p.seats.items) p.awake.items 0 loud.order));
  others = λ j seat here none.
      let there : slice_get p.seats.items j ≡ Some seat = ap (λ (seats : List Seat). slice_get seats j) (sym same) ∙ here in
      by j seat there (kept_or_not (is_loud p.seats.items) j p.awake.items (ap (λ (ns : List ℕ). has_number j ns) (sym awake) ∙ none));
}
  where
    same : q.seats.items ≡ p.seats.items
    same = ap (λ (t : Turn). t.seats.items) rest

    by : (j : ℕ) (seat : Seat) → slice_get p.seats.items j ≡ Some seat → (has_number j p.awake.items ≡ false) ⊎ (is_loud p.seats.items j ≡ false) → is_silent seat ≡ true
    by j seat there (inl none) = loud.others j seat there none
    by j seat there (inr silent) = silent_by (is_silent seat) (sym (ap (λ (o : Option Seat). is_loud_in o) there) ∙ silent)

-- ---- one more

less_so : (n m : ℕ) → nat_lt n m ≡ true → n + 1 ≤ m
less_so n m is = grind (arith, nat_tests, is)

more_so : (n m : ℕ) → nat_lt n m ≡ false → (m == n) ≡ false → m + 1 ≤ n
more_so n m isnt other = grind (arith, nat_tests, isnt, other)

given_with : (n next : ℕ) (ms : List ℕ) (low : ℕ) → low ≤ n → n < next → AreGiven low next ms → AreGiven low next (with_number n ms)
given_with n next [] low from less given = (from, omega (arith, less))
given_with n next (m ∷ ms) low from less given = by (nat_lt n m) (m == n) refl refl (λ behind. given_with n next ms (m + 1) behind less given.1)
  where
    by : (a b : Bool) → nat_lt n m ≡ a → (m == n) ≡ b → (m + 1 ≤ n → AreGiven (m + 1) next (with_number n ms)) → AreGiven low next (cond a (n ∷ m ∷ ms) (cond b (m ∷ ms) (m ∷ with_number n ms)))
    by true b first is rest = (from, (less_so n m first, given.1))
    by false true first is rest = given
    by false false first is rest = (given.0, rest (more_so n m first is))

with_or_not : (n j : ℕ) (ms : List ℕ) → has_number j (with_number n ms) ≡ false → has_number j ms ≡ false
with_or_not n j [] none = refl
with_or_not n j (m ∷ ms) none = by (nat_lt n m) (m == n) none (λ rest. with_or_not n j ms rest)
  where
    both : (b c : Bool) → b ≡ false → c ≡ false → (b || c) ≡ false
    both b c one two = ap (λ (t : Bool). t || c) one ∙ two

    by : (a b : Bool) → has_number j (cond a (n ∷ m ∷ ms) (cond b (m ∷ ms) (m ∷ with_number n ms))) ≡ false → (has_number j (with_number n ms) ≡ false → has_number j ms ≡ false) → ((m == j) || has_number j ms) ≡ false
    by true b none rest = none_behind (n == j) ((m == j) || has_number j ms) none
    by false true none rest = none
    by false false none rest =
        both (m == j) (has_number j ms) (none_first (m == j) (has_number j (with_number n ms)) none) (rest (none_behind (m == j) (has_number j (with_number n ms)) none))

pub roused : RousedIsAwake
roused p q i loud within awake rest = record {
  order = subst (λ (ns : List ℕ). AreGiven 0 (length q.seats.items) ns) (sym awake)
      (subst (λ (seats : List Seat). AreGiven 0 (length seats) (with_number i p.awake.items)) (sym same) (given_with i (length p.seats.items) p.awake.items 0 (omega arith) within loud.order));
  others = λ j seat here none.
      loud.others j seat (ap (λ (seats : List Seat). slice_get seats j) (sym same) ∙ here) (with_or_not i j p.awake.items (ap (λ (ns : List ℕ). has_number j ns) (sym awake) ∙ none));
}
  where
    same : q.seats.items ≡ p.seats.items
    same = ap (λ (t : Turn). t.seats.items) rest

-- ---- or all are

pub not_ticked : LoudAreAwake
not_ticked p loud ticked = record { order = loud.order; others = λ i seat here none. record { silent = loud.others i seat here none; ticked = ticked } }

pub awake_loud : AwakeAreLoud
awake_loud p awake = record { order = awake.order; others = λ i seat here none. (awake.others i seat here none).silent }

given_last : (next : ℕ) (ns : List ℕ) (low : ℕ) → AreGiven low next ns → AreGiven low (next + 1) (ns ++ next ∷ [])
given_last next [] low given = (given, omega arith)
given_last next (n ∷ ns) low given = (given.0, given_last next ns (n + 1) given.1)

suc_is : (n : ℕ) → n + 1 ≡ suc n
suc_is n = omega arith

given_places : (n : ℕ) → AreGiven 0 n (places n)
given_places zero = omega arith
given_places (suc n) = subst (λ (m : ℕ). AreGiven 0 m (places n ++ n ∷ [])) (suc_is n) (given_last n (places n) 0 (given_places n))

joined_none : (j : ℕ) (ns : List ℕ) (n : ℕ) → has_number j (ns ++ n ∷ []) ≡ false → (has_number j ns ≡ false) × ((n == j) ≡ false)
joined_none j [] n none = (refl, none_first (n == j) false none)
joined_none j (m ∷ ns) n none =
    let rest : (has_number j ns ≡ false) × ((n == j) ≡ false) = joined_none j ns n (none_behind (m == j) (has_number j (ns ++ n ∷ [])) none) in
    (ap (λ (b : Bool). b || has_number j ns) (none_first (m == j) (has_number j (ns ++ n ∷ [])) none) ∙ rest.0, rest.1)

one_behind : (n j : ℕ) → n ≤ j → (n == j) ≡ false → suc n ≤ j
one_behind n j less isnt = grind (arith, nat_tests, less, isnt)

out_of_places : (n j : ℕ) → has_number j (places n) ≡ false → n ≤ j
out_of_places zero j none = omega arith
out_of_places (suc n) j none =
    let both : (has_number j (places n) ≡ false) × ((n == j) ≡ false) = joined_none j (places n) n none in
    one_behind n j (out_of_places n j both.0) both.1

pub all_awake : AllAreAwake
all_awake p awake = record {
  order = subst (λ (ns : List ℕ). AreGiven 0 (length p.seats.items) ns) (sym awake) (given_places (length p.seats.items));
  others = λ j seat here none. absurd (beyond j seat here (out_of_places (length p.seats.items) j (ap (λ (ns : List ℕ). has_number j ns) (sym awake) ∙ none)));
}
  where
    beyond : (j : ℕ) (seat : Seat) → slice_get p.seats.items j ≡ Some seat → length p.seats.items ≤ j → ⊥
    beyond j seat here past = absurd (omega (arith, slice_get_within p.seats.items j seat here, past))
