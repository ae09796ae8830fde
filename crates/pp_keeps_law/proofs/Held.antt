-- How far a body is in memory without a hole, offset by offset as in the cache and chunk by chunk as in the law, and its bytes.
use Rattle.std.proofs.Common.{◌≡◌, refl, sym, ap, ap₂, ◌∙◌, ◌<◌, ◌≤◌, ℕ, zero, suc, ◌+◌, ◌-◌, ◌*◌, ◌/◌, ◌%◌, ◌==◌, Bool, true, false, not, ◌&&◌, ◌||◌, cond, List, [], ◌++◌, length, take, drop, append_assoc, length-append, arith}
use Rattle.std.proofs.Math.Seq.{take-append_seam}
use Rattle.std.proofs.lemmas.Bool.Decides.{nat_tests}
use Rattle.std.proofs.lemmas.List.{append-nil}
use Rattle.std.specs.Prelude.{min, nat_le, nat_lt}
use Rattle.pp_cache.specs.Holes.{first_from, missing_from}
use Rattle.pp_cache.specs.Memory.{is_in_memory}
use Rattle.pp_client.specs.Replies.{run_at_hand}
use Rattle.pp_holes.specs.Places.{Chunk, bytes_at}
use Rattle.pp_law.specs.Chunks.{chunk_bytes}
use Rattle.pp_law.specs.Lists.{Bytes}
use Rattle.pp_law.specs.State.{Chunk as Front}
use Rattle.pp_law.specs.Store.{is_whole_chunk, run_bytes, whole_run}
use Rattle.pp_laws.proofs.Tests.{below, number_same, same_number, second_holds}
use Rattle.pp_laws_crash.proofs.RunBytes.{AreWhole, IsWhole, is_whole, run_most, run_whole}
use Rattle.pp_obeys.proofs.Silent.{both_hold}

-- ---- tests of numbers

pub less_true : (m n : ℕ) → m < n → nat_lt m n ≡ true
less_true m n is = grind (arith, nat_tests)

pub less_false : (m n : ℕ) → nat_lt m n ≡ false → n ≤ m
less_false m n is = grind (arith, nat_tests)

pub not_less : (m n : ℕ) → n ≤ m → nat_lt m n ≡ false
not_less m n is = grind (arith, nat_tests)

pub up_to : (m n : ℕ) → nat_le m n ≡ true → m ≤ n
up_to m n is = grind (arith, nat_tests)

pub up_to_true : (m n : ℕ) → m ≤ n → nat_le m n ≡ true
up_to_true m n is = grind (arith, nat_tests)

pub same_true : (m n : ℕ) → m ≡ n → (m == n) ≡ true
same_true m n is = ap (λ (k : ℕ). m == k) (sym is) ∙ number_same m

pub off : true ≡ false → ⊥
off is = cc is

-- ---- the first offset for which a test holds

first_least : (more at : ℕ) (is : ℕ → Bool) → at ≤ first_from more at is
first_least zero at is = omega arith
first_least (suc more) at is = by (is at) (first_least more (at + 1) is)
  where
    by : (b : Bool) → at + 1 ≤ first_from more (at + 1) is → at ≤ cond b at (first_from more (at + 1) is)
    by true le = omega arith
    by false le = omega (arith, le)

-- where it holds for none of so many
first_above : (more at : ℕ) (is : ℕ → Bool) (k : ℕ) → k ≤ more → ((o : ℕ) → at ≤ o → o < at + k → is o ≡ false) → at + k ≤ first_from more at is
first_above zero at is k le none = omega (arith, le)
first_above (suc more) at is zero le none = omega (arith, first_least (suc more) at is)
first_above (suc more) at is (suc k) le none =
    let rest : (at + 1) + k ≤ first_from more (at + 1) is = first_above more (at + 1) is k (omega (arith, le)) (λ o above under. none o (omega (arith, above)) (omega (arith, under))) in
    let here : first_from (suc more) at is ≡ first_from more (at + 1) is = ap (λ (b : Bool). cond b at (first_from more (at + 1) is)) (none at (omega arith) (omega arith)) in
    omega (arith, rest, here)

-- and it holds for none before it
first_below : (more at : ℕ) (is : ℕ → Bool) (o : ℕ) → at ≤ o → o < first_from more at is → is o ≡ false
first_below zero at is o above under = absurd (omega (arith, above, under))
first_below (suc more) at is o above under = by (is at) refl under (first_below more (at + 1) is o)
  where
    by : (b : Bool) → is at ≡ b → o < cond b at (first_from more (at + 1) is) → (at + 1 ≤ o → o < first_from more (at + 1) is → is o ≡ false) → is o ≡ false
    by true here less rest = absurd (omega (arith, above, less))
    by false here less rest = split (nat_lt at o) refl
      where
        split : (b : Bool) → nat_lt at o ≡ b → is o ≡ false
        split true later = rest (omega (arith, below at o later)) less
        split false none = let same : at ≡ o = omega (arith, above, less_false at o none) in ap is (sym same) ∙ here

-- ---- the chunks of a body

module _ (n slot id : ℕ) (cs : List Chunk) (ds : List Front) (same : (i : ℕ) → bytes_at (slot, i) cs ≡ chunk_bytes id i ds) (fronts : (i : ℕ) → length (bytes_at (slot, i) cs) ≤ 4096) (ends : (o : ℕ) → n ≤ o → is_in_memory slot o cs ≡ false) where
  -- a byte of a chunk
  in_chunk : (i o : ℕ) → o / 4096 ≡ i → is_in_memory slot o cs ≡ nat_lt (o % 4096) (length (bytes_at (slot, i) cs))
  in_chunk i o is = ap (λ (k : ℕ). nat_lt (o % 4096) (length (bytes_at (slot, k) cs))) is

  its_length : (i : ℕ) → length (bytes_at (slot, i) cs) ≡ length (chunk_bytes id i ds)
  its_length i = ap (λ (bytes : Bytes). length bytes) (same i)

  -- each byte of a whole chunk is there
  whole_held : (i o : ℕ) → is_whole_chunk n id ds i ≡ true → 4096 * i ≤ o → o < 4096 * (i + 1) → o < n → is_in_memory slot o cs ≡ true
  whole_held i o whole above under inside =
      let w : IsWhole n id ds i = is_whole n id ds i whole in
      let place : o / 4096 ≡ i = omega (arith, above, under) in
      let long : o % 4096 < length (bytes_at (slot, i) cs) = omega (arith, its_length i, w.size, above, under, inside) in
      in_chunk i o place ∙ less_true (o % 4096) (length (bytes_at (slot, i) cs)) long

  -- and none is behind its end
  no_longer : (i : ℕ) → 4096 * i < n → length (bytes_at (slot, i) cs) ≤ n - 4096 * i
  no_longer i inside = by (nat_lt (n - 4096 * i) (length (bytes_at (slot, i) cs))) refl
    where
      by : (b : Bool) → nat_lt (n - 4096 * i) (length (bytes_at (slot, i) cs)) ≡ b → length (bytes_at (slot, i) cs) ≤ n - 4096 * i
      by true longer =
          let more : n - 4096 * i < length (bytes_at (slot, i) cs) = below (n - 4096 * i) (length (bytes_at (slot, i) cs)) longer in
          let place : n / 4096 ≡ i = omega (arith, more, fronts i, inside) in
          let within : n % 4096 < length (bytes_at (slot, i) cs) = omega (arith, more, fronts i, inside) in
          absurd (off (sym (in_chunk i n place ∙ less_true (n % 4096) (length (bytes_at (slot, i) cs)) within) ∙ ends n (omega arith)))
      by false is = less_false (n - 4096 * i) (length (bytes_at (slot, i) cs)) is

  -- where each byte is there, the chunk is whole
  held_whole : (i : ℕ) → 4096 * i < n → ((o : ℕ) → 4096 * i ≤ o → o < 4096 * (i + 1) → o < n → is_in_memory slot o cs ≡ true) → is_whole_chunk n id ds i ≡ true
  held_whole i inside each =
      let last : ℕ = 4096 * i + (min 4096 (n - 4096 * i) - 1) in
      let there : is_in_memory slot last cs ≡ true = each last (omega arith) (omega (arith, inside)) (omega (arith, inside)) in
      let place : last / 4096 ≡ i = omega (arith, inside) in
      let long : last % 4096 < length (bytes_at (slot, i) cs) = below (last % 4096) (length (bytes_at (slot, i) cs)) (sym (in_chunk i last place) ∙ there) in
      let size : length (chunk_bytes id i ds) ≡ min 4096 (n - i * 4096) = omega (arith, its_length i, long, fronts i, no_longer i inside, inside) in
      both_hold (nat_lt (i * 4096) n) _ (less_true (i * 4096) n (omega (arith, inside))) (same_true (length (chunk_bytes id i ds)) (min 4096 (n - i * 4096)) size)

  all_held : (i count o : ℕ) → AreWhole n id ds i count → 4096 * i ≤ o → o < 4096 * (i + count) → o < n → is_in_memory slot o cs ≡ true
  all_held i zero o whole above under inside = absurd (omega (arith, above, under))
  all_held i (suc count) o whole above under inside = by (nat_lt o (4096 * (i + 1))) refl (λ later. all_held (i + 1) count o whole.1 later (omega (arith, under)) inside)
    where
      by : (b : Bool) → nat_lt o (4096 * (i + 1)) ≡ b → (4096 * (i + 1) ≤ o → is_in_memory slot o cs ≡ true) → is_in_memory slot o cs ≡ true
      by true is rest = whole_held i o whole.0 above (below o (4096 * (i + 1)) is) inside
      by false is rest = rest (less_false o (4096 * (i + 1)) is)

  -- a run that is shorter than it may be ends before a chunk that is not whole
  run_stops : (most i : ℕ) → whole_run most n id ds i < most → is_whole_chunk n id ds (i + whole_run most n id ds i) ≡ false
  run_stops zero i less = absurd (omega (arith, less))
  run_stops (suc most) i less = by (is_whole_chunk n id ds i) refl less (run_stops most (i + 1))
    where
      by : (b : Bool) → is_whole_chunk n id ds i ≡ b → (elim b as (λ c. ℕ) [ true ↦ 1 + whole_run most n id ds (i + 1) | false ↦ 0 ]) < suc most → (whole_run most n id ds (i + 1) < most → is_whole_chunk n id ds (i + 1 + whole_run most n id ds (i + 1)) ≡ false)
          → is_whole_chunk n id ds (i + (elim b as (λ c. ℕ) [ true ↦ 1 + whole_run most n id ds (i + 1) | false ↦ 0 ])) ≡ false
      by true is few more = let on : i + 1 + whole_run most n id ds (i + 1) ≡ i + (1 + whole_run most n id ds (i + 1)) = omega arith in ap (λ (k : ℕ). is_whole_chunk n id ds k) (sym on) ∙ more (omega (arith, few))
      by false is few more = let on : i + 0 ≡ i = omega arith in ap (λ (k : ℕ). is_whole_chunk n id ds k) on ∙ is

  -- ---- a run that is full

  module _ (most j : ℕ) (some : 1 ≤ most) (inside : 4096 * j < n) where
    abbrev from : ℕ
    from = 4096 * j

    abbrev run : ℕ
    run = min (4096 * most) (n - from)

    abbrev count : ℕ
    count = whole_run most n id ds j

    abbrev held : ℕ
    held = missing_from slot n from cs - from

    abbrev is_full : Bool
    is_full = nat_lt 0 count && ((count == most) || (min n (from + count * 4096) == n))

    unless_by : (b : Bool) → not b ≡ false → b ≡ true
    unless_by true is = refl
    unless_by false is = absurd (off is)

    -- as the cache has it
    each_held : run ≤ held → (o : ℕ) → from ≤ o → o < from + run → is_in_memory slot o cs ≡ true
    each_held long o above under = unless_by (is_in_memory slot o cs) (first_below (n - from) (min from n) (λ k. not (is_in_memory slot k cs)) o (omega (arith, above)) (omega (arith, under, long)))

    reaches : ((o : ℕ) → from ≤ o → o < from + run → is_in_memory slot o cs ≡ true) → run ≤ held
    reaches each =
        let far : min from n + run ≤ missing_from slot n from cs = first_above (n - from) (min from n) (λ k. not (is_in_memory slot k cs)) run (omega arith) (λ o above under. ap not (each o (omega (arith, above, inside)) (omega (arith, under)))) in
        omega (arith, far, inside)

    some_whole : run ≤ held → count < most → n ≤ 4096 * (j + count)
    some_whole long few = by (nat_lt (4096 * (j + count)) n) refl
      where
        by : (b : Bool) → nat_lt (4096 * (j + count)) n ≡ b → n ≤ 4096 * (j + count)
        by true is =
            let under : 4096 * (j + count) < n = below (4096 * (j + count)) n is in
            absurd (off (sym (held_whole (j + count) under (λ o above less end. each_held long o (omega (arith, above)) (omega (arith, less, end, few)))) ∙ run_stops most j few))
        by false is = less_false (4096 * (j + count)) n is

    or_first : (a b : Bool) → a ≡ true → (a || b) ≡ true
    or_first true b is = refl
    or_first false b is = absurd (off (sym is))

    or_second : (a b : Bool) → b ≡ true → (a || b) ≡ true
    or_second true b is = refl
    or_second false b is = is

    pub full_of : run ≤ held → is_full ≡ true
    full_of long = by (nat_lt count most) refl
      where
        by : (b : Bool) → nat_lt count most ≡ b → is_full ≡ true
        by true is =
            let all : n ≤ 4096 * (j + count) = some_whole long (below count most is) in
            both_hold (nat_lt 0 count) _ (less_true 0 count (omega (arith, all, inside))) (or_second (count == most) _ (same_true (min n (from + count * 4096)) n (omega (arith, all))))
        by false is =
            let most_is : count ≡ most = omega (arith, run_most most n id ds j, less_false count most is) in
            both_hold (nat_lt 0 count) _ (less_true 0 count (omega (arith, most_is, some))) (or_first (count == most) _ (same_true count most most_is))

    either : (P : Type 0) (a b : Bool) → (a || b) ≡ true → (a ≡ true → P) → (b ≡ true → P) → P
    either P true b is one two = one refl
    either P false b is one two = two is

    -- how long it is then
    pub run_is : is_full ≡ true → run ≡ min n (from + count * 4096) - from
    run_is full =
        either (run ≡ min n (from + count * 4096) - from) (count == most) (min n (from + count * 4096) == n) (second_holds (nat_lt 0 count) _ full)
        (λ is. let most_is : count ≡ most = same_number count most is in omega (arith, most_is))
        (λ is. let end : min n (from + count * 4096) ≡ n = same_number (min n (from + count * 4096)) n is in omega (arith, end, run_most most n id ds j))

    pub held_of : is_full ≡ true → run ≤ held
    held_of full =
        let size : run ≡ min n (from + count * 4096) - from = run_is full in
        reaches (λ o above under. all_held j count o (run_whole most n id ds j) above (omega (arith, under, size)) (omega (arith, under)))

  -- ---- the bytes of whole chunks

  record IsFront (xs ys : Bytes) : Type 0 where
    rest : Bytes
    is : ys ≡ xs ++ rest

  hand_first : (fuel j : ℕ) → (b : Bool) → (length (bytes_at (slot, j) cs) == 4096) ≡ b
      → run_at_hand (suc fuel) slot (4096 * j) cs ≡ chunk_bytes id j ds ++ (elim b as (λ c. Bytes) [ true ↦ run_at_hand fuel slot (4096 * (j + 1)) cs | false ↦ [] ])
  unfolding run_at_hand
  hand_first fuel j b is =
      let place : 4096 * j / 4096 ≡ j = omega arith in
      let start : 4096 * j % 4096 ≡ 0 = omega arith in
      let next : (j + 1) * 4096 ≡ 4096 * (j + 1) = omega arith in
      ap₂ (λ (a i : ℕ). drop a (bytes_at (slot, i) cs) ++ (elim (length (bytes_at (slot, i) cs) == 4096) as (λ c. Bytes) [ true ↦ run_at_hand fuel slot ((i + 1) * 4096) cs | false ↦ [] ])) start place
      ∙ ap (λ (c : Bool). bytes_at (slot, j) cs ++ (elim c as (λ d. Bytes) [ true ↦ run_at_hand fuel slot ((j + 1) * 4096) cs | false ↦ [] ])) is
      ∙ ap₂ (λ (bytes : Bytes) (at : ℕ). bytes ++ (elim b as (λ d. Bytes) [ true ↦ run_at_hand fuel slot at cs | false ↦ [] ])) (same j) next

  front_of : (count fuel j : ℕ) → count ≤ fuel → AreWhole n id ds j count → IsFront (run_bytes count id ds j) (run_at_hand fuel slot (4096 * j) cs)
  front_of zero fuel j few whole = record { rest = run_at_hand fuel slot (4096 * j) cs; is = refl }
  front_of (suc count) zero j few whole = absurd (omega (arith, few))
  front_of (suc zero) (suc fuel) j few whole =
      let b : Bool = length (bytes_at (slot, j) cs) == 4096 in
      let more : Bytes = elim b as (λ c. Bytes) [ true ↦ run_at_hand fuel slot (4096 * (j + 1)) cs | false ↦ [] ] in
      record { rest = more; is = hand_first fuel j b refl ∙ ap (λ (bytes : Bytes). bytes ++ more) (sym (append-nil (chunk_bytes id j ds))) }
  front_of (suc (suc count)) (suc fuel) j few whole =
      let one : IsWhole n id ds j = is_whole n id ds j whole.0 in
      let two : IsWhole n id ds (j + 1) = is_whole n id ds (j + 1) whole.1.0 in
      let size : length (bytes_at (slot, j) cs) ≡ 4096 = omega (arith, its_length j, one.size, two.inside) in
      let later : IsFront (run_bytes (suc count) id ds (j + 1)) (run_at_hand fuel slot (4096 * (j + 1)) cs) = front_of (suc count) fuel (j + 1) (omega (arith, few)) whole.1 in
      record {
        rest = later.rest;
        is = hand_first fuel j true (same_true (length (bytes_at (slot, j) cs)) 4096 size)
            ∙ ap (λ (bytes : Bytes). chunk_bytes id j ds ++ bytes) later.is
            ∙ sym (append_assoc (chunk_bytes id j ds) (run_bytes (suc count) id ds (j + 1)) later.rest);
      }

  -- those at hand are those of the run
  pub record IsAtHand (count j : ℕ) : Type 0 where
    pub long : length (run_bytes count id ds j) ≤ length (run_at_hand 64 slot (4096 * j) cs)
    pub bytes : take (length (run_bytes count id ds j)) (run_at_hand 64 slot (4096 * j) cs) ≡ run_bytes count id ds j

  pub at_hand : (count j : ℕ) → count ≤ 64 → AreWhole n id ds j count → IsAtHand count j
  at_hand count j few whole =
      let front : IsFront (run_bytes count id ds j) (run_at_hand 64 slot (4096 * j) cs) = front_of count 64 j few whole in
      let more : length (run_at_hand 64 slot (4096 * j) cs) ≡ length (run_bytes count id ds j) + length front.rest = ap (λ (bytes : Bytes). length bytes) front.is ∙ length-append (run_bytes count id ds j) front.rest in
      record {
        long = omega (arith, more);
        bytes = ap (λ (bytes : Bytes). take (length (run_bytes count id ds j)) bytes) front.is ∙ take-append_seam (run_bytes count id ds j) front.rest;
      }
