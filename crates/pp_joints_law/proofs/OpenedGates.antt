-- Stray gates of an entry are closed run by run: each run may be closed as the law has it, and behind the last none is left.
use Rattle.std.proofs.Common.{◌≡◌, ◌≢◌, ◌⊎◌, ⊎_elim, refl, sym, subst, ap, ◌∙◌, ℕ, zero, suc, ◌+◌, ◌-◌, ◌<◌, ◌≤◌, ◌==◌, nat_lt, nat_le, Bool, true, false, not, ◌&&◌, cond, List, [], ◌∷◌, length, take, drop, get_or, replicate, Some, length-drop, arith}
use Rattle.std.proofs.Math.ListN.{length-replicate}
use Rattle.std.proofs.lemmas.Bool.Decides.{nat_tests}
use Rattle.std.proofs.lemmas.List.{get_or-drop, get_or-take, get_or_default, length-take-le}
use Rattle.std.proofs.lemmas.List.Folds.{list_any_none}
use Rattle.std.specs.List.{list_all, list_any}
use Rattle.pp_entry.specs.Gates.{leading_open}
use Rattle.pp_entry.specs.Texts.{chunks_of}
use Rattle.pp_gate.proofs.GateLemmas.{opens_at_least, opens_at_most}
use Rattle.pp_gate.proofs.PlaceLemmas.{gates_below}
use Rattle.pp_gate.proofs.SealLemmas.{gate_same}
use Rattle.pp_gate.specs.Files.{gate, open_gates}
use Rattle.pp_law.specs.Lists.{Bytes}
use Rattle.pp_law.specs.Repairs.{is_open_gate}
use Rattle.pp_laws.proofs.Tests.{same_number}
use Rattle.pp_obeys.proofs.Silent.{both_hold}
use Rattle.pp_recover.proofs.RowLemmas.{both_true}
use Rattle.pp_recover.proofs.ShutLemmas.{ShutTo, first, first_is, first_open, first_within, gate_is, leads_open, long, open_more, open_none, open_within, shut_pass, shut_run, shut_start, whole}
use Rattle.pp_recover.specs.Closing.{begins, gates_in, open_from}
use Rattle.pp_recover.specs.Image.{entry_in}
use Rattle.pp_store.specs.Kept.{Kept}
use Rattle.pp_world.specs.Disk.{splice}

-- ---- tests

all_at : (p : ℕ → Bool) (xs : List ℕ) → ((k : ℕ) → k < length xs → p (get_or xs k 0) ≡ true) → list_all p xs ≡ true
all_at p [] each = refl
all_at p (x ∷ xs) each = both_hold (p x) (list_all p xs) (each 0 (omega arith)) (all_at p xs (λ k lt. each (suc k) (omega (arith, lt))))

pub all_shut : (count : ℕ) → list_all (λ b. b == 0) (replicate count 0) ≡ true
all_shut zero = refl
all_shut (suc count) = all_shut count

one_of : (x : ℕ) → (x == 1) ≡ true → x ≡ 1
one_of x is = same_number x 1 is

one_test : (x : ℕ) → x ≡ 1 → (x == 1) ≡ true
one_test x is = ap (λ (y : ℕ). y == 1) is

not_one : (x : ℕ) → x ≢ 1 → (x == 1) ≡ false
not_one x differs = by (x == 1) refl
  where
    by : (b : Bool) → (x == 1) ≡ b → b ≡ false
    by true is = absurd (differs (same_number x 1 is))
    by false is = refl

is_not : (x : ℕ) → (x == 1) ≡ false → x ≢ 1
is_not x differs is = absurd (let both : true ≡ false = sym (one_test x is) ∙ differs in cc both)

less : (a b : ℕ) → a < b → nat_lt a b ≡ true
less a b lt = grind (arith, nat_tests)

no_more : (a b : ℕ) → a ≤ b → nat_le a b ≡ true
no_more a b le = grind (arith, nat_tests)

split : (a b : ℕ) → (a < b) ⊎ (b ≤ a)
split a b = grind arith

all_but : (a b c : Bool) → a ≡ true → b ≡ true → ((a && b) && not c) ≡ false → c ≡ true
all_but true true true p q is = refl
all_but true true false p q is = absurd (cc is)
all_but true false c p q is = absurd (cc q)
all_but false b c p q is = absurd (cc p)

-- of these gates (`are_strays` of the law)
abbrev pub strays_in : Bytes → ℕ → ℕ → Bool
strays_in gates at count = nat_lt (8192 + leading_open gates) at && nat_le (at + count) (8192 + length gates) && list_all is_open_gate (take count (drop (at - 8192) gates))

-- ---- of one entry

module _ (name file : Bytes) (kept : Kept) (is : entry_in name file ≡ Some kept) where
  abbrev its_length : ℕ
  its_length = kept.entry.version.length

  abbrev its_gates : Bytes
  its_gates = gates_in its_length file

  abbrev lead : ℕ
  lead = first name file kept is

  -- whether the gate before is open, or there is none
  abbrev before_open : ℕ → Bool
  before_open zero = true
  before_open (suc j) = get_or its_gates j 0 == 1

  -- how far the gates are closed once those before were passed over: a run is closed to its end
  abbrev pub closed_to : ℕ → ℕ
  closed_to i = cond (before_open i) (i + open_from its_gates i) i

  -- the gates are closed so far
  abbrev pub IsClosed : ℕ → Bytes → Type 0
  IsClosed i now = ShutTo name file kept is (closed_to i) now

  closed_next : (i : ℕ) (b : Bool) → (get_or its_gates i 0 == 1) ≡ b → closed_to (i + 1) ≡ cond b ((i + 1) + open_from its_gates (i + 1)) (i + 1)
  closed_next i b so =
      let one : i + 1 ≡ suc i = omega arith in
      ap (λ (k : ℕ). closed_to k) one ∙ ap (λ (t : Bool). cond t (suc i + open_from its_gates (suc i)) (suc i)) so ∙ ap (λ (k : ℕ). cond b (k + open_from its_gates k) k) (sym one)

  pub start_closed : IsClosed 0 file
  unfolding open_gates
  start_closed =
      let none : 0 + open_from its_gates 0 ≡ open_from its_gates 0 = omega arith in
      subst (λ (k : ℕ). ShutTo name file kept is k file) (sym (none ∙ first_is name file kept is)) (shut_start name file kept is)

  -- where a run begins
  begins_is : (i : ℕ) → begins its_gates i ≡ true → (get_or its_gates i 0 ≡ 1) × (before_open i ≡ false) × (1 ≤ i)
  begins_is zero so = absurd (cc so)
  begins_is (suc j) so =
      let outer = both_true (nat_lt 0 (suc j) && (get_or its_gates (suc j) 0 == 1)) (not (get_or its_gates (suc j - 1) 0 == 1)) so in
      let inner = both_true (nat_lt 0 (suc j)) (get_or its_gates (suc j) 0 == 1) outer.0 in
      let back : suc j - 1 ≡ j = omega arith in
      (one_of (get_or its_gates (suc j) 0) inner.1, flip (get_or its_gates j 0 == 1) (subst (λ (k : ℕ). not (get_or its_gates k 0 == 1) ≡ true) back outer.1), omega arith)
    where
      flip : (b : Bool) → not b ≡ true → b ≡ false
      flip true bad = absurd (cc bad)
      flip false isnt = refl

  begins_not : (i : ℕ) → begins its_gates i ≡ false → (get_or its_gates i 0 == 1) ≡ true → before_open i ≡ true
  begins_not zero so one = refl
  begins_not (suc j) so one =
      let back : suc j - 1 ≡ j = omega arith in
      all_but (nat_lt 0 (suc j)) (get_or its_gates (suc j) 0 == 1) (get_or its_gates j 0 == 1) (some j) one
      (sym (ap (λ (k : ℕ). (nat_lt 0 (suc j) && (get_or its_gates (suc j) 0 == 1)) && not (get_or its_gates k 0 == 1)) back) ∙ so)
    where
      some : (j : ℕ) → nat_lt 0 (suc j) ≡ true
      some j = grind (arith, nat_tests)

  behind_shut : (i : ℕ) → before_open i ≡ false → i ≤ chunks_of its_length → lead < i
  behind_shut zero so le = absurd (cc so)
  behind_shut (suc j) so le = ⊎_elim
      (λ (lt : j < lead). absurd (let bad : true ≡ false = sym (one_test (get_or its_gates j 0) (sym (gate_is name file kept is j (omega (arith, le))) ∙ first_open name file kept is j lt)) ∙ so in cc bad))
      (λ (ge : lead ≤ j). omega (arith, ge))
      (split j lead)

  at_place : (b : Bool) (i : ℕ) → open_from its_gates i ≡ 0 → cond b (i + open_from its_gates i) i ≡ i
  at_place true i none = omega (arith, none)
  at_place false i none = refl

  -- a gate that begins no run is passed over
  pub passed_over : (i : ℕ) (now : Bytes) → i < chunks_of its_length → begins its_gates i ≡ false → IsClosed i now → IsClosed (i + 1) now
  passed_over i now lt not_run shut = by (get_or its_gates i 0 == 1) refl
    where
      by : (b : Bool) → (get_or its_gates i 0 == 1) ≡ b → IsClosed (i + 1) now
      by true so =
          let from : closed_to i ≡ i + open_from its_gates i = ap (λ (t : Bool). cond t (i + open_from its_gates i) i) (begins_not i not_run so) in
          let to : closed_to (i + 1) ≡ (i + 1) + open_from its_gates (i + 1) = closed_next i true so in
          let more : open_from its_gates i ≡ 1 + open_from its_gates (i + 1) = open_more its_gates i (omega (arith, lt, whole name file kept is)) (one_of (get_or its_gates i 0) so) in
          subst (λ (k : ℕ). ShutTo name file kept is k now) (omega (arith, from, to, more)) shut
      by false so =
          let none : open_from its_gates i ≡ 0 = open_none its_gates i (omega (arith, lt, whole name file kept is)) (is_not (get_or its_gates i 0) so) in
          let from : closed_to i ≡ i = at_place (before_open i) i none in
          let to : closed_to (i + 1) ≡ i + 1 = closed_next i false so in
          let here : ShutTo name file kept is i now = subst (λ (k : ℕ). ShutTo name file kept is k now) from shut in
          subst (λ (k : ℕ). ShutTo name file kept is k now) (sym to) (shut_pass name file kept is i now here lt (is_not (get_or its_gates i 0) so))

  -- ---- the gates of a file that is closed so far

  size_now : (now : Bytes) → length now ≡ length file → length (gates_in its_length now) ≡ chunks_of its_length
  size_now now size = length-take-le (chunks_of its_length) (drop 8192 now) (omega (arith, length-drop 8192 now, size, long name file kept is, gates_below its_length))

  gate_now : (now : Bytes) (i : ℕ) → i < chunks_of its_length → get_or (gates_in its_length now) i 0 ≡ gate now i
  unfolding gate
  gate_now now i lt = get_or-take (chunks_of its_length) (drop 8192 now) i 0 lt ∙ get_or-drop 8192 now i 0

  leads_no_more : (now : Bytes) → (lead < chunks_of its_length → gate now lead ≢ 1) → leading_open (gates_in its_length now) ≤ lead
  unfolding open_gates
  leads_no_more now next = opens_at_most its_length lead now (first_within name file kept is) next

  leads_no_less : (now : Bytes) → ((i : ℕ) → i < lead → gate now i ≡ 1) → lead ≤ leading_open (gates_in its_length now)
  unfolding open_gates
  leads_no_less now all = opens_at_least its_length lead now (first_within name file kept is) all

  -- ---- a run

  module _ (i : ℕ) (now : Bytes) (lt : i < chunks_of its_length) (run : begins its_gates i ≡ true) (shut : IsClosed i now) where
    here : ShutTo name file kept is i now
    here = let w = begins_is i run in subst (λ (k : ℕ). ShutTo name file kept is k now) (ap (λ (t : Bool). cond t (i + open_from its_gates i) i) w.1) shut

    behind : lead < i
    behind = behind_shut i (begins_is i run).1 (omega (arith, lt))

    fits : i + open_from its_gates i ≤ chunks_of its_length
    fits = omega (arith, open_within its_gates i (omega (arith, lt, whole name file kept is)), whole name file kept is)

    abbrev zeros : Bytes
    zeros = replicate (open_from its_gates i) 0

    one_more : open_from its_gates i ≡ 1 + open_from its_gates (i + 1)
    one_more = open_more its_gates i (omega (arith, lt, whole name file kept is)) (begins_is i run).0

    pub run_some : nat_lt 0 (length zeros) ≡ true
    run_some = less 0 (length zeros) (omega (arith, one_more, length-replicate {A = ℕ} (open_from its_gates i) 0))

    pub run_closed : IsClosed (i + 1) (splice (8192 + i) zeros now)
    run_closed =
        let to : closed_to (i + 1) ≡ (i + 1) + open_from its_gates (i + 1) = closed_next i true (one_test (get_or its_gates i 0) (begins_is i run).0) in
        let same : i + open_from its_gates i ≡ closed_to (i + 1) = omega (arith, to, one_more) in
        subst (λ (k : ℕ). ShutTo name file kept is k (splice (8192 + i) zeros now)) same (shut_run name file kept is i (open_from its_gates i) now here behind fits)

    open_at : (k : ℕ) → k < open_from its_gates i → get_or (gates_in its_length now) (i + k) 0 ≡ 1
    open_at k less_so =
        let within : i + k < chunks_of its_length = omega (arith, less_so, fits) in
        gate_now now (i + k) within ∙ here.as_read (i + k) (omega arith) within ∙ gate_is name file kept is (i + k) within ∙ sym (get_or-drop i its_gates k 0) ∙ leads_open (drop i its_gates) k less_so

    count_is : length zeros ≡ open_from its_gates i
    count_is = length-replicate {A = ℕ} (open_from its_gates i) 0

    taken : (g : Bytes) → length g ≡ chunks_of its_length → length (take (length zeros) (drop i g)) ≡ open_from its_gates i
    taken g size = length-take-le (length zeros) (drop i g) (omega (arith, size, fits, count_is, length-drop i g)) ∙ count_is

    all_open : list_all is_open_gate (take (length zeros) (drop i (gates_in its_length now))) ≡ true
    all_open = all_at is_open_gate (take (length zeros) (drop i (gates_in its_length now))) (λ k less_so.
        let small : k < open_from its_gates i = omega (arith, less_so, taken (gates_in its_length now) (size_now now here.size)) in
        one_test (get_or (take (length zeros) (drop i (gates_in its_length now))) k 0)
        (get_or-take (length zeros) (drop i (gates_in its_length now)) k 0 (omega (arith, small, count_is)) ∙ get_or-drop i (gates_in its_length now) k 0 ∙ open_at k small))

    pub run_strays : strays_in (gates_in its_length now) (8192 + i) (length zeros) ≡ true
    run_strays =
        let least : leading_open (gates_in its_length now) ≤ lead = leads_no_more now (λ there. here.closed lead (omega arith) behind there) in
        let place : (8192 + i) - 8192 ≡ i = omega arith in
        both_hold (nat_lt (8192 + leading_open (gates_in its_length now)) (8192 + i) && nat_le ((8192 + i) + length zeros) (8192 + length (gates_in its_length now))) _
        (both_hold (nat_lt (8192 + leading_open (gates_in its_length now)) (8192 + i)) _
        (less (8192 + leading_open (gates_in its_length now)) (8192 + i) (omega (arith, least, behind)))
        (no_more ((8192 + i) + length zeros) (8192 + length (gates_in its_length now)) (omega (arith, fits, count_is, size_now now here.size))))
        (ap (λ (k : ℕ). list_all is_open_gate (take (length zeros) (drop k (gates_in its_length now)))) place ∙ all_open)

  -- ---- none is left

  pub none_stray : (now : Bytes) → length now ≡ length file → ((o : ℕ) → o < length file → o < 8192 + lead → get_or now o 0 ≡ get_or file o 0) → ((i : ℕ) → lead ≤ i → i < chunks_of its_length → gate now i ≢ 1)
      → list_any is_open_gate (drop (leading_open (gates_in its_length now)) (gates_in its_length now)) ≡ false
  none_stray now size low closed = list_any_none is_open_gate (drop (leading_open g) g) (λ k d less_so. by k d (omega (arith, less_so, length-drop (leading_open g) g)))
    where
      g : Bytes
      g = gates_in its_length now

      least : lead ≤ leading_open g
      least = leads_no_less now (λ i lt. gate_same now file i (low (8192 + i) (omega (arith, lt, long name file kept is, gates_below its_length, first_within name file kept is)) (omega (arith, lt))) ∙ first_open name file kept is i lt)

      by : (k d : ℕ) → leading_open g + k < length g → is_open_gate (get_or (drop (leading_open g) g) k d) ≡ false
      by k d less_so =
          let within : leading_open g + k < chunks_of its_length = omega (arith, less_so, size_now now size) in
          ap is_open_gate (get_or-drop (leading_open g) g k d ∙ get_or_default g (leading_open g + k) d 0 less_so ∙ gate_now now (leading_open g + k) within)
          ∙ not_one (gate now (leading_open g + k)) (closed (leading_open g + k) (omega (arith, least)) within)

  over : (i : ℕ) (b : Bool) → i ≤ cond b (i + open_from its_gates i) i
  over i true = omega arith
  over i false = omega arith

  pub all_closed : (now : Bytes) → IsClosed (chunks_of its_length) now → list_any is_open_gate (drop (leading_open (gates_in its_length now)) (gates_in its_length now)) ≡ false
  all_closed now shut = none_stray now shut.size shut.low (λ i from lt. shut.closed i from (omega (arith, lt, over (chunks_of its_length) (before_open (chunks_of its_length)))) lt)
