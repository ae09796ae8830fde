-- Where few rows came to the end of the order, and few were forgotten, one of all others may leave memory, and that one is the first that is idle.
use Rattle.std.proofs.Common.{◌≡◌, ◌≤◌, ◌<◌, refl, sym, subst, ap, ◌∙◌, ℕ, ◌+◌, Bool, true, false, not, ◌&&◌, cond, filter, find, length, map, List, [], ◌∷◌, ◌++◌, nat_le, nat_lt, Option, Some, None, inl, inr, length-append, arith}
use Rattle.std.proofs.lemmas.Bool.Decides.{nat_tests}
use Rattle.std.proofs.lemmas.List.Elements.{filter-append}
use Rattle.std.proofs.lemmas.List.Sums.{length-filter as counts-as}
use Rattle.std.specs.List.{list_any}
use Rattle.pp_law.specs.State.{State, Conn, Instance}
use Rattle.pp_law.specs.Table.{idle_row, is_bound_to, is_followed, is_idle_row, rows}
use Rattle.pp_laws.proofs.Lists.{in_find, in_front}
use Rattle.pp_laws.proofs.Sound.{instance_id}
use Rattle.pp_laws.specs.Numbers.{AreDistinct}
use Rattle.pp_laws.specs.Runs.{IsIn}
use Rattle.pp_laws_bounds.proofs.Counts.{length-filter}
use Rattle.pp_laws_bounds.proofs.Small.{As, FactsOf, is_row}
use Rattle.pp_reads_law.specs.Rows.{HasWay, MayMakeRoom}
use Rattle.pp_comes_law.proofs.BusyRows.{rows_busy}
use Rattle.pp_comes_law.proofs.NotedRows.{Few}

-- ---- the front of a list

differ_front : (xs ys : List Instance) → AreDistinct (map instance_id (xs ++ ys)) → AreDistinct (map instance_id xs)
differ_front [] ys differ = tt
differ_front (x ∷ xs) ys differ = (λ i. differ.0 (among xs i), differ_front xs ys differ.1)
  where
    among : (zs : List Instance) → IsIn x.id (map instance_id zs) → IsIn x.id (map instance_id (zs ++ ys))
    among [] i = absurd i
    among (z ∷ zs) (inl e) = inl e
    among (z ∷ zs) (inr i) = inr (among zs i)

find_front : (p : Instance → Bool) (xs ys : List Instance) (x : Instance) → find p xs ≡ Some x → find p (xs ++ ys) ≡ Some x
find_front p [] ys x found = absurd (cc found)
find_front p (y ∷ xs) ys x found = by (p y) refl found (λ rest. find_front p xs ys x rest)
  where
    by : (b : Bool) → p y ≡ b → cond b (Some y) (find p xs) ≡ Some x → (find p xs ≡ Some x → find p (xs ++ ys) ≡ Some x) → cond b (Some y) (find p (xs ++ ys)) ≡ Some x
    by true is at rest = at
    by false is at rest = rest at

-- ---- one may leave

full : (m n : ℕ) → nat_lt m n ≡ false → n ≤ m
full m n is = grind (arith, nat_tests)

within : (m n : ℕ) → m < n → nat_le n m ≡ false
within m n lt = grind (arith, nat_tests)

no_longer : (m n : ℕ) → n ≤ m → nat_lt m n ≡ false
no_longer m n le = grind (arith, nat_tests)

pub has_way : {a : As} {l m : ℕ} {cs : List Conn} (s : State) → FactsOf a s → Few l m cs s → l ≤ 14 → m ≤ 14 → ((x : Instance) → idle_row s ≡ Some x → length x.key ≤ 8192) → MayMakeRoom s
has_way {a} {l} {m} s facts few short_l short_m short many = by (find (is_idle_row s) few.before) refl
  where
    front : State
    front = record s { instances = few.before }

    counted : rows s ≡ length (filter is_row few.before) + length (filter is_row few.behind)
    counted =
        sym (counts-as is_row s.instances)
        ∙ ap (λ (xs : List Instance). length (filter is_row xs)) few.is
        ∙ ap (λ (xs : List Instance). length xs) (filter-append is_row few.before few.behind)
        ∙ length-append (filter is_row few.before) (filter is_row few.behind)

    many_rows : 1024 ≤ rows s
    many_rows = full (rows s) 1024 many

    front_facts : FactsOf a front
    front_facts = record {
      said = facts.said;
      rests = facts.rests;
      awaits = facts.awaits;
      few_clients = facts.few_clients;
      few_bound = facts.few_bound;
      expected = facts.expected;
      few_rows = let all : length (filter is_row s.instances) ≤ 1024 = facts.few_rows in omega (arith, all, counted, counts-as is_row s.instances);
      differ = differ_front few.before few.behind (subst (λ (xs : List Instance). AreDistinct (map instance_id xs)) few.is facts.differ);
      given = λ x i. facts.given x (subst (λ (xs : List Instance). IsIn x xs) (sym few.is) (in_front x few.before few.behind i));
    }

    stands : (x : Instance) → is_idle_row s x ≡ true → x.is_retired ≡ false
    stands x is = at x.is_retired (is_followed s x.id) (list_any (is_bound_to x.id) s.exchanges) is
      where
        at : (out followed bound : Bool) → (not out && not followed && not bound) ≡ true → out ≡ false
        at true followed bound is = absurd (cc is)
        at false followed bound is = refl

    by : (o : Option Instance) → find (is_idle_row s) few.before ≡ o → HasWay s
    by None none =
        let busy : length (filter is_row few.before) ≤ 320 = rows_busy front front_facts none in
        absurd (omega (arith, busy, counted, many_rows, length-filter is_row few.behind, few.few, short_l))
    by (Some x) found =
        let there = in_find (is_idle_row s) x few.before found in
        let idle : idle_row s ≡ Some x = ap (λ (xs : List Instance). find (is_idle_row s) xs) few.is ∙ find_front (is_idle_row s) few.before few.behind x found in
        record {
          row = x;
          idle = idle;
          may = record {
            new = few.unnoted x there.0 (stands x there.1);
            few = within (length s.forgotten) 16 (omega (arith, few.noted, short_m));
            short = no_longer 8192 (length x.key) (short x idle);
          };
        }
