-- Exchanges have numbers of their own behind each change.
use Rattle.std.proofs.Common.{◌≡◌, ◌≤◌, ◌<◌, refl, sym, subst, ap, ◌∙◌, ℕ, ◌+◌, ◌==◌, nat_lt, Bool, true, false, cond, filter, find, length, List, [], ◌∷◌, ◌++◌, Option, Some, None, arith}
use Rattle.std.proofs.lemmas.Bool.Decides.{nat_tests}
use Rattle.std.specs.List.{list_any}
use Rattle.std.specs.Prelude.{count_by}
use Rattle.pp_cache_law.proofs.Numbers.{is_same}
use Rattle.pp_cache_law.proofs.PairLemmas.{count_first, count_joined}
use Rattle.pp_flow.specs.Changes.{Exchanges, changed, entered, entry_of, first_of, is_on, is_place, line_of, numbers, placed_on, unplaced, with_errand, without}
use Rattle.pp_flow.specs.Entries.{asking, begun_with, is_number, nobodys, with_place}
use Rattle.pp_flow.specs.declared.entry.Aim.{Aim}
use Rattle.pp_flow.specs.declared.entry.Entry.{Entry}
use Rattle.pp_flow.specs.declared.errand.Errand.{Errand}
use Rattle.pp_flow_law.proofs.Exchanges.{none_behind}
use Rattle.pp_cache_law.proofs.Finds.{none_found}
use Rattle.pp_cache_law.specs.Pairs.{AreBoth}
use Rattle.pp_flow_law.proofs.Entries.{count_changed, count_entered, count_without, count_without_else}
use Rattle.pp_state.proofs.NumbersLemmas.{Above, above_none, in_order, lower}
use Rattle.pp_law.specs.Connections.{exchange}
use Rattle.pp_law.specs.State.{Exchange as Known}
use Rattle.pp_grown_law.specs.Numbered.{AreNumbered, ShownOnesAreNumbered}

-- ---- in a form that each change keeps

abbrev count_in : ℕ → Exchanges → ℕ
count_in n f = count_by (is_number n) f.waiting + count_by (is_number n) f.placed

pub record Rise (f : Exchanges) : Type 0 where
  pub order : Above 0 (numbers f.waiting)
  pub once : (n : ℕ) → count_in n f ≤ 1
  pub given : (n : ℕ) → f.begun ≤ n → count_in n f ≡ 0

pub rise_of : (f : Exchanges) → AreNumbered f → Rise f
rise_of f are = record {
  order = above_none (numbers f.waiting) are.order;
  once = λ n. subst (λ (k : ℕ). k ≤ 1) (count_joined (is_number n) f.waiting f.placed) (are.once n);
  given = λ n least. sym (count_joined (is_number n) f.waiting f.placed) ∙ are.given n least;
}

pub numbered_of : (f : Exchanges) → Rise f → AreNumbered f
numbered_of f rise = record {
  order = in_order 0 (numbers f.waiting) rise.order;
  once = λ n. subst (λ (k : ℕ). k ≤ 1) (sym (count_joined (is_number n) f.waiting f.placed)) (rise.once n);
  given = λ n least. count_joined (is_number n) f.waiting f.placed ∙ rise.given n least;
}

-- ---- one is out, or changed

without_above : (n low : ℕ) (es : List Entry) → Above low (numbers es) → Above low (numbers (without n es))
without_above n low [] up = tt
without_above n low (e ∷ es) up = by (is_number n e) (without_above n (e.exchange.number + 1) es up.1)
  where
    by : (b : Bool) → Above (e.exchange.number + 1) (numbers (without n es)) → Above low (numbers (cond b es (e ∷ without n es)))
    by true rest = lower low (e.exchange.number + 1) (numbers es) (omega (arith, up.0)) up.1
    by false rest = (up.0, rest)

pub rise_less : (f : Exchanges) (a b : List Entry) → Above 0 (numbers a) → ((n : ℕ) → count_by (is_number n) a ≤ count_by (is_number n) f.waiting) → ((n : ℕ) → count_by (is_number n) b ≤ count_by (is_number n) f.placed)
    → Rise f → Rise (record f { waiting = a; placed = b })
rise_less f a b up waiting placed rise = record {
  order = up;
  once = λ n. omega (arith, waiting n, placed n, rise.once n);
  given = λ n least. omega (arith, waiting n, placed n, rise.given n least);
}

pub rise_ended : (n : ℕ) (f : Exchanges) → Rise f → Rise (record f { waiting = without n f.waiting; placed = without n f.placed })
rise_ended n f rise = rise_less f (without n f.waiting) (without n f.placed) (without_above n 0 f.waiting rise.order) (λ m. count_without n (is_number m) f.waiting) (λ m. count_without n (is_number m) f.placed) rise

changed_numbers : (n : ℕ) (g : Entry → Entry) → ((x : Entry) → (g x).exchange.number ≡ x.exchange.number) → (es : List Entry) → numbers (changed n g es) ≡ numbers es
changed_numbers n g same [] = refl
changed_numbers n g same (e ∷ es) = by (is_number n e) (changed_numbers n g same es)
  where
    by : (b : Bool) → numbers (changed n g es) ≡ numbers es → numbers (cond b (g e ∷ es) (e ∷ changed n g es)) ≡ numbers (e ∷ es)
    by true rest = ap (λ (k : ℕ). k ∷ numbers es) (same e)
    by false rest = ap (λ (ns : List ℕ). e.exchange.number ∷ ns) rest

same_count : (n : ℕ) (g : Entry → Entry) → ((x : Entry) → (g x).exchange.number ≡ x.exchange.number) → (es : List Entry) (m : ℕ) → count_by (is_number m) (changed n g es) ≤ count_by (is_number m) es
same_count n g same es m = omega (arith, count_changed n g (is_number m) (λ x. ap (λ (k : ℕ). k == m) (same x)) es)

pub rise_changed : (n : ℕ) (g : Entry → Entry) (f : Exchanges) → ((x : Entry) → (g x).exchange.number ≡ x.exchange.number) → Rise f → Rise (record f { waiting = changed n g f.waiting; placed = changed n g f.placed })
rise_changed n g f same rise =
    rise_less f (changed n g f.waiting) (changed n g f.placed) (subst (λ (ns : List ℕ). Above 0 ns) (sym (changed_numbers n g same f.waiting)) rise.order) (same_count n g same f.waiting) (same_count n g same f.placed) rise

pub rise_left : (n : ℕ) (f : Exchanges) → Rise f → Rise (record f { waiting = changed n nobodys f.waiting; placed = changed n nobodys f.placed })
rise_left n f rise = rise_changed n nobodys f (λ x. refl) rise

at_least : (m : ℕ) (es : List Entry) → count_by (is_number m) es ≤ count_by (is_number m) es
at_least m es = omega arith

pub rise_errand : (n : ℕ) (errand : Errand) (f : Exchanges) → Rise f → Rise (with_errand n errand f)
rise_errand n errand f rise = by (list_any (is_number n) f.waiting)
  where
    by : (b : Bool) → Rise (cond b (record f { waiting = changed n (asking errand) f.waiting }) (record f { placed = changed n (asking errand) f.placed }))
    by true = rise_less f (changed n (asking errand) f.waiting) f.placed (subst (λ (ns : List ℕ). Above 0 ns) (sym (changed_numbers n (asking errand) (λ x. refl) f.waiting)) rise.order) (same_count n (asking errand) (λ x. refl) f.waiting) (λ m. at_least m f.placed) rise
    by false = rise_less f f.waiting (changed n (asking errand) f.placed) rise.order (λ m. at_least m f.waiting) (same_count n (asking errand) (λ x. refl) f.placed) rise

-- ---- one begins

number_at : (n : ℕ) (e : Entry) (es : List Entry) → e.exchange.number ≡ n → count_by (is_number n) (e ∷ es) ≡ 1 + count_by (is_number n) es
number_at n e es is = count_first (is_number n) e es ∙ ap (λ (b : Bool). cond b 1 0 + count_by (is_number n) es) (let same : (e.exchange.number == n) ≡ true = grind (arith, nat_tests, is) in same)

last_above : (low next : ℕ) (y : Entry) (es : List Entry) → y.exchange.number ≡ next → low ≤ next → ((n : ℕ) → next ≤ n → count_by (is_number n) es ≡ 0) → Above low (numbers es) → Above low (numbers (es ++ y ∷ []))
last_above low next y [] its least none up = (omega (arith, its, least), tt)
last_above low next y (e ∷ es) its least none up =
    (up.0, last_above (e.exchange.number + 1) next y es its (below_next (nat_lt e.exchange.number next) refl) (λ n above. omega (arith, none n above, count_first (is_number n) e es)) up.1)
  where
    below_next : (b : Bool) → nat_lt e.exchange.number next ≡ b → e.exchange.number + 1 ≤ next
    below_next true is = let less : e.exchange.number < next = grind (arith, nat_tests, is) in omega (arith, less)
    below_next false is =
        let above : next ≤ e.exchange.number = grind (arith, nat_tests, is) in
        absurd (omega (arith, none e.exchange.number above, number_at e.exchange.number e es refl))

pub rise_begun : (client : ℕ) (key : List ℕ) (aim : Aim) (errand : Errand) (text : List ℕ) (f : Exchanges) → Rise f
    → Rise (record f { waiting = f.waiting ++ begun_with f.begun client key aim errand text ∷ []; begun = f.begun + 1 })
rise_begun client key aim errand text f rise = record {
  order = last_above 0 f.begun y f.waiting refl (omega arith) (λ n least. omega (arith, rise.given n least)) rise.order;
  once = λ n. one n (f.begun == n) refl;
  given = λ n least. more n least (f.begun == n) refl;
}
  where
    y : Entry
    y = begun_with f.begun client key aim errand text

    count : (n : ℕ) → count_by (is_number n) (f.waiting ++ y ∷ []) ≡ count_by (is_number n) f.waiting + cond (f.begun == n) 1 0
    count n = omega (arith, count_joined (is_number n) f.waiting (y ∷ []), count_first (is_number n) y [])

    one : (n : ℕ) (b : Bool) → (f.begun == n) ≡ b → count_by (is_number n) (f.waiting ++ y ∷ []) + count_by (is_number n) f.placed ≤ 1
    one n true is =
        let least : f.begun ≤ n = grind (arith, nat_tests, is) in
        omega (arith, count n ∙ ap (λ (b : Bool). count_by (is_number n) f.waiting + cond b 1 0) is, rise.given n least)
    one n false is = omega (arith, count n ∙ ap (λ (b : Bool). count_by (is_number n) f.waiting + cond b 1 0) is, rise.once n)

    more : (n : ℕ) → f.begun + 1 ≤ n → (b : Bool) → (f.begun == n) ≡ b → count_by (is_number n) (f.waiting ++ y ∷ []) + count_by (is_number n) f.placed ≡ 0
    more n least true is = let same : f.begun ≡ n = grind (arith, nat_tests, is) in absurd (omega (arith, same, least))
    more n least false is =
        let none : count_in n f ≡ 0 = rise.given n (omega (arith, least)) in
        omega (arith, count n ∙ ap (λ (b : Bool). count_by (is_number n) f.waiting + cond b 1 0) is, none)

-- ---- its place is taken away, or it gets one

found_out : (n : ℕ) (es : List Entry) (e : Entry) → find (is_number n) es ≡ Some e → count_by (is_number n) (without n es) + 1 ≡ count_by (is_number n) es
found_out n [] e found = absurd (cc found)
found_out n (x ∷ es) e found = by (is_number n x) refl found (λ later. found_out n es e later)
  where
    by : (b : Bool) → is_number n x ≡ b → cond b (Some x) (find (is_number n) es) ≡ Some e → (find (is_number n) es ≡ Some e → count_by (is_number n) (without n es) + 1 ≡ count_by (is_number n) es)
        → count_by (is_number n) (cond b es (x ∷ without n es)) + 1 ≡ count_by (is_number n) (x ∷ es)
    by true is f rest = omega (arith, count_first (is_number n) x es ∙ ap (λ (b : Bool). cond b 1 0 + count_by (is_number n) es) is)
    by false is f rest =
        omega (arith, rest f, count_first (is_number n) x (without n es), count_first (is_number n) x es)

pub found_number : (n : ℕ) (es : List Entry) (e : Entry) → find (is_number n) es ≡ Some e → e.exchange.number ≡ n
found_number n [] e found = absurd (cc found)
found_number n (x ∷ es) e found = by (is_number n x) refl found (λ later. found_number n es e later)
  where
    by : (b : Bool) → is_number n x ≡ b → cond b (Some x) (find (is_number n) es) ≡ Some e → (find (is_number n) es ≡ Some e → e.exchange.number ≡ n) → e.exchange.number ≡ n
    by true is f rest = let same : x ≡ e = cc f in ap (λ (y : Entry). y.exchange.number) (sym same) ∙ is_same x.exchange.number n is
    by false is f rest = rest f

entered_above : (low : ℕ) (y : Entry) (es : List Entry) → low ≤ y.exchange.number → count_by (is_number y.exchange.number) es ≡ 0 → Above low (numbers es) → Above low (numbers (entered y es))
entered_above low y [] least none up = (least, tt)
entered_above low y (e ∷ es) least none up = by (nat_lt y.exchange.number e.exchange.number) refl (λ past rest. entered_above (e.exchange.number + 1) y es past rest up.1)
  where
    by : (b : Bool) → nat_lt y.exchange.number e.exchange.number ≡ b → (e.exchange.number + 1 ≤ y.exchange.number → count_by (is_number y.exchange.number) es ≡ 0 → Above (e.exchange.number + 1) (numbers (entered y es)))
        → Above low (numbers (cond b (y ∷ e ∷ es) (e ∷ entered y es)))
    by true is later = let less : y.exchange.number < e.exchange.number = grind (arith, nat_tests, is) in (least, (omega (arith, less), up.1))
    by false is later = (up.0, later (past (e.exchange.number == y.exchange.number) refl) (omega (arith, none, count_first (is_number y.exchange.number) e es)))
      where
        past : (b : Bool) → (e.exchange.number == y.exchange.number) ≡ b → e.exchange.number + 1 ≤ y.exchange.number
        past true same = absurd (omega (arith, none, number_at y.exchange.number e es (is_same e.exchange.number y.exchange.number same)))
        past false apart = let less : e.exchange.number < y.exchange.number = grind (arith, nat_tests, is, apart) in omega (arith, less)

-- one comes to the other list
moved_once : (n m : ℕ) (e : Entry) (xs : List Entry) (c : ℕ) → find (is_number n) xs ≡ Some e → c ≡ cond (e.exchange.number == m) 1 0 → count_by (is_number m) (without n xs) + c ≤ count_by (is_number m) xs
moved_once n m e xs c found is = by (m == n) refl (e.exchange.number == m) refl
  where
    its : e.exchange.number ≡ n
    its = found_number n xs e found

    by : (b : Bool) → (m == n) ≡ b → (d : Bool) → (e.exchange.number == m) ≡ d → count_by (is_number m) (without n xs) + c ≤ count_by (is_number m) xs
    by true same d at =
        let one : count_by (is_number m) (without n xs) + 1 ≡ count_by (is_number m) xs = subst (λ (k : ℕ). count_by (is_number k) (without n xs) + 1 ≡ count_by (is_number k) xs) (sym (is_same m n same)) (found_out n xs e found) in
        few d (is ∙ ap (λ (b : Bool). cond b 1 0) at) one
      where
        few : (d : Bool) → c ≡ cond d 1 0 → count_by (is_number m) (without n xs) + 1 ≡ count_by (is_number m) xs → count_by (is_number m) (without n xs) + c ≤ count_by (is_number m) xs
        few true c_is one = omega (arith, c_is, one)
        few false c_is one = omega (arith, c_is, one)
    by false apart true at = absurd (let both : true ≡ false = sym (let same : (m == n) ≡ true = grind (arith, nat_tests, at, its) in same) ∙ apart in cc both)
    by false apart false at = omega (arith, is ∙ ap (λ (b : Bool). cond b 1 0) at, count_without_else n m apart xs)

pub rise_unplaced : (n : ℕ) (f : Exchanges) → Rise f → Rise (unplaced n f)
rise_unplaced n f rise = by (find (is_number n) f.placed) refl
  where
    by : (o : Option Entry) → find (is_number n) f.placed ≡ o → Rise (elim o as (λ t. Exchanges) [ None ↦ f | Some e ↦ record f { waiting = entered (with_place None e) f.waiting; placed = without n f.placed } ])
    by None found = rise
    by (Some e) found = record {
      order = entered_above 0 (with_place None e) f.waiting (omega arith) none rise.order;
      once = λ m. omega (arith, moves m, counts m, rise.once m);
      given = λ m least. omega (arith, moves m, counts m, rise.given m least);
    }
      where
        its : e.exchange.number ≡ n
        its = found_number n f.placed e found

        one : count_by (is_number n) (without n f.placed) + 1 ≡ count_by (is_number n) f.placed
        one = found_out n f.placed e found

        none : count_by (is_number e.exchange.number) f.waiting ≡ 0
        none = subst (λ (k : ℕ). count_by (is_number k) f.waiting ≡ 0) (sym its) (omega (arith, one, rise.once n))

        moves : (m : ℕ) → count_by (is_number m) (without n f.placed) + cond (e.exchange.number == m) 1 0 ≤ count_by (is_number m) f.placed
        moves m = moved_once n m e f.placed (cond (e.exchange.number == m) 1 0) found refl

        counts : (m : ℕ) → count_by (is_number m) (entered (with_place None e) f.waiting) ≡ cond (e.exchange.number == m) 1 0 + count_by (is_number m) f.waiting
        counts m = count_entered (is_number m) (with_place None e) f.waiting

pub rise_placed : (k n : ℕ) (f : Exchanges) → Rise f → Rise (placed_on k n f)
rise_placed k n f rise = by (find (is_number n) f.waiting) refl
  where
    by : (o : Option Entry) → find (is_number n) f.waiting ≡ o → Rise (elim o as (λ t. Exchanges) [ None ↦ f | Some e ↦ record f { waiting = without n f.waiting; placed = f.placed ++ with_place (Some k) e ∷ [] } ])
    by None found = rise
    by (Some e) found = record {
      order = without_above n 0 f.waiting rise.order;
      once = λ m. omega (arith, moves m, counts m, rise.once m);
      given = λ m least. omega (arith, moves m, counts m, rise.given m least);
    }
      where
        y : Entry
        y = with_place (Some k) e

        moves : (m : ℕ) → count_by (is_number m) (without n f.waiting) + cond (e.exchange.number == m) 1 0 ≤ count_by (is_number m) f.waiting
        moves m = moved_once n m e f.waiting (cond (e.exchange.number == m) 1 0) found refl

        counts : (m : ℕ) → count_by (is_number m) (f.placed ++ y ∷ []) ≡ count_by (is_number m) f.placed + cond (e.exchange.number == m) 1 0
        counts m = omega (arith, count_joined (is_number m) f.placed (y ∷ []), count_first (is_number m) y [])

-- ---- and no line of a connection becomes longer

pub record Flows (f g : Exchanges) : Type 0 where
  pub rise : Rise f → Rise g
  pub lines : (k : ℕ) → length (line_of k g.placed) ≤ length (line_of k f.placed)

long_as : (xs ys : List ℕ) → ys ≡ xs → length ys ≤ length xs
long_as xs ys is = subst (λ (zs : List ℕ). length zs ≤ length xs) (sym is) (omega arith)

pub flows_in_place : (f g : Exchanges) → g.placed ≡ f.placed → (Rise f → Rise g) → Flows f g
flows_in_place f g placed rise = record { rise = rise; lines = λ k. long_as (line_of k f.placed) (line_of k g.placed) (ap (λ (es : List Entry). line_of k es) placed) }

pub flows_same : (f g : Exchanges) → g ≡ f → Flows f g
flows_same f g is = flows_in_place f g (ap (λ (h : Exchanges). h.placed) is) (λ rise. subst Rise (sym is) rise)

le_two : (a b c : ℕ) → a ≤ b → b ≤ c → a ≤ c
le_two a b c one two = omega (arith, one, two)

pub flows_then : (f g h : Exchanges) → Flows f g → Flows g h → Flows f h
flows_then f g h one two = record { rise = λ rise. two.rise (one.rise rise); lines = λ k. le_two (length (line_of k h.placed)) (length (line_of k g.placed)) (length (line_of k f.placed)) (two.lines k) (one.lines k) }

without_line : (n k : ℕ) (es : List Entry) → length (line_of k (without n es)) ≤ length (line_of k es)
without_line n k [] = omega arith
without_line n k (e ∷ es) = by (is_number n e) (is_on k e) (without_line n k es)
  where
    more : (d : Bool) (xs ys : List Entry) → length (numbers xs) ≤ length (numbers ys) → length (numbers (cond d (e ∷ xs) xs)) ≤ length (numbers (cond d (e ∷ ys) ys))
    more true xs ys less = omega (arith, less)
    more false xs ys less = less

    less_one : (d : Bool) (ys : List Entry) → length (numbers ys) ≤ length (numbers (cond d (e ∷ ys) ys))
    less_one true ys = omega arith
    less_one false ys = omega arith

    by : (b c : Bool) → length (line_of k (without n es)) ≤ length (line_of k es) → length (line_of k (cond b es (e ∷ without n es))) ≤ length (line_of k (e ∷ es))
    by true c rest = less_one (is_on k e) (filter (is_on k) es)
    by false c rest = more (is_on k e) (filter (is_on k) (without n es)) (filter (is_on k) es) rest

changed_line : (n k : ℕ) (g : Entry → Entry) → ((x : Entry) → (g x).exchange.place ≡ x.exchange.place) → (es : List Entry) → length (line_of k (changed n g es)) ≤ length (line_of k es)
changed_line n k g same [] = omega arith
changed_line n k g same (e ∷ es) = by (is_number n e) (changed_line n k g same es)
  where
    more : (d : Bool) (xs ys : List Entry) (a c : Entry) → length (numbers xs) ≤ length (numbers ys) → length (numbers (cond d (a ∷ xs) xs)) ≤ length (numbers (cond d (c ∷ ys) ys))
    more true xs ys a c less = omega (arith, less)
    more false xs ys a c less = less

    by : (b : Bool) → length (line_of k (changed n g es)) ≤ length (line_of k es) → length (line_of k (cond b (g e ∷ es) (e ∷ changed n g es))) ≤ length (line_of k (e ∷ es))
    by true rest =
        subst (λ (o : Option ℕ). length (numbers (cond (is_place k o) (g e ∷ filter (is_on k) es) (filter (is_on k) es))) ≤ length (line_of k (e ∷ es))) (sym (same e))
        (more (is_on k e) (filter (is_on k) es) (filter (is_on k) es) (g e) e (omega arith))
    by false rest = more (is_on k e) (filter (is_on k) (changed n g es)) (filter (is_on k) es) e e rest

pub flows_ended : (n : ℕ) (f : Exchanges) → Flows f (record f { waiting = without n f.waiting; placed = without n f.placed })
flows_ended n f = record { rise = rise_ended n f; lines = λ k. without_line n k f.placed }

pub flows_changed : (n : ℕ) (g : Entry → Entry) (f : Exchanges) → ((x : Entry) → (g x).exchange.number ≡ x.exchange.number) → ((x : Entry) → (g x).exchange.place ≡ x.exchange.place) → Flows f (record f { placed = changed n g f.placed })
flows_changed n g f number place = record {
  rise = λ rise. rise_less f f.waiting (changed n g f.placed) rise.order (λ m. at_least m f.waiting) (same_count n g number f.placed) rise;
  lines = λ k. changed_line n k g place f.placed;
}

pub flows_left : (n : ℕ) (f : Exchanges) → Flows f (record f { waiting = changed n nobodys f.waiting; placed = changed n nobodys f.placed })
flows_left n f = record { rise = rise_left n f; lines = λ k. changed_line n k nobodys (λ x. refl) f.placed }

pub flows_errand : (n : ℕ) (errand : Errand) (f : Exchanges) → Flows f (with_errand n errand f)
flows_errand n errand f = record { rise = rise_errand n errand f; lines = λ k. by k (list_any (is_number n) f.waiting) }
  where
    by : (k : ℕ) (b : Bool) → length (line_of k (cond b (record f { waiting = changed n (asking errand) f.waiting }) (record f { placed = changed n (asking errand) f.placed })).placed) ≤ length (line_of k f.placed)
    by k true = omega arith
    by k false = changed_line n k (asking errand) (λ x. refl) f.placed

pub flows_unplaced : (n : ℕ) (f : Exchanges) → Flows f (unplaced n f)
flows_unplaced n f = record { rise = rise_unplaced n f; lines = λ k. by k (find (is_number n) f.placed) }
  where
    by : (k : ℕ) (o : Option Entry) → length (line_of k (elim o as (λ t. Exchanges) [ None ↦ f | Some e ↦ record f { waiting = entered (with_place None e) f.waiting; placed = without n f.placed } ]).placed) ≤ length (line_of k f.placed)
    by k None = omega arith
    by k (Some e) = without_line n k f.placed

-- ---- as they show the law's

both_none : (R : Entry → Known → Type 0) (u : Option Entry) (v : Option Known) → AreBoth R u v → v ≡ None → u ≡ None
both_none R None v both none = refl
both_none R (Some x) None both none = absurd both
both_none R (Some x) (Some y) both none = absurd (cc none)

pub shown_numbered : ShownOnesAreNumbered
shown_numbered number l f s order shows = record { order = order; once = shows.once; given = λ n least. counted n ∙ nowhere n (both_none _ (entry_of n f) (exchange s n) (shows.each n) (none_behind n 0 s.next_exchange s.exchanges (subst (λ (k : ℕ). k ≤ n) shows.begun least) shows.given)) }
  where
    counted : (n : ℕ) → count_by (is_number n) (f.waiting ++ f.placed) ≡ count_in n f
    counted n = count_joined (is_number n) f.waiting f.placed

    nowhere : (n : ℕ) → entry_of n f ≡ None → count_in n f ≡ 0
    nowhere n at = by (find (is_number n) f.waiting) (find (is_number n) f.placed) refl refl at
      where
        by : (a b : Option Entry) → find (is_number n) f.waiting ≡ a → find (is_number n) f.placed ≡ b → first_of a b ≡ None → count_in n f ≡ 0
        by None None one two is = omega (arith, none_found (is_number n) f.waiting one, none_found (is_number n) f.placed two)
        by None (Some x) one two is = absurd (cc is)
        by (Some x) b one two is = absurd (cc is)
