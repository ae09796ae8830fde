-- What the closing of a connection that counts for nobody leaves as it was, in the program.
use Rattle.std.proofs.Common.{◌≡◌, ◌≤◌, ◌+◌, refl, sym, subst, ap, ap₂, ◌∙◌, ℕ, zero, suc, Bool, true, false, ◌==◌, cond, find, map, List, [], ◌∷◌, Some, None, Option, arith}
use Rattle.std.proofs.lemmas.Bool.Decides.{nat_tests}
use Rattle.std.specs.Prelude.{count_by, option_map, slice_get, slice_set}
use Rattle.std.specs.List.{list_any}
use Rattle.pp_cache_law.proofs.Finds.{find_passes}
use Rattle.pp_cache_law.proofs.Numbers.{some_is}
use Rattle.pp_cache_law.proofs.PairLemmas.{count_first}
use Rattle.pp_flow.specs.Changes.{Exchanges, changed, entered, entry_of, first_of, unplaced, with_errand, without}
use Rattle.pp_flow.specs.Entries.{asking, is_number, with_place}
use Rattle.pp_flow.specs.declared.entry.Entry.{Entry}
use Rattle.pp_flow.specs.declared.entry.Exchange.{Exchange}
use Rattle.pp_flow.specs.declared.errand.Errand.{Errand}
use Rattle.pp_flow_law.proofs.Entries.{count_changed, count_entered, count_without, find_changed, find_changed_else, find_entered, find_entered_else, find_without, find_without_else, none_left, none_some, off, same_number}
use Rattle.pp_seats.specs.Follows.{next_of}
use Rattle.pp_seats.specs.Seats.{brought_to}
use Rattle.pp_seats.specs.declared.seat.Next.{Next}
use Rattle.pp_seats.specs.declared.seat.PassedEnd.TheVariants.{Short}
use Rattle.pp_seats.specs.declared.seat.Seat.{Seat}
use Rattle.pp_state.specs.Ends.{Parts, asked_elsewhere, cut_short, ended, exchange_at, left_place, left_place_at, lost_place, may_go_elsewhere, on_seat_where, seat_for}
use Rattle.pp_state.specs.Lines.{first_on, lost_line}

-- ---- no two have one number, and each is one that was there

abbrev pub Once : Exchanges → Type 0
Once f = (n : ℕ) → count_by (is_number n) f.waiting + count_by (is_number n) f.placed ≤ 1

pub record HadEntry (f : Exchanges) (m : ℕ) (y : Entry) : Type 0 where
  pub before : Entry
  pub there : entry_of m f ≡ Some before
  pub body : y.errand.body ≡ before.errand.body

pub record Stays (p q : Parts) : Type 0 where
  pub cache : q.cache ≡ p.cache
  pub nexts : map (λ seat. next_of seat) q.seats ≡ map (λ seat. next_of seat) p.seats
  pub once : Once p.flow → Once q.flow
  pub entries : Once p.flow → (m : ℕ) (y : Entry) → entry_of m q.flow ≡ Some y → HadEntry p.flow m y

itself : (p : Parts) → Stays p p
itself p = record { cache = refl; nexts = refl; once = λ is. is; entries = λ is m y there. record { before = y; there = there; body = refl } }

then : (p q r : Parts) → Stays p q → Stays q r → Stays p r
then p q r one two = record {
  cache = two.cache ∙ one.cache;
  nexts = two.nexts ∙ one.nexts;
  once = λ is. two.once (one.once is);
  entries = λ is m y there. join m (two.entries (one.once is) m y there) (λ z found. one.entries is m z found);
}
  where
    join : (m : ℕ) {y : Entry} → HadEntry q.flow m y → ((z : Entry) → entry_of m q.flow ≡ Some z → HadEntry p.flow m z) → HadEntry p.flow m y
    join m b rest = let a : HadEntry p.flow m b.before = rest b.before b.there in record { before = a.before; there = a.there; body = b.body ∙ a.body }

-- ---- one is over

few_left : (a b c d : ℕ) → a ≤ c → b ≤ d → c + d ≤ 1 → a + b ≤ 1
few_left a b c d one two three = omega (arith, one, two, three)

first_few : (a b : ℕ) → a + b ≤ 1 → a ≤ 1
first_few a b few = omega (arith, few)

later_few : (a b : ℕ) → a + b ≤ 1 → b ≤ 1
later_few a b few = omega (arith, few)

isnt_it : (m n : ℕ) → (m == n) ≡ false → (n == m) ≡ false
isnt_it m n isnt = by (n == m) refl
  where
    by : (b : Bool) → (n == m) ≡ b → b ≡ false
    by false is = refl
    by true is = sym (sym isnt ∙ ap (λ (i : ℕ). m == i) (same_number n m is) ∙ itself_is m)
      where
        itself_is : (i : ℕ) → (i == i) ≡ true
        itself_is i = grind (arith, nat_tests)

over : (n m : ℕ) (f : Exchanges) (y : Entry) → Once f → entry_of m (record f { waiting = without n f.waiting; placed = without n f.placed }) ≡ Some y → entry_of m f ≡ Some y
over n m f y once there = by (m == n) refl
  where
    by : (b : Bool) → (m == n) ≡ b → entry_of m f ≡ Some y
    by true is =
        let same : m ≡ n = same_number m n is in
        absurd
        (none_some y
        (sym (ap₂ (λ (a b : Option Entry). first_of a b)
        (ap (λ (i : ℕ). find (is_number i) (without n f.waiting)) same ∙ find_without n f.waiting (first_few (count_by (is_number n) f.waiting) (count_by (is_number n) f.placed) (once n)))
        (ap (λ (i : ℕ). find (is_number i) (without n f.placed)) same ∙ find_without n f.placed (later_few (count_by (is_number n) f.waiting) (count_by (is_number n) f.placed) (once n))))
        ∙ there))
    by false isnt = sym (ap₂ (λ (a b : Option Entry). first_of a b) (find_without_else n m isnt f.waiting) (find_without_else n m isnt f.placed)) ∙ there

ends : (n : ℕ) (p : Parts) → Stays p (ended n p)
ends n p = record {
  cache = refl;
  nexts = refl;
  once = λ is m. few_left (count_by (is_number m) (without n p.flow.waiting)) (count_by (is_number m) (without n p.flow.placed)) (count_by (is_number m) p.flow.waiting) (count_by (is_number m) p.flow.placed)
      (count_without n (is_number m) p.flow.waiting) (count_without n (is_number m) p.flow.placed) (is m);
  entries = λ is m y there. record { before = y; there = over n m p.flow y is there; body = refl };
}

-- ---- what was passed of it ends early

set_nexts : (i : ℕ) (seats : List Seat) (seat new : Seat) → slice_get seats i ≡ Some seat → next_of new ≡ next_of seat → map (λ seat. next_of seat) (slice_set seats i new) ≡ map (λ seat. next_of seat) seats
set_nexts i [] seat new there same = absurd (none_some seat there)
set_nexts zero (first ∷ seats) seat new there same = ap (λ (o : Option Next). o ∷ map (λ (x : Seat). next_of x) seats) (same ∙ ap (λ (x : Seat). next_of x) (sym (some_is first seat there)))
set_nexts (suc i) (first ∷ seats) seat new there same = ap (λ (os : List (Option Next)). next_of first ∷ os) (set_nexts i seats seat new there same)

shortens : (e : Exchange) (p : Parts) → Stays p (cut_short e p)
shortens e p = by (seat_for e p.seats)
  where
    at : (i : ℕ) (o : Option Seat) → slice_get p.seats i ≡ o
        → map (λ (seat : Seat). next_of seat) (elim o as (λ t. List Seat) [ None ↦ p.seats | Some seat ↦ slice_set p.seats i (record seat { brought = brought_to Short seat.brought }) ]) ≡ map (λ (seat : Seat). next_of seat) p.seats
    at i None is = refl
    at i (Some seat) is = set_nexts i p.seats seat (record seat { brought = brought_to Short seat.brought }) is refl

    by : (o : Option ℕ) → Stays p (on_seat_where o (λ seat. record seat { brought = brought_to Short seat.brought }) p)
    by None = itself p
    by (Some i) = record { cache = refl; nexts = at i (slice_get p.seats i) refl; once = λ is. is; entries = λ is m y there. record { before = y; there = there; body = refl } }

-- ---- its place is taken away, and nothing of it was asked

one_out : (n : ℕ) (q : Entry → Bool) (es : List Entry) (e : Entry) → find (is_number n) es ≡ Some e → count_by q (without n es) + cond (q e) 1 0 ≡ count_by q es
one_out n q [] e there = absurd (none_some e there)
one_out n q (x ∷ es) e there = by (is_number n x) there (λ found. one_out n q es e found)
  where
    first : (a b : ℕ) → a + b ≡ b + a
    first a b = omega arith

    later : (a b c d : ℕ) → a + b ≡ c → (d + a) + b ≡ d + c
    later a b c d is = omega (arith, is)

    by : (b : Bool) → cond b (Some x) (find (is_number n) es) ≡ Some e → (find (is_number n) es ≡ Some e → count_by q (without n es) + cond (q e) 1 0 ≡ count_by q es)
        → count_by q (cond b es (x ∷ without n es)) + cond (q e) 1 0 ≡ count_by q (x ∷ es)
    by true is rest = ap (λ (y : Entry). count_by q es + cond (q y) 1 0) (sym (some_is x e is)) ∙ first (count_by q es) (cond (q x) 1 0) ∙ sym (count_first q x es)
    by false is rest =
        ap (λ (i : ℕ). i + cond (q e) 1 0) (count_first q x (without n es))
        ∙ later (count_by q (without n es)) (cond (q e) 1 0) (count_by q es) (cond (q x) 1 0) (rest is)
        ∙ sym (count_first q x es)

few_moved : (w p out c total : ℕ) → out + c ≡ p → total ≡ c + w → w + p ≤ 1 → total + out ≤ 1
few_moved w p out c total one two few = omega (arith, one, two, few)

-- behind its place it is the one that waits
moved : (n m : ℕ) (f : Exchanges) (e y : Entry) → Once f → find (is_number n) f.placed ≡ Some e
    → entry_of m (record f { waiting = entered (with_place None e) f.waiting; placed = without n f.placed }) ≡ Some y → HadEntry f m y
moved n m f e y once there found = by (m == n) refl
  where
    num : is_number n e ≡ true
    num = find_passes (is_number n) f.placed e there

    none : find (is_number n) f.waiting ≡ None
    none = none_left (is_number n) f.waiting (nobody (count_by (is_number n) f.waiting) (count_by (is_number n) f.placed) (count_by (is_number n) (without n f.placed)) (once n) (counted (one_out n (is_number n) f.placed e there)))
      where
        nobody : (a b c : ℕ) → a + b ≤ 1 → c + 1 ≡ b → a ≡ 0
        nobody a b c few one = omega (arith, few, one)

        counted : count_by (is_number n) (without n f.placed) + cond (is_number n e) 1 0 ≡ count_by (is_number n) f.placed → count_by (is_number n) (without n f.placed) + 1 ≡ count_by (is_number n) f.placed
        counted is = sym (ap (λ (b : Bool). count_by (is_number n) (without n f.placed) + cond b 1 0) num) ∙ is

    by : (b : Bool) → (m == n) ≡ b → HadEntry f m y
    by true is =
        let same : m ≡ n = same_number m n is in
        let one : entry_of m (record f { waiting = entered (with_place None e) f.waiting; placed = without n f.placed }) ≡ Some (with_place None e) =
        ap (λ (i : ℕ). first_of (find (is_number i) (entered (with_place None e) f.waiting)) (find (is_number i) (without n f.placed))) same
        ∙ ap (λ (o : Option Entry). first_of o (find (is_number n) (without n f.placed))) (find_entered n (with_place None e) num f.waiting none) in
        record {
          before = e;
          there = ap (λ (i : ℕ). first_of (find (is_number i) f.waiting) (find (is_number i) f.placed)) same ∙ ap₂ (λ (a b : Option Entry). first_of a b) none there;
          body = ap (λ (x : Entry). x.errand.body) (sym (some_is (with_place None e) y (sym one ∙ found)));
        }
    by false isnt = record {
      before = y;
      there =
          sym (ap₂ (λ (a b : Option Entry). first_of a b) (find_entered_else m (with_place None e) (off e.exchange.number m n num isnt) f.waiting) (find_without_else n m isnt f.placed)) ∙ found;
      body = refl;
    }

unplaces : (n : ℕ) (p : Parts) → Stays p (record p { flow = unplaced n p.flow })
unplaces n p = by (find (is_number n) p.flow.placed) refl
  where
    by : (o : Option Entry) → find (is_number n) p.flow.placed ≡ o
        → Stays p (record p { flow = elim o as (λ t. Exchanges) [ None ↦ p.flow | Some e ↦ record p.flow { waiting = entered (with_place None e) p.flow.waiting; placed = without n p.flow.placed } ] })
    by None is = itself p
    by (Some e) is = record {
      cache = refl;
      nexts = refl;
      once = λ few m. few_moved (count_by (is_number m) p.flow.waiting) (count_by (is_number m) p.flow.placed) (count_by (is_number m) (without n p.flow.placed)) (cond (is_number m e) 1 0) (count_by (is_number m) (entered (with_place None e) p.flow.waiting))
          (one_out n (is_number m) p.flow.placed e is) (count_entered (is_number m) (with_place None e) p.flow.waiting) (few m);
      entries = λ few m y there. moved n m p.flow e y few is there;
    }

-- what it asks is now this, and what becomes of its body is as it was
asked_as : (n m : ℕ) (errand : Errand) (f : Exchanges) (x y : Entry) → entry_of n f ≡ Some x → errand.body ≡ x.errand.body → entry_of m (with_errand n errand f) ≡ Some y → HadEntry f m y
asked_as n m errand f x y here same there = by (m == n) refl
  where
    keeps : (z : Entry) → ((asking errand z).exchange.number ≡ z.exchange.number) × ((asking errand z).exchange.place ≡ z.exchange.place)
    keeps z = (refl, refl)

    found : (es : List Entry) → (m == n) ≡ false → find (is_number m) (changed n (asking errand) es) ≡ find (is_number m) es
    found es isnt = find_changed_else n m (asking errand) keeps isnt es

    in_it : (es : List Entry) → find (is_number n) (changed n (asking errand) es) ≡ option_map (asking errand) (find (is_number n) es)
    in_it es = find_changed n (asking errand) keeps es

    other : (isnt : (m == n) ≡ false) (b : Bool) → entry_of m (cond b (record f { waiting = changed n (asking errand) f.waiting }) (record f { placed = changed n (asking errand) f.placed })) ≡ Some y → entry_of m f ≡ Some y
    other isnt true is = sym (ap (λ (o : Option Entry). first_of o (find (is_number m) f.placed)) (found f.waiting isnt)) ∙ is
    other isnt false is = sym (ap (λ (o : Option Entry). first_of (find (is_number m) f.waiting) o) (found f.placed isnt)) ∙ is

    -- whichever it is, it has the errand, or is as it was
    body_of : (w p : Option Entry) → first_of w p ≡ Some x → (b : Bool) → first_of (cond b (option_map (asking errand) w) w) (cond b p (option_map (asking errand) p)) ≡ Some y → y.errand.body ≡ x.errand.body
    body_of None None is b it = absurd (none_some x is)
    body_of None (Some p) is true it = ap (λ (z : Entry). z.errand.body) (sym (some_is p y it) ∙ some_is p x is)
    body_of None (Some p) is false it = ap (λ (z : Entry). z.errand.body) (sym (some_is (asking errand p) y it)) ∙ same
    body_of (Some w) p is true it = ap (λ (z : Entry). z.errand.body) (sym (some_is (asking errand w) y it)) ∙ same
    body_of (Some w) p is false it = ap (λ (z : Entry). z.errand.body) (sym (some_is w y it) ∙ some_is w x is)

    itself_body : (b : Bool) → entry_of n (cond b (record f { waiting = changed n (asking errand) f.waiting }) (record f { placed = changed n (asking errand) f.placed })) ≡ Some y → y.errand.body ≡ x.errand.body
    itself_body true is = body_of (find (is_number n) f.waiting) (find (is_number n) f.placed) here true (sym (ap (λ (o : Option Entry). first_of o (find (is_number n) f.placed)) (in_it f.waiting)) ∙ is)
    itself_body false is = body_of (find (is_number n) f.waiting) (find (is_number n) f.placed) here false (sym (ap (λ (o : Option Entry). first_of (find (is_number n) f.waiting) o) (in_it f.placed)) ∙ is)

    by : (b : Bool) → (m == n) ≡ b → HadEntry f m y
    by true is =
        let at : m ≡ n = same_number m n is in
        record {
          before = x;
          there = ap (λ (i : ℕ). entry_of i f) at ∙ here;
          body = itself_body (list_any (is_number n) f.waiting) (sym (ap (λ (i : ℕ). entry_of i (with_errand n errand f)) at) ∙ there);
        }
    by false isnt = record { before = y; there = other isnt (list_any (is_number n) f.waiting) there; body = refl }

abbrev asked_if : ℕ → Errand → Exchanges → Bool → Exchanges
asked_if n errand f b = cond b (record f { waiting = changed n (asking errand) f.waiting }) (record f { placed = changed n (asking errand) f.placed })

asks_as : (n : ℕ) (errand : Errand) (p : Parts) (x : Entry) → entry_of n p.flow ≡ Some x → errand.body ≡ x.errand.body → Stays p (record p { flow = with_errand n errand p.flow })
asks_as n errand p x here same = record { cache = refl; nexts = refl; once = λ few m. by (list_any (is_number n) p.flow.waiting) m (few m); entries = λ few m y there. asked_as n m errand p.flow x y here same there }
  where
    counts : (m : ℕ) (es : List Entry) → count_by (is_number m) (changed n (asking errand) es) ≡ count_by (is_number m) es
    counts m es = count_changed n (asking errand) (is_number m) (λ z. refl) es

    by : (b : Bool) (m : ℕ) → count_by (is_number m) p.flow.waiting + count_by (is_number m) p.flow.placed ≤ 1 → count_by (is_number m) (asked_if n errand p.flow b).waiting + count_by (is_number m) (asked_if n errand p.flow b).placed ≤ 1
    by true m few = subst (λ (i : ℕ). i + count_by (is_number m) p.flow.placed ≤ 1) (sym (counts m p.flow.waiting)) few
    by false m few = subst (λ (i : ℕ). count_by (is_number m) p.flow.waiting + i ≤ 1) (sym (counts m p.flow.placed)) few

elsewhere : (n : ℕ) (p : Parts) → Stays p (asked_elsewhere n p)
elsewhere n p = by (entry_of n (unplaced n p.flow)) refl
  where
    by : (o : Option Entry) → entry_of n (unplaced n p.flow) ≡ o
        → Stays p (record p { flow = elim o as (λ t. Exchanges) [ None ↦ unplaced n p.flow | Some x ↦ with_errand n (record x.errand { asked = 0 }) (unplaced n p.flow) ] })
    by None is = unplaces n p
    by (Some x) is =
        then p (record p { flow = unplaced n p.flow }) (record p { flow = with_errand n (record x.errand { asked = 0 }) (unplaced n p.flow) }) (unplaces n p)
        (asks_as n (record x.errand { asked = 0 }) (record p { flow = unplaced n p.flow }) x is refl)

-- ---- all of a line

leaves : (e : Exchange) (p : Parts) → Stays p (left_place e p)
unfolding left_place
leaves e p = by e.headed (may_go_elsewhere e.number p)
  where
    by : (a b : Bool) → Stays p (cond a (ended e.number (cut_short e p)) (cond b (asked_elsewhere e.number p) (ended e.number p)))
    by true b = then p (cut_short e p) (ended e.number (cut_short e p)) (shortens e p) (ends e.number (cut_short e p))
    by false true = elsewhere e.number p
    by false false = ends e.number p

loses : (n : ℕ) (p : Parts) → Stays p (lost_place n false p)
loses n p = by (exchange_at n p.flow)
  where
    by : (o : Option Exchange) → Stays p (left_place_at o false p)
    by None = itself p
    by (Some e) = leaves e p

pub line_stays : (most k : ℕ) (p : Parts) → Stays p (lost_line most k false p)
line_stays zero k p = itself p
line_stays (suc more) k p = by (first_on k p) (λ n. then p (lost_place n false p) (lost_line more k false (lost_place n false p)) (loses n p) (line_stays more k (lost_place n false p)))
  where
    by : (o : Option ℕ) → ((n : ℕ) → Stays p (lost_line more k false (lost_place n false p))) → Stays p (elim o as (λ t. Parts) [ None ↦ p | Some n ↦ lost_line more k false (lost_place n false p) ])
    by None rest = itself p
    by (Some n) rest = rest n

-- with an exchange that is over
pub dropped_stays : (most m k : ℕ) (p : Parts) → Stays p (lost_line most k false (ended m p))
dropped_stays most m k p = then p (ended m p) (lost_line most k false (ended m p)) (ends m p) (line_stays most k (ended m p))

pub ended_stays : (m : ℕ) (p : Parts) → Stays p (ended m p)
ended_stays m p = ends m p
