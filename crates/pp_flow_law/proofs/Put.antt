-- One of the exchanges gets a place.
use Rattle.std.proofs.Common.{◌≡◌, ◌≤◌, ◌+◌, refl, sym, subst, ap, ap₂, ◌∙◌, ℕ, Bool, true, false, ◌==◌, cond, find, List, [], ◌∷◌, ◌++◌, filter, Option, Some, None, option_map, arith}
use Rattle.std.specs.Prelude.{count_by}
use Rattle.std.proofs.lemmas.Bool.Decides.{nat_tests}
use Rattle.std.proofs.lemmas.List.{append_assoc, append-nil}
use Rattle.pp_cache_law.proofs.Finds.{find_joined, find_mapped, find_passes, first_of_two, none_found}
use Rattle.pp_cache_law.proofs.PairLemmas.{count_first, count_joined}
use Rattle.pp_cache_law.specs.Pairs.{AreAll, AreBoth}
use Rattle.pp_flow.specs.Changes.{Exchanges, changed, entry_of, first_of, is_place, line_of, placed_on, with_errand, without as without_number}
use Rattle.pp_flow.specs.Entries.{asking, is_number, with_place}
use Rattle.pp_flow.specs.declared.entry.Entry.{Entry}
use Rattle.pp_flow.specs.declared.errand.Errand.{Errand}
use Rattle.pp_law.specs.Connections.{conn, exchange, is_conn, is_exchange, on_conn, on_exchange, put_on}
use Rattle.pp_law.specs.Lists.{change}
use Rattle.pp_law.specs.State.{State, Conn, Exchange}
use Rattle.pp_seats_law.specs.Exchanges.{ShowsExchange}
use Rattle.pp_flow_law.specs.Changes.{PutsAreTheLaws}
use Rattle.pp_flow_law.specs.Tables.{AreGiven, Leaving, ShowsFlow, has_none, line_in}
use Rattle.pp_flow_law.proofs.Entries.{any_is, changed_last, count_without, find_without, find_without_else, line_first, line_joined, none_some, other_way, same_as, same_number}
use Rattle.pp_flow_law.proofs.Exchanges.{filter_change_out, find_change, find_change_else, numbers_change}
use Rattle.pp_flow_law.proofs.Pairs.{both_as, pairs_without}
use Rattle.pp_flow_law.proofs.Standing.{entry_waiting, few_waiting, none_placed}

-- it stands last of those with a place
abbrev put_at : ℕ → Entry → Exchanges → Exchanges
put_at n y f = record f { waiting = without_number n f.waiting; placed = f.placed ++ y ∷ [] }

abbrev placed_by : ℕ → Exchange → Exchange
placed_by k e = record e { place = Some k; asked = 0 }

abbrev joined_by : ℕ → Conn → Conn
joined_by n j = record j { line = j.line ++ n ∷ [] }

abbrev at_conn : ℕ → ℕ → Conn → Conn
at_conn n k j = elim (is_conn k j) as (λ b. Conn) [ true ↦ joined_by n j | false ↦ j ]

-- what is put there: of that number, and on that connection
record IsPut (n k : ℕ) (y : Entry) : Type 0 where
  number : y.exchange.number ≡ n
  place : y.exchange.place ≡ Some k

pub first_none : {A : Type 0} (o : Option A) → first_of_two o None ≡ o
first_none None = refl
first_none (Some x) = refl

pub at_most_one : (b : Bool) → cond b 1 0 ≤ 1
at_most_one true = omega arith
at_most_one false = omega arith

pub no_more : (p : Entry → Bool) → count_by p [] ≡ 0
no_more p = refl

pub both_put : (number : ℕ → ℕ) (s : State) (n : ℕ) (x y : Entry) (h : Exchange → Exchange) (o : Option Exchange) → ((e : Exchange) → o ≡ Some e → ShowsExchange number x e → ShowsExchange number y (h e)) → AreBoth (ShowsExchange number) (Some x) o
    → AreBoth (ShowsExchange number) (Some y) (option_map h o)
both_put number s n x y h None to both = absurd both
both_put number s n x y h (Some e) to both = to e refl both

line_of_one : (n k m : ℕ) (y : Entry) → IsPut n k y → line_of m (y ∷ []) ≡ cond (k == m) (n ∷ []) []
line_of_one n k m y put =
    line_first m y []
    ∙ ap (λ (o : Option ℕ). cond (is_place m o) (y.exchange.number ∷ []) []) put.place
    ∙ ap (λ (i : ℕ). cond (k == m) (i ∷ []) []) put.number

same_both : (i k m : ℕ) → (i == m) ≡ true → (i == k) ≡ true → (k == m) ≡ true
same_both i k m one two = grind (arith, nat_tests)

not_both : (i k m : ℕ) → (i == m) ≡ true → (i == k) ≡ false → (k == m) ≡ false
not_both i k m one two = grind (arith, nat_tests)

puts_at : (number : ℕ → ℕ) (l : Leaving) (f : Exchanges) (s : State) → ShowsFlow number l f s → (n k : ℕ) (x y : Entry) (c : Conn) → find (is_number n) f.waiting ≡ Some x → IsPut n k y → conn s k ≡ Some c
    → ((e : Exchange) → exchange s n ≡ Some e → ShowsExchange number x e → ShowsExchange number y (placed_by k e)) → ShowsFlow number l (put_at n y f) (put_on n k s)
unfolding put_on on_conn on_exchange
puts_at number l f s shows n k x y c waits put linked to = record {
  each = λ m. at (m == n) m refl;
  waiting =
      subst (λ (es : List Exchange). AreAll (ShowsExchange number) (without_number n f.waiting) es) (sym (filter_change_out n (placed_by k) has_none (λ e. refl) s.exchanges))
      (pairs_without number n f.waiting (filter has_none s.exchanges) (few_waiting number l f s shows n) shows.waiting);
  lines = λ m.
      line_joined m f.placed (y ∷ [])
      ∙ ap₂ (λ (ns os : List ℕ). ns ++ os) (shows.lines m) (line_of_one n k m y put)
      ∙ by m (conn s m) refl
      ∙ ap (λ (o : Option Conn). l m ++ line_in o) (sym (find_mapped (is_conn m) (at_conn n k) s.conns (λ j. kept m j (is_conn k j))));
  once = λ m. few (m == n) m refl;
  begun = shows.begun;
  given = subst (λ (ns : List ℕ). AreGiven 0 s.next_exchange ns) (sym (numbers_change n (placed_by k) (λ e. refl) s.exchanges)) shows.given;
}
  where
    none_there : find (is_number n) f.placed ≡ None
    none_there = none_placed number l f s shows n x waits

    kept : (m : ℕ) (j : Conn) (b : Bool) → is_conn m (elim b as (λ c. Conn) [ true ↦ joined_by n j | false ↦ j ]) ≡ is_conn m j
    kept m j true = refl
    kept m j false = refl

    longer : (m : ℕ) (j : Conn) (b : Bool) → (j.number == m) ≡ true → (j.number == k) ≡ b
        → (l m ++ j.line) ++ cond (k == m) (n ∷ []) [] ≡ l m ++ (elim b as (λ c. Conn) [ true ↦ joined_by n j | false ↦ j ]).line
    longer m j true one two = ap (λ (b : Bool). (l m ++ j.line) ++ cond b (n ∷ []) []) (same_both j.number k m one two) ∙ append_assoc (l m) j.line (n ∷ [])
    longer m j false one two = ap (λ (b : Bool). (l m ++ j.line) ++ cond b (n ∷ []) []) (not_both j.number k m one two) ∙ append-nil (l m ++ j.line)

    elsewhere : (m : ℕ) → conn s m ≡ None → (b : Bool) → (k == m) ≡ b → (l m ++ []) ++ cond b (n ∷ []) [] ≡ l m ++ []
    elsewhere m is true e = absurd (none_some c (sym is ∙ subst (λ (i : ℕ). conn s i ≡ Some c) (same_number k m e) linked))
    elsewhere m is false e = append-nil (l m ++ [])

    by : (m : ℕ) (o : Option Conn) → conn s m ≡ o → (l m ++ line_in o) ++ cond (k == m) (n ∷ []) [] ≡ l m ++ line_in (option_map (at_conn n k) o)
    by m None is = elsewhere m is (k == m) refl
    by m (Some j) is = longer m j (is_conn k j) (find_passes (is_conn m) s.conns j is) refl

    few : (b : Bool) (m : ℕ) → (m == n) ≡ b → count_by (is_number m) (without_number n f.waiting ++ (f.placed ++ y ∷ [])) ≤ 1
    few true m is =
        subst (λ (i : ℕ). count_by (is_number i) (without_number n f.waiting ++ (f.placed ++ y ∷ [])) ≤ 1) (sym (same_number m n is))
        (omega (
          arith,
          count_joined (is_number n) (without_number n f.waiting) (f.placed ++ y ∷ []),
          count_joined (is_number n) f.placed (y ∷ []),
          count_first (is_number n) y [],
          at_most_one (is_number n y),
          none_found (is_number n) (without_number n f.waiting) (find_without n f.waiting (few_waiting number l f s shows n)),
          none_found (is_number n) f.placed none_there,
          no_more (is_number n),
        ))
    few false m is =
        let zero : count_by (is_number m) (y ∷ []) ≡ 0 + count_by (is_number m) [] =
        count_first (is_number m) y [] ∙ ap (λ (i : ℕ). cond (i == m) 1 0 + count_by (is_number m) []) put.number ∙ ap (λ (b : Bool). cond b 1 0 + count_by (is_number m) []) (other_way m n is) in
        omega (
          arith,
          shows.once m,
          count_joined (is_number m) f.waiting f.placed,
          count_joined (is_number m) (without_number n f.waiting) (f.placed ++ y ∷ []),
          count_joined (is_number m) f.placed (y ∷ []),
          count_without n (is_number m) f.waiting,
          zero,
          no_more (is_number m),
        )

    at : (b : Bool) (m : ℕ) → (m == n) ≡ b → AreBoth (ShowsExchange number) (entry_of m (put_at n y f)) (find (is_exchange m) (change (is_exchange n) (placed_by k) s.exchanges))
    at true m is =
        subst (λ (i : ℕ). AreBoth (ShowsExchange number) (entry_of i (put_at n y f)) (find (is_exchange i) (change (is_exchange n) (placed_by k) s.exchanges))) (sym (same_number m n is))
        (both_as number (entry_of n (put_at n y f)) (Some y) (find (is_exchange n) (change (is_exchange n) (placed_by k) s.exchanges)) (option_map (placed_by k) (exchange s n))
        (ap₂ (λ (u v : Option Entry). first_of u v) (find_without n f.waiting (few_waiting number l f s shows n))
        (find_joined (is_number n) f.placed (y ∷ []) ∙ ap₂ (λ (u : Option Entry) (t : Bool). first_of_two u (cond t (Some y) None)) none_there (same_as y.exchange.number n put.number)))
        (find_change n (placed_by k) (λ e. refl) s.exchanges)
        (both_put number s n x y (placed_by k) (exchange s n) to (subst (λ (o : Option Entry). AreBoth (ShowsExchange number) o (exchange s n)) (entry_waiting n f x waits) (shows.each n))))
    at false m is =
        both_as number (entry_of m (put_at n y f)) (entry_of m f) (find (is_exchange m) (change (is_exchange n) (placed_by k) s.exchanges)) (exchange s m)
        (ap₂ (λ (u v : Option Entry). first_of u v) (find_without_else n m is f.waiting)
        (find_joined (is_number m) f.placed (y ∷ [])
        ∙ ap (λ (t : Bool). first_of_two (find (is_number m) f.placed) (cond t (Some y) None)) (ap (λ (i : ℕ). i == m) put.number ∙ other_way m n is)
        ∙ first_none (find (is_number m) f.placed)))
        (find_change_else n m (placed_by k) (λ e. refl) is s.exchanges) (shows.each m)

-- what the program makes of them
is_put_at : (number : ℕ → ℕ) (l : Leaving) (f : Exchanges) (s : State) → ShowsFlow number l f s → (n k : ℕ) (x : Entry) (r : Errand) → find (is_number n) f.waiting ≡ Some x
    → with_errand n r (placed_on k n f) ≡ put_at n (asking r (with_place (Some k) x)) f
is_put_at number l f s shows n k x r waits =
    ap (λ (o : Option Entry). with_errand n r (elim o as (λ u. Exchanges) [ None ↦ f | Some e ↦ record f { waiting = without_number n f.waiting; placed = f.placed ++ with_place (Some k) e ∷ [] } ])) waits
    ∙ ap (λ (b : Bool). cond b (record f { waiting = changed n (asking r) (without_number n f.waiting); placed = f.placed ++ with_place (Some k) x ∷ [] })
    (record f { waiting = without_number n f.waiting; placed = changed n (asking r) (f.placed ++ with_place (Some k) x ∷ []) }))
    (any_is (is_number n) (without_number n f.waiting) None (find_without n f.waiting (few_waiting number l f s shows n)))
    ∙ ap (λ (es : List Entry). record f { waiting = without_number n f.waiting; placed = es })
    (changed_last n (asking r) f.placed (with_place (Some k) x) (none_placed number l f s shows n x waits) (find_passes (is_number n) f.waiting x waits))

pub puts : PutsAreTheLaws
puts number l f s shows n x k waits linked =
    subst (λ (g : Exchanges). ShowsFlow number l g (put_on n k.number s)) (sym (is_put_at number l f s shows n k.number x (record x.errand { asked = 0 }) waits))
    (puts_at number l f s shows n k.number x (asking (record x.errand { asked = 0 }) (with_place (Some k.number) x)) k waits
    (record { number = same_number x.exchange.number n (find_passes (is_number n) f.waiting x waits); place = refl }) linked (λ d there one. record {
      number = one.number;
      asker = one.asker;
      aim = one.aim;
      place = refl;
      text_key = one.text_key;
      parts = one.parts;
      named = one.named;
      is_ranged = one.is_ranged;
      is_moved = one.is_moved;
      is_asked_once = one.is_asked_once;
      asks_head = one.asks_head;
      is_safe = one.is_safe;
      binds = one.binds;
      identity = one.identity;
      guess = one.guess;
      text = one.text;
      asked = refl;
      body_left = one.body_left;
      requested = one.requested;
      body = one.body;
    }))
