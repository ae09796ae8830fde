-- The place of one of the exchanges is taken away.
use Rattle.std.proofs.Common.{◌≡◌, ◌≤◌, ◌+◌, refl, sym, subst, ap, ap₂, ◌∙◌, ℕ, Bool, true, false, not, ◌==◌, ◌||◌, cond, find, List, [], ◌∷◌, ◌++◌, filter, Option, Some, None, option_map, arith}
use Rattle.std.specs.Prelude.{count_by}
use Rattle.pp_cache_law.proofs.Finds.{find_passes, none_found}
use Rattle.pp_cache_law.proofs.PairLemmas.{count_joined}
use Rattle.pp_cache_law.specs.Pairs.{AreBoth}
use Rattle.pp_flow.specs.Changes.{Exchanges, changed, entered, entry_of, first_of, unplaced as without_place, with_errand, without as without_number}
use Rattle.pp_flow.specs.Entries.{asking, is_number, with_place}
use Rattle.pp_flow.specs.declared.entry.Entry.{Entry}
use Rattle.pp_flow.specs.declared.errand.Errand.{Errand}
use Rattle.pp_law.specs.Connections.{exchange, is_exchange, on_exchange, unplaced}
use Rattle.pp_law.specs.Lists.{change, has_number}
use Rattle.pp_law.specs.State.{State, Exchange}
use Rattle.pp_seats_law.specs.Exchanges.{ShowsExchange}
use Rattle.pp_flow_law.specs.Changes.{HasLeft, UnplacesAreTheLaws, but}
use Rattle.pp_flow_law.specs.Tables.{AreGiven, Leaving, ShowsFlow, has_none, line_at}
use Rattle.pp_flow_law.proofs.Ended.{line_but}
use Rattle.pp_flow_law.proofs.Entries.{any_is, changed_entered, count_entered, count_without, find_entered, find_entered_else, find_without, find_without_else, isnt, other_way, same_as, same_number}
use Rattle.pp_flow_law.proofs.Exchanges.{find_change, find_change_else, numbers_change}
use Rattle.pp_flow_law.proofs.Pairs.{both_as, pairs_entered}
use Rattle.pp_flow_law.proofs.Put.{at_most_one, both_put}
use Rattle.pp_flow_law.proofs.Standing.{IsShown, entry_placed, few_placed, is_shown, none_waits, placed_has}

abbrev out_at : ℕ → Entry → Exchanges → Exchanges
out_at n y f = record f { waiting = entered y f.waiting; placed = without_number n f.placed }

all_kept : (n : ℕ) (ns : List ℕ) → has_number n ns ≡ false → filter (isnt n) ns ≡ ns
all_kept n [] none = refl
all_kept n (m ∷ ns) none = by (m == n) none (λ f. all_kept n ns f)
  where
    by : (b : Bool) → b || has_number n ns ≡ false → (has_number n ns ≡ false → filter (isnt n) ns ≡ ns) → cond (not b) (m ∷ filter (isnt n) ns) (filter (isnt n) ns) ≡ m ∷ ns
    by true f rest = absurd cc
    by false f rest = ap (λ (os : List ℕ). m ∷ os) (rest f)

unplaces_at : (number : ℕ → ℕ) (l : Leaving) (f : Exchanges) (s : State) → ShowsFlow number l f s → (n : ℕ) (x y : Entry) → find (is_number n) f.placed ≡ Some x → HasLeft n s → y.exchange.number ≡ n
    → ((e : Exchange) → exchange s n ≡ Some e → ShowsExchange number x e → ShowsExchange number y (unplaced e)) → ShowsFlow number (but n l) (out_at n y f) (on_exchange n unplaced s)
unfolding on_exchange
unplaces_at number l f s shows n x y here left num to = record {
  each = λ m. at (m == n) m refl;
  waiting =
      pairs_entered number n y unplaced has_none it.known 0 s.next_exchange f.waiting s.exchanges shows.given shows.waiting num (λ e. refl) it.there (placed_has number l f s shows n x it.known here it.there) (to it.known it.there it.shows);
  lines = λ m. line_but number l f s shows n m ∙ ap (λ (ns : List ℕ). but n l m ++ ns) (all_kept n (line_at s m) (left m));
  once = λ m. few (m == n) m refl;
  begun = shows.begun;
  given = subst (λ (ns : List ℕ). AreGiven 0 s.next_exchange ns) (sym (numbers_change n unplaced (λ e. refl) s.exchanges)) shows.given;
}
  where
    none_there : find (is_number n) f.waiting ≡ None
    none_there = none_waits number l f s shows n x here

    it : IsShown number s n x
    it = is_shown number l f s shows n x (entry_placed n f x none_there here)

    few : (b : Bool) (m : ℕ) → (m == n) ≡ b → count_by (is_number m) (entered y f.waiting ++ without_number n f.placed) ≤ 1
    few true m is =
        subst (λ (i : ℕ). count_by (is_number i) (entered y f.waiting ++ without_number n f.placed) ≤ 1) (sym (same_number m n is))
        (omega (
          arith,
          count_joined (is_number n) (entered y f.waiting) (without_number n f.placed),
          count_entered (is_number n) y f.waiting,
          at_most_one (is_number n y),
          none_found (is_number n) f.waiting none_there,
          none_found (is_number n) (without_number n f.placed) (find_without n f.placed (few_placed number l f s shows n)),
        ))
    few false m is =
        let zero : count_by (is_number m) (entered y f.waiting) ≡ 0 + count_by (is_number m) f.waiting =
        count_entered (is_number m) y f.waiting ∙ ap (λ (i : ℕ). cond (i == m) 1 0 + count_by (is_number m) f.waiting) num ∙ ap (λ (b : Bool). cond b 1 0 + count_by (is_number m) f.waiting) (other_way m n is) in
        omega (arith, shows.once m, count_joined (is_number m) f.waiting f.placed, count_joined (is_number m) (entered y f.waiting) (without_number n f.placed), count_without n (is_number m) f.placed, zero)

    at : (b : Bool) (m : ℕ) → (m == n) ≡ b → AreBoth (ShowsExchange number) (entry_of m (out_at n y f)) (find (is_exchange m) (change (is_exchange n) unplaced s.exchanges))
    at true m is =
        subst (λ (i : ℕ). AreBoth (ShowsExchange number) (entry_of i (out_at n y f)) (find (is_exchange i) (change (is_exchange n) unplaced s.exchanges))) (sym (same_number m n is))
        (both_as number (entry_of n (out_at n y f)) (Some y) (find (is_exchange n) (change (is_exchange n) unplaced s.exchanges)) (option_map unplaced (exchange s n))
        (ap (λ (u : Option Entry). first_of u (find (is_number n) (without_number n f.placed))) (find_entered n y (same_as y.exchange.number n num) f.waiting none_there))
        (find_change n unplaced (λ e. refl) s.exchanges)
        (both_put number s n x y unplaced (exchange s n) to (subst (λ (o : Option Entry). AreBoth (ShowsExchange number) o (exchange s n)) (entry_placed n f x none_there here) (shows.each n))))
    at false m is =
        both_as number (entry_of m (out_at n y f)) (entry_of m f) (find (is_exchange m) (change (is_exchange n) unplaced s.exchanges)) (exchange s m)
        (ap₂ (λ (u v : Option Entry). first_of u v) (find_entered_else m y (ap (λ (i : ℕ). i == m) num ∙ other_way m n is) f.waiting) (find_without_else n m is f.placed))
        (find_change_else n m unplaced (λ e. refl) is s.exchanges) (shows.each m)

-- what the program makes of them
is_out_at : (number : ℕ → ℕ) (l : Leaving) (f : Exchanges) (s : State) → ShowsFlow number l f s → (n : ℕ) (x : Entry) (r : Errand) → find (is_number n) f.placed ≡ Some x
    → with_errand n r (without_place n f) ≡ out_at n (asking r (with_place None x)) f
is_out_at number l f s shows n x r here =
    ap (λ (o : Option Entry). with_errand n r (elim o as (λ u. Exchanges) [ None ↦ f | Some e ↦ record f { waiting = entered (with_place None e) f.waiting; placed = without_number n f.placed } ])) here
    ∙ ap (λ (b : Bool). cond b (record f { waiting = changed n (asking r) (entered (with_place None x) f.waiting); placed = without_number n f.placed })
    (record f { waiting = entered (with_place None x) f.waiting; placed = changed n (asking r) (without_number n f.placed) }))
    (any_is (is_number n) (entered (with_place None x) f.waiting) (Some (with_place None x)) (find_entered n (with_place None x) its f.waiting none_there))
    ∙ ap (λ (es : List Entry). record f { waiting = es; placed = without_number n f.placed }) (changed_entered n (asking r) (with_place None x) (λ e. (refl, refl)) its f.waiting none_there)
  where
    its : is_number n x ≡ true
    its = find_passes (is_number n) f.placed x here

    none_there : find (is_number n) f.waiting ≡ None
    none_there = none_waits number l f s shows n x here

pub unplaces : UnplacesAreTheLaws
unplaces number l f s shows n x here left =
    subst (λ (g : Exchanges). ShowsFlow number (but n l) g (on_exchange n unplaced s)) (sym (is_out_at number l f s shows n x (record x.errand { asked = 0 }) here))
    (unplaces_at number l f s shows n x (asking (record x.errand { asked = 0 }) (with_place None x)) here left (same_number x.exchange.number n (find_passes (is_number n) f.placed x here)) (λ d there one. record {
      number = one.number;
      asker = one.asker;
      aim = one.aim;
      place = refl;
      text_key = one.text_key;
      parts = one.parts;
      named = one.named;
      is_ranged = one.is_ranged;
      is_moved = one.is_moved;
      is_asked_once = one.is_asked_once;
      asks_head = one.asks_head;
      is_safe = one.is_safe;
      binds = one.binds;
      identity = one.identity;
      guess = one.guess;
      text = one.text;
      asked = refl;
      body_left = one.body_left;
      requested = one.requested;
      body = one.body;
    }))
