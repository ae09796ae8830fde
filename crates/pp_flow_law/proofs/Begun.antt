-- One exchange more, or none yet.
use Rattle.std.proofs.Common.{◌≡◌, ◌≤◌, ◌+◌, refl, sym, subst, ap, ◌∙◌, ℕ, Bool, true, false, not, ◌==◌, cond, find, List, [], ◌∷◌, ◌++◌, filter, Option, Some, None, arith}
use Rattle.std.specs.Prelude.{count_by, is_some}
use Rattle.pp_cache_law.proofs.Finds.{find_joined, first_of_two, none_found}
use Rattle.pp_cache_law.proofs.PairLemmas.{count_first, count_joined, filter_joined, joined}
use Rattle.pp_cache_law.specs.Pairs.{AreAll, AreBoth}
use Rattle.pp_flow.specs.Changes.{Exchanges, entry_of, first_of}
use Rattle.pp_flow.specs.Entries.{begun_with, is_number}
use Rattle.pp_flow.specs.declared.entry.Entry.{Entry}
use Rattle.pp_law.specs.Connections.{exchange, is_conn, is_exchange}
use Rattle.pp_law.specs.Deciding.{add_exchange}
use Rattle.pp_law.specs.State.{State, Conn, Exchange}
use Rattle.pp_seats_law.specs.Exchanges.{ShowsExchange}
use Rattle.pp_flow_law.specs.Changes.{BeginningsAreTheLaws, BeginsAreTheLaws}
use Rattle.pp_flow_law.specs.Tables.{AreGiven, Leaving, ShowsFlow, has_none, line_in}
use Rattle.pp_flow_law.proofs.Entries.{other_way, same_as, same_number}
use Rattle.pp_flow_law.proofs.Exchanges.{given_more, none_behind, numbers_of}
use Rattle.pp_flow_law.proofs.Pairs.{both_as}
use Rattle.pp_flow_law.proofs.Put.{at_most_one, first_none, no_more}

pub beginnings : BeginningsAreTheLaws
beginnings number s none unlinked zero = record {
  each = λ n. both_as number None None (exchange s n) None refl (ap (λ (es : List Exchange). find (is_exchange n) es) none) tt;
  waiting = subst (λ (es : List Exchange). AreAll (ShowsExchange number) [] (filter has_none es)) (sym none) tt;
  lines = λ n. sym (ap (λ (ks : List Conn). line_in (find (is_conn n) ks)) unlinked);
  once = λ n. few n;
  begun = sym zero;
  given = subst (λ (es : List Exchange). AreGiven 0 s.next_exchange (numbers_of es)) (sym none) (omega arith);
}
  where
    few : (n : ℕ) → count_by (is_number n) [] ≤ 1
    few n = omega arith

abbrev begun_at : Entry → Exchanges → Exchanges
begun_at x f = record f { waiting = f.waiting ++ x ∷ []; begun = f.begun + 1 }

record AreNone (f : Exchanges) (s : State) (n : ℕ) : Type 0 where
  waiting : find (is_number n) f.waiting ≡ None
  placed : find (is_number n) f.placed ≡ None
  known : exchange s n ≡ None

-- none has the number of the next
none_yet : (number : ℕ → ℕ) (l : Leaving) (f : Exchanges) (s : State) → ShowsFlow number l f s → (n : ℕ) → n ≡ s.next_exchange → AreNone f s n
none_yet number l f s shows n is =
    by (find (is_number n) f.waiting) (find (is_number n) f.placed) refl refl (subst (λ (o : Option Exchange). AreBoth (ShowsExchange number) (entry_of n f) o) none (shows.each n))
  where
    none : exchange s n ≡ None
    none = none_behind n 0 s.next_exchange s.exchanges (omega (arith, is)) shows.given

    by : (u v : Option Entry) → find (is_number n) f.waiting ≡ u → find (is_number n) f.placed ≡ v → AreBoth (ShowsExchange number) (first_of u v) None → AreNone f s n
    by None None a b both = record { waiting = a; placed = b; known = none }
    by None (Some x) a b both = absurd both
    by (Some x) v a b both = absurd both

begins_at : (number : ℕ → ℕ) (l : Leaving) (f : Exchanges) (s : State) → ShowsFlow number l f s → (x : Entry) (e : Exchange) → x.exchange.number ≡ f.begun → x.exchange.place ≡ None → ShowsExchange number x e → ShowsFlow number l (begun_at x f) (add_exchange e s)
unfolding add_exchange
begins_at number l f s shows x e num unplaced one = record {
  each = λ m. at (m == f.begun) m refl;
  waiting =
      subst (λ (es : List Exchange). AreAll (ShowsExchange number) (f.waiting ++ x ∷ []) es) (sym (filter_joined has_none s.exchanges (e ∷ []) ∙ ap (λ (t : Bool). filter has_none s.exchanges ++ cond t (e ∷ []) []) without_one))
      (joined (ShowsExchange number) f.waiting (x ∷ []) (filter has_none s.exchanges) (e ∷ []) shows.waiting (one, tt));
  lines = shows.lines;
  once = λ m. few (m == f.begun) m refl;
  begun = ap (λ (n : ℕ). n + 1) shows.begun;
  given = given_more 0 s.next_exchange s.exchanges e (sym one.number ∙ num ∙ shows.begun) shows.given;
}
  where
    without_one : has_none e ≡ true
    without_one = ap (λ (o : Option ℕ). not (is_some o)) (sym one.place ∙ unplaced)

    its : e.number ≡ f.begun
    its = sym one.number ∙ num

    few : (b : Bool) (m : ℕ) → (m == f.begun) ≡ b → count_by (is_number m) ((f.waiting ++ x ∷ []) ++ f.placed) ≤ 1
    few true m is =
        let none : AreNone f s m = none_yet number l f s shows m (same_number m f.begun is ∙ shows.begun) in
        omega (
          arith,
          count_joined (is_number m) (f.waiting ++ x ∷ []) f.placed,
          count_joined (is_number m) f.waiting (x ∷ []),
          count_first (is_number m) x [],
          at_most_one (is_number m x),
          no_more (is_number m),
          none_found (is_number m) f.waiting none.waiting,
          none_found (is_number m) f.placed none.placed,
        )
    few false m is =
        let zero : count_by (is_number m) (x ∷ []) ≡ 0 + count_by (is_number m) [] =
        count_first (is_number m) x [] ∙ ap (λ (i : ℕ). cond (i == m) 1 0 + count_by (is_number m) []) num ∙ ap (λ (b : Bool). cond b 1 0 + count_by (is_number m) []) (other_way m f.begun is) in
        omega
        (arith, shows.once m, count_joined (is_number m) f.waiting f.placed, count_joined (is_number m) (f.waiting ++ x ∷ []) f.placed, count_joined (is_number m) f.waiting (x ∷ []), zero, no_more (is_number m))

    here : (m : ℕ) (b : Bool) → (x.exchange.number == m) ≡ b → find (is_number m) (f.waiting ++ x ∷ []) ≡ first_of_two (find (is_number m) f.waiting) (cond b (Some x) None)
    here m b is = find_joined (is_number m) f.waiting (x ∷ []) ∙ ap (λ (t : Bool). first_of_two (find (is_number m) f.waiting) (cond t (Some x) None)) is

    there : (m : ℕ) (b : Bool) → (e.number == m) ≡ b → find (is_exchange m) (s.exchanges ++ e ∷ []) ≡ first_of_two (exchange s m) (cond b (Some e) None)
    there m b is = find_joined (is_exchange m) s.exchanges (e ∷ []) ∙ ap (λ (t : Bool). first_of_two (exchange s m) (cond t (Some e) None)) is

    at : (b : Bool) (m : ℕ) → (m == f.begun) ≡ b → AreBoth (ShowsExchange number) (entry_of m (begun_at x f)) (find (is_exchange m) (s.exchanges ++ e ∷ []))
    at true m is =
        let same : m ≡ f.begun = same_number m f.begun is in
        let none : AreNone f s m = none_yet number l f s shows m (same ∙ shows.begun) in
        both_as number (entry_of m (begun_at x f)) (Some x) (find (is_exchange m) (s.exchanges ++ e ∷ [])) (Some e)
        (ap (λ (u : Option Entry). first_of u (find (is_number m) f.placed)) (here m true (same_as x.exchange.number m (num ∙ sym same)) ∙ ap (λ (u : Option Entry). first_of_two u (Some x)) none.waiting))
        (there m true (same_as e.number m (its ∙ sym same)) ∙ ap (λ (u : Option Exchange). first_of_two u (Some e)) none.known) one
    at false m is =
        let out : (f.begun == m) ≡ false = other_way m f.begun is in
        both_as number (entry_of m (begun_at x f)) (entry_of m f) (find (is_exchange m) (s.exchanges ++ e ∷ [])) (exchange s m)
        (ap (λ (u : Option Entry). first_of u (find (is_number m) f.placed)) (here m false (ap (λ (i : ℕ). i == m) num ∙ out) ∙ first_none (find (is_number m) f.waiting)))
        (there m false (ap (λ (i : ℕ). i == m) its ∙ out) ∙ first_none (exchange s m)) (shows.each m)

pub begins : BeginsAreTheLaws
begins number l f s shows client key aim errand text e one = begins_at number l f s shows (begun_with f.begun client key aim errand text) e refl refl one
