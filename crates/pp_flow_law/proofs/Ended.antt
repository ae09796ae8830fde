-- One of the exchanges is over.
use Rattle.std.proofs.Common.{◌≡◌, refl, sym, subst, ap, ap₂, ◌∙◌, ℕ, Bool, true, false, not, ◌==◌, find, List, ◌++◌, filter, Option, Some, None, option_map, arith}
use Rattle.pp_cache_law.proofs.Finds.{find_kept, find_mapped, find_out}
use Rattle.pp_cache_law.proofs.PairLemmas.{count_joined, filter_joined}
use Rattle.pp_cache_law.specs.Pairs.{AreAll, AreBoth}
use Rattle.pp_flow.specs.Changes.{Exchanges, entry_of, first_of, line_of, without as without_number}
use Rattle.pp_flow.specs.Entries.{is_number}
use Rattle.pp_flow.specs.declared.entry.Entry.{Entry}
use Rattle.pp_law.specs.Connections.{conn, end_exchange, exchange, is_conn, is_exchange, without_ask}
use Rattle.pp_law.specs.Lists.{without}
use Rattle.pp_law.specs.State.{State, Conn, Exchange}
use Rattle.pp_seats_law.specs.Exchanges.{ShowsExchange}
use Rattle.pp_flow_law.specs.Changes.{EndsAreTheLaws, but}
use Rattle.pp_flow_law.specs.Tables.{Leaving, ShowsFlow, has_none, line_at, line_in}
use Rattle.pp_flow_law.proofs.Entries.{count_without, find_without, find_without_else, isnt, line_without, off, other_way, same_number}
use Rattle.pp_flow_law.proofs.Exchanges.{filter_swap, given_kept, isnt_exchange}
use Rattle.pp_flow_law.proofs.Pairs.{both_as, pairs_without}
use Rattle.pp_flow_law.proofs.Standing.{few_placed, few_waiting}

abbrev pub over_at : ℕ → Exchanges → Exchanges
over_at n f = record f { waiting = without_number n f.waiting; placed = without_number n f.placed }

pub not_so : (b : Bool) → not b ≡ true → b ≡ false
not_so true is = absurd cc
not_so false is = refl

-- the line of a connection, but for that one
pub line_but : (number : ℕ → ℕ) (l : Leaving) (f : Exchanges) (s : State) → ShowsFlow number l f s → (n m : ℕ) → line_of m (without_number n f.placed) ≡ but n l m ++ filter (isnt n) (line_at s m)
line_but number l f s shows n m =
    line_without n m f.placed (few_placed number l f s shows n) ∙ ap (λ (ns : List ℕ). filter (isnt n) ns) (shows.lines m) ∙ filter_joined (isnt n) (l m) (line_at s m)

pub ends : EndsAreTheLaws
unfolding end_exchange
ends number l f s shows n = record {
  each = λ m. at (m == n) m refl;
  waiting =
      subst (λ (es : List Exchange). AreAll (ShowsExchange number) (without_number n f.waiting) es) (sym (filter_swap has_none (isnt_exchange n) s.exchanges))
      (pairs_without number n f.waiting (filter has_none s.exchanges) (few_waiting number l f s shows n) shows.waiting);
  lines = λ m. line_but number l f s shows n m ∙ ap (λ (ns : List ℕ). but n l m ++ ns) (its (conn s m) ∙ ap (λ (o : Option Conn). line_in o) (sym (find_mapped (is_conn m) (without_ask n) s.conns (λ j. refl))));
  once = λ m.
      omega
      (arith, shows.once m, count_joined (is_number m) f.waiting f.placed, count_joined (is_number m) (without_number n f.waiting) (without_number n f.placed), count_without n (is_number m) f.waiting, count_without n (is_number m) f.placed);
  begun = shows.begun;
  given = given_kept (isnt_exchange n) 0 s.next_exchange s.exchanges shows.given;
}
  where
    its : (o : Option Conn) → filter (isnt n) (line_in o) ≡ line_in (option_map (without_ask n) o)
    its None = refl
    its (Some k) = refl

    at : (b : Bool) (m : ℕ) → (m == n) ≡ b → AreBoth (ShowsExchange number) (entry_of m (over_at n f)) (find (is_exchange m) (without (is_exchange n) s.exchanges))
    at true m is =
        subst (λ (i : ℕ). AreBoth (ShowsExchange number) (entry_of i (over_at n f)) (find (is_exchange i) (without (is_exchange n) s.exchanges))) (sym (same_number m n is))
        (both_as number (entry_of n (over_at n f)) None (find (is_exchange n) (without (is_exchange n) s.exchanges)) None
        (ap₂ (λ (u v : Option Entry). first_of u v) (find_without n f.waiting (few_waiting number l f s shows n)) (find_without n f.placed (few_placed number l f s shows n)))
        (find_out (is_exchange n) (isnt_exchange n) s.exchanges (λ e out. not_so (is_exchange n e) out)) tt)
    at false m is =
        both_as number (entry_of m (over_at n f)) (entry_of m f) (find (is_exchange m) (without (is_exchange n) s.exchanges)) (exchange s m)
        (ap₂ (λ (u v : Option Entry). first_of u v) (find_without_else n m is f.waiting) (find_without_else n m is f.placed))
        (find_kept (is_exchange m) (isnt_exchange n) s.exchanges (λ e so. ap not (off e.number n m so (other_way m n is)))) (shows.each m)
