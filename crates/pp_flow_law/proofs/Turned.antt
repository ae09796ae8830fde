-- One of the exchanges is changed where it stands.
use Rattle.std.proofs.Common.{◌≡◌, refl, sym, subst, ap, ap₂, ◌∙◌, ℕ, Bool, true, false, not, ◌==◌, find, List, filter, Option, Some, None, arith}
use Rattle.std.specs.Prelude.{count_by, is_some, option_map}
use Rattle.pp_cache_law.proofs.PairLemmas.{count_joined}
use Rattle.pp_cache_law.specs.Pairs.{AreAll, AreBoth}
use Rattle.pp_flow.specs.Changes.{Exchanges, changed, entry_of, first_of}
use Rattle.pp_flow.specs.Entries.{is_number, nobodys}
use Rattle.pp_flow.specs.declared.entry.Entry.{Entry}
use Rattle.pp_law.specs.Closing.{left_alone}
use Rattle.pp_law.specs.Connections.{exchange, is_exchange, on_exchange}
use Rattle.pp_law.specs.Lists.{change}
use Rattle.pp_law.specs.State.{State, Exchange}
use Rattle.pp_seats_law.specs.Exchanges.{ShowsExchange}
use Rattle.pp_flow_law.specs.Changes.{KeepsItsPlace, LeavesAreTheLaws}
use Rattle.pp_flow_law.specs.Tables.{AreGiven, Leaving, ShowsFlow, has_none}
use Rattle.pp_flow_law.proofs.Entries.{Keeps, count_changed, find_changed, find_changed_else, line_changed, same_number}
use Rattle.pp_flow_law.proofs.Exchanges.{filter_change, find_change, find_change_else, numbers_change}
use Rattle.pp_flow_law.proofs.Pairs.{both_as, both_mapped, pairs_changed}
use Rattle.pp_flow_law.proofs.Standing.{entry_waiting, few_waiting}

-- the entry of a number, and the law's exchange, may be changed so
abbrev pub Turns : (ℕ → ℕ) → ℕ → Exchanges → (Entry → Entry) → (Exchange → Exchange) → Type 0
Turns number n f g h = (x : Entry) (e : Exchange) → entry_of n f ≡ Some x → ShowsExchange number x e → ShowsExchange number (g x) (h e)

abbrev pub changed_at : ℕ → (Entry → Entry) → Exchanges → Exchanges
changed_at n g f = record f { waiting = changed n g f.waiting; placed = changed n g f.placed }

first_mapped : (g : Entry → Entry) (u v : Option Entry) → first_of (option_map g u) (option_map g v) ≡ option_map g (first_of u v)
first_mapped g None v = refl
first_mapped g (Some x) v = refl

entry_changed : (n : ℕ) (g : Entry → Entry) (f : Exchanges) → Keeps g → entry_of n (changed_at n g f) ≡ option_map g (entry_of n f)
entry_changed n g f keeps =
    ap₂ (λ (u v : Option Entry). first_of u v) (find_changed n g keeps f.waiting) (find_changed n g keeps f.placed) ∙ first_mapped g (find (is_number n) f.waiting) (find (is_number n) f.placed)

entry_changed_else : (n m : ℕ) (g : Entry → Entry) (f : Exchanges) → Keeps g → (m == n) ≡ false → entry_of m (changed_at n g f) ≡ entry_of m f
entry_changed_else n m g f keeps isnt = ap₂ (λ (u v : Option Entry). first_of u v) (find_changed_else n m g keeps isnt f.waiting) (find_changed_else n m g keeps isnt f.placed)

pub changes : (number : ℕ → ℕ) (l : Leaving) (f : Exchanges) (s : State) → ShowsFlow number l f s → (n : ℕ) (g : Entry → Entry) (h : Exchange → Exchange) → Keeps g → KeepsItsPlace h → Turns number n f g h
    → ShowsFlow number l (changed_at n g f) (record s { exchanges = change (is_exchange n) h s.exchanges })
changes number l f s shows n g h keeps holds to = record {
  each = λ m. at (m == n) m refl;
  waiting =
      subst (λ (es : List Exchange). AreAll (ShowsExchange number) (changed n g f.waiting) es) (sym (filter_change n h has_none (λ e. ap (λ (o : Option ℕ). has_none_in o) (holds e).1) s.exchanges))
      (pairs_changed number n g h f.waiting (filter has_none s.exchanges) (λ x e here. to x e (entry_waiting n f x here)) (few_waiting number l f s shows n) shows.waiting);
  lines = λ m. line_changed n m g keeps f.placed ∙ shows.lines m;
  once = λ m. omega (arith, shows.once m, count_joined (is_number m) f.waiting f.placed, count_joined (is_number m) (changed n g f.waiting) (changed n g f.placed), counts m f.waiting, counts m f.placed);
  begun = shows.begun;
  given = subst (λ (ns : List ℕ). AreGiven 0 s.next_exchange ns) (sym (numbers_change n h (λ e. (holds e).0) s.exchanges)) shows.given;
}
  where
    has_none_in : Option ℕ → Bool
    has_none_in o = not (is_some o)

    counts : (m : ℕ) (es : List Entry) → count_by (is_number m) (changed n g es) ≡ count_by (is_number m) es
    counts m es = count_changed n g (is_number m) (λ x. ap (λ (i : ℕ). i == m) (keeps x).0) es

    at : (b : Bool) (m : ℕ) → (m == n) ≡ b → AreBoth (ShowsExchange number) (entry_of m (changed_at n g f)) (find (is_exchange m) (change (is_exchange n) h s.exchanges))
    at true m is =
        subst (λ (i : ℕ). AreBoth (ShowsExchange number) (entry_of i (changed_at n g f)) (find (is_exchange i) (change (is_exchange n) h s.exchanges))) (sym (same_number m n is))
        (both_as number (entry_of n (changed_at n g f)) (option_map g (entry_of n f)) (find (is_exchange n) (change (is_exchange n) h s.exchanges)) (option_map h (exchange s n)) (entry_changed n g f keeps)
        (find_change n h (λ e. (holds e).0) s.exchanges) (both_mapped (ShowsExchange number) (ShowsExchange number) g h (entry_of n f) (exchange s n) (λ x e here there. to x e here) (shows.each n)))
    at false m is =
        both_as number (entry_of m (changed_at n g f)) (entry_of m f) (find (is_exchange m) (change (is_exchange n) h s.exchanges)) (exchange s m) (entry_changed_else n m g f keeps is)
        (find_change_else n m h (λ e. (holds e).0) is s.exchanges) (shows.each m)

pub leaves : LeavesAreTheLaws
unfolding on_exchange
leaves number l f s shows n = changes number l f s shows n nobodys left_alone (λ x. (refl, refl)) (λ e. (refl, refl)) (λ x e here one. record {
  number = one.number;
  asker = refl;
  aim = one.aim;
  place = one.place;
  text_key = one.text_key;
  parts = one.parts;
  named = one.named;
  is_ranged = one.is_ranged;
  is_moved = one.is_moved;
  is_asked_once = one.is_asked_once;
  asks_head = one.asks_head;
  is_safe = one.is_safe;
  binds = one.binds;
  identity = one.identity;
  guess = one.guess;
  text = one.text;
  asked = one.asked;
  body_left = one.body_left;
  requested = one.requested;
  body = one.body;
})
