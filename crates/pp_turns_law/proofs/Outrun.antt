-- The reply of a client begins from something else than its exchange: that is nobody's from then on, where it was not answered.
use Rattle.std.proofs.Common.{◌≡◌, ◌≤◌, refl, sym, subst, ap, ap₂, ◌∙◌, ℕ, Bool, true, false, not, ◌&&◌, cond, find, List, [], ◌∷◌, Option, Some, None, option_map}
use Rattle.std.specs.Prelude.{count_by}
use Rattle.pp_cache.specs.Memory.{Memory}
use Rattle.pp_cache_law.proofs.Finds.{find_passes, one_only, only_found}
use Rattle.pp_cache_law.proofs.Numbers.{true_false}
use Rattle.pp_cache_law.proofs.PairLemmas.{AreOnly}
use Rattle.pp_flow.specs.Changes.{Exchanges, changed, entry_of, first_of}
use Rattle.pp_flow.specs.Entries.{is_asked_by, is_number, nobodys}
use Rattle.pp_flow.specs.declared.entry.Entry.{Entry}
use Rattle.pp_flow_law.proofs.Entries.{none_some}
use Rattle.pp_flow_law.proofs.Standing.{IsShown, entry_placed, entry_waiting, few_given, few_placed, few_waiting, is_shown, none_waits}
use Rattle.pp_flow_law.proofs.Told.{asked_none, found_alone, its_asker}
use Rattle.pp_flow_law.specs.Tables.{Leaving}
use Rattle.pp_law.specs.Closing.{forsake, is_of, left_alone}
use Rattle.pp_law.specs.Connections.{is_exchange, on_exchange}
use Rattle.pp_law.specs.Lists.{Bytes, change}
use Rattle.pp_law.specs.Stages.{is_headed}
use Rattle.pp_law.specs.State.{State, Exchange}
use Rattle.pp_seats_law.proofs.Entries.{exchanges}
use Rattle.pp_states_law.proofs.Ended.{leaves as states_leave}
use Rattle.pp_states_law.proofs.Lines.{same_itself}
use Rattle.pp_states_law.specs.States.{Parts as Whole, ShowsState}
use Rattle.pp_steps.specs.Begins.{left_unanswered, without_outrun, without_unanswered}
use Rattle.pp_states_law.proofs.Told.{told_left}
use Rattle.pp_states_law.specs.Told.{AreTold}

-- not answered, and of that client
abbrev pub is_unanswered : ℕ → Exchange → Bool
is_unanswered n e = not (is_headed e) && is_of n e

abbrev left_if : Bool → Exchange → Exchange
left_if b e = elim b [ true ↦ left_alone e | false ↦ e ]

and_no : (b : Bool) → (b && false) ≡ false
and_no true = refl
and_no false = refl

none_left : (n : ℕ) (es : List Exchange) → find (is_of n) es ≡ None → change (is_unanswered n) left_alone es ≡ es
none_left n [] none = refl
none_left n (e ∷ es) none = by (is_of n e) refl none (none_left n es)
  where
    by : (b : Bool) → is_of n e ≡ b → cond b (Some e) (find (is_of n) es) ≡ None → (find (is_of n) es ≡ None → change (is_unanswered n) left_alone es ≡ es) → left_if (is_unanswered n e) e ∷ change (is_unanswered n) left_alone es ≡ e ∷ es
    by true is found rest = absurd (none_some e (sym found))
    by false is found rest = ap₂ (λ (x : Exchange) (xs : List Exchange). x ∷ xs) (ap (λ (b : Bool). left_if (not (is_headed e) && b) e) is ∙ ap (λ (b : Bool). left_if b e) (and_no (not (is_headed e)))) (rest found)

module _ (n k : ℕ) (d : Exchange) (asks : is_of n d ≡ true) (its : is_exchange k d ≡ true) where
  answered_same : (es : List Exchange) → not (is_headed d) ≡ false → AreOnly (is_of n) d es → change (is_unanswered n) left_alone es ≡ es
  answered_same [] had ones = refl
  answered_same (e ∷ es) had ones = ap₂ (λ (x : Exchange) (xs : List Exchange). x ∷ xs) (ap (λ (b : Bool). left_if b e) (by (is_of n e) refl)) (answered_same es had ones.1)
    where
      by : (b : Bool) → is_of n e ≡ b → is_unanswered n e ≡ false
      by true is = ap (λ (x : Exchange). not (is_headed x) && is_of n e) (ones.0 is) ∙ ap (λ (b : Bool). b && is_of n e) had
      by false is = ap (λ (b : Bool). not (is_headed e) && b) is ∙ and_no (not (is_headed e))

  unanswered_same : (es : List Exchange) → not (is_headed d) ≡ true → AreOnly (is_of n) d es → AreOnly (is_exchange k) d es → change (is_unanswered n) left_alone es ≡ change (is_exchange k) left_alone es
  unanswered_same [] had ones twos = refl
  unanswered_same (e ∷ es) had ones twos = ap₂ (λ (x : Exchange) (xs : List Exchange). x ∷ xs) (ap (λ (b : Bool). left_if b e) (by (is_of n e) (is_exchange k e) refl refl)) (unanswered_same es had ones.1 twos.1)
    where
      by : (a b : Bool) → is_of n e ≡ a → is_exchange k e ≡ b → is_unanswered n e ≡ is_exchange k e
      by true b is so =
          ap₂ (λ (x y : Bool). x && y) (ap (λ (x : Exchange). not (is_headed x)) (ones.0 is) ∙ had) is ∙ sym (ap (λ (x : Exchange). is_exchange k x) (ones.0 is) ∙ its)
      by false true is so = absurd (true_false (sym (ap (λ (x : Exchange). is_of n x) (twos.0 so) ∙ asks) ∙ is))
      by false false is so = ap (λ (b : Bool). not (is_headed e) && b) is ∙ and_no (not (is_headed e)) ∙ sym so

-- ---- in a state

pub with_exchanges : (test : Exchange → Bool) (u : State) → forsake test u ≡ record u { exchanges = change test left_alone u.exchanges }
unfolding forsake
with_exchanges test u = refl

on_one : (k : ℕ) (u : State) → on_exchange k left_alone u ≡ record u { exchanges = change (is_exchange k) left_alone u.exchanges }
unfolding on_exchange
on_one k u = refl

abbrev nobodys_at : ℕ → Exchanges → Exchanges
nobodys_at n f = record f { waiting = changed n nobodys f.waiting; placed = changed n nobodys f.placed }

none_is : (o : Option Exchange) → None ≡ option_map (λ (e : Exchange). e.number) o → o ≡ None
none_is None is = refl
none_is (Some e) is = absurd (none_some e.number is)

module _ (number : ℕ → ℕ) (name : Bytes) (owed : List Bytes) (l : Leaving) (p : Whole) (u : State) (shows : ShowsState number name owed l p u) (n : ℕ) (few : count_by (is_of n) u.exchanges ≤ 1) where
  abbrev f : Exchanges
  f = p.flow

  abbrev Shown : Exchanges → State → Type 0
  Shown g t = ShowsState number name owed l (record p { flow = g }) t

  unchanged : change (is_unanswered n) left_alone u.exchanges ≡ u.exchanges → Shown f (forsake (is_unanswered n) u)
  unchanged same =
      subst (λ (t : State). Shown f t) (sym (with_exchanges (is_unanswered n) u ∙ ap (λ (es : List Exchange). let t : State = record u { exchanges = es } in t) same)) shows

  entry : (x : Entry) → is_asked_by n x ≡ true → entry_of x.exchange.number f ≡ Some x → Shown (without_unanswered (Some x.exchange.number) f) (forsake (is_unanswered n) u)
  entry x asked here = subst (λ (o : Option Entry). Shown (left_unanswered k o f) (forsake (is_unanswered n) u)) (sym here) (by x.exchange.headed refl)
    where
      k : ℕ
      k = x.exchange.number

      it : IsShown number u k x
      it = is_shown number l f u shows.exchanges k x here

      asks : is_of n it.known ≡ true
      asks = sym (its_asker number n x it.known it.shows) ∙ asked

      its : is_exchange k it.known ≡ true
      its = find_passes (is_exchange k) u.exchanges it.known it.there

      ones : AreOnly (is_of n) it.known u.exchanges
      ones = only_found (is_of n) (is_exchange k) u.exchanges it.known it.there asks few

      twos : AreOnly (is_exchange k) it.known u.exchanges
      twos = one_only (is_exchange k) u.exchanges it.known (few_given number l f u shows.exchanges k) it.there

      had : x.exchange.headed ≡ is_headed it.known
      had = (exchanges number x it.known it.shows).headed

      by : (b : Bool) → x.exchange.headed ≡ b → Shown (elim b as (λ t. Exchanges) [ true ↦ f | false ↦ nobodys_at k f ]) (forsake (is_unanswered n) u)
      by true is = unchanged (answered_same n k it.known asks its u.exchanges (ap not (sym had ∙ is)) ones)
      by false is =
          subst (λ (t : State). Shown (nobodys_at k f) t)
          (on_one k u ∙ ap (λ (es : List Exchange). let t : State = record u { exchanges = es } in t) (sym (unanswered_same n k it.known asks its u.exchanges (ap not (sym had ∙ is)) ones twos)) ∙ sym (with_exchanges (is_unanswered n) u))
          (states_leave number name owed l p u shows k)

  pub outrun_shows : Shown (without_outrun n f) (forsake (is_unanswered n) u)
  outrun_shows = by (find (is_asked_by n) f.waiting) (find (is_asked_by n) f.placed) refl refl
    where
      by : (a b : Option Entry) → find (is_asked_by n) f.waiting ≡ a → find (is_asked_by n) f.placed ≡ b → Shown (without_unanswered (option_map (λ e. e.exchange.number) (first_of a b)) f) (forsake (is_unanswered n) u)
      by None None a b = unchanged (none_left n u.exchanges (none_is (find (is_of n) u.exchanges) (asked_none number l f u shows.exchanges n a b)))
      by None (Some x) a b =
          let m : ℕ = x.exchange.number in
          let placed : find (is_number m) f.placed ≡ Some x = found_alone (is_number m) (is_asked_by n) f.placed x b (same_itself m) (few_placed number l f u shows.exchanges m) in
          entry x (find_passes (is_asked_by n) f.placed x b) (entry_placed m f x (none_waits number l f u shows.exchanges m x placed) placed)
      by (Some x) o a b =
          let m : ℕ = x.exchange.number in
          entry x (find_passes (is_asked_by n) f.waiting x a) (entry_waiting m f x (found_alone (is_number m) (is_asked_by n) f.waiting x a (same_itself m) (few_waiting number l f u shows.exchanges m)))

-- what exchanges are bound to stays told
pub told_outrun : (number : ℕ → ℕ) (m : Memory) (next n : ℕ) (f : Exchanges) → AreTold number m next f → AreTold number m next (without_outrun n f)
told_outrun number m next n f told = by (option_map (λ (e : Entry). e.exchange.number) (first_of (find (is_asked_by n) f.waiting) (find (is_asked_by n) f.placed)))
  where
    had : (k : ℕ) (b : Bool) → AreTold number m next (elim b as (λ t. Exchanges) [ true ↦ f | false ↦ nobodys_at k f ])
    had k true = told
    had k false = told_left number m next k f told

    at : (k : ℕ) (o : Option Entry) → AreTold number m next (left_unanswered k o f)
    at k None = told
    at k (Some e) = had k e.exchange.headed

    by : (o : Option ℕ) → AreTold number m next (without_unanswered o f)
    by None = told
    by (Some k) = at k (entry_of k f)
