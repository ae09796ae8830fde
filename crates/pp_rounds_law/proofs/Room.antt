-- Before followers ask, a request has one exchange at most, and there is room for an exchange of each.
use Rattle.std.proofs.Common.{◌≡◌, ◌≤◌, ◌<◌, ◌+◌, sym, subst, ◌∙◌, ℕ, Bool, true, false, ◌==◌, length, filter, map, List, [], ◌∷◌, Option, Some, None, le_refl, le_trans, arith}
use Rattle.std.specs.Prelude.{count_by}
use Rattle.pp_flow_law.specs.Tables.{AreGiven}
use Rattle.pp_law.specs.Closing.{is_of, leave_one, left_alone}
use Rattle.pp_law.specs.Connections.{each_exchange, end_exchange, exchange, on_client, on_exchange}
use Rattle.pp_law.specs.Phases.{in_phase}
use Rattle.pp_law.specs.State.{State, Client, Exchange, Term, Connecting, Deciding, Handling}
use Rattle.pp_law.specs.Unseen.{drop_unseen}
use Rattle.pp_laws.specs.Numbers.{AllAbove, AreRising}
use Rattle.pp_laws_bounds.proofs.Counts.{length-filter, length-map}
use Rattle.pp_laws_turn.proofs.Amid.{asks_are_given_up, unseen_drop}
use Rattle.pp_laws_turn.proofs.Clients.{give_up_asks-keeps}
use Rattle.pp_laws_turn.proofs.Kept.{Turn}
use Rattle.pp_laws_turn.proofs.Laws.{asks_once}
use Rattle.pp_laws_turn.proofs.Lifts.{turn_on}
use Rattle.pp_laws_turn.proofs.Steps.{drop_unseen-keeps}
use Rattle.pp_laws_turn.proofs.View.{Holds, View, Walk, facts_of, holds}
use Rattle.pp_obeys.specs.Obeys.{Obeys}
use Rattle.pp_world.specs.Log.{Log}
use Rattle.pp_rounds_law.specs.Supplies.{without_useless}

-- ---- no exchange begins as some are dropped and given up

abbrev Fewer : ℕ → View → Type 0
Fewer k v = length v.exchanges ≤ k

mapped : (k : ℕ) (f : Exchange → Exchange) (es : List Exchange) → length es ≤ k → length (map f es) ≤ k
mapped k f es few = subst (λ (n : ℕ). n ≤ k) (sym (length-map f es)) few

kept : (k : ℕ) (test : Exchange → Bool) (es : List Exchange) → length es ≤ k → length (filter test es) ≤ k
kept k test es few = le_trans (length-filter test es) few

left_one : (k : ℕ) (e : Exchange) (s : State) → length s.exchanges ≤ k → length (leave_one e s).exchanges ≤ k
unfolding leave_one end_exchange on_exchange
left_one k e s few = by (e.asked == 0)
  where
    by : (b : Bool) → length (elim b as (λ t. State) [ true ↦ end_exchange e.number s | false ↦ on_exchange e.number left_alone s ]).exchanges ≤ k
    by true = kept k _ s.exchanges few
    by false = mapped k _ s.exchanges few

each_left : (k : ℕ) (ns : List ℕ) (s : State) → length s.exchanges ≤ k → length (each_exchange leave_one ns s).exchanges ≤ k
unfolding each_exchange
each_left k [] s few = few
each_left k (n ∷ ns) s few = each_left k ns (elim (exchange s n) as (λ t. State) [ None ↦ s | Some e ↦ leave_one e s ]) (by (exchange s n))
  where
    by : (o : Option Exchange) → length (elim o as (λ t. State) [ None ↦ s | Some e ↦ leave_one e s ]).exchanges ≤ k
    by None = few
    by (Some e) = left_one k e s few

closed : (k n : ℕ) (f : Client → Client) (ns : List ℕ) (s : State) → length s.exchanges ≤ k → length (each_exchange leave_one ns (on_client n f s)).exchanges ≤ k
unfolding on_client
closed k n f ns s few = each_left k ns (on_client n f s) few

fewer_walk : (k : ℕ) → Walk (Fewer k)
fewer_walk k = record {
  clients = λ f same v few. few;
  asks = λ f v each few. mapped k f v.exchanges few;
  left = λ test v few. mapped k _ v.exchanges few;
  over = λ test v few. kept k test v.exchanges few;
  conns = λ f same v few. few;
  rows = λ xs next v from few. few;
  leaves = λ n f moves v few. mapped k _ v.exchanges few;
  closes = λ n f number closing body brought s few. closed k n f _ s few;
  tells = λ test b v in_it few. few;
}

few_left : (s : State) → length (without_useless s).exchanges ≤ length s.exchanges
few_left s =
    facts_of
    (give_up_asks-keeps {P = Fewer (length s.exchanges)} (fewer_walk (length s.exchanges)) (drop_unseen (in_phase Connecting s))
    (drop_unseen-keeps {P = Fewer (length s.exchanges)} (fewer_walk (length s.exchanges)) (in_phase Connecting s) (holds (le_refl (length s.exchanges)))))

-- ---- there is room

given_length : (low next : ℕ) (ns : List ℕ) → AreGiven low next ns → length ns + low ≤ next
given_length low next [] given = omega (arith, given)
given_length low next (n ∷ ns) given = omega (arith, given.0, given_length (n + 1) next ns given.1)

pub room_for : (s : State) (seats : ℕ) (awake : List ℕ) → AreGiven 0 seats awake → seats ≤ 256 → length s.exchanges ≤ 768 → length (without_useless s).exchanges + length awake ≤ 1024
room_for s seats awake given few some = omega (arith, given_length 0 seats awake given, few, some, few_left s)

-- ---- a request has one

above_given : (n low next : ℕ) (ns : List ℕ) → n < low → AreGiven low next ns → AllAbove n ns
above_given n low next [] less given = tt
above_given n low next (m ∷ ms) less given = (omega (arith, less, given.0), above_given n (m + 1) next ms (omega (arith, less, given.0)) given.1)

rising : (low next : ℕ) (ns : List ℕ) → AreGiven low next ns → AreRising ns
rising low next [] given = tt
rising low next (n ∷ ns) given = (above_given n (n + 1) next ns (omega arith) given.1, rising (n + 1) next ns given.1)

not_handling : {A : Type 0} → Deciding ≡ Handling → A
not_handling is = absurd (cc is)

turn_connecting : (s : State) → s.phase ≡ Deciding → Holds Turn s → Holds Turn (in_phase Connecting s)
turn_connecting s at h =
    let f = facts_of h in
    holds (record {
      owes = λ owed. not_handling (sym at ∙ f.owes owed);
      given = f.given;
      source = f.source;
      news = λ c x early i going j new is. absurd (let bad : true ≡ false = early in cc bad);
      one = f.one;
      goes = f.goes;
      fresh = f.fresh;
      lined = f.lined;
      bodied = f.bodied;
      once = f.once;
      made = f.made;
      short = f.short;
    })

pub once_each : (terms : List Term) (before : Log) (s : State) → Obeys terms s before → s.phase ≡ Deciding → AreGiven 0 (without_useless s).next_exchange (map (λ (e : Exchange). e.number) (without_useless s).exchanges) → (n : ℕ) → count_by (is_of n) (without_useless s).exchanges ≤ 1
once_each terms before s obeys at given n =
    asks_once (without_useless s) (rising 0 (without_useless s).next_exchange (map (λ (e : Exchange). e.number) (without_useless s).exchanges) given)
    (facts_of (asks_are_given_up (drop_unseen (in_phase Connecting s)) (unseen_drop (in_phase Connecting s) (turn_connecting s at (turn_on terms s before obeys))))) n
