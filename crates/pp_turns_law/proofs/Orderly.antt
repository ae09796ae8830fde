-- What loses a place, is over or closes a connection leaves connections in order.
use Rattle.std.proofs.Common.{◌≡◌, ◌≤◌, refl, sym, subst, ap, ◌∙◌, ℕ, suc, Bool, true, false, not, ◌==◌, ◌&&◌, cond, filter, find, length, map, List, [], ◌∷◌, Some, None, Option, arith}
use Rattle.pp_cache_law.proofs.Finds.{find_out}
use Rattle.pp_cache_law.proofs.Numbers.{some_is}
use Rattle.pp_cache_law.proofs.PairLemmas.{count_mapped_same}
use Rattle.pp_flow_law.proofs.Ended.{not_so}
use Rattle.pp_flow_law.proofs.Entries.{none_some, same_number}
use Rattle.pp_flow_law.specs.Frames.{emptied}
use Rattle.pp_law.specs.Closing.{left_alone}
use Rattle.pp_law.specs.Connections.{attempts_of, charge, close_conn, each_exchange, end_exchange, exchange, give_up_row, is_conn, is_exchange, is_unfilled, leave_place, lose_attempt, lose_place, lost_one, may_ask_again, on_client_of, on_conn, on_exchange, unplaced, without_ask, without_row}
use Rattle.pp_law.specs.Lists.{Bytes}
use Rattle.pp_law.specs.Stages.{is_headed, on_passed}
use Rattle.pp_law.specs.State.{State, Client, Conn, Course, Exchange}
use Rattle.pp_law.specs.Table.{clear, swept}
use Rattle.pp_states_law.proofs.Ended.{gone}
use Rattle.pp_states_law.specs.Decisions.{AreApart}
use Rattle.pp_states_law.proofs.Kept.{all_go, lost_kept}
use Rattle.pp_states_law.specs.Lines.{AllGo}
use Rattle.pp_target.specs.Key.{text_of}
use Rattle.pp_turns_law.specs.Sides.{AreOrderly, IsOrderly, MayClose}

-- ---- each connection

pub found : (q : Conn → Bool) (ks : List Conn) (k : Conn) → find q ks ≡ Some k → AreOrderly ks → IsOrderly k
found q [] k there all = absurd (none_some k there)
found q (j ∷ ks) k there all = by (q j) there (λ rest. found q ks k rest all.1)
  where
    by : (b : Bool) → cond b (Some j) (find q ks) ≡ Some k → (find q ks ≡ Some k → IsOrderly k) → IsOrderly k
    by true is rest = subst (λ (i : Conn). IsOrderly i) (some_is j k is) all.0
    by false is rest = rest is

pub mapped : (f : Conn → Conn) → ((k : Conn) → IsOrderly k → IsOrderly (f k)) → (ks : List Conn) → AreOrderly ks → AreOrderly (map f ks)
mapped f keeps [] all = tt
mapped f keeps (k ∷ ks) all = (keeps k all.0, mapped f keeps ks all.1)

pub shorter : (q : ℕ → Bool) (ns : List ℕ) → length (filter q ns) ≤ length ns
shorter q [] = omega arith
shorter q (n ∷ ns) = by (q n) (shorter q ns)
  where
    by : (b : Bool) → length (filter q ns) ≤ length ns → length (cond b (n ∷ filter q ns) (filter q ns)) ≤ suc (length ns)
    by true rest = omega (arith, rest)
    by false rest = omega (arith, rest)

ask_out : (n : ℕ) (k : Conn) → IsOrderly k → IsOrderly (without_ask n k)
ask_out n k one = record {
  closed = λ is. ap (λ (ns : List ℕ). filter (λ m. not (m == n)) ns) (one.closed is);
  few = omega (arith, shorter (λ m. not (m == n)) k.line, one.few);
}

abbrev emptied_if : ℕ → Conn → Conn
emptied_if n k = elim (is_conn n k) as (λ t. Conn) [ true ↦ emptied k | false ↦ k ]

empty_order : (n : ℕ) (k : Conn) → IsOrderly k → IsOrderly (emptied_if n k)
empty_order n k one = by (is_conn n k)
  where
    by : (b : Bool) → IsOrderly (elim b as (λ t. Conn) [ true ↦ emptied k | false ↦ k ])
    by true = record { closed = λ is. refl; few = omega arith }
    by false = one

-- ---- an exchange is over

pub ended_orderly : (n : ℕ) (s : State) → AreOrderly s.conns → AreOrderly (end_exchange n s).conns
unfolding end_exchange
ended_orderly n s all = mapped (without_ask n) (ask_out n) s.conns all

pub ended_apart : (n : ℕ) (s : State) → AreApart s → AreApart (end_exchange n s)
unfolding end_exchange
ended_apart n s apart m = subst (λ (i : ℕ). i ≤ 1) (sym (count_mapped_same (is_conn m) (without_ask n) s.conns (λ j. refl))) (apart m)

pub out : (n : ℕ) (s : State) → exchange (end_exchange n s) n ≡ None
unfolding end_exchange
out n s = find_out (is_exchange n) (λ e. not (is_exchange n e)) s.exchanges (λ e is. not_so (is_exchange n e) is)

was_there : (n m : ℕ) (s : State) (e : Exchange) → exchange (end_exchange n s) m ≡ Some e → exchange s m ≡ Some e
was_there n m s e there = by (n == m) refl
  where
    by : (b : Bool) → (n == m) ≡ b → exchange s m ≡ Some e
    by true is = absurd (none_some e (sym (ap (λ (i : ℕ). exchange (end_exchange n s) i) (sym (same_number n m is)) ∙ out n s) ∙ there))
    by false is = sym (gone s n m is) ∙ there

pub same_clients : (n : ℕ) (s : State) → (end_exchange n s).clients ≡ s.clients
unfolding end_exchange
same_clients n s = refl

pub ended_go : (n : ℕ) (s : State) → AllGo s → AllGo (end_exchange n s)
ended_go n s go = record {
  going = λ m e there i c asks found. go.going m e (was_there n m s e there) i c asks (sym (ap (λ cs. find (λ d. d.number == i) cs) (same_clients n s)) ∙ found);
  coming = λ m e there i c asks found. go.coming m e (was_there n m s e there) i c asks (sym (ap (λ cs. find (λ d. d.number == i) cs) (same_clients n s)) ∙ found);
}

pub ended : (n : ℕ) (s : State) → MayClose s → MayClose (end_exchange n s)
ended n s may = record { apart = ended_apart n s may.apart; orderly = ended_orderly n s may.orderly; go = ended_go n s may.go }

-- ---- an exchange loses its place

client_of : (e : Exchange) (f : Client → Client) (s : State) → (on_client_of e f s).conns ≡ s.conns
unfolding on_client_of
client_of e f s = refl

exchange_of : (n : ℕ) (f : Exchange → Exchange) (s : State) → (on_exchange n f s).conns ≡ s.conns
unfolding on_exchange
exchange_of n f s = refl

cleared : (key : Bytes) (s : State) → (clear key s).conns ≡ s.conns
unfolding clear swept
cleared key s = refl

given_up : (e : Exchange) (s : State) → (give_up_row e s).conns ≡ s.conns
unfolding give_up_row
given_up e s = by (is_unfilled s e)
  where
    by : (b : Bool) → (elim b as (λ t. State) [ false ↦ s | true ↦ on_exchange e.number left_alone (on_client_of e without_row (clear (text_of e.key) s)) ]).conns ≡ s.conns
    by false = refl
    by true = exchange_of e.number left_alone (on_client_of e without_row (clear (text_of e.key) s)) ∙ client_of e without_row (clear (text_of e.key) s) ∙ cleared (text_of e.key) s

charged : (cost : Course → Course) (e : Exchange) (s : State) → (charge cost e s).conns ≡ s.conns
unfolding charge
charged cost e s = given_up e (on_client_of e (λ c. record c { course = cost c.course }) s) ∙ client_of e (λ c. record c { course = cost c.course }) s

attempted : (e : Exchange) (s : State) → (lose_attempt e s).conns ≡ s.conns
unfolding lose_attempt
attempted e s = charged (lost_one (attempts_of e)) e s

left_orderly : (e : Exchange) (s : State) → AreOrderly s.conns → AreOrderly (leave_place e s).conns
unfolding leave_place
left_orderly e s all = by (is_headed e)
  where
    at : (b : Bool) → AreOrderly (elim b as (λ t. State) [ true ↦ on_exchange e.number unplaced s | false ↦ end_exchange e.number s ]).conns
    at true = subst (λ (ks : List Conn). AreOrderly ks) (sym (exchange_of e.number unplaced s)) all
    at false = ended_orderly e.number s all

    by : (b : Bool) → AreOrderly (elim b as (λ t. State) [
      | true ↦ end_exchange e.number (on_client_of e (on_passed (λ p. record p { is_short = true })) s)
      | false ↦ elim (may_ask_again s e.number) as (λ t. State) [ true ↦ on_exchange e.number unplaced s | false ↦ end_exchange e.number s ]
    ]).conns
    by true = ended_orderly e.number (on_client_of e (on_passed (λ p. record p { is_short = true })) s) (subst (λ (ks : List Conn). AreOrderly ks) (sym (client_of e (on_passed (λ p. record p { is_short = true })) s)) all)
    by false = at (may_ask_again s e.number)

lost_orderly : (counts : Bool) (e : Exchange) (s : State) → AreOrderly s.conns → AreOrderly (lose_place counts e s).conns
unfolding lose_place
lost_orderly true e s all = left_orderly e (lose_attempt e s) (subst (λ (ks : List Conn). AreOrderly ks) (sym (attempted e s)) all)
lost_orderly false e s all = left_orderly e s all

pub lost : (counts : Bool) (e : Exchange) (s : State) → MayClose s → MayClose (lose_place counts e s)
lost counts e s may = record {
  apart = (lost_kept 0 counts e s).apart may.apart;
  orderly = lost_orderly counts e s may.orderly;
  go = all_go 0 s (lose_place counts e s) (lost_kept 0 counts e s) may.go;
}

pub all_lost : (counts : Bool) (ns : List ℕ) (s : State) → MayClose s → MayClose (each_exchange (lose_place counts) ns s)
unfolding each_exchange
all_lost counts [] s may = may
all_lost counts (n ∷ ns) s may = all_lost counts ns (elim (exchange s n) as (λ t. State) [ None ↦ s | Some e ↦ lose_place counts e s ]) (by (exchange s n))
  where
    by : (o : Option Exchange) → MayClose (elim o as (λ t. State) [ None ↦ s | Some e ↦ lose_place counts e s ])
    by None = may
    by (Some e) = lost counts e s may

-- ---- a connection is closed

number_kept : (n m : ℕ) (k : Conn) → is_conn m (emptied_if n k) ≡ is_conn m k
number_kept n m k = by (is_conn n k)
  where
    by : (b : Bool) → is_conn m (elim b as (λ t. Conn) [ true ↦ emptied k | false ↦ k ]) ≡ is_conn m k
    by true = refl
    by false = refl

pub emptied_may : (n : ℕ) (s : State) → MayClose s → MayClose (on_conn n emptied s)
unfolding on_conn
emptied_may n s may = record {
  apart = λ m. subst (λ (i : ℕ). i ≤ 1) (sym (count_mapped_same (is_conn m) (emptied_if n) s.conns (number_kept n m))) (may.apart m);
  orderly = mapped (emptied_if n) (empty_order n) s.conns may.orderly;
  go = record { going = may.go.going; coming = may.go.coming };
}

pub closed : (counts : Bool) (k : Conn) (s : State) → MayClose s → MayClose (close_conn counts k s)
unfolding close_conn
closed counts k s may = all_lost (counts && not k.has_brought) k.line (on_conn k.number emptied s) (emptied_may k.number s may)
