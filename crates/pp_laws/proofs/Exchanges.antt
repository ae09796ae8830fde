-- Changes of one connection, exchange or client, and an exchange that is over, keep what is sound.
use Rattle.std.proofs.Common.{◌≡◌, refl, ℕ, Bool, true, false, ◌&&◌, ◌||◌, not, ◌==◌, List, [], ◌∷◌, map, filter, cond, Some, None, sym, subst, ap, ◌∙◌}
use Rattle.pp_target.specs.Key.{text_of}
use Rattle.pp_law.specs.Connections.{client, conn, exchange, is_client, is_conn, is_exchange, is_for, each_client, each_conn, each_exchange, on_conn, on_exchange, on_client, on_client_of, attempts_of, lost_one, without_row, without_shared_row, is_unfilled, give_up_row, charge, lose_attempt, fail, without_ask, end_exchange, anew, out_of_tries}
use Rattle.pp_law.specs.Stages.{is_begun}
use Rattle.pp_law.specs.State.{State, Course, Client, Conn, Exchange}
use Rattle.pp_laws.specs.Runs.{IsIn}
use Rattle.pp_laws.proofs.Callers.{same_parts}
use Rattle.pp_laws.proofs.Cases.{each_so, when}
use Rattle.pp_laws.proofs.KeptClients.{SameClient, client_same, clients_changed}
use Rattle.pp_laws.proofs.KeptConns.{ConnFrom, SameConn, conns_changed, conns_kept}
use Rattle.pp_laws.proofs.KeptExchanges.{SameExchange, exchanges_changed, exchanges_filtered}
use Rattle.pp_laws.proofs.Lists.{From, in_filter, in_find, in_map, rise_map}
use Rattle.pp_laws.proofs.Rows.{clear-sound}
use Rattle.pp_laws.proofs.Sound.{Since, Sound, conn_number, facts_of, first_of, sound}

pub on_conn-sound : {b : Since} (n : ℕ) (f : Conn → Conn) (s : State) → ((k : Conn) → SameConn (f k) k) → Sound b s → Sound b (on_conn n f s)
unfolding on_conn
on_conn-sound {b} n f s kept h = sound (conns_changed b s (is_conn n) f kept (facts_of h))

pub on_exchange-sound : {b : Since} (n : ℕ) (f : Exchange → Exchange) (s : State) → ((e : Exchange) → SameExchange (f e) e) → Sound b s → Sound b (on_exchange n f s)
unfolding on_exchange
on_exchange-sound {b} n f s kept h = sound (exchanges_changed b s (is_exchange n) f kept (facts_of h))

pub on_client-sound : {b : Since} (n : ℕ) (f : Client → Client) (s : State) → ((c : Client) → SameClient (f c) c) → Sound b s → Sound b (on_client n f s)
unfolding on_client
on_client-sound {b} n f s kept h = sound (clients_changed b s (is_client n) f kept (facts_of h))

pub on_client_of-sound : {b : Since} (e : Exchange) (f : Client → Client) (s : State) → ((c : Client) → SameClient (f c) c) → Sound b s → Sound b (on_client_of e f s)
unfolding on_client_of
on_client_of-sound {b} e f s kept h = sound (clients_changed b s (is_for e) f kept (facts_of h))

-- ---- of these numbers one behind the other

pub each_client-sound : {b : Since} (f : Client → State → State) → ((c : Client) (s : State) → IsIn c s.clients → Sound b s → Sound b (f c s)) → (ns : List ℕ) (s : State) → Sound b s → Sound b (each_client f ns s)
unfolding each_client
each_client-sound f each [] s h = h
each_client-sound f each (n ∷ ns) s h = each_client-sound f each ns _ (each_so (client s n) (λ none. h) (λ c found. each c s (in_find (is_client n) c s.clients found).0 h))

pub each_conn-sound : {b : Since} (f : Conn → State → State) → ((k : Conn) (s : State) → IsIn k s.conns → Sound b s → Sound b (f k s)) → (ns : List ℕ) (s : State) → Sound b s → Sound b (each_conn f ns s)
unfolding each_conn
each_conn-sound f each [] s h = h
each_conn-sound f each (n ∷ ns) s h = each_conn-sound f each ns _ (each_so (conn s n) (λ none. h) (λ k found. each k s (in_find (is_conn n) k s.conns found).0 h))

pub each_exchange-sound : {b : Since} (f : Exchange → State → State) → ((e : Exchange) (s : State) → IsIn e s.exchanges → Sound b s → Sound b (f e s)) → (ns : List ℕ) (s : State) → Sound b s → Sound b (each_exchange f ns s)
unfolding each_exchange
each_exchange-sound f each [] s h = h
each_exchange-sound f each (n ∷ ns) s h = each_exchange-sound f each ns _ (each_so (exchange s n) (λ none. h) (λ e found. each e s (in_find (is_exchange n) e s.exchanges found).0 h))

-- ---- attempts

without_row-by : (c : Client) (begun : Bool) → SameClient (elim begun as (λ x. Client) [ true ↦ c | false ↦ record c { course = anew c.course; has_given_up = true } ]) c
without_row-by c true = client_same c
without_row-by c false = same_parts _ c refl refl refl

pub without_shared_row-by : (most : ℕ) (c : Client) → SameClient (without_shared_row most c) c
without_shared_row-by most c = by (c.has_given_up && not (is_begun c))
  where
    by : (again : Bool) → SameClient (elim again as (λ x. Client) [ true ↦ record c { course = lost_one most c.course } | false ↦ without_row c ]) c
    by true = same_parts _ c refl refl refl
    by false = without_row-by c (is_begun c || c.has_given_up)

pub give_up_row-sound : {b : Since} (e : Exchange) (s : State) → Sound b s → Sound b (give_up_row e s)
unfolding give_up_row
give_up_row-sound e s h =
    when (is_unfilled s e)
    (on_exchange-sound e.number (λ x. record x { asker = None }) _ (λ x. record { number = refl; key = refl; aim = refl; place = refl; headed = refl; bound = refl })
    (on_client_of-sound e without_row _ (λ c. without_row-by c (is_begun c || c.has_given_up)) (clear-sound (text_of e.key) s h))) h

pub charge-sound : {b : Since} (cost : Course → Course) (e : Exchange) (s : State) → Sound b s → Sound b (charge cost e s)
unfolding charge
charge-sound cost e s h = give_up_row-sound e _ (on_client_of-sound e (λ c. record c { course = cost c.course }) s (λ c. same_parts _ c refl refl refl) h)

pub lose_attempt-sound : {b : Since} (e : Exchange) (s : State) → Sound b s → Sound b (lose_attempt e s)
unfolding lose_attempt
lose_attempt-sound e s h = charge-sound (lost_one (attempts_of e)) e s h

pub fail-sound : {b : Since} (e : Exchange) (s : State) → Sound b s → Sound b (fail e s)
unfolding fail
fail-sound e s h = charge-sound out_of_tries e s h

-- ---- an exchange is over

first_filter : (p : ℕ → Bool) (n : ℕ) (ns : List ℕ) → p n ≡ true → first_of ns ≡ Some n → first_of (filter p ns) ≡ Some n
first_filter p n [] holds is = absurd (cc is)
first_filter p n (m ∷ ms) holds is = let e : m ≡ n = cc in subst (λ t. first_of (cond t (m ∷ filter p ms) (filter p ms)) ≡ Some n) (sym (ap p e ∙ holds)) is

pub end_exchange-sound : {b : Since} (n : ℕ) (s : State) → Sound b s → Sound b (end_exchange n s)
unfolding end_exchange
end_exchange-sound {b} n s h = sound (conns_kept b (record s { exchanges = filter (λ e. not (is_exchange n e)) s.exchanges }) (map (without_ask n) s.conns) (rise_map conn_number (without_ask n) (λ k. refl) s.conns (facts_of h).lines.rise) (λ k i. from k (in_map (without_ask n) k s.conns i))
    (exchanges_filtered b s (λ e. not (is_exchange n e)) (facts_of h)))
  where
    of_was : (j : Conn) → IsIn j s.conns → ConnFrom s.conns (without_ask n j)
    of_was j i = record {
      was = j;
      there = i;
      number = refl;
      line = λ m l. (in_filter (λ x. not (x == n)) m j.line l).0;
      front = λ m l is. first_filter (λ x. not (x == n)) m j.line (in_filter (λ x. not (x == n)) m j.line l).1 is;
      answer = λ m l. refl;
    }

    from : (k : Conn) → From (without_ask n) s.conns k → ConnFrom s.conns k
    from k r = subst (λ (x : Conn). ConnFrom s.conns x) (sym r.is) (of_was r.was r.there)
