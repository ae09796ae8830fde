-- Changes of one connection, exchange or client, and an exchange that is over, keep the bounds.
use Rattle.std.proofs.Common.{◌≡◌, ◌⊎◌, refl, ℕ, true, false, not, ◌==◌, List, [], ◌∷◌, map, filter, None, inl, inr, sym, ap, ◌∙◌}
use Rattle.pp_target.specs.Key.{text_of}
use Rattle.pp_law.specs.Connections.{client, conn, exchange, is_client, is_conn, is_exchange, is_for, each_client, each_conn, each_exchange, on_conn, on_exchange, on_client, on_client_of, attempts_of, lost_one, without_row, is_unfilled, give_up_row, charge, lose_attempt, fail, without_ask, end_exchange, out_of_tries}
use Rattle.pp_law.specs.State.{State, Course, Client, Conn, Exchange}
use Rattle.pp_law.specs.Table.{swept, clear}
use Rattle.pp_laws.specs.Runs.{IsIn}
use Rattle.pp_laws.proofs.Lists.{in_filter, in_find}
use Rattle.pp_laws.proofs.Tests.{number_same}
use Rattle.pp_laws_bounds.proofs.Cases.{each_so, when}
use Rattle.pp_laws_bounds.proofs.Changes.{SameConn, SameExchange, Smaller, clients_changed, conns_changed, conns_with, exchanges_changed, exchanges_filtered, same_exchange}
use Rattle.pp_laws_bounds.proofs.Counts.{in_filter_of, in_map_of, length-filter}
use Rattle.pp_laws_bounds.proofs.Kept.{AreLined, Kept, Stands, facts_of, kept}

pub on_conn-kept : {but : List ℕ} (n : ℕ) (f : Conn → Conn) (s : State) → ((k : Conn) → SameConn (f k) k) → Kept but s → Kept but (on_conn n f s)
unfolding on_conn
on_conn-kept {but} n f s same_one h = kept (conns_changed but s (is_conn n) f same_one (facts_of h))

pub on_exchange-kept : {but : List ℕ} (n : ℕ) (f : Exchange → Exchange) (s : State) → ((e : Exchange) → SameExchange (f e) e) → Kept but s → Kept but (on_exchange n f s)
unfolding on_exchange
on_exchange-kept {but} n f s same_one h = kept (exchanges_changed but s (is_exchange n) f same_one (facts_of h))

pub on_client-kept : {but : List ℕ} (n : ℕ) (f : Client → Client) (s : State) → Kept but s → Kept but (on_client n f s)
unfolding on_client
on_client-kept {but} n f s h = kept (clients_changed but s (is_client n) f (facts_of h))

pub on_client_of-kept : {but : List ℕ} (e : Exchange) (f : Client → Client) (s : State) → Kept but s → Kept but (on_client_of e f s)
unfolding on_client_of
on_client_of-kept {but} e f s h = kept (clients_changed but s (is_for e) f (facts_of h))

-- ---- of these numbers one behind the other

pub each_client-kept : {but : List ℕ} (f : Client → State → State) → ((c : Client) (s : State) → Kept but s → Kept but (f c s)) → (ns : List ℕ) (s : State) → Kept but s → Kept but (each_client f ns s)
unfolding each_client
each_client-kept f each [] s h = h
each_client-kept f each (n ∷ ns) s h = each_client-kept f each ns _ (each_so (client s n) (λ none. h) (λ c found. each c s h))

pub each_conn-kept : {but : List ℕ} (f : Conn → State → State) → ((k : Conn) (s : State) → IsIn k s.conns → Kept but s → Kept but (f k s)) → (ns : List ℕ) (s : State) → Kept but s → Kept but (each_conn f ns s)
unfolding each_conn
each_conn-kept f each [] s h = h
each_conn-kept f each (n ∷ ns) s h = each_conn-kept f each ns _ (each_so (conn s n) (λ none. h) (λ k found. each k s (in_find (is_conn n) k s.conns found).0 h))

pub each_exchange-kept : {but : List ℕ} (f : Exchange → State → State) → ((e : Exchange) (s : State) → Kept but s → Kept but (f e s)) → (ns : List ℕ) (s : State) → Kept but s → Kept but (each_exchange f ns s)
unfolding each_exchange
each_exchange-kept f each [] s h = h
each_exchange-kept f each (n ∷ ns) s h = each_exchange-kept f each ns _ (each_so (exchange s n) (λ none. h) (λ e found. each e s h))

-- ---- attempts

pub swept-kept : {but : List ℕ} (s : State) → Kept but s → Kept but (swept s)
unfolding swept
swept-kept s h = kept (facts_of h)

pub clear-kept : {but : List ℕ} (key : List ℕ) (s : State) → Kept but s → Kept but (clear key s)
unfolding clear
clear-kept key s h = swept-kept _ (kept (facts_of h))

pub give_up_row-kept : {but : List ℕ} (e : Exchange) (s : State) → Kept but s → Kept but (give_up_row e s)
unfolding give_up_row
give_up_row-kept e s h =
    when (is_unfilled s e)
    (on_exchange-kept e.number (λ x. record x { asker = None }) _ (λ x. same_exchange _ x refl refl refl refl) (on_client_of-kept e without_row _ (clear-kept (text_of e.key) s h))) h

pub charge-kept : {but : List ℕ} (cost : Course → Course) (e : Exchange) (s : State) → Kept but s → Kept but (charge cost e s)
unfolding charge
charge-kept cost e s h = give_up_row-kept e _ (on_client_of-kept e (λ c. record c { course = cost c.course }) s h)

pub lose_attempt-kept : {but : List ℕ} (e : Exchange) (s : State) → Kept but s → Kept but (lose_attempt e s)
unfolding lose_attempt
lose_attempt-kept e s h = charge-kept (lost_one (attempts_of e)) e s h

pub fail-kept : {but : List ℕ} (e : Exchange) (s : State) → Kept but s → Kept but (fail e s)
unfolding fail
fail-kept e s h = charge-kept out_of_tries e s h

-- ---- an exchange is over

ask_out : (n : ℕ) → Smaller (without_ask n)
ask_out n = record {
  number = λ k. refl;
  goes = λ host port k. refl;
  line = λ k. length-filter (λ m. not (m == n)) k.line;
  closed = λ k was closing. ap (λ ns. filter (λ m. not (m == n)) ns) (was closing);
}

pub end_exchange-kept : {but : List ℕ} (n : ℕ) (s : State) → Kept but s → Kept but (end_exchange n s)
unfolding end_exchange
end_exchange-kept {but} n s h = kept (conns_with but but (record s { exchanges = filter (λ e. not (is_exchange n e)) s.exchanges }) (without_ask n) (ask_out n) lined (exchanges_filtered but s (λ e. not (is_exchange n e)) (facts_of h)))
  where
    by : (e : Exchange) (m : ℕ) → not (is_exchange n e) ≡ true → Stands e m s.conns ⊎ IsIn e.number but → Stands e m (map (without_ask n) s.conns) ⊎ IsIn e.number but
    by e m apart (inl w) = inl (without_ask n w.0, in_map_of (without_ask n) w.0 s.conns w.1, w.2, in_filter_of (λ x. not (x == n)) e.number w.0.line w.3 apart)
    by e m apart (inr l) = inr l

    lined : s.is_stopped ≡ false → AreLined but (filter (λ e. not (is_exchange n e)) s.exchanges) (map (without_ask n) s.conns)
    lined going e m i is = let r = in_filter (λ d. not (is_exchange n d)) e s.exchanges i in by e m r.1 ((facts_of h).lined going e m r.0 is)

-- none of that number is there any more
pub ended_nowhere : (n : ℕ) (s : State) (e : Exchange) → IsIn e (end_exchange n s).exchanges → e.number ≡ n → ⊥
unfolding end_exchange
ended_nowhere n s e i is = let r = in_filter (λ d. not (is_exchange n d)) e s.exchanges i in let both : false ≡ true = ap not (sym (ap (λ x. x == n) is ∙ number_same n)) ∙ r.1 in cc both
