-- Changes of one connection, exchange or client, and an exchange that is over, keep the bounds.
use Rattle.std.proofs.Common.{refl, ℕ, not, List, [], ◌∷◌, None}
use Rattle.pp_target.specs.Key.{text_of}
use Rattle.pp_law.specs.Connections.{client, conn, exchange, is_client, is_conn, is_exchange, is_for, each_client, each_conn, each_exchange, on_conn, on_exchange, on_client, on_client_of, attempts_of, lost_one, without_row, is_unfilled, give_up_row, charge, lose_attempt, fail, end_exchange, out_of_tries}
use Rattle.pp_law.specs.State.{State, Course, Client, Conn, Exchange}
use Rattle.pp_laws.specs.Runs.{IsIn}
use Rattle.pp_laws.proofs.Lists.{in_find}
use Rattle.pp_laws_bounds.proofs.SmallCases.{each_so, when}
use Rattle.pp_laws_bounds.proofs.Changes.{SameConn}
use Rattle.pp_laws_bounds.proofs.SmallChanges.{NotBound, clients_changed, exchanges_changed, exchanges_filtered, same_body}
use Rattle.pp_laws_bounds.proofs.SmallRows.{clear-small}
use Rattle.pp_laws_bounds.proofs.Small.{As, Small, facts_of, small}

pub on_conn-small : {a : As} (n : ℕ) (f : Conn → Conn) (s : State) → ((k : Conn) → SameConn (f k) k) → Small a s → Small a (on_conn n f s)
unfolding on_conn
on_conn-small n f s same_one h = small (facts_of h)

pub on_exchange-small : {a : As} (n : ℕ) (f : Exchange → Exchange) (s : State) → NotBound f → Small a s → Small a (on_exchange n f s)
unfolding on_exchange
on_exchange-small {a} n f s same_one h = small (exchanges_changed a s (is_exchange n) f same_one (facts_of h))

pub on_client-small : {a : As} (n : ℕ) (f : Client → Client) (s : State) → Small a s → Small a (on_client n f s)
unfolding on_client
on_client-small {a} n f s h = small (clients_changed a s (is_client n) f (facts_of h))

pub on_client_of-small : {a : As} (e : Exchange) (f : Client → Client) (s : State) → Small a s → Small a (on_client_of e f s)
unfolding on_client_of
on_client_of-small {a} e f s h = small (clients_changed a s (is_for e) f (facts_of h))

-- ---- of these numbers one behind the other

pub each_client-small : {a : As} (f : Client → State → State) → ((c : Client) (s : State) → Small a s → Small a (f c s)) → (ns : List ℕ) (s : State) → Small a s → Small a (each_client f ns s)
unfolding each_client
each_client-small f each [] s h = h
each_client-small f each (n ∷ ns) s h = each_client-small f each ns _ (each_so (client s n) (λ none. h) (λ c found. each c s h))

pub each_conn-small : {a : As} (f : Conn → State → State) → ((k : Conn) (s : State) → IsIn k s.conns → Small a s → Small a (f k s)) → (ns : List ℕ) (s : State) → Small a s → Small a (each_conn f ns s)
unfolding each_conn
each_conn-small f each [] s h = h
each_conn-small f each (n ∷ ns) s h = each_conn-small f each ns _ (each_so (conn s n) (λ none. h) (λ k found. each k s (in_find (is_conn n) k s.conns found).0 h))

pub each_exchange-small : {a : As} (f : Exchange → State → State) → ((e : Exchange) (s : State) → Small a s → Small a (f e s)) → (ns : List ℕ) (s : State) → Small a s → Small a (each_exchange f ns s)
unfolding each_exchange
each_exchange-small f each [] s h = h
each_exchange-small f each (n ∷ ns) s h = each_exchange-small f each ns _ (each_so (exchange s n) (λ none. h) (λ e found. each e s h))

-- ---- attempts

pub give_up_row-small : {a : As} (e : Exchange) (s : State) → Small a s → Small a (give_up_row e s)
unfolding give_up_row
give_up_row-small e s h =
    when (is_unfilled s e)
    (on_exchange-small e.number (λ x. record x { asker = None }) _ (same_body (λ x. record x { asker = None }) (λ x. refl) (λ x. refl)) (on_client_of-small e without_row _ (clear-small (text_of e.key) s h))) h

pub charge-small : {a : As} (cost : Course → Course) (e : Exchange) (s : State) → Small a s → Small a (charge cost e s)
unfolding charge
charge-small cost e s h = give_up_row-small e _ (on_client_of-small e (λ c. record c { course = cost c.course }) s h)

pub lose_attempt-small : {a : As} (e : Exchange) (s : State) → Small a s → Small a (lose_attempt e s)
unfolding lose_attempt
lose_attempt-small e s h = charge-small (lost_one (attempts_of e)) e s h

pub fail-small : {a : As} (e : Exchange) (s : State) → Small a s → Small a (fail e s)
unfolding fail
fail-small e s h = charge-small out_of_tries e s h

-- ---- an exchange is over

pub end_exchange-small : {a : As} (n : ℕ) (s : State) → Small a s → Small a (end_exchange n s)
unfolding end_exchange
end_exchange-small {a} n s h = small (exchanges_filtered a s (λ e. not (is_exchange n e)) (facts_of h))
