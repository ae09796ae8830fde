-- Changes of clients and of exchanges by their numbers, and a client that is closed, keep it.
use Rattle.std.proofs.Common.{◌≡◌, refl, ℕ, Bool, true, false, not, ◌==◌, ◌||◌, List, [], ◌∷◌, map, None, sym, ap, ◌∙◌}
use Rattle.pp_law.specs.Closing.{close_client, exchanges_of, forsake, leave_one, left_alone}
use Rattle.pp_law.specs.Connections.{client, each_client, each_exchange, end_exchange, exchange, is_client, is_exchange, is_for, on_client, on_client_of, on_exchange}
use Rattle.pp_law.specs.Lists.{change}
use Rattle.pp_law.specs.State.{State, Client, Exchange}
use Rattle.pp_laws.specs.Runs.{IsIn}
use Rattle.pp_laws.proofs.Lists.{changed_at, in_find}
use Rattle.pp_laws.proofs.Tests.{same_number}
use Rattle.pp_laws_turn.proofs.Cases.{each_so, when_so}
use Rattle.pp_laws_turn.proofs.Rows.{swept-keeps}
use Rattle.pp_laws_turn.proofs.View.{Holds, facts_of, holds}
use Rattle.pp_laws_coming.proofs.Alone.{MayLeave, left_come}
use Rattle.pp_laws_coming.proofs.Asks.{SameAsk, ask_if, asks_come, over_come}
use Rattle.pp_laws_coming.proofs.Facts.{Coming, rows}
use Rattle.pp_laws_coming.proofs.Stays.{Goes, clients_come, goes_as, goes_if, goes_on}

-- ---- clients that go on as they did

pub on_client-comes : {late : Bool} → (n : ℕ) (f : Client → Client) (s : State) → ((c : Client) → (f c).number ≡ c.number) → ((c : Client) → IsIn c s.clients → is_client n c ≡ true → Goes (f c) c) → Holds (Coming late) s → Holds (Coming late) (on_client n f s)
unfolding on_client
on_client-comes n f s number goes h = holds (clients_come None (changed_at (is_client n) f) s.clients s.exchanges s.next_exchange s.instances s.next_instance (λ c. by c (is_client n c)) (λ c i. one c i (is_client n c) refl) (facts_of h))
  where
    by : (c : Client) (t : Bool) → (elim t as (λ x. Client) [ true ↦ f c | false ↦ c ]).number ≡ c.number
    by c true = number c
    by c false = refl

    one : (c : Client) → IsIn c s.clients → (t : Bool) → is_client n c ≡ t → Goes (elim t as (λ x. Client) [ true ↦ f c | false ↦ c ]) c
    one c i true hit = goes c i hit
    one c i false off = goes_on c

pub clients_if-comes : {late : Bool} → (test : Client → Bool) (f : Client → Client) (s : State) → ((c : Client) → Goes (f c) c) → Holds (Coming late) s → Holds (Coming late) (record s { clients = change test f s.clients })
clients_if-comes test f s goes h = holds (clients_come None (changed_at test f) s.clients s.exchanges s.next_exchange s.instances s.next_instance (λ c. (goes_if f c (test c) (goes c)).stays.number) (λ c i. goes_if f c (test c) (goes c)) (facts_of h))

pub on_client_of-comes : {late : Bool} → (e : Exchange) (f : Client → Client) (s : State) → ((c : Client) → Goes (f c) c) → Holds (Coming late) s → Holds (Coming late) (on_client_of e f s)
unfolding on_client_of
on_client_of-comes e f s goes h = clients_if-comes (is_for e) f s goes h

pub all_clients-comes : {late : Bool} → (f : Client → Client) (s : State) → ((c : Client) → Goes (f c) c) → Holds (Coming late) s → Holds (Coming late) (record s { clients = map f s.clients })
all_clients-comes f s goes h = holds (clients_come None f s.clients s.exchanges s.next_exchange s.instances s.next_instance (λ c. (goes c).stays.number) (λ c i. goes c) (facts_of h))

-- ---- of these numbers one behind the other

pub each_client-comes : {late : Bool} → (f : Client → State → State) → ((c : Client) (s : State) → IsIn c s.clients → Holds (Coming late) s → Holds (Coming late) (f c s)) → (ns : List ℕ) (s : State) → Holds (Coming late) s → Holds (Coming late) (each_client f ns s)
unfolding each_client
each_client-comes f each [] s h = h
each_client-comes f each (n ∷ ns) s h = each_client-comes f each ns _ (each_so (client s n) (λ none. h) (λ c found. each c s (in_find (is_client n) c s.clients found).0 h))

pub each_exchange-comes : {late : Bool} → (f : Exchange → State → State) → ((e : Exchange) (s : State) → IsIn e s.exchanges → Holds (Coming late) s → Holds (Coming late) (f e s)) → (ns : List ℕ) (s : State) → Holds (Coming late) s → Holds (Coming late) (each_exchange f ns s)
unfolding each_exchange
each_exchange-comes f each [] s h = h
each_exchange-comes f each (n ∷ ns) s h = each_exchange-comes f each ns _ (each_so (exchange s n) (λ none. h) (λ e found. each e s (in_find (is_exchange n) e s.exchanges found).0 h))

-- ---- exchanges

pub end_exchange-comes : {late : Bool} → (n : ℕ) (s : State) → Holds (Coming late) s → Holds (Coming late) (end_exchange n s)
unfolding end_exchange
end_exchange-comes n s h = holds (over_come None (λ e. not (is_exchange n e)) s.clients s.exchanges s.next_exchange s.instances s.next_instance (facts_of h))

pub on_exchange-comes : {late : Bool} → (n : ℕ) (f : Exchange → Exchange) (s : State) → ((e : Exchange) → IsIn e s.exchanges → is_exchange n e ≡ true → SameAsk late (f e) e) → Holds (Coming late) s → Holds (Coming late) (on_exchange n f s)
unfolding on_exchange
on_exchange-comes n f s kept h = holds (asks_come None (changed_at (is_exchange n) f) s.clients s.exchanges s.next_exchange s.instances s.next_instance (λ e i. ask_if f e (is_exchange n e) (kept e i)) (facts_of h))

pub left_by_number : {late : Bool} → (n : ℕ) (s : State) → ((e : Exchange) → IsIn e s.exchanges → is_exchange n e ≡ true → MayLeave late e) → Holds (Coming late) s → Holds (Coming late) (on_exchange n left_alone s)
unfolding on_exchange
left_by_number n s may h = holds (left_come None (is_exchange n) s.clients s.exchanges s.next_exchange s.instances s.next_instance may (facts_of h))

pub forsake-comes : {late : Bool} → (test : Exchange → Bool) (s : State) → ((e : Exchange) → IsIn e s.exchanges → test e ≡ true → MayLeave late e) → Holds (Coming late) s → Holds (Coming late) (forsake test s)
unfolding forsake
forsake-comes test s may h = holds (left_come None test s.clients s.exchanges s.next_exchange s.instances s.next_instance may (facts_of h))

-- ---- a client is closed

leave_one-comes : {late : Bool} → (e : Exchange) (s : State) → IsIn e s.exchanges → Holds (Coming late) s → Holds (Coming late) (leave_one e s)
unfolding leave_one
leave_one-comes e s there h =
    when_so (e.asked == 0) (λ none. end_exchange-comes e.number s h)
    (λ some. left_by_number e.number s (λ x i hit counts nowhere.
    let one : x ≡ e = (facts_of h).apart x e i there (same_number x.number e.number hit) in
    let asked : e.asked ≡ 0 = (facts_of h).fresh e there (ap (λ (y : Exchange). y.place) (sym one) ∙ nowhere) in
    let both : true ≡ false = sym (ap (λ (n : ℕ). n == 0) asked) ∙ some in
    cc both) h)

pub close_client-comes : {late : Bool} → (n : ℕ) (is_cut : Bool) (s : State) → Holds (Coming late) s → Holds (Coming late) (close_client n is_cut s)
unfolding close_client
close_client-comes n is_cut s h =
    swept-keeps rows _
    (each_exchange-comes leave_one leave_one-comes (exchanges_of n s) _ (on_client-comes n (λ c. record c { is_closing = true; is_cut = c.is_cut || is_cut }) s (λ c. refl) (λ c i hit. goes_as _ c refl refl refl refl refl) h))
