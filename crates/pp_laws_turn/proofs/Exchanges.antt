-- Changes of one connection, exchange or client, and an exchange that is over, keep what is kept by each change.
use Rattle.std.proofs.Common.{◌≡◌, refl, ℕ, ◌≤◌, Bool, true, false, not, ◌==◌, ◌||◌, List, [], ◌∷◌, map, filter, length, Some, inl, inr, subst, sym, ap, ◌∙◌, le_refl}
use Rattle.pp_target.specs.Key.{text_of}
use Rattle.pp_law.specs.Closing.{left_alone}
use Rattle.pp_law.specs.Connections.{client, conn, exchange, is_client, is_conn, is_exchange, is_for, each_client, each_conn, each_exchange, on_conn, on_exchange, on_client, on_client_of, attempts_of, lost_one, without_row, is_unfilled, give_up_row, charge, lose_attempt, fail, without_ask, end_exchange, anew, out_of_tries, unplaced}
use Rattle.pp_law.specs.Stages.{is_begun}
use Rattle.pp_law.specs.State.{State, Course, Client, Conn, Exchange}
use Rattle.pp_laws.specs.Runs.{IsIn}
use Rattle.pp_laws.proofs.Lists.{changed_at, in_filter, in_find}
use Rattle.pp_laws.proofs.Sound.{source_in}
use Rattle.pp_laws_bounds.proofs.Counts.{length-filter}
use Rattle.pp_laws_turn.proofs.View.{View, Holds, holds, facts_of, view, SameAsk, SameClient, Lesser, joined_in, OfKeys, WalkOf}
use Rattle.pp_laws_turn.proofs.Bodies.{still_bodied}
use Rattle.pp_laws_turn.proofs.Cases.{each_so, when}
use Rattle.pp_laws_turn.proofs.Rows.{clear-keeps}

-- ---- what is changed as it is, and what is not

ask_same : (e : Exchange) → SameAsk e e
ask_same e = record { number = refl; asker = refl; key = refl; head = refl; asked = λ none. inr (none, refl); body = λ is. is }

ask_changed : (f : Exchange → Exchange) (e : Exchange) (t : Bool) → SameAsk (f e) e → SameAsk (elim t as (λ c. Exchange) [ true ↦ f e | false ↦ e ]) e
ask_changed f e true kept = kept
ask_changed f e false kept = ask_same e

pub same_ask : (d e : Exchange) → d.number ≡ e.number → d.asker ≡ e.asker → d.place ≡ e.place → d.key ≡ e.key → d.head ≡ e.head → d.asked ≡ e.asked → (e.body_left ≡ 0 → d.body_left ≡ 0) → SameAsk d e
same_ask d e number asker place key head asked body = record { number = number; asker = asker; key = key; head = head; asked = λ none. inr (sym place ∙ none, asked); body = body }

-- it has its place no more
pub again_ask : (e : Exchange) → SameAsk (unplaced e) e
again_ask e = record { number = refl; asker = refl; key = refl; head = refl; asked = λ none. inl refl; body = λ is. is }

-- it has one
pub put_ask : (k : ℕ) (e : Exchange) → SameAsk (record e { place = Some k; asked = 0 }) e
put_ask k e = record { number = refl; asker = refl; key = refl; head = refl; asked = λ none. inl refl; body = λ is. is }

conn_same : (k : Conn) → Lesser k k
conn_same k = record { number = refl; within = λ n i. i; shorter = le_refl (length k.line); pipelines = λ is. is }

conn_changed : (f : Conn → Conn) (k : Conn) (t : Bool) → Lesser (f k) k → Lesser (elim t as (λ c. Conn) [ true ↦ f k | false ↦ k ]) k
conn_changed f k true kept = kept
conn_changed f k false kept = conn_same k

pub same_conn : (j k : Conn) → j.number ≡ k.number → j.line ≡ k.line → j.may_pipeline ≡ k.may_pipeline → Lesser j k
same_conn j k number line pipelines = record { number = number; within = λ n i. subst (λ ns. IsIn n ns) line i; shorter = subst (λ (ns : List ℕ). length j.line ≤ length ns) line (le_refl (length j.line)); pipelines = λ is. sym pipelines ∙ is }

pub client_same : (c : Client) → SameClient c c
client_same c = record { number = refl; closing = refl; source = λ id is. is; request = λ r is. is; body = λ b. b; joins = λ id is. is }

pub same_parts : (d c : Client) → d.number ≡ c.number → d.is_closing ≡ c.is_closing → d.stage ≡ c.stage → d.front ≡ c.front → d.brought ≡ c.brought → (c.body_left ≡ 0 → d.body_left ≡ 0) → SameClient d c
same_parts d c number closing stage front brought left = record { number = number; closing = closing; source = λ id is. sym (ap source_in stage) ∙ is; request = λ r is. front ∙ is; body = still_bodied d c front left; joins = λ id is. sym (ap joined_in brought) ∙ is }

pub client_changed : (f : Client → Client) (c : Client) (t : Bool) → SameClient (f c) c → SameClient (elim t as (λ d. Client) [ true ↦ f c | false ↦ c ]) c
client_changed f c true kept = kept
client_changed f c false kept = client_same c

without_row-same : (c : Client) → SameClient (without_row c) c
without_row-same c = by (is_begun c || c.has_given_up)
  where
    by : (t : Bool) → SameClient (elim t as (λ d. Client) [ true ↦ c | false ↦ record c { course = anew c.course; has_given_up = true } ]) c
    by true = client_same c
    by false = same_parts _ c refl refl refl refl refl (λ is. is)

-- ---- by number

pub on_conn-keeps : {K : OfKeys} {P : View → Type 0} (w : WalkOf K P) (n : ℕ) (f : Conn → Conn) (s : State) → ((k : Conn) → Lesser (f k) k) → Holds P s → Holds P (on_conn n f s)
unfolding on_conn
on_conn-keeps w n f s lesser h = holds (w.conns (changed_at (is_conn n) f) (λ k. conn_changed f k (is_conn n k) (lesser k)) (view s) (facts_of h))

pub on_exchange-keeps : {K : OfKeys} {P : View → Type 0} (w : WalkOf K P) (n : ℕ) (f : Exchange → Exchange) (s : State) → ((e : Exchange) → SameAsk (f e) e) → Holds P s → Holds P (on_exchange n f s)
unfolding on_exchange
on_exchange-keeps w n f s kept h = holds (w.asks (changed_at (is_exchange n) f) (view s) (λ e i. ask_changed f e (is_exchange n e) (kept e)) (facts_of h))

ask_changed_so : (f : Exchange → Exchange) (e : Exchange) (t : Bool) → (t ≡ true → SameAsk (f e) e) → SameAsk (elim t as (λ c. Exchange) [ true ↦ f e | false ↦ e ]) e
ask_changed_so f e true kept = kept refl
ask_changed_so f e false kept = ask_same e

-- where it is so of those that are there
pub on_exchange_of-keeps : {K : OfKeys} {P : View → Type 0} (w : WalkOf K P) (n : ℕ) (f : Exchange → Exchange) (s : State) → ((e : Exchange) → IsIn e s.exchanges → is_exchange n e ≡ true → SameAsk (f e) e) → Holds P s → Holds P (on_exchange n f s)
unfolding on_exchange
on_exchange_of-keeps w n f s kept h = holds (w.asks (changed_at (is_exchange n) f) (view s) (λ e i. ask_changed_so f e (is_exchange n e) (kept e i)) (facts_of h))

pub left_by_number : {K : OfKeys} {P : View → Type 0} (w : WalkOf K P) (n : ℕ) (s : State) → Holds P s → Holds P (on_exchange n left_alone s)
unfolding on_exchange
left_by_number w n s h = holds (w.left (is_exchange n) (view s) (facts_of h))

pub on_client-keeps : {K : OfKeys} {P : View → Type 0} (w : WalkOf K P) (n : ℕ) (f : Client → Client) (s : State) → ((c : Client) → SameClient (f c) c) → Holds P s → Holds P (on_client n f s)
unfolding on_client
on_client-keeps w n f s kept h = holds (w.clients (changed_at (is_client n) f) (λ c. client_changed f c (is_client n c) (kept c)) (view s) (facts_of h))

pub on_client_of-keeps : {K : OfKeys} {P : View → Type 0} (w : WalkOf K P) (e : Exchange) (f : Client → Client) (s : State) → ((c : Client) → SameClient (f c) c) → Holds P s → Holds P (on_client_of e f s)
unfolding on_client_of
on_client_of-keeps w e f s kept h = holds (w.clients (changed_at (is_for e) f) (λ c. client_changed f c (is_for e c) (kept c)) (view s) (facts_of h))

pub exchanges_changed-keeps : {K : OfKeys} {P : View → Type 0} (w : WalkOf K P) (test : Exchange → Bool) (f : Exchange → Exchange) (v : View) → ((e : Exchange) → SameAsk (f e) e) → P v → P (record v { exchanges = map (changed_at test f) v.exchanges })
exchanges_changed-keeps w test f v kept h = w.asks (changed_at test f) v (λ e i. ask_changed f e (test e) (kept e)) h

pub clients_changed-keeps : {K : OfKeys} {P : View → Type 0} (w : WalkOf K P) (test : Client → Bool) (f : Client → Client) (v : View) → ((c : Client) → SameClient (f c) c) → P v → P (record v { clients = map (changed_at test f) v.clients })
clients_changed-keeps w test f v kept h = w.clients (changed_at test f) (λ c. client_changed f c (test c) (kept c)) v h

-- ---- of these numbers one behind the other

pub each_client-keeps : {K : OfKeys} {P : View → Type 0} (w : WalkOf K P) (f : Client → State → State) → ((c : Client) (s : State) → IsIn c s.clients → Holds P s → Holds P (f c s)) → (ns : List ℕ) (s : State) → Holds P s → Holds P (each_client f ns s)
unfolding each_client
each_client-keeps w f each [] s h = h
each_client-keeps w f each (n ∷ ns) s h = each_client-keeps w f each ns _ (each_so (client s n) (λ none. h) (λ c found. each c s (in_find (is_client n) c s.clients found).0 h))

pub each_conn-keeps : {K : OfKeys} {P : View → Type 0} (w : WalkOf K P) (f : Conn → State → State) → ((k : Conn) (s : State) → Holds P s → Holds P (f k s)) → (ns : List ℕ) (s : State) → Holds P s → Holds P (each_conn f ns s)
unfolding each_conn
each_conn-keeps w f each [] s h = h
each_conn-keeps w f each (n ∷ ns) s h = each_conn-keeps w f each ns _ (each_so (conn s n) (λ none. h) (λ k found. each k s h))

pub each_exchange-keeps : {K : OfKeys} {P : View → Type 0} (w : WalkOf K P) (f : Exchange → State → State) → ((e : Exchange) (s : State) → Holds P s → Holds P (f e s)) → (ns : List ℕ) (s : State) → Holds P s → Holds P (each_exchange f ns s)
unfolding each_exchange
each_exchange-keeps w f each [] s h = h
each_exchange-keeps w f each (n ∷ ns) s h = each_exchange-keeps w f each ns _ (each_so (exchange s n) (λ none. h) (λ e found. each e s h))

-- ---- attempts

pub give_up_row-keeps : {K : OfKeys} {P : View → Type 0} (w : WalkOf K P) (e : Exchange) (s : State) → Holds P s → Holds P (give_up_row e s)
unfolding give_up_row
give_up_row-keeps w e s h = when (is_unfilled s e) (left_by_number w e.number _ (on_client_of-keeps w e without_row _ without_row-same (clear-keeps w.rows (text_of e.key) s h))) h

pub charge-keeps : {K : OfKeys} {P : View → Type 0} (w : WalkOf K P) (cost : Course → Course) (e : Exchange) (s : State) → Holds P s → Holds P (charge cost e s)
unfolding charge
charge-keeps w cost e s h = give_up_row-keeps w e _ (on_client_of-keeps w e (λ c. record c { course = cost c.course }) s (λ c. same_parts _ c refl refl refl refl refl (λ is. is)) h)

pub lose_attempt-keeps : {K : OfKeys} {P : View → Type 0} (w : WalkOf K P) (e : Exchange) (s : State) → Holds P s → Holds P (lose_attempt e s)
unfolding lose_attempt
lose_attempt-keeps w e s h = charge-keeps w (lost_one (attempts_of e)) e s h

pub fail-keeps : {K : OfKeys} {P : View → Type 0} (w : WalkOf K P) (e : Exchange) (s : State) → Holds P s → Holds P (fail e s)
unfolding fail
fail-keeps w e s h = charge-keeps w out_of_tries e s h

-- ---- an exchange is over

pub shorter : (n : ℕ) (k : Conn) → Lesser (without_ask n k) k
shorter n k = record { number = refl; within = λ m i. (in_filter (λ x. not (x == n)) m k.line i).0; shorter = length-filter (λ x. not (x == n)) k.line; pipelines = λ is. is }

pub end_exchange-keeps : {K : OfKeys} {P : View → Type 0} (w : WalkOf K P) (n : ℕ) (s : State) → Holds P s → Holds P (end_exchange n s)
unfolding end_exchange
end_exchange-keeps w n s h = holds (w.conns (without_ask n) (shorter n) (record (view s) { exchanges = filter (λ e. not (is_exchange n e)) s.exchanges }) (w.over (λ e. not (is_exchange n e)) (view s) (facts_of h)))
