-- The numbers of clients and of connections, and how many exchanges were begun: the changes that steps are made of leave the numbers, and begin none.
use Rattle.std.proofs.Common.{◌≡◌, refl, ℕ, ◌≤◌, Bool, true, false, List, [], ◌∷◌, ◌++◌, map, ◌∙◌, le_trans}
use Rattle.pp_law.specs.Connections.{is_conn, on_conn, on_exchange, put_on}
use Rattle.pp_law.specs.State.{State, Client, Conn}
use Rattle.pp_laws.proofs.Lists.{changed_at, map_kept}
use Rattle.pp_laws.proofs.Sound.{client_number, conn_number}
use Rattle.pp_laws_pool.proofs.View.{View, Walk, Places, Uses, Holds, holds, facts_of, view}

pub record Names : Type 0 where
  pub clients : List ℕ
  pub conns : List ℕ

abbrev pub names_of : State → Names
names_of s = record { clients = map client_number s.clients; conns = map conn_number s.conns }

-- these are the numbers, and no exchange has a greater one
pub record Facts (o : Names) (most : ℕ) (clients : List Client) (conns : List Conn) (next_exchange : ℕ) : Type 0 where
  pub clients_are : map client_number clients ≡ o.clients
  pub conns_are : map conn_number conns ≡ o.conns
  pub few : next_exchange ≤ most

abbrev pub Named : Names → ℕ → View → Type 0
Named o most v = Facts o most v.clients v.conns v.next_exchange

pub raise : {o : Names} (m n : ℕ) (s : State) → m ≤ n → Holds (Named o m) s → Holds (Named o n) s
raise m n s le h = holds (record { clients_are = (facts_of h).clients_are; conns_are = (facts_of h).conns_are; few = le_trans (facts_of h).few le })

-- ---- changes

clients_named : {o : Names} {m : ℕ} (f : Client → Client) → ((c : Client) → (f c).number ≡ c.number) → (v : View) → Named o m v → Named o m (record v { clients = map f v.clients })
clients_named f number v h = record { clients_are = map_kept client_number f number v.clients ∙ h.clients_are; conns_are = h.conns_are; few = h.few }

conns_named : {o : Names} {m : ℕ} (f : Conn → Conn) → ((k : Conn) → (f k).number ≡ k.number) → (v : View) → Named o m v → Named o m (record v { conns = map f v.conns })
conns_named f number v h = record { clients_are = h.clients_are; conns_are = map_kept conn_number f number v.conns ∙ h.conns_are; few = h.few }

pub named_walk : (o : Names) (m : ℕ) → Walk (Named o m)
unfolding on_exchange
named_walk o m = record {
  clients = λ f number v h. clients_named f number v h;
  asks = λ f same_one v h. h;
  left = λ test v h. h;
  over = λ test v h. h;
  conns = λ f lesser v h. conns_named f (λ k. (lesser k).number) v h;
  chunks = λ test v h. h;
  again = λ n s may h. h;
}

number_at : (f : Conn → Conn) (k : Conn) (t : Bool) → (f k).number ≡ k.number → (elim t as (λ c. Conn) [ true ↦ f k | false ↦ k ]).number ≡ k.number
number_at f k true is = is
number_at f k false is = refl

pub on_conn-named : {o : Names} {m : ℕ} (n : ℕ) (f : Conn → Conn) (s : State) → ((k : Conn) → (f k).number ≡ k.number) → Holds (Named o m) s → Holds (Named o m) (on_conn n f s)
unfolding on_conn
on_conn-named n f s number h = holds (conns_named (changed_at (is_conn n) f) (λ k. number_at f k (is_conn n k) (number k)) (view s) (facts_of h))

pub named_places : (o : Names) (m : ℕ) → Places (Named o m)
unfolding put_on on_conn on_exchange
named_places o m n k s h = conns_named (changed_at (is_conn k) (λ j. record j { line = j.line ++ n ∷ [] })) (λ j. number_at (λ i. record i { line = i.line ++ n ∷ [] }) j (is_conn k j) refl) (view s) h

pub named_uses : (o : Names) (m : ℕ) → Uses (Named o m)
named_uses o m id i c v found h = h
