-- The same clients, exchanges and connections, and the same numbers to come.
use Rattle.std.proofs.Common.{◌≡◌, refl, ℕ, List}
use Rattle.pp_law.specs.State.{State, Client, Conn, Exchange}

pub record Parts (o : State) (clients : List Client) (exchanges : List Exchange) (conns : List Conn) (next_exchange : ℕ) (top : ℕ) : Type 0 where
  pub clients_same : clients ≡ o.clients
  pub exchanges_same : exchanges ≡ o.exchanges
  pub conns_same : conns ≡ o.conns
  pub next_same : next_exchange ≡ o.next_exchange
  pub top_same : top ≡ o.top

abbrev pub PartsOf : State → State → Type 0
PartsOf o s = Parts o s.clients s.exchanges s.conns s.next_exchange s.top

pub data Same (o s : State) : Type 0 where
  alike : PartsOf o s → Same o s

pub facts_of : {o s : State} → Same o s → PartsOf o s
facts_of (alike parts) = parts

pub itself : (s : State) → Same s s
itself s = alike (record { clients_same = refl; exchanges_same = refl; conns_same = refl; next_same = refl; top_same = refl })
