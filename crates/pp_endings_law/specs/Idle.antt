-- Connections to origins that did nothing while they were waited for are closed, as the law says (ours).
use Rattle.std.specs.Prelude.{◌≡◌, ℕ, map, Some}
use Rattle.pp_turns_law.specs.Sides.{OfSides, ShowsSides}
use Rattle.pp_desk.specs.Origins.{without_idle, without_idle_on}
use Rattle.pp_law.specs.Connections.{conn, each_conn}
use Rattle.pp_law.specs.State.{State, Conn}
use Rattle.pp_law.specs.Turn.{close_idle_conn}

-- one of them, where it is idle: what it did not answer is not asked again
abbrev pub IdleOneIsClosedAsTheLaws : Type 0
IdleOneIsClosedAsTheLaws = OfSides (λ number name x s. (n : ℕ) (k : Conn) → conn s n ≡ Some k → ShowsSides number name (without_idle_on s.clock x n) (close_idle_conn k s))

-- all, one behind the other
abbrev pub without_idle_conns : State → State
without_idle_conns s = each_conn close_idle_conn (map (λ k. k.number) s.conns) s

-- clients, exchanges, connections and the table alone are changed
pub record HasNoIdle (number : ℕ → ℕ) (s t : State) : Type 0 where
  pub rest : t ≡ record s { clients = t.clients; conns = t.conns; exchanges = t.exchanges; instances = t.instances; chunks = t.chunks; entries = t.entries; displaced = t.displaced }

abbrev pub IdleOnesAreClosedAsTheLaws : Type 0
IdleOnesAreClosedAsTheLaws = OfSides (λ number name x s. ShowsSides number name (without_idle s.clock x) (without_idle_conns s) × HasNoIdle number s (without_idle_conns s))
