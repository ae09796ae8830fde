-- What is no part of the exchanges may change, and the connections that they stand on.
use Rattle.std.specs.Prelude.{◌≡◌, ℕ, true, ◌==◌, if◌then◌else◌, List, [], ◌∷◌, ◌++◌, None}
use Rattle.pp_law.specs.After.{out}
use Rattle.pp_law.specs.Connections.{conn, on_conn}
use Rattle.pp_law.specs.State.{State, Conn}
use Rattle.pp_flow_law.specs.Tables.{Leaving, OfFlows, ShowsFlow, line_at}

-- the same exchanges, in the same lines
pub record IsSameFlow (l : Leaving) (s : State) (o : Leaving) (t : State) : Type 0 where
  pub exchanges : t.exchanges ≡ s.exchanges
  pub next : t.next_exchange ≡ s.next_exchange
  pub lines : (n : ℕ) → o n ++ line_at t n ≡ l n ++ line_at s n

abbrev pub FramesAreTheLaws : Type 0
FramesAreTheLaws = OfFlows (λ number l f s. (o : Leaving) (t : State) → IsSameFlow l s o t → ShowsFlow number o f t)

-- a connection is dialled, whose number no other has
abbrev pub DialsAreTheLaws : Type 0
DialsAreTheLaws = OfFlows (λ number l f s. (k : Conn) → conn s k.number ≡ None → k.line ≡ [] → ShowsFlow number l f (record s { conns = s.conns ++ k ∷ [] }))

-- its line still has to leave it
abbrev pub still : ℕ → List ℕ → Leaving → Leaving
still n line l m = if m == n then l m ++ line else l m

-- its cause to be closed has come
abbrev pub emptied : Conn → Conn
emptied k = record k { is_closing = true; line = []; answer = None; unread = [] }

abbrev pub ClosingsAreTheLaws : Type 0
ClosingsAreTheLaws = OfFlows (λ number l f s. (n : ℕ) → ShowsFlow number (still n (line_at s n) l) f (on_conn n emptied s))

-- it is gone
abbrev pub DropsAreTheLaws : Type 0
DropsAreTheLaws = OfFlows (λ number l f s. (n : ℕ) → ShowsFlow number (still n (line_at s n) l) f (out n s))
