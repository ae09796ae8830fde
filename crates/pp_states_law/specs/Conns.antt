-- One connection is changed.
use Rattle.std.specs.Prelude.{◌≡◌, ◌≤◌, ℕ, true, List, Some, count_by, find}
use Rattle.pp_flow_law.specs.Frames.{emptied, still}
use Rattle.pp_law.specs.Connections.{conn, is_conn, on_conn}
use Rattle.pp_law.specs.Lists.{change}
use Rattle.pp_law.specs.State.{State, Conn}
use Rattle.pp_law.specs.Turn.{marked_conn}
use Rattle.pp_peers.specs.Peers.{is_number, with_peer}
use Rattle.pp_peers.specs.declared.peers.Peer.{Peer}
use Rattle.pp_peers_law.specs.Peers.{ShowsConn, ShowConns}
use Rattle.pp_states_law.specs.Asks.{AllAreAskedAs}
use Rattle.pp_states_law.specs.States.{OfStates, ShowsState}

-- the connection with that number stands for what is made of that of the law
abbrev pub GoesOnAs : State → State → ℕ → List Peer → List Conn → Peer → (Conn → Conn) → Type 0
GoesOnAs s t n ps ks new to = (p : Peer) (k : Conn) → find (is_number n) ps ≡ Some p → find (is_conn n) ks ≡ Some k → ShowsConn s p k → ShowsConn t new (to k)

-- where no other has its number, and what is asked on the others is asked as before
abbrev pub ChangesAreTheLaws : Type 0
ChangesAreTheLaws = (s t : State) (n : ℕ) (new : Peer) (to : Conn → Conn) (ps : List Peer) (ks : List Conn) → count_by (is_conn n) ks ≤ 1 → AllAreAskedAs s t ks → GoesOnAs s t n ps ks new to → ShowConns s ps ks
    → ShowConns t (with_peer n new ps) (change (is_conn n) to ks)

-- ---- in a state

-- "Client software SHOULD reopen the transport connection and retransmit the aborted sequence of requests": its cause to be closed has
-- come, and its line still has to leave it
abbrev pub ClosingsAreTheLaws : Type 0
ClosingsAreTheLaws = OfStates (λ number name owed l p s. (n : ℕ) (peer : Peer) (k : Conn) → count_by (is_conn n) s.conns ≤ 1 → find (is_number n) p.peers ≡ Some peer → conn s n ≡ Some k
    → ShowsState number name owed (still n k.line l) (record p { peers = with_peer n (record peer { is_closing = true }) p.peers }) (on_conn n emptied s))

-- something came on it, or was asked there
abbrev pub MarksAreTheLaws : Type 0
MarksAreTheLaws = OfStates (λ number name owed l p s. (n now : ℕ) (peer : Peer) → count_by (is_conn n) s.conns ≤ 1 → find (is_number n) p.peers ≡ Some peer
    → ShowsState number name owed l (record p { peers = with_peer n (record peer { mark = now }) p.peers }) (on_conn n (marked_conn now) s))

-- it is there
abbrev pub ReachedAreTheLaws : Type 0
ReachedAreTheLaws = OfStates (λ number name owed l p s. (n : ℕ) (peer : Peer) → count_by (is_conn n) s.conns ≤ 1 → find (is_number n) p.peers ≡ Some peer
    → ShowsState number name owed l (record p { peers = with_peer n (record peer { is_reached = true }) p.peers }) (on_conn n (λ k. record k { is_reached = true }) s))
