-- Data of a response came: they join the instance that its exchange is bound to, and go into the pipe of the client that it is passed to (RFC
-- 2616, sections 3.6.1 and 13.5.4).
--
-- Where the premises come from: no more come than are still to come, and within the body (IsToJoin), a chunk is found for them, and the pipe of
-- the client has room (FindsPipe): the first is of what a head says of its body, the last of how much is read at once (`read_room`); that a chunk
-- is free for each piece of a read `pp_comes_law` has (Moments).
use Rattle.std.specs.Prelude.{◌≡◌, ℕ, List, [], ◌∷◌, Some, ⊤}
use Rattle.std.specs.List.{find}
use Rattle.pp_bodies_law.specs.Bytes.{FindsPipe, IsToJoin}
use Rattle.pp_flow.specs.Entries.{is_number}
use Rattle.pp_flow.specs.declared.entry.Entry.{Entry}
use Rattle.pp_law.specs.Connections.{front_of_line}
use Rattle.pp_law.specs.Lists.{Bytes}
use Rattle.pp_law.specs.Responses.{deliver}
use Rattle.pp_law.specs.Stages.{bound_of}
use Rattle.pp_law.specs.State.{State, Answer, Conn, Exchange}
use Rattle.pp_flow_law.specs.Tables.{none_leaves}
use Rattle.pp_origins.specs.Gots.{DataCame}
use Rattle.pp_peers.specs.declared.peers.Peer.{Peer}
use Rattle.pp_state.specs.Ends.{parts}
use Rattle.pp_state.specs.declared.state.State.{State as Turn}
use Rattle.pp_states_law.specs.Charges.{IsFor}
use Rattle.pp_states_law.specs.Steps.{ShowsSteps}
use Rattle.pp_reads_law.specs.Bads.{IsOpen}

-- there is room for them where they go
pub record FindsPlace (p : Turn) (s : State) (e : Exchange) (bytes : Bytes) : Type 0 where
  pub joins : (y : Entry) → find (is_number e.number) p.flow.placed ≡ Some y → IsToJoin y.exchange.bound (bound_of e) p.cache s bytes
  pub fits : IsFor s e (FindsPipe bytes)

-- where there are any
abbrev pub MayGo : Turn → State → Exchange → Bytes → Type 0
MayGo p s e [] = ⊤
MayGo p s e (b ∷ bytes) = FindsPlace p s e (b ∷ bytes)

abbrev pub DataComeAsTheLaws : Type 0
DataComeAsTheLaws = (number : ℕ → ℕ) (name : Bytes) (peers : List Peer) (p q : Turn) (s : State) (n : ℕ) (k : Conn) (e : Exchange) (a : Answer) (at : ℕ) (bytes : Bytes) → ShowsSteps number name none_leaves peers (parts p) s → IsOpen s n k → front_of_line s k ≡ Some e
    → MayGo p s e bytes → DataCame n bytes p q → ShowsSteps number name none_leaves peers (parts q) (deliver e a at bytes s)
