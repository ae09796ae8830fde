-- Data of a response come (ours): nothing is noted, and chunks have to leave memory in the program where they have to in the law.
--
-- The program notes that chunks are used wherever an exchange is bound, and the law where the instance is still there: a retired one that nobody
-- follows is not, and bytes go on to come for it. So one alone may begin eviction; but then no more chunks are used than it leaves.
--
-- Where the premises come from: those of `Data` of `pp_reads_law`. The trigger is one that is set (`IsInForce` of `pp_opening_law`). How eviction stands
-- in both is left so by each piece of data, and by all else that a read brings (NoMoreAreUsed); ReadsBegin has it where the read begins.
use Rattle.std.specs.Prelude.{◌≡◌, ◌≤◌, ◌<◌, ◌⊎◌, ℕ, Bool, true, length, List, Some}
use Rattle.pp_flow_law.specs.Tables.{none_leaves}
use Rattle.pp_framing.specs.declared.body.BodyRule.{BodyRule}
use Rattle.pp_head.specs.Response.{Response}
use Rattle.pp_joints_law.specs.HeadsNote.{IsTied}
use Rattle.pp_law.specs.Chunks.{trigger}
use Rattle.pp_law.specs.Connections.{front_of_line}
use Rattle.pp_law.specs.Lists.{Bytes}
use Rattle.pp_law.specs.Responses.{bad_head, bad_response, bring_row, deliver, finish}
use Rattle.pp_law.specs.State.{State, Answer, Conn, Exchange}
use Rattle.pp_origins.specs.Gots.{DataCame}
use Rattle.pp_peers.specs.declared.peers.Peer.{Peer}
use Rattle.pp_reads_law.specs.Bads.{IsOpen}
use Rattle.pp_reads_law.specs.Data.{MayGo}
use Rattle.pp_reads_law.specs.Heads.{begun_by}
use Rattle.pp_state.specs.Ends.{parts}
use Rattle.pp_state.specs.declared.state.State.{State as Turn}
use Rattle.pp_states_law.specs.Steps.{ShowsSteps}

-- ---- how eviction stands in both

-- of two marks, where so many chunks are used: both say that it has begun; or the same, with fewer than the trigger says; or no chunk has to go
-- for either, as no more are used than the floor says, which is no lower
abbrev pub AreAlike : (turn law : Bool) (used trigger floor : ℕ) → Type 0
AreAlike turn law used trigger floor = ((turn ≡ true) × (law ≡ true)) ⊎ (((turn ≡ law) × (used < trigger)) ⊎ ((trigger ≤ floor) × (used ≤ floor)))

abbrev pub EvictAlike : Turn → State → Type 0
EvictAlike p s = AreAlike p.is_evicting s.is_evicting (length p.cache.chunks) p.trigger p.floor

-- both behind them
pub record IsTiedBehind (q : Turn) (t : State) : Type 0 where
  pub tied : IsTied q t
  pub evict : EvictAlike q t

-- of the first exchange of the line, whose response goes on
abbrev pub DataTie : Type 0
DataTie = (number : ℕ → ℕ) (name : Bytes) (peers : List Peer) (p q : Turn) (s : State) (n : ℕ) (k : Conn) (e : Exchange) (a : Answer) (at : ℕ) (bytes : Bytes) → ShowsSteps number name none_leaves peers (parts p) s → IsOpen s n k → front_of_line s k ≡ Some e → MayGo p s e bytes → DataCame n bytes p q
    → p.trigger ≡ trigger s → EvictAlike p s → IsTied p s → IsTiedBehind q (deliver e a at bytes s)

-- ---- of the law alone: nothing else that a read brings uses more chunks, or begins eviction

pub record IsNoMore (s t : State) : Type 0 where
  pub evicting : t.is_evicting ≡ s.is_evicting
  pub few : length t.chunks ≤ length s.chunks

-- a head that is taken or refused, and a response that is whole, or is none
pub record NoMoreAreUsed : Type 0 where
  pub taken : (k : Conn) (e : Exchange) (head : Response) (rule : BodyRule) (s : State) → IsNoMore s (begun_by k e head rule s)
  pub refused : (k : Conn) (e : Exchange) (head : Response) (s : State) → IsNoMore s (bad_head k (bring_row e head s))
  pub wholes : (k : Conn) (e : Exchange) (a : Answer) (s : State) → IsNoMore s (finish k e a s)
  pub bodies : (k : Conn) (s : State) → IsNoMore s (bad_response k s)
  pub heads : (k : Conn) (s : State) → IsNoMore s (bad_head k s)
