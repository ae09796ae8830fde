-- Where a head is awaited, one step of the pipe is what the law gets up to the end of that head, as HeadsAreGotAsTheLaws of Gots has it: here
-- with what stands before the head, where nothing but what precedes it is dropped (RFC 2616, sections 6, 8.1 and 10.1).
--
-- Where the premises come from: those of HeadsAreGotAsTheLaws.
use Rattle.std.specs.Prelude.{◌≡◌, ◌⊎◌, ◌≤◌, ◌<◌, ◌+◌, ℕ, [], ◌∷◌, length, Option, Some}
use Rattle.std.specs.List.{find}
use Rattle.pp_cache.specs.Bounds.{IsBounded}
use Rattle.pp_framing.specs.declared.body.BodyRule.{BodyRule}
use Rattle.pp_head.specs.Read.{Whole}
use Rattle.pp_head.specs.Response.{Response, response_at}
use Rattle.pp_law.specs.Lists.{Bytes}
use Rattle.pp_law.specs.Responses.{got, head_came}
use Rattle.pp_law.specs.State.{State, Conn, Exchange}
use Rattle.pp_origins.specs.Gots.{Both, HeadCame, IsStepOn, Remains, going_on, remaining}
use Rattle.pp_peers.specs.Peers.{is_number}
use Rattle.pp_peers.specs.declared.peers.Peer.{Peer}
use Rattle.pp_pipe.specs.Reading.{Reading}
use Rattle.pp_reads_law.specs.Gots.{StopsThere}
use Rattle.pp_reads_law.specs.Heads.{HeadIsDue, HeadIsRead, ShowsBoth, with_head}
use Rattle.pp_reads_law.specs.Interims.{IsClearedTo}
use Rattle.pp_states_law.specs.Gots.{IsAmidHead}
use Rattle.pp_store.specs.Kept.{KeptMap}

-- what stands before the head
pub record StandsBefore (number : ℕ → ℕ) (shelf : KeptMap) (x : Both) (s : State) (n : ℕ) (k : Conn) (e : Exchange) : Type 0 where
  pub begin : Both
  pub then : State
  pub before : Conn
  pub peer : Peer
  pub state : begin.state ≡ x.state
  pub named : then.settings.name ≡ s.settings.name
  pub stands : IsClearedTo s n k before then
  pub shows : ShowsBoth number shelf begin then
  pub due : HeadIsDue begin then n before e peer

-- a final head came, and these bytes follow: fewer than came
pub record HeadIsGot (shelf : KeptMap) (next : Both) (s : State) (n : ℕ) (e : Exchange) (bytes : Bytes) (behind : Option Remains) (begin : Both) (then : State) (before : Conn) (peer : Peer) : Type 0 where
  pub head : Response
  pub rule : BodyRule
  pub left : Reading
  -- it is that of a text
  pub text : Bytes
  pub whole : response_at text ≡ Whole head
  pub read : HeadIsRead e head rule left
  pub came : HeadCame shelf n (with_head n peer left begin) next
  -- as each cache is (IsStep of Gots of `pp_origins`)
  pub bounded : IsBounded next.state.cache
  pub rest : Bytes
  pub less : ℕ
  pub leaves : behind ≡ Some (remaining rest [])
  pub enough : length rest ≤ less
  pub fewer : length rest < length bytes
  pub law : got (length bytes) n bytes s ≡ got less n rest (head_came before head then)
  -- with so many pieces the law comes to it, and goes on behind
  pub pieces : ℕ
  pub comes : (later : ℕ) → got (pieces + later) n bytes s ≡ got later n rest (head_came before head then)

pub record HeadIsGotThere (number : ℕ → ℕ) (shelf : KeptMap) (x next : Both) (s : State) (n : ℕ) (k : Conn) (e : Exchange) (bytes : Bytes) (behind : Option Remains) : Type 0 where
  pub there : StandsBefore number shelf x s n k e
  pub got : HeadIsGot shelf next s n e bytes behind there.begin there.then there.before there.peer

abbrev pub HeadsAreGotThere : Type 0
HeadsAreGotThere = (number : ℕ → ℕ) (shelf : KeptMap) (x next : Both) (s : State) (n : ℕ) (k : Conn) (e : Exchange) (peer : Peer) (b : ℕ) (bytes : Bytes) (behind : Option Remains) → ShowsBoth number shelf x s → HeadIsDue x s n k e peer → IsAmidHead s n k
    → IsStepOn (going_on (find (is_number n) x.peers)) shelf n (remaining (b ∷ bytes) []) x next behind → StopsThere number x next s n k (b ∷ bytes) behind ⊎ HeadIsGotThere number shelf x next s n k e (b ∷ bytes) behind
