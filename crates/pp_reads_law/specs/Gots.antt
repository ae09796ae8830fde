-- Where a head is awaited, one step of the pipe is what the law gets of all that came, up to the end of that head (RFC 2616, sections 6, 8.1 and
-- 10.1).
--
-- Where the premises come from: those of Heads. That no head stood whole where the read began is of IsAmidHead (pp_states_law), carried.
use Rattle.std.specs.Prelude.{◌≡◌, ◌⊎◌, ◌≤◌, ℕ, [], ◌∷◌, length, Option, Some, None}
use Rattle.std.specs.List.{find}
use Rattle.pp_turns_law.specs.Sides.{ShowsSides}
use Rattle.pp_framing.specs.declared.body.BodyRule.{BodyRule}
use Rattle.pp_head.specs.Response.{Response}
use Rattle.pp_law.specs.Lists.{Bytes}
use Rattle.pp_law.specs.Responses.{got, head_came}
use Rattle.pp_law.specs.State.{State, Conn, Exchange}
use Rattle.pp_origins.specs.Gots.{Both, HeadCame, IsStepOn, Remains, going_on, remaining, sides_of}
use Rattle.pp_peers.specs.Peers.{is_number}
use Rattle.pp_peers.specs.declared.peers.Peer.{Peer}
use Rattle.pp_pipe.specs.Reading.{Reading}
use Rattle.pp_states_law.specs.Gots.{IsAmidHead}
use Rattle.pp_reads_law.specs.Stops.{IsShut, StaysUnread}
use Rattle.pp_store.specs.Kept.{KeptMap}
use Rattle.pp_reads_law.specs.Heads.{HeadIsDue, HeadIsRead, ShowsBoth, with_head}

-- the read is over with it
pub record StopsThere (number : ℕ → ℕ) (x next : Both) (s : State) (n : ℕ) (k : Conn) (bytes : Bytes) (behind : Option Remains) : Type 0 where
  pub leaves : behind ≡ None
  pub way : StaysUnread x s n next (got (length bytes) n bytes s) ⊎ IsShut x s n k next (got (length bytes) n bytes s)
  pub shows : ShowsSides number s.settings.name (sides_of next) (got (length bytes) n bytes s)

-- or a final head came, as Heads has it, where nothing but what precedes it is dropped; and these bytes follow
pub record GoesOnBehind (number : ℕ → ℕ) (shelf : KeptMap) (x next : Both) (s : State) (n : ℕ) (e : Exchange) (bytes : Bytes) (behind : Option Remains) : Type 0 where
  pub begin : Both
  pub then : State
  pub before : Conn
  pub peer : Peer
  pub state : begin.state ≡ x.state
  pub shows : ShowsBoth number shelf begin then
  pub due : HeadIsDue begin then n before e peer
  pub head : Response
  pub rule : BodyRule
  pub left : Reading
  pub read : HeadIsRead e head rule left
  pub came : HeadCame shelf n (with_head n peer left begin) next
  pub rest : Bytes
  pub less : ℕ
  pub leaves : behind ≡ Some (remaining rest [])
  pub enough : length rest ≤ less
  pub law : got (length bytes) n bytes s ≡ got less n rest (head_came before head then)

abbrev pub HeadsAreGotAsTheLaws : Type 0
HeadsAreGotAsTheLaws = (number : ℕ → ℕ) (shelf : KeptMap) (x next : Both) (s : State) (n : ℕ) (k : Conn) (e : Exchange) (peer : Peer) (b : ℕ) (bytes : Bytes) (behind : Option Remains) → ShowsBoth number shelf x s → HeadIsDue x s n k e peer → IsAmidHead s n k
    → IsStepOn (going_on (find (is_number n) x.peers)) shelf n (remaining (b ∷ bytes) []) x next behind → StopsThere number x next s n k (b ∷ bytes) behind ⊎ GoesOnBehind number shelf x next s n e (b ∷ bytes) behind
