-- Amid the body of a response no byte is left of a read: the step of the pipe tells nothing, and all stands as before (RFC 2616, section 4.4). The
-- law has no piece for it.
--
-- Where the premises come from: that the body goes on is what the law keeps of an answer (body_piece keeps one that goes on; an empty one ends
-- with its head), and is what the piece before leaves.
use Rattle.std.specs.Prelude.{◌≡◌, ℕ, [], Option, Some, None}
use Rattle.std.specs.List.{find}
use Rattle.pp_turns_law.specs.Sides.{ShowsSides}
use Rattle.pp_framing.specs.Body.{Going}
use Rattle.pp_framing.specs.Rules.{body_of}
use Rattle.pp_law.specs.Lists.{Bytes}
use Rattle.pp_law.specs.State.{State, Answer, Conn}
use Rattle.pp_origins.specs.Gots.{Both, IsStepOn, Remains, going_on, remaining, sides_of}
use Rattle.pp_peers.specs.Peers.{is_number}
use Rattle.pp_peers.specs.declared.peers.Peer.{Peer}
use Rattle.pp_reads_law.specs.Bads.{IsOpen}
use Rattle.pp_store.specs.Kept.{KeptMap}

-- the read is over, and what was shown is shown still
pub record StandsStill (number : ℕ → ℕ) (name : Bytes) (x next : Both) (s : State) (behind : Option Remains) : Type 0 where
  pub leaves : behind ≡ None
  pub same : next.state ≡ x.state
  pub shows : ShowsSides number name (sides_of next) s

abbrev pub PausesChangeNothing : Type 0
PausesChangeNothing = (number : ℕ → ℕ) (name : Bytes) (shelf : KeptMap) (x next : Both) (s : State) (n : ℕ) (k : Conn) (a : Answer) (peer : Peer) (behind : Option Remains) → ShowsSides number name (sides_of x) s → IsOpen s n k → find (is_number n) x.peers ≡ Some peer → k.answer ≡ Some a
    → (body_of a.rule a.raw).outcome ≡ Going → IsStepOn (going_on (find (is_number n) x.peers)) shelf n (remaining [] []) x next behind → StandsStill number name x next s behind
