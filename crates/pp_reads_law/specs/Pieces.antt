-- Amid the body of a response: what one read brings up to the end of the body, or to its own, is one piece of the law (RFC 2616, sections 4.4
-- and 8.1).
--
-- The pipe tells the data run by run, and the program delivers them at once, where it tells an end or wants more. The law reads the body anew
-- with all bytes of the read, and delivers what is new.
--
-- Where the premises come from: those of Wholes and Data. That the exchange is headed is what `take_head` notes, carried from the head on.
use Rattle.std.specs.Prelude.{◌≡◌, ◌⊎◌, ◌<◌, ◌≤◌, ◌+◌, ℕ, suc, true, [], ◌∷◌, ◌++◌, length, drop, Option, Some, None}
use Rattle.std.specs.List.{find}
use Rattle.pp_turns_law.specs.Sides.{ShowsSides}
use Rattle.pp_framing.specs.Rules.{body_of}
use Rattle.pp_law.specs.Connections.{front_of_line}
use Rattle.pp_law.specs.Lists.{Bytes}
use Rattle.pp_law.specs.Responses.{body_piece, got, payload_of}
use Rattle.pp_law.specs.Stages.{is_headed}
use Rattle.pp_law.specs.State.{State, Answer, Conn, Exchange}
use Rattle.pp_origins.specs.Gots.{Both, GotFrom, IsStepOn, Remains, going_on, remaining, sides_of}
use Rattle.pp_peers.specs.Peers.{is_number, with_pipe}
use Rattle.pp_peers.specs.declared.peers.Peer.{Peer}
use Rattle.pp_peers_law.specs.Comes.{ShowsAmid}
use Rattle.pp_pipe.specs.Reading.{Reading}
use Rattle.pp_store.specs.Kept.{KeptMap}
use Rattle.pp_reads_law.specs.Bads.{IsOpen}
use Rattle.pp_reads_law.specs.Data.{MayGo}
use Rattle.pp_reads_law.specs.Wholes.{IsAnsweredOn}

-- where these bytes begin, the body of a response goes on, whose data go to the first exchange of the line
pub record IsWithinBody (x : Both) (s : State) (n : ℕ) (k : Conn) (a : Answer) (peer : Peer) (e : Exchange) : Type 0 where
  pub on : IsAnsweredOn (sides_of x) s n k a peer
  pub front : front_of_line s k ≡ Some e
  pub headed : is_headed e ≡ true

-- these are its data in this read
abbrev pub data_in : Answer → Bytes → Bytes
data_in a bytes = drop (length (payload_of a)) (body_of a.rule (a.raw ++ bytes)).payload

-- the program is so far in the piece: its pipe alone moved on
pub record IsAmidBody (x z : Both) (n : ℕ) (peer : Peer) (a : Answer) (bytes : Bytes) (here : Remains) : Type 0 where
  pub reading : Reading
  pub shows : ShowsAmid reading a bytes here.bytes here.came
  pub state : z.state ≡ x.state
  pub peers : z.peers ≡ with_pipe n (record peer.pipe { reading = reading }) x.peers

-- ---- where it begins

abbrev pub BodiesBeginAsTheLaws : Type 0
BodiesBeginAsTheLaws = (number : ℕ → ℕ) (name : Bytes) (x : Both) (s : State) (n : ℕ) (k : Conn) (a : Answer) (peer : Peer) (e : Exchange) (bytes : Bytes) → ShowsSides number name (sides_of x) s → IsWithinBody x s n k a peer e → IsAmidBody x x n peer a bytes (remaining bytes [])

-- ---- one step

pub record GoesOnAmid (x next : Both) (n : ℕ) (peer : Peer) (a : Answer) (bytes : Bytes) (here : Remains) (behind : Option Remains) : Type 0 where
  pub later : Remains
  pub leaves : behind ≡ Some later
  pub fewer : length later.bytes < length here.bytes
  pub amid : IsAmidBody x next n peer a bytes later

-- the read is over with it, or these bytes follow
abbrev pub LeavesBytes : Option Remains → Bytes → Type 0
LeavesBytes None rest = rest ≡ []
LeavesBytes (Some here) rest = here ≡ remaining rest []

pub record PieceIsOver (number : ℕ → ℕ) (name : Bytes) (next : Both) (s : State) (k : Conn) (a : Answer) (bytes : Bytes) (behind : Option Remains) : Type 0 where
  pub shows : ShowsSides number name (sides_of next) (body_piece k a bytes s).state
  pub leaves : LeavesBytes behind (body_piece k a bytes s).rest

abbrev pub StepsAmidAsTheLaws : Type 0
StepsAmidAsTheLaws = (number : ℕ → ℕ) (name : Bytes) (shelf : KeptMap) (x z next : Both) (s : State) (n : ℕ) (k : Conn) (a : Answer) (peer : Peer) (e : Exchange) (bytes : Bytes) (here : Remains) (behind : Option Remains) → ShowsSides number name (sides_of x) s
    → IsWithinBody x s n k a peer e → MayGo x.state s e (data_in a bytes) → IsAmidBody x z n peer a bytes here → IsStepOn (going_on (find (is_number n) z.peers)) shelf n here z next behind → GoesOnAmid x next n peer a bytes here behind ⊎ PieceIsOver number name next s k a bytes behind

-- ---- step by step

-- then what is left of the read is read on, with so many steps
pub record PieceIsRead (number : ℕ → ℕ) (name : Bytes) (shelf : KeptMap) (most : ℕ) (y : Both) (s : State) (n : ℕ) (k : Conn) (a : Answer) (bytes : Bytes) (here : Remains) : Type 0 where
  pub next : Both
  pub behind : Option Remains
  pub more : ℕ
  pub enough : most ≤ more + (length here.bytes + 1)
  pub over : PieceIsOver number name next s k a bytes behind
  pub then : GotFrom more shelf n behind next y

abbrev pub BodiesAreReadAsTheLaws : Type 0
BodiesAreReadAsTheLaws = (number : ℕ → ℕ) (name : Bytes) (shelf : KeptMap) (most : ℕ) (x z y : Both) (s : State) (n : ℕ) (k : Conn) (a : Answer) (peer : Peer) (e : Exchange) (bytes : Bytes) (here : Remains) → ShowsSides number name (sides_of x) s → IsWithinBody x s n k a peer e
    → MayGo x.state s e (data_in a bytes) → IsAmidBody x z n peer a bytes here → length here.bytes < most → GotFrom most shelf n (Some here) z y → PieceIsRead number name shelf most y s n k a bytes here

-- ---- of the law alone

-- the law reads such a piece, and then what follows it
abbrev pub PiecesAreGot : Type 0
PiecesAreGot = (more n b : ℕ) (bytes : Bytes) (s : State) (k : Conn) (a : Answer) → IsOpen s n k → k.answer ≡ Some a → got (suc more) n (b ∷ bytes) s ≡ got more n (body_piece k a (b ∷ bytes) s).rest (body_piece k a (b ∷ bytes) s).state
