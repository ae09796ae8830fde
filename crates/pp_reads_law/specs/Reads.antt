-- A whole read of a connection to an origin is what the law gets of its bytes, one piece behind the other (RFC 2616, sections 4.4, 6, 8.1 and 10.1).
--
-- Between two pieces of the law stand both sides, with the bytes that are left: of each such moment holds whatever supplies what the next piece
-- rests on. A step may end in several ways, as memory may be refused: supplied is what those rest on from which this read went on to where it ended.
use Rattle.std.specs.Prelude.{◌≡◌, ◌⊎◌, ◌≤◌, ◌<◌, ℕ, Bool, true, false, [], ◌∷◌, length, Option, Some, None}
use Rattle.std.specs.List.{find}
use Rattle.pp_turns_law.specs.Sides.{ShowsSides}
use Rattle.pp_framing.specs.Body.{Done, Going}
use Rattle.pp_framing.specs.Rules.{body_of}
use Rattle.pp_head.specs.Read.{More}
use Rattle.pp_head.specs.Response.{response_at}
use Rattle.pp_law.specs.Lists.{Bytes}
use Rattle.pp_law.specs.OwnHeads.{is_wrong_head}
use Rattle.pp_law.specs.Responses.{body_piece, got, head_came}
use Rattle.pp_law.specs.Stages.{is_headed}
use Rattle.pp_law.specs.State.{State, Answer, Conn, Exchange}
use Rattle.pp_origins.specs.Gots.{Both, GotFrom, HasGot, IsStepOn, Remains, going_on, remaining, sides_of}
use Rattle.pp_peers.specs.Peers.{is_number}
use Rattle.pp_peers.specs.declared.peers.Peer.{Peer}
use Rattle.pp_state.specs.Ends.{parts}
use Rattle.pp_state.specs.Lines.{first_on}
use Rattle.pp_store.specs.Kept.{KeptMap}
use Rattle.pp_reads_law.specs.Bads.{IsDue, IsOpen}
use Rattle.pp_reads_law.specs.Data.{MayGo}
use Rattle.pp_reads_law.specs.Heads.{IsGivenHead, MayAnswer, ShowsBoth, with_head}
use Rattle.pp_reads_law.specs.Pieces.{IsAmidBody, IsWithinBody, PieceIsOver, data_in}
use Rattle.pp_reads_law.specs.Clears.{HeadIsGot, StandsBefore}
use Rattle.pp_reads_law.specs.Empties.{MayEnd}
use Rattle.pp_reads_law.specs.Stops.{EndsAt}
use Rattle.pp_reads_law.specs.Told.{StaysTold}

-- ---- what a piece rests on

-- beside both sides, what a turn shows amid a read; and settings are those of the beginning
pub record StandsThere (number : ℕ → ℕ) (name : Bytes) (shelf : KeptMap) (x : Both) (s : State) : Type 0 where
  pub named : s.settings.name ≡ name
  pub shows : ShowsBoth number shelf x s

-- a head is awaited: none stands whole among what is unread
pub record IsAwaited (k : Conn) (e : Exchange) : Type 0 where
  pub unread : response_at k.unread ≡ More
  pub none : is_headed e ≡ false

-- a head came: it may be answered, memory is refused for no row, this life did not go astray, and where it goes on whatever supplies it holds, too
pub record SuppliesHead (shelf : KeptMap) (n : ℕ) (y : Both) (I : Both → State → Bytes → Type 0) (next : Both) (s : State) (e : Exchange) (bytes : Bytes) (behind : Option Remains) (begin : Both) (then : State) (before : Conn) (peer : Peer) (it : HeadIsGot shelf next s n e bytes behind begin then before peer) : Type 0 where
  pub may : MayAnswer begin.state then e it.head
  pub given : IsGivenHead (first_on n (parts begin.state)) shelf n (with_head n peer it.left begin) next it.came
  pub refused : next.state.refused ≡ []
  pub straight : next.state.is_astray ≡ false
  pub end : is_wrong_head e it.head ≡ false → MayEnd then before e it.head it.rule
  pub holds : (number : ℕ → ℕ) → ShowsSides number then.settings.name (sides_of next) (head_came before it.head then) → (is_wrong_head e it.head ≡ true) ⊎ ((body_of it.rule []).outcome ≡ Going) → I next (head_came before it.head then) it.rest
  -- and of an empty body, behind the step that ends it
  pub ends : (number : ℕ → ℕ) (last : Both) (after : Option Remains) (more : ℕ) → ShowsSides number then.settings.name (sides_of last) (head_came before it.head then) → is_wrong_head e it.head ≡ false → (body_of it.rule []).outcome ≡ Done [] → IsStepOn (going_on (find (is_number n) next.peers)) shelf n (remaining it.rest []) next last after → GotFrom more shelf n after last y → I last (head_came before it.head then) it.rest

-- a body goes on: its exchange is the first of the line, and its data may go where they are bound
pub record SuppliesBody (x : Both) (s : State) (n : ℕ) (k : Conn) (a : Answer) (bytes : Bytes) : Type 0 where
  pub exchange : Exchange
  pub peer : Peer
  pub within : IsWithinBody x s n k a peer exchange
  pub may : MayGo x.state s exchange (data_in a bytes)
  pub going : (body_of a.rule a.raw).outcome ≡ Going

pub record Supplies (name : Bytes) (shelf : KeptMap) (n : ℕ) (y : Both) (I : Both → State → Bytes → Type 0) : Type 0 where
  -- from wait to wait, and as ShowsRead of Amid has it
  pub stands : (number : ℕ → ℕ) (x : Both) (s : State) (bytes : Bytes) → I x s bytes → ShowsSides number name (sides_of x) s → StandsThere number name shelf x s
  -- of the law alone: each piece takes a byte at least, so that no more pieces than bytes come. What stands unread is no head, and what came of
  -- a body does not end it, so that either ends behind one that came now (as in `got-came` of pp_laws_sent)
  pub enough : (most : ℕ) (x : Both) (s : State) (bytes : Bytes) → I x s bytes → length bytes ≤ most → got most n bytes s ≡ got (length bytes) n bytes s
  pub fewer : (x : Both) (s : State) (k : Conn) (a : Answer) (b : ℕ) (bytes : Bytes) → I x s (b ∷ bytes) → IsOpen s n k → k.answer ≡ Some a → length (body_piece k a (b ∷ bytes) s).rest < length (b ∷ bytes)
  -- of the law alone
  pub awaits : (x : Both) (s : State) (bytes : Bytes) (k : Conn) (e : Exchange) → I x s bytes → IsDue s n k e → k.answer ≡ None → IsAwaited k e
  -- as Heads and Empties have it
  pub heads : (number : ℕ → ℕ) (x next : Both) (s : State) (k : Conn) (e : Exchange) (bytes : Bytes) (behind : Option Remains) (more : ℕ) → I x s bytes → k.answer ≡ None → GotFrom more shelf n behind next y → (there : StandsBefore number shelf x s n k e) (it : HeadIsGot shelf next s n e bytes behind there.begin there.then there.before there.peer)
      → SuppliesHead shelf n y I next s e bytes behind there.begin there.then there.before there.peer it
  -- as Pieces and Data have it; and behind the piece
  pub bodies : (x : Both) (s : State) (k : Conn) (a : Answer) (bytes : Bytes) → I x s bytes → IsOpen s n k → k.answer ≡ Some a → SuppliesBody x s n k a bytes
  pub behind : (number : ℕ → ℕ) (x z next : Both) (s : State) (k : Conn) (a : Answer) (peer : Peer) (e : Exchange) (b : ℕ) (bytes : Bytes) (here : Remains) (after : Option Remains) (more : ℕ) → I x s (b ∷ bytes) → ShowsSides number name (sides_of x) s → IsWithinBody x s n k a peer e → MayGo x.state s e (data_in a (b ∷ bytes)) → IsAmidBody x z n peer a (b ∷ bytes) here
      → IsStepOn (going_on (find (is_number n) z.peers)) shelf n here z next after → GotFrom more shelf n after next y → PieceIsOver number name next s k a (b ∷ bytes) after → I next (body_piece k a (b ∷ bytes) s).state (body_piece k a (b ∷ bytes) s).rest

-- ---- what it brings

pub record IsRead (name : Bytes) (y : Both) (t : State) : Type 0 where
  pub number : ℕ → ℕ
  pub shows : ShowsSides number name (sides_of y) t

-- and how it ended, behind a moment of which that holds
pub record IsReadTo (I : Both → State → Bytes → Type 0) (name : Bytes) (shelf : KeptMap) (n : ℕ) (before : ℕ → ℕ) (x : Both) (s : State) (y : Both) (t : State) : Type 0 where
  pub number : ℕ → ℕ
  pub shows : ShowsSides number name (sides_of y) t
  pub ends : EndsAt I name shelf n y t
  -- what exchanges of clients joined
  pub told : StaysTold before (parts x.state) s number (parts y.state) t

-- of what passes a test
abbrev pub Passes : (Both → State → Bytes → Bool) → Both → State → Bytes → Type 0
Passes test x s bytes = test x s bytes ≡ true

-- of so many bytes as are read at once
abbrev pub ReadsAreGotAsTheLaws : Type 0
ReadsAreGotAsTheLaws = (number : ℕ → ℕ) (name : Bytes) (shelf : KeptMap) (test : Both → State → Bytes → Bool) (x y : Both) (s : State) (n : ℕ) (bytes : Bytes) → Supplies name shelf n y (Passes test) → Passes test x s bytes → ShowsSides number name (sides_of x) s → length bytes ≤ 32768
    → HasGot shelf n bytes x y → IsRead name y (got (length bytes) n bytes s)
