-- What the bytes of one read rest on, at each moment between two pieces of the law (RFC 2616, sections 4.4, 6, 8.1 and 10.1).
--
-- Where it comes from stands at each field of `RestsOn`, in the order of Supplies of Reads. A step may end in several ways, as memory may
-- be refused: meant are the moments from which this read went on to where it ended, where this life did not go astray.
use Rattle.std.specs.Prelude.{◌≡◌, ◌⊎◌, ◌≤◌, ◌<◌, ℕ, zero, suc, false, [], ◌∷◌, length, Option, Some, None}
use Rattle.std.specs.List.{find}
use Rattle.pp_answers_law.specs.Making.{MayMake}
use Rattle.pp_framing.specs.Body.{Done}
use Rattle.pp_framing.specs.Rules.{body_of}
use Rattle.pp_turns_law.specs.Sides.{ShowsSides}
use Rattle.pp_law.specs.Lists.{Bytes}
use Rattle.pp_law.specs.OwnHeads.{is_wrong_head}
use Rattle.pp_law.specs.Responses.{body_piece, got, head_came}
use Rattle.pp_law.specs.State.{State, Answer, Conn, Exchange}
use Rattle.pp_origins.specs.Gots.{Both, GotFrom, IsStepOn, Remains, going_on, remaining, sides_of}
use Rattle.pp_peers.specs.Peers.{is_number}
use Rattle.pp_peers.specs.declared.peers.Peer.{Peer}
use Rattle.pp_reads_law.specs.Bads.{IsDue, IsOpen}
use Rattle.pp_reads_law.specs.Clears.{HeadIsGot, StandsBefore}
use Rattle.pp_reads_law.specs.Empties.{MayEnd}
use Rattle.pp_reads_law.specs.Data.{MayGo}
use Rattle.pp_reads_law.specs.Heads.{IsGivenHead, MayAnswer, with_head}
use Rattle.pp_reads_law.specs.Pieces.{IsAmidBody, IsWithinBody, PieceIsOver, data_in}
use Rattle.pp_reads_law.specs.Reads.{IsAwaited, SuppliesBody}
use Rattle.pp_reads_law.specs.Stops.{EndsAt}
use Rattle.pp_state.specs.Ends.{parts}
use Rattle.pp_state.specs.Lines.{first_on}
use Rattle.pp_store.specs.Kept.{KeptMap}
use Rattle.pp_turns_law.specs.Rows.{AllAreKept}

-- ---- what a head that came rests on

pub record HeadRestsOn (shelf : KeptMap) (n : ℕ) (next : Both) (s : State) (e : Exchange) (bytes : Bytes) (behind : Option Remains) (begin : Both) (then : State) (before : Conn) (peer : Peer) (it : HeadIsGot shelf next s n e bytes behind begin then before peer) : Type 0 where
  -- Heads: IsSoundTurn (`askers`), IsToldOn of pp_laws_coming (`untold`, `coming`), HasWay of its Rows
  pub may : MayAnswer begin.state then e it.head
  -- Empties: IsSoundTurn (`once`, `pipelines`), IsToldOn (`coming`)
  pub end : is_wrong_head e it.head ≡ false → MayEnd then before e it.head it.rule

-- ---- the moments of a read

-- behind a head that came: what follows it is left; and of an empty body its end came with it, or comes with the next step of the pipe
pub record IsBehindHead (name : Bytes) (shelf : KeptMap) (n : ℕ) (x : Both) (s : State) (bytes : Bytes) (next : Both) (t : State) (rest : Bytes) : Type 0 where
  pub number : ℕ → ℕ
  pub conn : Conn
  pub exchange : Exchange
  pub behind : Option Remains
  pub there : StandsBefore number shelf x s n conn exchange
  pub head : Both
  pub it : HeadIsGot shelf head s n exchange bytes behind there.begin there.then there.before there.peer
  pub state : t ≡ head_came there.before it.head there.then
  pub left : rest ≡ it.rest
  pub then : (next ≡ head) ⊎ ((after : Option Remains) × IsStepOn (going_on (find (is_number n) head.peers)) shelf n (remaining it.rest []) head next after)
  -- another step alone where it is taken, and its body is empty
  pub ends : (next ≡ head) ⊎ ((is_wrong_head exchange it.head ≡ false) × ((body_of it.rule []).outcome ≡ Done []))
  -- no body went on, and the head rested on this
  pub quiet : conn.answer ≡ None
  pub rests : HeadRestsOn shelf n head s exchange bytes behind there.begin there.then there.before there.peer it
  pub given : IsGivenHead (first_on n (parts there.begin.state)) shelf n (with_head n there.peer it.left there.begin) head it.came
  pub refused : head.state.refused ≡ []
  pub calm : head.state.is_astray ≡ false
  -- and so it is shown behind it
  pub straight : next.state.is_astray ≡ false
  pub anew : ℕ → ℕ
  pub shows : ShowsSides anew name (sides_of next) t

-- behind a piece of a body, which has a byte at least
pub record IsBehindPiece (name : Bytes) (shelf : KeptMap) (n : ℕ) (x : Both) (s : State) (bytes : Bytes) (next : Both) (t : State) (rest : Bytes) : Type 0 where
  pub number : ℕ → ℕ
  pub conn : Conn
  pub answer : Answer
  pub peer : Peer
  pub exchange : Exchange
  pub amid : Both
  pub here : Remains
  pub after : Option Remains
  pub first : ℕ
  pub others : Bytes
  pub some : bytes ≡ first ∷ others
  pub within : IsWithinBody x s n conn answer peer exchange
  pub is_amid : IsAmidBody x amid n peer answer bytes here
  pub step : IsStepOn (going_on (find (is_number n) amid.peers)) shelf n here amid next after
  pub over : PieceIsOver number name next s conn answer bytes after
  -- its data might go where they are bound
  pub shows : ShowsSides number name (sides_of x) s
  pub may : MayGo x.state s exchange (data_in answer bytes)
  pub straight : next.state.is_astray ≡ false
  pub state : t ≡ (body_piece conn answer bytes s).state
  pub left : rest ≡ (body_piece conn answer bytes s).rest

-- so many pieces behind where the read began
unfoldable pub IsMoment : (pieces : ℕ) (name : Bytes) (shelf : KeptMap) (n : ℕ) (begins : Both) (from : State) (all : Bytes) (x : Both) (s : State) (bytes : Bytes) → Type 0
IsMoment zero name shelf n begins from all x s bytes = (x ≡ begins) × (s ≡ from) × (bytes ≡ all)
IsMoment (suc pieces) name shelf n begins from all x s bytes =
    (w : Both) × (u : State) × (more : Bytes) × IsMoment pieces name shelf n begins from all w u more × (IsBehindHead name shelf n w u more x s bytes ⊎ IsBehindPiece name shelf n w u more x s bytes)

-- one of them, and the end behind it
abbrev pub IsAMoment : (name : Bytes) (shelf : KeptMap) (n : ℕ) (begins : Both) (from : State) (all : Bytes) → Both → State → Bytes → Type 0
IsAMoment name shelf n begins from all x s bytes = (pieces : ℕ) × IsMoment pieces name shelf n begins from all x s bytes

abbrev pub ReadEnds : (name : Bytes) (shelf : KeptMap) (n : ℕ) (begins : Both) (from : State) (all : Bytes) (y : Both) (t : State) → Type 0
ReadEnds name shelf n begins from all y t = EndsAt (IsAMoment name shelf n begins from all) name shelf n y t

-- from there the read went on to where it ended
pub record LeadsTo (shelf : KeptMap) (n : ℕ) (x y : Both) : Type 0 where
  pub more : ℕ
  pub behind : Option Remains
  pub then : GotFrom more shelf n behind x y

-- ---- what each rests on

pub record RestsOn (shelf : KeptMap) (n : ℕ) (y x : Both) (s : State) (bytes : Bytes) : Type 0 where
  -- Amid: StandsInTurn from wait to wait, and IsSoundTurn (`bounded.rows`, `bounded.bodies`); that each life that clients name was
  -- given, and what is to be noted, are carried from the beginning of the turn
  pub disk : AllAreKept shelf x.state.cache s
  pub may : MayMake (parts x.state) s
  pub forgotten : x.state.forgotten ≡ s.forgotten
  -- of the law alone: next_piece-came in proofs/Pieces of pp_laws_sent
  pub enough : (most : ℕ) → length bytes ≤ most → got most n bytes s ≡ got (length bytes) n bytes s
  pub fewer : (k : Conn) (a : Answer) (b : ℕ) (rest : Bytes) → bytes ≡ b ∷ rest → IsOpen s n k → k.answer ≡ Some a → length (body_piece k a (b ∷ rest) s).rest < length (b ∷ rest)
  -- of the law alone, as before
  pub awaits : (k : Conn) (e : Exchange) → IsDue s n k e → k.answer ≡ None → IsAwaited k e
  pub heads : (number : ℕ → ℕ) (next : Both) (k : Conn) (e : Exchange) (behind : Option Remains) (more : ℕ) → GotFrom more shelf n behind next y → (there : StandsBefore number shelf x s n k e) (it : HeadIsGot shelf next s n e bytes behind there.begin there.then there.before there.peer)
      → HeadRestsOn shelf n next s e bytes behind there.begin there.then there.before there.peer it
  -- Pieces, Wholes and Data: IsSoundTurn (`lined`, `placed`, `pipelines`), what a head says of its body, and how much is read at
  -- once; that a chunk is free for each piece `pp_comes_law` has (Moments)
  pub bodies : (k : Conn) (a : Answer) → IsOpen s n k → k.answer ≡ Some a → SuppliesBody x s n k a bytes

-- all of one read, each moment by what is shown there
abbrev pub ReadRestsOn : (name : Bytes) (shelf : KeptMap) (n : ℕ) (begins : Both) (from : State) (all : Bytes) (ends : Both) → Type 0
ReadRestsOn name shelf n begins from all ends = (pieces : ℕ) (x : Both) (s : State) (bytes : Bytes) → IsMoment pieces name shelf n begins from all x s bytes → LeadsTo shelf n x ends
    → (number : ℕ → ℕ) → ShowsSides number name (sides_of x) s → RestsOn shelf n ends x s bytes
