-- Of what is dropped as much is counted as came, amid the read of an origin: behind a head that came nothing is, and nothing came; behind a piece of
-- a body so many bytes more as its data are (RFC 2616, sections 4.4 and 8.1.4; ours).
--
-- Where the premises come from: that a head came of the first of a line alone, whose answer is under way, is of each moment of a read
-- (LinesAreAnsweredInReads); what a step rested on stands at it (Brings of `pp_reads_law`), and for each head HeadLeads comes of that (HeadsComeAsTheLaws);
-- that so many bytes can be counted is of a short log (Came).
use Rattle.std.specs.Prelude.{◌≡◌, ◌≤◌, ◌-◌, ◌^◌, ◌++◌, ℕ, true, false, length, List, Some, None}
use Rattle.pp_framing.specs.Rules.{body_of}
use Rattle.pp_law.specs.Connections.{conn, exchange, front_of_line}
use Rattle.pp_law.specs.Lists.{Bytes, has_number}
use Rattle.pp_law.specs.OwnHeads.{is_wrong_head}
use Rattle.pp_law.specs.Stages.{is_headed}
use Rattle.pp_law.specs.Responses.{got}
use Rattle.pp_law.specs.State.{State, Answer, Conn, Dropping, Exchange, Term, ReadOf}
use Rattle.pp_obeys.specs.Obeys.{Obeys}
use Rattle.pp_origins.specs.Gots.{Both, sides_of}
use Rattle.pp_reads_law.specs.Brings.{IsBehindHead, IsBehindPiece, IsMoment}
use Rattle.pp_reads_law.specs.Data.{MayGo}
use Rattle.pp_reads_law.specs.Empties.{MayEnd}
use Rattle.pp_reads_law.specs.Heads.{HeadLeads}
use Rattle.pp_reads_law.specs.Pieces.{data_in}
use Rattle.pp_stays_law.specs.Turns.{AreCounted}
use Rattle.pp_store.specs.Kept.{KeptMap}
use Rattle.pp_turns_law.specs.Sides.{ShowsSides}
use Rattle.pp_world.specs.Log.{Log}
use Rattle.pp_given_law.specs.Came.{HasRoomToCount}

-- it stands in the line of a connection
pub record IsInLine (s : State) (n m : ℕ) (k : Conn) (e : Exchange) : Type 0 where
  pub conn_is : conn s n ≡ Some k
  pub known : exchange s m ≡ Some e
  pub has : has_number m k.line ≡ true

pub record LinesAreAnswered (s : State) : Type 0 where
  -- a head came of the first alone, and its answer is under way
  pub first : (n m : ℕ) (k : Conn) (e : Exchange) → IsInLine s n m k e → is_headed e ≡ true → front_of_line s k ≡ Some e
  pub awaited : (n m : ℕ) (k : Conn) (e : Exchange) → IsInLine s n m k e → is_headed e ≡ true → k.answer ≡ None → ⊥
  -- an answer is that of the first
  pub answers : (n : ℕ) (k : Conn) (a : Answer) (e : Exchange) → conn s n ≡ Some k → k.answer ≡ Some a → front_of_line s k ≡ Some e → is_headed e ≡ true
  -- each stands in one line
  pub one : (i n m : ℕ) (j k : Conn) (d e : Exchange) → IsInLine s i m j d → IsInLine s n m k e → i ≡ n

-- of all that the bytes of a read lead to, so many pieces of them
abbrev pub LinesAreAnsweredInReads : Type 0
LinesAreAnsweredInReads = (terms : List Term) (log : Log) (n : ℕ) (s : State) → Obeys terms s log → s.owed ≡ ReadOf n → (pieces : ℕ) (bytes : Bytes) → LinesAreAnswered (got pieces n bytes s)

-- ---- behind a piece of a body

-- of what is dropped so many bytes as came can be counted
abbrev pub CanBeCounted : Exchange → ℕ → Type 0
CanBeCounted e count = e.body ≡ Dropping → count ≤ 2 ^ 64 - 1

abbrev pub CountedBehindPieces : Type 0
CountedBehindPieces = (number : ℕ → ℕ) (name : Bytes) (shelf : KeptMap) (n : ℕ) (x next : Both) (s t : State) (bytes rest : Bytes) → ShowsSides number name (sides_of x) s → (it : IsBehindPiece name shelf n x s bytes next t rest) → MayGo x.state s it.exchange (data_in it.answer bytes)
    → LinesAreAnswered s → LinesAreAnswered t → CanBeCounted it.exchange (length (body_of it.answer.rule (it.answer.raw ++ bytes)).payload) → AreCounted x.state s → AreCounted next.state t

-- ---- behind a head

-- it is taken, or refused; and an empty body may end with it
abbrev pub CountedBehindHeads : Type 0
CountedBehindHeads = (number : ℕ → ℕ) (name : Bytes) (shelf : KeptMap) (n : ℕ) (x next : Both) (s t : State) (bytes rest : Bytes) → (it : IsBehindHead name shelf n x s bytes next t rest) → ShowsSides number name (sides_of next) t
    → HeadLeads it.number (is_wrong_head it.exchange it.it.head) it.there.begin it.head it.there.then n it.there.before it.exchange it.it.head it.it.rule → (is_wrong_head it.exchange it.it.head ≡ false → MayEnd it.there.then it.there.before it.exchange it.it.head it.it.rule)
    → LinesAreAnswered s → LinesAreAnswered t → AreCounted x.state s → AreCounted next.state t

-- ---- at each moment of a read

-- where the read is owed, and all that it brings can be counted
abbrev pub CountedAtMoments : Type 0
CountedAtMoments = (terms : List Term) (log : Log) (name : Bytes) (shelf : KeptMap) (n : ℕ) (begins : Both) (from : State) (all : Bytes) → Obeys terms from log → from.owed ≡ ReadOf n → HasRoomToCount from n all → AreCounted begins.state from
    → (pieces : ℕ) (x : Both) (s : State) (bytes : Bytes) → IsMoment pieces name shelf n begins from all x s bytes → AreCounted x.state s
