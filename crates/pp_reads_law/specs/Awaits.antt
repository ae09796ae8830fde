-- Where a head is awaited: what one step of the pipe brings is what the law makes of the text behind interim heads (RFC 2616, sections 6, 8.1.2.2
-- and 10.1).
--
-- Three things may come of it: no head is whole, what came is none, or a final head is there, which Heads joins. The law drops interim heads
-- piece by piece before it comes to that text (GotsAreUnread of pp_states_law, where no head is whole behind them).
use Rattle.std.specs.Prelude.{◌≡◌, ◌⊎◌, ℕ, true, false, [], ◌∷◌, ◌++◌, drop, Option, Some, None}
use Rattle.std.specs.List.{find}
use Rattle.pp_turns_law.specs.Sides.{ShowsSides}
use Rattle.pp_framing.specs.declared.body.BodyRule.{BodyRule}
use Rattle.pp_head.specs.Read.{More, Whole}
use Rattle.pp_head.specs.Response.{Response, response_at}
use Rattle.pp_law.specs.Connections.{close_conn, front_of_line, on_conn}
use Rattle.pp_law.specs.Lists.{Bytes}
use Rattle.pp_law.specs.Responses.{Piece, bad_head, head_came, head_piece, head_piece_of, is_early, with_unread}
use Rattle.pp_law.specs.State.{State, Conn, Exchange}
use Rattle.pp_origins.specs.Gots.{Both, HeadCame, IsStepOn, Makes, Remains, going_on, remaining, sides_of}
use Rattle.pp_origins.specs.Responses.{bad_response}
use Rattle.pp_peers.specs.Peers.{is_number}
use Rattle.pp_peers.specs.declared.peers.Peer.{Peer}
use Rattle.pp_peers_law.specs.Comes.{behind_interim}
use Rattle.pp_pipe.specs.Front.{is_interim}
use Rattle.pp_pipe.specs.Line.{Line}
use Rattle.pp_pipe.specs.Reading.{Reading}
use Rattle.pp_state.specs.Ends.{KeepsRest}
use Rattle.pp_store.specs.Kept.{KeptMap}
use Rattle.pp_reads_law.specs.Bads.{IsOpen, piped}
use Rattle.pp_reads_law.specs.Heads.{HeadIsDue, HeadIsRead, with_head}

-- the text that the law reads a head of
abbrev pub text_of : Conn → Bytes → Bytes
text_of k bytes = behind_interim (k.unread ++ bytes)

-- no head is whole: the text stands unread
pub record WaitsForMore (number : ℕ → ℕ) (name : Bytes) (x next : Both) (s : State) (k : Conn) (text : Bytes) (behind : Option Remains) : Type 0 where
  pub more : response_at text ≡ More
  pub leaves : behind ≡ None
  pub same : next.state ≡ x.state
  pub shows : ShowsSides number name (sides_of next) (on_conn k.number (with_unread text) s)
  pub law : (let p : Piece = head_piece_of k text s in p) ≡ record { state = on_conn k.number (with_unread text) s; rest = [] }

-- it is none, or one that is not read on, and the connection is closed
pub record HeadFails (number : ℕ → ℕ) (name : Bytes) (x next : Both) (s : State) (n : ℕ) (k : Conn) (e : Exchange) (text : Bytes) (behind : Option Remains) : Type 0 where
  pub some : response_at text ≡ More → ⊥
  pub leaves : behind ≡ None
  pub line : Line
  pub is : sides_of next ≡ bad_response n (piped n line (sides_of x))
  pub rest : KeepsRest x.state next.state
  pub shows : ShowsSides number name (sides_of next) (bad_head k s)
  pub law : (j : Conn) (t : State) → front_of_line t j ≡ Some e → (head_piece_of j text t).state ≡ bad_head j t

-- a final head is there, and these bytes follow
pub record HeadIsThere (shelf : KeptMap) (x next : Both) (s : State) (n : ℕ) (k : Conn) (e : Exchange) (peer : Peer) (text : Bytes) (behind : Option Remains) : Type 0 where
  pub head : Response
  pub rule : BodyRule
  pub left : Reading
  pub whole : response_at text ≡ Whole head
  pub final : is_interim head.status ≡ false
  pub read : HeadIsRead e head rule left
  pub came : HeadCame shelf n (with_head n peer left x) next
  pub leaves : behind ≡ Some (remaining (drop head.length text) [])
  pub law : (let p : Piece = head_piece_of k text s in p) ≡ record { state = head_came k head s; rest = drop head.length text }

abbrev pub HeadStepsAsTheLaws : Type 0
HeadStepsAsTheLaws = (number : ℕ → ℕ) (name : Bytes) (shelf : KeptMap) (x next : Both) (s : State) (n : ℕ) (k : Conn) (e : Exchange) (peer : Peer) (b : ℕ) (bytes : Bytes) (behind : Option Remains) → ShowsSides number name (sides_of x) s → HeadIsDue x s n k e peer → k.answer ≡ None
    → IsStepOn (going_on (find (is_number n) x.peers)) shelf n (remaining (b ∷ bytes) []) x next behind
    → WaitsForMore number name x next s k (text_of k (b ∷ bytes)) behind ⊎ (HeadFails number name x next s n k e (text_of k (b ∷ bytes)) behind ⊎ HeadIsThere shelf x next s n k e peer (text_of k (b ∷ bytes)) behind)

-- ---- before any of its line was asked whole

-- all of what came is refused
pub record ComesEarly (number : ℕ → ℕ) (name : Bytes) (x next : Both) (s : State) (n : ℕ) (k : Conn) (bytes : Bytes) (behind : Option Remains) : Type 0 where
  pub leaves : behind ≡ None
  pub line : Line
  pub makes : Makes (λ z. bad_response n (piped n line z)) x next
  pub shows : ShowsSides number name (sides_of next) (close_conn true k s)
  pub law : (let p : Piece = head_piece k bytes s in p) ≡ record { state = close_conn true k s; rest = [] }

abbrev pub EarlyStepsAsTheLaws : Type 0
EarlyStepsAsTheLaws = (number : ℕ → ℕ) (name : Bytes) (shelf : KeptMap) (x next : Both) (s : State) (n : ℕ) (k : Conn) (peer : Peer) (b : ℕ) (bytes : Bytes) (behind : Option Remains) → ShowsSides number name (sides_of x) s → IsOpen s n k → find (is_number n) x.peers ≡ Some peer → k.answer ≡ None
    → is_early s k ≡ true → IsStepOn (going_on (find (is_number n) x.peers)) shelf n (remaining (b ∷ bytes) []) x next behind → ComesEarly number name x next s n k (b ∷ bytes) behind

-- ---- where nothing is left, nothing comes of it

abbrev pub EmptyStepsAreNone : Type 0
EmptyStepsAreNone = (number : ℕ → ℕ) (name : Bytes) (shelf : KeptMap) (x next : Both) (s : State) (n : ℕ) (k : Conn) (peer : Peer) (behind : Option Remains) → ShowsSides number name (sides_of x) s → IsOpen s n k → find (is_number n) x.peers ≡ Some peer → k.answer ≡ None
    → IsStepOn (going_on (find (is_number n) x.peers)) shelf n (remaining [] []) x next behind → (behind ≡ None) × (next ≡ x)
