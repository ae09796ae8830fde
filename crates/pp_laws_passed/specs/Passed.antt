-- A reply that is passed comes from one response, that to the exchange of its request, and is all that came of it (RFC 2616, sections 6, 8.1.2.2 and 13.5).
use Rattle.std.specs.Prelude.{◌≡◌, ℕ, Bool, true, false, ◌&&◌, List, [], ◌∷◌, ◌++◌, length, drop, Some}
use Rattle.std.specs.List.{concat}
use Rattle.pp_framing.specs.Rules.{body_of}
use Rattle.pp_pass.specs.Pipe.{Pipe, spelled, spelled_end}
use Rattle.pp_reply.specs.Texts.{passed_head}
use Rattle.pp_law.specs.Lists.{Bytes}
use Rattle.pp_law.specs.Responses.{payload_of}
use Rattle.pp_world.specs.Streams.{said}
use Rattle.pp_law.specs.Connections.{is_for}
use Rattle.pp_law.specs.Lawful.{Lawful}
use Rattle.pp_law.specs.Stages.{is_headed, is_passing, passed_of}
use Rattle.pp_law.specs.State.{State, Term, Answer, Client, Stage, Undecided, Waiting, Passing, Answering, Conn, Exchange, Passed}
use Rattle.pp_world.specs.Log.{Log}
use Rattle.pp_laws.specs.Runs.{IsIn, state_after}

-- in the midst of a reply that is passed
abbrev pub is_in_passed : Stage → Bool
is_in_passed Undecided = false
is_in_passed Waiting = false
is_in_passed Passing = false
is_in_passed (Answering r) = r.has_begun && is_passing r.decision

-- ---- what is said of its body

-- the pieces of a body one behind the other, as they are spelled: as they are, or as chunks (section 3.6.1)
abbrev pub all_spelled : Bool → List Bytes → Bytes
all_spelled is_coded [] = []
all_spelled is_coded (piece ∷ pieces) = spelled is_coded piece ++ all_spelled is_coded pieces

-- and behind the data the end of the body, once it came: the last chunk where it goes in chunks
abbrev pub last_of : Pipe → Bytes
last_of pipe = elim pipe.is_finished [ true ↦ spelled_end pipe.is_coded | false ↦ [] ]

-- of the head of its reply
abbrev pub head_left : Stage → Bytes
head_left Undecided = []
head_left Waiting = []
head_left Passing = []
head_left (Answering r) = r.head_left

-- before the body of its reply
abbrev pub to_say : Client → Bytes
to_say c = c.interim_left ++ head_left c.stage

-- what was said, and behind it what is left to say and stands in the pipe: something from before, then the head of the response
-- that is passed, and this text; and nothing else
pub record IsShown (said left : Bytes) (p : Passed) (text : Bytes) : Type 0 where
  pub earlier : Bytes
  pub head : Bytes
  pub minor : ℕ
  pub is_head : Bool
  pub name : Bytes
  pub keeps : Bool
  pub spelled : head ≡ passed_head p.head p.rule minor is_head name keeps
  pub stream : said ++ (left ++ p.pipe.bytes) ≡ earlier ++ (head ++ text)

-- the text is these data, in order and without a gap, spelled piece by piece. None of them is empty: such a chunk would be the last
pub record IsRelayed (said left : Bytes) (p : Passed) (content : Bytes) : Type 0 where
  pub pieces : List Bytes
  pub all : concat pieces ≡ content
  pub full : (piece : Bytes) → IsIn piece pieces → piece ≡ [] → ⊥
  pub shown : IsShown said left p (all_spelled p.pipe.is_coded pieces)

-- ---- the one response

-- the exchange is the first of the line, and the response that comes to it is the one that is passed
pub record IsFedBy (k : Conn) (e : Exchange) (p : Passed) : Type 0 where
  pub behind : List ℕ
  pub front : k.line ≡ e.number ∷ behind
  pub answer : Answer
  pub is : k.answer ≡ Some answer
  pub head : p.head ≡ answer.head
  pub rule : p.rule ≡ answer.rule

-- a client that is in the midst of a reply that is passed: its request has one exchange at most, no other head is still to come to
-- that, and as long as it stands in the line of a connection it is answered by the response that is passed. So nothing of another
-- response is put behind the head that was said
pub record IsOneResponse (s : State) (c : Client) (p : Passed) : Type 0 where
  pub one : (e d : Exchange) → IsIn e s.exchanges → IsIn d s.exchanges → is_for e c ≡ true → is_for d c ≡ true → e.number ≡ d.number
  pub headed : (e : Exchange) → IsIn e s.exchanges → is_for e c ≡ true → is_headed e ≡ true
  pub fed : (k : Conn) (e : Exchange) → IsIn k s.conns → IsIn e s.exchanges → IsIn e.number k.line → is_for e c ≡ true → IsFedBy k e p

-- at each moment of a lawful log
abbrev pub PassedIsOneResponse : Type 0
PassedIsOneResponse = (terms : List Term) (log : Log) → Lawful terms log
    → (c : Client) (p : Passed) → IsIn c (state_after terms log).clients → is_in_passed c.stage ≡ true → passed_of c ≡ Some p → IsOneResponse (state_after terms log) c p

-- at each moment of a lawful log: while the response comes, all of its data that came were said behind its head, in order and without
-- a gap, or are the next to be said; and nothing else was
abbrev pub PassedIsAllThatCame : Type 0
PassedIsAllThatCame = (terms : List Term) (log : Log) → Lawful terms log → (c : Client) (p : Passed) → IsIn c (state_after terms log).clients → is_in_passed c.stage ≡ true → passed_of c ≡ Some p
    → (k : Conn) (e : Exchange) (a : Answer) → IsIn k (state_after terms log).conns → IsIn e (state_after terms log).exchanges → IsIn e.number k.line → is_for e c ≡ true → k.answer ≡ Some a → IsRelayed (said c.number log) (to_say c) p (payload_of a)

-- ---- piece by piece

-- what one more piece of its body brings: the law puts just this into the pipe (`body_piece_of`)
abbrev pub delivered : Answer → Bytes → Bytes
delivered a bytes = drop (length (payload_of a)) (body_of a.rule (a.raw ++ bytes)).payload

-- so the data of a response are what was delivered, in order, without a gap, and no byte twice, wherever its bytes are cut
abbrev pub PiecesJoin : Type 0
PiecesJoin = (a : Answer) (bytes : Bytes) → payload_of (record a { raw = a.raw ++ bytes }) ≡ payload_of a ++ delivered a bytes
