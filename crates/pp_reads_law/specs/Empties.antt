-- The end of an empty body (RFC 2616, section 4.4): the law ends the response with its head, by the exchange as it was before; the program with the
-- next step of its pipe, by the exchange as it is then. Both are the same, as a head notes no more of its exchange than where its body goes; but the
-- ask of a follower may lose its client, to whom nothing is passed.
--
-- Where the premises come from: `once` and `pipelines` are of IsSoundTurn (`once`, `pipelines`), and that nothing is passed before a head is of
-- pp_laws_coming (`told`). That the head leaves what HeadIsTaken has is shown by HeadsComeAsTheLaws of Heads.
use Rattle.std.specs.Prelude.{◌≡◌, ◌⊎◌, ◌≤◌, ℕ, true, false, [], length, count_by, is_some, Option, Some, None}
use Rattle.std.specs.List.{find}
use Rattle.pp_turns_law.specs.Sides.{MayClose, ShowsSides}
use Rattle.pp_framing.specs.Body.{Done}
use Rattle.pp_framing.specs.Rules.{body_of}
use Rattle.pp_framing.specs.declared.body.BodyRule.{BodyRule}
use Rattle.pp_head.specs.Response.{Response}
use Rattle.pp_law.specs.Closing.{is_of}
use Rattle.pp_law.specs.Connections.{exchange, is_for}
use Rattle.pp_law.specs.Lists.{Bytes}
use Rattle.pp_law.specs.Responses.{by_aim, finish, head_came}
use Rattle.pp_law.specs.Stages.{filled_of, passed_of}
use Rattle.pp_law.specs.State.{State, Answer, Body, Client, Conn, Exchange}
use Rattle.pp_laws.specs.Runs.{IsIn}
use Rattle.pp_origins.specs.Gots.{Both, IsStepOn, Remains, going_on, remaining, sides_of}
use Rattle.pp_peers.specs.Peers.{is_number}
use Rattle.pp_peers.specs.declared.peers.Peer.{Peer}
use Rattle.pp_reads_law.specs.Heads.{HeadIsDue, HeadIsTaken, begun_by}
use Rattle.pp_states_law.specs.Lines.{AllGo}
use Rattle.pp_store.specs.Kept.{KeptMap}

-- ---- of the law alone

abbrev pub going_to : Option ℕ → Body → Exchange → Exchange
going_to asker body e = record e { asker = asker; body = body }

-- whose request did not leave it
abbrev pub NoneIsPassed : Exchange → State → Type 0
NoneIsPassed e s = (c : Client) → IsIn c s.clients → is_for e c ≡ true → passed_of c ≡ None

-- the ask of a follower, where its attempt was counted and the row was cleared for it
pub record HasLost (e : Exchange) (asker : Option ℕ) (t : State) : Type 0 where
  pub aim : is_some (filled_of e) ≡ true
  pub none : asker ≡ None
  pub passed : NoneIsPassed e t

abbrev pub AskerIs : Exchange → Option ℕ → State → Type 0
AskerIs e asker t = (asker ≡ e.asker) ⊎ HasLost e asker t

-- behind a head the exchange goes on, and it is noted where its body goes; connections stay
pub record HasNotedBody (e : Exchange) (s t : State) : Type 0 where
  pub body : Body
  pub asker : Option ℕ
  pub known : exchange t e.number ≡ Some (going_to asker body e)
  pub client : AskerIs e asker t
  pub conns : t.conns ≡ s.conns
  pub once : (n : ℕ) → count_by (is_of n) s.exchanges ≤ 1 → count_by (is_of n) t.exchanges ≤ 1

-- whatever was asked
abbrev pub HeadsNoteTheBody : Type 0
HeadsNoteTheBody = (s : State) (e : Exchange) (head : Response) (rule : BodyRule) → (is_some (filled_of e) ≡ true → NoneIsPassed e s) → exchange s e.number ≡ Some e → HasNotedBody e s (by_aim e head rule s)

-- wherever its body goes, it ends alike
abbrev pub ExchangesEndAlike : Type 0
ExchangesEndAlike = (k : Conn) (e : Exchange) (asker : Option ℕ) (body : Body) (a : Answer) (s : State) → AskerIs e asker s → finish k (going_to asker body e) a s ≡ finish k e a s

-- and of whatever kind it is, the clients of exchanges go on, and of what is passed to them more is to come, where it was so before it
abbrev pub HeadsLetAllGo : Type 0
HeadsLetAllGo = (k : Conn) (e : Exchange) (head : Response) (rule : BodyRule) (s : State) → AllGo s → AllGo (begun_by k e head rule s)

-- ---- what the program makes of it

-- a request has one exchange at most, and nothing is passed to a follower before the head
pub record MayEnd (s : State) (k : Conn) (e : Exchange) (head : Response) (rule : BodyRule) : Type 0 where
  pub passed : is_some (filled_of e) ≡ true → NoneIsPassed e s
  pub once : (n : ℕ) → count_by (is_of n) s.exchanges ≤ 1
  pub pipelines : k.may_pipeline ≡ false → length k.line ≤ 1

-- the bytes that follow the head are left, and all is as the law has it behind the head
pub record EndsAtOnce (number : ℕ → ℕ) (next : Both) (s : State) (k : Conn) (head : Response) (rest : Bytes) (behind : Option Remains) : Type 0 where
  pub leaves : behind ≡ Some (remaining rest [])
  pub shows : ShowsSides number s.settings.name (sides_of next) (head_came k head s)

-- by the step behind that which told the head
abbrev pub EmptyBodiesEndAsTheLaws : Type 0
EmptyBodiesEndAsTheLaws = (before : ℕ → ℕ) (shelf : KeptMap) (x y next : Both) (s : State) (n : ℕ) (k : Conn) (e : Exchange) (peer : Peer) (head : Response) (rule : BodyRule) (over rest : Bytes) (behind : Option Remains) → MayClose s → HeadIsDue x s n k e peer → (it : HeadIsTaken before x y s n k e head rule)
    → MayEnd s k e head rule → (body_of rule []).outcome ≡ Done over → IsStepOn (going_on (find (is_number n) y.peers)) shelf n (remaining rest []) y next behind → EndsAtOnce it.number next s k head rest behind
