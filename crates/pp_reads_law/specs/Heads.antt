-- The final head of a response came: it answers the first exchange of its line as in the law, beside the row that is kept of its key, or is
-- refused as there (RFC 2616, sections 6, 8.1 and 10.1).
--
-- A body that is empty the law ends with its head, the program with the next step of its pipe: what stands between these two is shown. To a
-- Fetch or Validate, where the response is passed, and to the ask of a follower.
--
-- Where the premises come from: the head and its rule are what the pipe read (HeadsAreTheLaws of pp_peers_law). IsSoundTurn has that the asker
-- of an exchange goes on, at that very request (`askers`); that nothing is passed before a head, and that who is passed to alone has its client, `pp_comes_law`
-- has (Moments), and that memory was refused for no row is of a life that did not go astray. A key is that of a target. That what clients are answered from is there is
-- Named of `pp_comes_law`, and that it is of the key that their request names is of sound states (`callers.follows` of Sound of `pp_laws`).
use Rattle.std.specs.Prelude.{◌≡◌, ◌≤◌, ℕ, Bool, true, false, ◌==◌, is_some, length, slice_get, List, [], Option, Some, None, Ok, ⊤}
use Rattle.std.specs.List.{find}
use Rattle.pp_answers_law.specs.Answers.{Asks, Stands}
use Rattle.pp_answers_law.specs.Takes.{IsFromKey, MayPass}
use Rattle.pp_turns_law.specs.Sides.{MayClose, ShowsSides}
use Rattle.pp_flow_law.specs.Tables.{none_leaves}
use Rattle.pp_framing.specs.Framing.{rule_of}
use Rattle.pp_framing.specs.declared.body.BodyRule.{BodyRule}
use Rattle.pp_head.specs.Response.{Response}
use Rattle.pp_law.specs.Connections.{on_conn}
use Rattle.pp_law.specs.OwnHeads.{is_wrong_head, key_of as law_key}
use Rattle.pp_law.specs.Responses.{answer_with, answered_by, asks_head, bring_row, by_aim, end_if_empty, head_came}
use Rattle.pp_law.specs.Stages.{filled_of, is_headed}
use Rattle.pp_law.specs.State.{State, Through, Conn, Exchange}
use Rattle.pp_objects.specs.Instances.{Instance, followers_of, in_slot, is_there}
use Rattle.pp_objects.specs.declared.id.ObjectId.{ObjectId}
use Rattle.pp_origins.specs.Gots.{Both, HeadCame, HeadCameFor, sides_of}
use Rattle.pp_peers.specs.Peers.{is_number, with_pipe}
use Rattle.pp_peers.specs.declared.peers.Peer.{Peer}
use Rattle.pp_peers_law.specs.Peers.{ShowsReading}
use Rattle.pp_pipe.specs.Front.{stays_open}
use Rattle.pp_pipe.specs.Reading.{Reading}
use Rattle.pp_seats.specs.Follows.{answer_in}
use Rattle.pp_seats.specs.declared.seat.Answer.{Answer}
use Rattle.pp_seats.specs.declared.seat.Seat.{Seat}
use Rattle.pp_state.specs.Ends.{Parts, parts}
use Rattle.pp_state.specs.Keys.{key_of}
use Rattle.pp_state.specs.Lines.{first_on}
use Rattle.pp_state.specs.declared.state.State.{State as Turn}
use Rattle.pp_states_law.specs.Charges.{IsFor}
use Rattle.pp_states_law.specs.Steps.{ShowsSteps}
use Rattle.pp_store.specs.Kept.{KeptMap}
use Rattle.pp_reads_law.specs.Amid.{ShowsRead}
use Rattle.pp_reads_law.specs.Bads.{IsDue}
use Rattle.pp_reads_law.specs.Rows.{IsGivenFor, MayMakeRoom}
use Rattle.pp_reads_law.specs.Told.{StaysTold}

-- what the program has shows the law's state, with its connections, which may be closed
pub record ShowsBoth (number : ℕ → ℕ) (shelf : KeptMap) (x : Both) (s : State) : Type 0 where
  pub read : ShowsRead number none_leaves x.peers shelf x.state s
  pub may : MayClose s

-- a head is due on this connection, of the response to this exchange
pub record HeadIsDue (x : Both) (s : State) (n : ℕ) (k : Conn) (e : Exchange) (peer : Peer) : Type 0 where
  pub due : IsDue s n k e
  pub none : is_headed e ≡ false
  pub linked : find (is_number n) x.peers ≡ Some peer

-- its pipe read one, and this is left there
pub record HeadIsRead (e : Exchange) (head : Response) (rule : BodyRule) (left : Reading) : Type 0 where
  pub final : (head.status == 101) ≡ false
  pub rule_is : rule_of (asks_head e) head.status head.fields ≡ Ok rule
  pub shows : ShowsReading left [] (Some (answer_with e head rule))

abbrev pub with_head : ℕ → Peer → Reading → Both → Both
with_head n peer left x = record x { peers = with_pipe n (record peer.pipe { reading = left }) x.peers }

-- an instance is there, and somebody follows it
pub record IsFollowedThere (id : ObjectId) (is : List Instance) : Type 0 where
  pub there : is_there id is ≡ true
  pub some : (followers_of (in_slot id.slot is) == 0) ≡ false

-- what each client that goes on is answered from
abbrev pub FollowedAreThere : Parts → Type 0
FollowedAreThere p = (i : ℕ) (seat : Seat) (a : Answer) (id : ObjectId) → slice_get p.seats i ≡ Some seat → seat.is_closing ≡ false → answer_in seat.stage ≡ Some a → a.source ≡ Some id → IsFollowedThere id p.cache.instances

-- and what the follower of this ask is answered from is of its key
pub record MayFillBeside (p : Turn) (s : State) (e : Exchange) : Type 0 where
  pub followed : FollowedAreThere (parts p)
  pub key : IsFor s e (IsFromKey s e)

-- who asked stands
pub record MayAnswer (p : Turn) (s : State) (e : Exchange) (head : Response) : Type 0 where
  pub room : MayMakeRoom s
  pub stands : IsFor s e Stands
  pub asks : IsFor s e (Asks e)
  pub key : length (law_key e) ≤ 8192
  pub passes : e.aim ≡ Through → MayPass s e head
  pub fills : is_some (filled_of e) ≡ true → MayFillBeside p s e

-- memory was not refused for the row that is kept of its key
pub record IsGivenBeside (shelf : KeptMap) (n m : ℕ) (old new : Both) (it : HeadCameFor (Some m) shelf n old new) : Type 0 where
  pub row : IsGivenFor shelf (key_of m old.state.flow) old.state it.beside it.row

abbrev pub IsGivenHead : (first : Option ℕ) (shelf : KeptMap) (n : ℕ) (old new : Both) → HeadCameFor first shelf n old new → Type 0
IsGivenHead None shelf n old new it = ⊤
IsGivenHead (Some m) shelf n old new it = IsGivenBeside shelf n m old new it

-- ---- what it leaves

-- the law, but for the end of an empty body
abbrev pub begun_by : Conn → Exchange → Response → BodyRule → State → State
begun_by k e head rule s = by_aim e head rule (on_conn k.number (answered_by (answer_with e head rule)) (bring_row e head s))

-- it is taken: whether the connection stays open behind the response is what its head says
pub record HeadIsTaken (before : ℕ → ℕ) (x y : Both) (s : State) (n : ℕ) (k : Conn) (e : Exchange) (head : Response) (rule : BodyRule) : Type 0 where
  pub number : ℕ → ℕ
  pub shows : ShowsSteps number s.settings.name none_leaves y.peers (parts y.state) (begun_by k e head rule s)
  -- what exchanges of clients joined: also the ask of a follower, where the row that it made is cleared at once
  pub told : StaysTold before (parts x.state) s number (parts y.state) (begun_by k e head rule s)
  pub peer : Peer
  pub linked : find (is_number n) y.peers ≡ Some peer
  pub stays : peer.stays ≡ stays_open head
  pub law : head_came k head s ≡ end_if_empty k e (answer_with e head rule) (begun_by k e head rule s)

-- it answers no ask of its kind, and the connection is closed
pub record HeadIsRefused (before : ℕ → ℕ) (x y : Both) (s : State) (k : Conn) (head : Response) : Type 0 where
  pub number : ℕ → ℕ
  pub shows : ShowsSides number s.settings.name (sides_of y) (head_came k head s)
  pub told : StaysTold before (parts x.state) s number (parts y.state) (head_came k head s)

abbrev pub HeadLeads : (ℕ → ℕ) → Bool → Both → Both → State → ℕ → Conn → Exchange → Response → BodyRule → Type 0
HeadLeads before true x y s n k e head rule = HeadIsRefused before x y s k head
HeadLeads before false x y s n k e head rule = HeadIsTaken before x y s n k e head rule

-- where this life did not go astray in it
abbrev pub HeadsComeAsTheLaws : Type 0
HeadsComeAsTheLaws = (number : ℕ → ℕ) (shelf : KeptMap) (x y : Both) (s : State) (n : ℕ) (k : Conn) (e : Exchange) (peer : Peer) (head : Response) (rule : BodyRule) (left : Reading) → ShowsBoth number shelf x s → HeadIsDue x s n k e peer → HeadIsRead e head rule left → MayAnswer x.state s e head
    → (it : HeadCame shelf n (with_head n peer left x) y) → IsGivenHead (first_on n (parts x.state)) shelf n (with_head n peer left x) y it → y.state.refused ≡ [] → y.state.is_astray ≡ false → HeadLeads number (is_wrong_head e head) x y s n k e head rule
