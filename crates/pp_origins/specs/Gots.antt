-- What one read of a connection to an origin brings, one step of its pipe behind the other, in the order of its line (RFC 2616, sections
-- 4.4, 6, 8.1 and 10.1).
use Rattle.std.specs.Prelude.{◌≡◌, ◌≤◌, ◌&&◌, ℕ, zero, suc, Bool, true, false, if◌then◌else◌, nat_lt, min, IfOk, IfSome, List, [], ◌∷◌, ◌++◌, length, drop, take, slice_range, is_some, Option, Some, None, option_and_then, Ok, Err}
use Rattle.std.specs.List.{find}
use Rattle.pp_answers.specs.FinalHeads.{AnswersAsk, answer_to, roomed_by}
use Rattle.pp_cache.specs.Bounds.{IsBounded}
use Rattle.pp_desk.specs.Calls.{Found, read_log}
use Rattle.pp_desk.specs.Closings.{Sides}
use Rattle.pp_desk.specs.Replies.{EndsReplies}
use Rattle.pp_desk.specs.declared.desk.Desk.{Desk}
use Rattle.pp_due.specs.Entering.{HasRowFor}
use Rattle.pp_flow.specs.Changes.{entry_of}
use Rattle.pp_flow.specs.declared.entry.Entry.{Entry}
use Rattle.pp_framing.specs.declared.body.BodyRule.{BodyRule}
use Rattle.pp_head.specs.Response.{Response}
use Rattle.pp_links.specs.Links.{Link, has_link}
use Rattle.pp_origins.specs.Responses.{bad_response, origin_gone, read_room, response_whole}
use Rattle.pp_peers.specs.Peers.{is_number, with_peer, with_pipe}
use Rattle.pp_peers.specs.declared.peers.Peer.{Peer}
use Rattle.pp_pipe.specs.Asks.{awaited}
use Rattle.pp_pipe.specs.Feeding.{IsFed, IsUsed}
use Rattle.pp_pipe.specs.Front.{stays_open}
use Rattle.pp_pipe.specs.Line.{stepped}
use Rattle.pp_pipe.specs.Reading.{Reading, head_in}
use Rattle.pp_pipe.specs.declared.step.Step.{Step}
use Rattle.pp_pipe.specs.declared.step.Step.TheVariants.{Head, Body, End, Bad, Idle}
use Rattle.pp_state.specs.Astray.{gone_astray_where}
use Rattle.pp_state.specs.Bodies.{IsButForCells, delivered, poured_for}
use Rattle.pp_state.specs.Ends.{KeepsRest, exchange_at, parts}
use Rattle.pp_state.specs.Keys.{key_of}
use Rattle.pp_state.specs.Lines.{first_on}
use Rattle.pp_state.specs.declared.state.State.{State}
use Rattle.pp_store.specs.Kept.{KeptMap}
use Rattle.pp_world.specs.Log.{AppendsAll, Log}
use Rattle.pp_world.specs.Wire.{IsWithin}
use Rattle.pp_world.specs.declared.event.Got.TheVariants.{Bytes, End as Ended, NotYet}

-- ---- what a read changes: all that the steps of a turn change together, and the connections to origins

pub record Both : Type 0 where
  pub state : State
  pub peers : List Peer

abbrev pub both : Desk → Both
both d = record { state = d.state; peers = d.peers }

abbrev pub sides_of : Both → Sides
sides_of x = record { parts = parts x.state; peers = x.peers }

-- its sides become this, and all else stays
pub record Makes (made : Sides → Sides) (old new : Both) : Type 0 where
  pub is : sides_of new ≡ made (sides_of old)
  pub rest : KeepsRest old.state new.state

-- ---- data: they go where the first exchange of the line is bound

pub record Delivers (number : ℕ) (bytes : List ℕ) (old new : State) : Type 0 where
  pub seats : new.seats.items ≡ poured_for (exchange_at number old.flow) bytes old.seats.items
  pub rest : IsButForCells (delivered number bytes old) (record new { seats = old.seats })

abbrev pub DeliversTo : Option ℕ → List ℕ → State → State → Type 0
DeliversTo None bytes old new = new ≡ old
DeliversTo (Some number) bytes old new = Delivers number bytes old new

abbrev pub DataCame : ℕ → List ℕ → State → State → Type 0
DataCame k [] old new = new ≡ old
DataCame k (b ∷ bytes) old new = DeliversTo (first_on k (parts old)) (b ∷ bytes) old new

-- and behind them its end, or what is no response
pub record DataCameThen (made : Sides → Sides) (k : ℕ) (came : List ℕ) (old new : Both) : Type 0 where
  pub between : State
  pub delivers : DataCame k came old.state between
  pub makes : Makes made (record old { state = between }) new

-- ---- a final head: it belongs to the first exchange of the line, and is read beside what is kept of its key

-- that which the pipe of the connection read
abbrev pub head_on : ℕ → List Peer → Option Response
head_on k peers = option_and_then (λ peer. head_in peer.pipe.reading) (find (is_number k) peers)

-- where it answers an ask of its kind, whether the connection stays open behind it
abbrev pub stays_by : Response → Option (Entry × BodyRule) → Option Bool
stays_by head None = None
stays_by head (Some a) = Some (stays_open head)

pub record IsTakenBy (answer : Option (Entry × BodyRule)) (number : ℕ) (head : Response) (stays : Option Bool) (old new : State) : Type 0 where
  pub is : AnswersAsk number head answer old (parts new)
  pub rest : KeepsRest (roomed_by head answer old) new
  pub stays_is : stays ≡ stays_by head answer

abbrev pub IsTaken : Option Response → ℕ → Option Bool → State → State → Type 0
IsTaken None number stays old new = (stays ≡ None) × (new ≡ old)
IsTaken (Some head) number stays old new = IsTakenBy (answer_to head (entry_of number old.flow)) number head stays old new

abbrev pub staying : ℕ → Bool → Option Peer → List Peer → List Peer
staying k stays None peers = peers
staying k stays (Some peer) peers = with_peer k (record peer { stays = stays }) peers

-- what is not taken is no response
abbrev pub GoesOnBehind : Option Bool → ℕ → Both → Both → Type 0
GoesOnBehind None k old new = Makes (bad_response k) old new
GoesOnBehind (Some stays) k old new = new ≡ record old { peers = staying k stays (find (is_number k) old.peers) old.peers }

pub record Answers (k number : ℕ) (old new : Both) : Type 0 where
  pub stays : Option Bool
  pub between : State
  pub taken : IsTaken (head_on k old.peers) number stays old.state between
  pub goes_on : GoesOnBehind stays k (record old { state = between }) new

pub record AnswersBeside (shelf : KeptMap) (k number : ℕ) (old new : Both) : Type 0 where
  pub beside : State
  pub row : HasRowFor shelf (key_of number old.state.flow) old.state beside
  -- as each cache is
  pub bounded : IsBounded beside.cache
  pub answers : Answers k number (record old { state = beside }) new

abbrev pub HeadCameFor : Option ℕ → KeptMap → ℕ → Both → Both → Type 0
HeadCameFor None shelf k old new = Makes (bad_response k) old new
HeadCameFor (Some number) shelf k old new = AnswersBeside shelf k number old new

abbrev pub HeadCame : KeptMap → ℕ → Both → Both → Type 0
HeadCame shelf k old new = HeadCameFor (first_on k (parts old.state)) shelf k old new

-- ---- its pipe is fed, and tells one step

-- the connection, where it is there, and its cause to be closed has not come
abbrev pub going_on : Option Peer → Option Peer
going_on None = None
going_on (Some peer) = if peer.is_closing then None else Some peer

-- how many bytes are used, and for which step
pub record IsFedTo (k : ℕ) (peer : Peer) (bytes : List ℕ) (told : ℕ × Step) (old new : List Peer) : Type 0 where
  pub left : Reading
  pub within : told.0 ≤ length bytes
  pub uses : IsUsed told.1 (length bytes) told.0
  pub fed : IsFed (awaited peer.pipe.asks) peer.pipe.reading bytes told.0 told.1 left
  pub leaves : new ≡ with_pipe k (stepped told.1 left peer.pipe) old

abbrev pub IsFedOn : Option Peer → ℕ → List ℕ → Option (ℕ × Step) → List Peer → List Peer → Type 0
IsFedOn None k bytes None old new = new ≡ old
IsFedOn None k bytes (Some told) old new = ⊥
IsFedOn (Some peer) k bytes None old new = ⊥
IsFedOn (Some peer) k bytes (Some told) old new = IsFedTo k peer bytes told old new

-- ---- one read: of its bytes these are left, and these data came that were not delivered yet

pub record Remains : Type 0 where
  pub bytes : List ℕ
  pub came : List ℕ

abbrev pub remaining : List ℕ → List ℕ → Remains
remaining bytes came = record { bytes = bytes; came = came }

-- what a step does
abbrev pub TakesStep : Step → KeptMap → ℕ → List ℕ → Both → Both → Type 0
TakesStep Head shelf k came old new = HeadCame shelf k old new
TakesStep (Body from to) shelf k came old new = new ≡ old
TakesStep End shelf k came old new = DataCameThen (response_whole k) k came old new
TakesStep Bad shelf k came old new = DataCameThen (bad_response k) k came old new
TakesStep Idle shelf k came old new = DataCame k came old.state new.state × (new.peers ≡ old.peers)

-- what is left behind it. None where the read is over
abbrev pub left_behind : ℕ → Step → Remains → Option Remains
left_behind used Head here = Some (remaining (drop used here.bytes) here.came)
left_behind used (Body from to) here = Some (remaining (drop used here.bytes) (here.came ++ slice_range here.bytes from to))
left_behind used End here = Some (remaining (drop used here.bytes) [])
left_behind used Bad here = None
left_behind used Idle here = None

pub record IsStep (shelf : KeptMap) (k : ℕ) (peer : Peer) (here : Remains) (old new : Both) (behind : Option Remains) : Type 0 where
  pub told : ℕ × Step
  pub fed : List Peer
  pub feeds : IsFedTo k peer here.bytes told old.peers fed
  pub takes : TakesStep told.1 shelf k here.came (record old { peers = fed }) new
  pub leaves : behind ≡ left_behind told.0 told.1 here
  -- as each cache is
  pub bounded : IsBounded new.state.cache

abbrev pub IsStepOn : Option Peer → KeptMap → ℕ → Remains → Both → Both → Option Remains → Type 0
IsStepOn None shelf k here old new behind = (new ≡ old) × (behind ≡ None)
IsStepOn (Some peer) shelf k here old new behind = IsStep shelf k peer here old new behind

-- so many at most, one behind the other: where one more was to come, this life goes astray
unfoldable pub GotFrom : ℕ → KeptMap → ℕ → Option Remains → Both → Both → Type 0
GotFrom zero shelf k here old new = new ≡ record old { state = gone_astray_where (is_some here) old.state }
GotFrom (suc more) shelf k None old new = new ≡ old
GotFrom (suc more) shelf k (Some here) old new =
    (next : Both) × (behind : Option Remains) × IsStepOn (going_on (find (is_number k) old.peers)) shelf k here old next behind × GotFrom more shelf k behind next new

-- more than one read can tell: a step has a byte at least, but for the end of a response, of which there is one behind a head
abbrev pub HasGot : KeptMap → ℕ → List ℕ → Both → Both → Type 0
HasGot shelf k bytes old new = GotFrom 65600 shelf k (Some (remaining bytes [])) old new

-- ---- a read, and what becomes of it

-- its sides become this, and replies that are over end
pub record EndsBehind (made : Sides → Sides) (old new : Both) : Type 0 where
  pub is : EndsReplies old.state.awake.items (made (sides_of old)) (sides_of new)
  pub rest : KeepsRest old.state new.state

-- what came stands at the front of what was read into; the end of the connection may end a body
abbrev pub IsReceived : Found → KeptMap → ℕ → List ℕ → Both → Both → Type 0
IsReceived None shelf k front old new = new ≡ old
IsReceived (Some (Ok (Bytes n))) shelf k front old new = (next : Both) × HasGot shelf k (take n front) old next × EndsBehind (λ x. x) next new
IsReceived (Some (Ok Ended)) shelf k front old new = EndsBehind (origin_gone true k) old new
IsReceived (Some (Ok NotYet)) shelf k front old new = new ≡ old
IsReceived (Some (Err fault)) shelf k front old new = EndsBehind (origin_gone false k) old new

-- of this connection, with so much room to read into
pub record Receives (most : ℕ) (shelf : KeptMap) (k : ℕ) (links : List Link) (x y : Both) (old new : Option Log) : Type 0 where
  pub found : Found
  pub front : List ℕ
  pub told : AppendsAll old new (read_log k found front)
  pub called : is_some found ≡ (has_link k links && nat_lt 0 (length front))
  pub room : length front ≡ min (read_room k (parts x.state)) most
  pub within : IfSome found (λ r. IfOk r (IsWithin (length front)))
  pub begins : Both
  pub same : Makes (λ z. z) x begins
  pub is : IsReceived found shelf k front begins y
