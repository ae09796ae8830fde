-- What comes on a connection (RFC 2616, sections 4.4, 6, 8.1.2.2 and 10.1).
use Rattle.std.specs.Prelude.{◌≡◌, ℕ, zero, suc, ◌<◌, ◌≤◌, Bool, true, false, ◌==◌, ◌&&◌, [], ◌∷◌, ◌++◌, length, drop, slice_range, Option, Some, None, option_map, Result, Ok, Err}
use Rattle.pp_framing.specs.Body.{behind, Bad as NoBody, Done, Going}
use Rattle.pp_framing.specs.Framing.{rule_of}
use Rattle.pp_framing.specs.Places.{first_place, is_unbounded, read_from}
use Rattle.pp_framing.specs.Rules.{body_of}
use Rattle.pp_framing.specs.declared.body.BodyRule.{BodyRule}
use Rattle.pp_framing.specs.declared.body.Ending.{Ending}
use Rattle.pp_framing.specs.declared.body.Ending.TheVariants.{Whole as IsWhole, Short}
use Rattle.pp_framing.specs.declared.framing.ResponseFault.{ResponseFault}
use Rattle.pp_framing.specs.declared.place.Place.{Place}
use Rattle.pp_head.specs.Read.{Read, Whole, TooLong, Bad as NoHead, More}
use Rattle.pp_head.specs.Response.{Response, response_at}
use Rattle.pp_law.specs.Connections.{front_of_line}
use Rattle.pp_law.specs.Lists.{Bytes}
use Rattle.pp_law.specs.OwnHeads.{is_wrong_head}
use Rattle.pp_law.specs.Responses.{answer_with, asks_head, is_early, is_whole_at_end, payload_of}
use Rattle.pp_law.specs.State.{State, Conn, Exchange, Answer}
use Rattle.pp_peers.specs.declared.peers.Peer.{Peer}
use Rattle.pp_peers_law.specs.Peers.{ShowsConn, ShowsReading}
use Rattle.pp_pipe.specs.Asks.{awaited}
use Rattle.pp_pipe.specs.Feeding.{IsFed, IsTold}
use Rattle.pp_pipe.specs.Front.{fate_of, is_interim}
use Rattle.pp_pipe.specs.Reading.{Reading, Before, Within, Broken, behind_it, ending_at}
use Rattle.pp_pipe.specs.declared.step.Step.{Step}
use Rattle.pp_pipe.specs.declared.step.Step.TheVariants.{Head, Body as BodyStep, End, Bad, Idle}

-- ---- whose response comes next

-- whether it is one to HEAD; None where it would be early
abbrev pub awaited_of : State → Conn → Option Bool
awaited_of s k = elim (is_early s k) [ true ↦ None | false ↦ option_map asks_head (front_of_line s k) ]

-- the pipe awaits what the law awaits
abbrev pub AwaitedIsTheLaws : Type 0
AwaitedIsTheLaws = (s : State) (p : Peer) (k : Conn) → ShowsConn s p k → k.is_closing ≡ false → awaited p.pipe.asks ≡ awaited_of s k

-- ---- heads

-- the law drops an interim head as a piece of its own: the text behind these, of which there may be so many
abbrev pub past_interim : ℕ → Bytes → Bytes
past_interim zero text = text
past_interim (suc most) text = elim (response_at text) [
  | Whole head ↦ elim (is_interim head.status) [ true ↦ past_interim most (drop head.length text) | false ↦ text ]
  | TooLong ↦ text
  | NoHead ↦ text
  | More ↦ text
]

-- each of them has a byte at least
abbrev pub behind_interim : Bytes → Bytes
behind_interim text = past_interim (length text) text

-- a final head came, and this follows it: the answer begins that the law begins
pub record IsHeadCome (e : Exchange) (head : Response) (rule : BodyRule) (rest bytes : Bytes) (used : ℕ) (step : Step) (left : Reading) : Type 0 where
  pub tells : step ≡ Head
  pub some : 0 < used
  pub follows : drop used bytes ≡ rest
  pub shows : ShowsReading left [] (Some (answer_with e head rule))

abbrev pub IsRefused : Bytes → ℕ → Step → Reading → Type 0
IsRefused bytes used step left = IsTold Bad (length bytes) Broken used step left

abbrev pub IsRuledRead : Exchange → Response → Bytes → Bytes → Result BodyRule ResponseFault → ℕ → Step → Reading → Type 0
IsRuledRead e head rest bytes (Ok rule) used step left = IsHeadCome e head rule rest bytes used step left
IsRuledRead e head rest bytes (Err fault) used step left = IsRefused bytes used step left

-- of the heads that are wrong to the law the pipe refuses 101 alone: the others are for its caller
abbrev pub IsFinalRead : Exchange → Response → Bytes → Bytes → Bool → ℕ → Step → Reading → Type 0
IsFinalRead e head rest bytes true used step left = (is_wrong_head e head ≡ true) × IsRefused bytes used step left
IsFinalRead e head rest bytes false used step left = IsRuledRead e head rest bytes (rule_of (asks_head e) head.status head.fields) used step left

-- by what stands at the front of a text, whose last bytes these are
abbrev pub IsHeadRead : Exchange → Bytes → Bytes → Read Response → ℕ → Step → Reading → Type 0
IsHeadRead e text bytes (Whole head) used step left = (is_interim head.status ≡ false) × IsFinalRead e head (drop head.length text) bytes (head.status == 101) used step left
IsHeadRead e text bytes TooLong used step left = IsRefused bytes used step left
IsHeadRead e text bytes NoHead used step left = IsRefused bytes used step left
IsHeadRead e text bytes More used step left = IsTold Idle (length bytes) (Before text) used step left

-- where no bytes came nothing is told
abbrev pub IsTextRead : Exchange → Bytes → Bytes → ℕ → Step → Reading → Type 0
IsTextRead e unread [] used step left = IsTold Idle 0 (Before unread) used step left
IsTextRead e unread (b ∷ bytes) used step left =
    IsHeadRead e (behind_interim (unread ++ b ∷ bytes)) (b ∷ bytes) (response_at (behind_interim (unread ++ b ∷ bytes))) used step left

-- where no answer is begun, and none that comes would be early: the pipe reads the heads that the law reads
abbrev pub HeadsAreTheLaws : Type 0
HeadsAreTheLaws = (s : State) (p : Peer) (k : Conn) (e : Exchange) (bytes : Bytes) (used : ℕ) (step : Step) (left : Reading) → ShowsConn s p k → k.is_closing ≡ false → k.answer ≡ None → is_early s k ≡ false → front_of_line s k ≡ Some e
    → IsFed (awaited p.pipe.asks) p.pipe.reading bytes used step left → IsTextRead e k.unread bytes used step left

-- where it would be early, all that comes is refused
abbrev pub EarlyIsRefused : Type 0
EarlyIsRefused = (s : State) (p : Peer) (k : Conn) (b : ℕ) (bytes : Bytes) (used : ℕ) (step : Step) (left : Reading) → ShowsConn s p k → k.is_closing ≡ false → k.answer ≡ None → is_early s k ≡ true
    → IsFed (awaited p.pipe.asks) p.pipe.reading (b ∷ bytes) used step left → IsRefused (b ∷ bytes) used step left

-- ---- bodies

-- within the body of a response, amid the bytes of one read: these of them are left, and these data came of the others
pub record IsAmid (response : Response) (place : Place) (a : Answer) (bytes left came : Bytes) : Type 0 where
  pub head : response ≡ a.head
  pub goes_on : (more : Bytes) → body_of a.rule (a.raw ++ bytes ++ more) ≡ behind (payload_of a ++ came) (read_from place (left ++ more))
  pub kind : is_unbounded place ≡ is_unbounded (first_place a.rule)

abbrev pub ShowsAmid : Reading → Answer → Bytes → Bytes → Bytes → Type 0
ShowsAmid (Within response place) a bytes left came = IsAmid response place a bytes left came
ShowsAmid reading a bytes left came = ⊥

-- a read begins, or the body behind its head: all of the bytes are left
abbrev pub ReadsBeginAsTheLaws : Type 0
ReadsBeginAsTheLaws = (reading : Reading) (unread bytes : Bytes) (a : Answer) → ShowsReading reading unread (Some a) → ShowsAmid reading a bytes bytes []

-- its next data
pub record IsDataRead (a : Answer) (bytes left came : Bytes) (from to used : ℕ) (next : Reading) : Type 0 where
  pub some : from < to
  pub within : to ≤ used
  pub shows : ShowsAmid next a bytes (drop used left) (came ++ slice_range left from to)

-- it is whole
pub record IsEndRead (a : Answer) (bytes left came : Bytes) (used : ℕ) (next : Reading) : Type 0 where
  pub body : body_of a.rule (a.raw ++ bytes) ≡ record { payload = payload_of a ++ came; outcome = Done (drop used left) }
  pub leaves : next ≡ behind_it (fate_of a.head)

-- it is none
pub record IsFaultRead (a : Answer) (bytes left came : Bytes) (used : ℕ) (next : Reading) : Type 0 where
  pub body : body_of a.rule (a.raw ++ bytes) ≡ record { payload = payload_of a ++ came; outcome = NoBody }
  pub all : used ≡ length left
  pub leaves : next ≡ Broken

-- it goes on: the answer of the law has all bytes of the read
pub record IsPauseRead (a : Answer) (bytes left came : Bytes) (used : ℕ) (next : Reading) : Type 0 where
  pub body : body_of a.rule (a.raw ++ bytes) ≡ record { payload = payload_of a ++ came; outcome = Going }
  pub all : used ≡ length left
  pub shows : ShowsReading next [] (Some (record a { raw = a.raw ++ bytes }))

abbrev pub IsBodyRead : Answer → Bytes → Bytes → Bytes → ℕ → Step → Reading → Type 0
IsBodyRead a bytes left came used Head next = ⊥
IsBodyRead a bytes left came used (BodyStep from to) next = IsDataRead a bytes left came from to used next
IsBodyRead a bytes left came used End next = IsEndRead a bytes left came used next
IsBodyRead a bytes left came used Bad next = IsFaultRead a bytes left came used next
IsBodyRead a bytes left came used Idle next = IsPauseRead a bytes left came used next

-- step by step the pipe reads the body that the law reads at once, whatever is awaited
abbrev pub BodiesAreTheLaws : Type 0
BodiesAreTheLaws = (a : Answer) (reading : Reading) (bytes left came : Bytes) (awaited : Option Bool) (used : ℕ) (step : Step) (next : Reading) → ShowsAmid reading a bytes left came
    → IsFed awaited reading left used step next → IsBodyRead a bytes left came used step next

-- ---- ends

-- what the end of the connection, clean or not, makes of the answer that was begun
abbrev pub ending_of : Bool → Option Answer → Ending
ending_of is_clean None = Short
ending_of is_clean (Some a) = elim (is_clean && is_whole_at_end a) [ true ↦ IsWhole | false ↦ Short ]

-- the end of the connection ends in the pipe what it ends in the law
abbrev pub EndingsAreTheLaws : Type 0
EndingsAreTheLaws = (s : State) (p : Peer) (k : Conn) (is_clean : Bool) → ShowsConn s p k → k.is_closing ≡ false → ending_at is_clean p.pipe.reading ≡ ending_of is_clean k.answer
