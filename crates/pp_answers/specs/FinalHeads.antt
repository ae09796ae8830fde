-- What the final head of a response does (RFC 2616, sections 10.3.5, 13.5, 13.10 and 13.11; RFC 7233, sections 3.2 and 4.3).
use Rattle.std.specs.Prelude.{ℕ, ◌≡◌, Bool, true, false, ◌==◌, ◌&&◌, ◌||◌, not, nat_lt, List, Option, Some, None, Result, Ok, Err, option_map}
use Rattle.pp_client.specs.Requests.{Front, Nothing, Begun, Asked, Refused, current_of}
use Rattle.pp_flow.specs.declared.entry.Aim.{Aim}
use Rattle.pp_flow.specs.declared.entry.Aim.TheVariants.{Own, Hole, Pass as Through}
use Rattle.pp_flow.specs.declared.entry.Entry.{Entry}
use Rattle.pp_flow.specs.declared.entry.Exchange.{Exchange}
use Rattle.pp_flow.specs.declared.errand.Errand.{Errand}
use Rattle.pp_framing.specs.Framing.{rule_of}
use Rattle.pp_framing.specs.declared.body.BodyRule.{BodyRule}
use Rattle.pp_framing.specs.declared.framing.ResponseFault.{ResponseFault}
use Rattle.pp_head.specs.Response.{Response}
use Rattle.pp_objects.specs.Instances.{is_same_id}
use Rattle.pp_objects.specs.declared.id.ObjectId.{ObjectId}
use Rattle.pp_plan.specs.Spans.{resolved, span_in}
use Rattle.pp_seats.specs.Courses.{has_begun}
use Rattle.pp_seats.specs.Follows.{next_of}
use Rattle.pp_seats.specs.declared.seat.Brought.TheVariants.{TooWide}
use Rattle.pp_seats.specs.declared.seat.Next.{Next}
use Rattle.pp_seats.specs.declared.seat.Seat.{Seat}
use Rattle.pp_valid.specs.Versions.{version_of}
use Rattle.pp_valid.specs.declared.version.Version.{Version}
use Rattle.pp_answers.specs.Answers.{not_shared}
use Rattle.pp_state.specs.Bodies.{on_asker, with_body}
use Rattle.pp_state.specs.Bringing.{is_provided}
use Rattle.pp_state.specs.Ends.{Parts, asker_of, bound_by, cleared_row, lost_attempt, made_useless, parts, told_to}
use Rattle.pp_answers.specs.OwnHeads.{clears_row, is_private_part, is_wrong}
use Rattle.pp_state.specs.Passing.{passed_to}
use Rattle.pp_answers.specs.Rows.{Settles, is_bound, not_modified, with_room_for}
use Rattle.pp_state.specs.Known.{row_for}
use Rattle.pp_answers.specs.ThroughHeads.{ClearsOutdated}
use Rattle.pp_state.specs.declared.state.State.{State}

-- ---- a response that is passed

abbrev pub relayed : List ℕ → Exchange → Response → BodyRule → Parts → Parts
relayed name e head rule p = record (bound_by e.number None p) { seats = on_asker e (passed_to name head rule) p.seats }

-- the row was known to be otherwise, or is not to be shared
abbrev pub cleared_by : Exchange → Response → Parts → Parts
cleared_by e head p = elim (clears_row head || is_private_part head) [ true ↦ cleared_row e.number p | false ↦ p ]

-- ours: a part that was asked for from before the client's range is read and dropped, and the request is passed
abbrev pub is_widened : Errand → Response → Bool
is_widened errand head = errand.is_moved && (head.status == 206)

abbrev pub widened : Exchange → Parts → Parts
widened e p = told_to e TooWide (bound_by e.number None p)

abbrev pub relayed_or_widened : Bool → List ℕ → Exchange → Response → BodyRule → Parts → Parts
relayed_or_widened true name e head rule p = widened e p
relayed_or_widened false name e head rule p = relayed name e head rule p

-- to a Fetch or Validate
abbrev pub other_head : List ℕ → Exchange → Errand → Response → BodyRule → Parts → Parts
other_head name e errand head rule p = relayed_or_widened (is_widened errand head) name e head rule (cleared_by e head p)

-- whatever it tells of rows
pub record PassesHead (name : List ℕ) (e : Exchange) (errand : Errand) (head : Response) (rule : BodyRule) (old new : Parts) : Type 0 where
  pub between : Parts
  pub outdated : ClearsOutdated e errand head old between
  pub passed : new ≡ relayed name e head rule between

-- ---- to a Fetch or Validate

abbrev pub version_in : Errand → Response → Option Version
version_in errand head = version_of head.fields head.status errand.accepts_only_identity

abbrev pub without_version : Bool → Exchange → Errand → Response → BodyRule → State → Parts
without_version true e errand head rule s = not_modified e errand head s.now (parts s)
without_version false e errand head rule s = other_head s.name.items e errand head rule (parts s)

-- what has a version settles a row, whose key may need room
abbrev pub roomed : Option Version → ℕ → State → State
roomed None number s = s
roomed (Some v) number s = with_room_for (row_for number (parts s)) s

abbrev pub TakesOwn : Exchange → Errand → Response → BodyRule → Option Version → State → Parts → Type 0
TakesOwn e errand head rule None s new = new ≡ without_version (head.status == 304) e errand head rule s
TakesOwn e errand head rule (Some v) s new = Settles e errand head v s.now (row_for e.number (parts s)) (parts (with_room_for (row_for e.number (parts s)) s)) new

-- ---- to the ask of a follower

-- only where it cleared the row, and is not a part that was asked for another's sake
abbrev pub shared_part : Bool → List ℕ → Exchange → Response → BodyRule → Parts → Parts
shared_part true name e head rule p = relayed name e head rule (cleared_row e.number p)
shared_part false name e head rule p = made_useless e p

abbrev pub other_part : Bool → List ℕ → Exchange → Errand → Response → BodyRule → Parts → Parts
other_part true name e errand head rule p = not_shared e errand p
other_part false name e errand head rule p = shared_part (clears_row head) name e head rule p

abbrev pub part_without_version : Bool → Exchange → Errand → Response → BodyRule → State → Parts
part_without_version true e errand head rule s = not_modified e errand head s.now (parts s)
part_without_version false e errand head rule s = other_part (is_private_part head) s.name.items e errand head rule (parts s)

abbrev pub TakesPart : Exchange → Errand → Response → BodyRule → Option Version → State → Parts → Type 0
TakesPart e errand head rule None s new = new ≡ part_without_version (head.status == 304) e errand head rule s
TakesPart e errand head rule (Some v) s new = Settles e errand head v s.now (row_for e.number (parts s)) (parts (with_room_for (row_for e.number (parts s)) s)) new

-- the first byte that a request is shown of an instance
abbrev pub first_of : ObjectId → ℕ × ℕ → Option Next
first_of id span = elim (nat_lt span.0 span.1) [ true ↦ Some (record { source = id; at = span.0; to = span.1 }) | false ↦ None ]

abbrev pub first_shown : Front → ObjectId × Version → Option Next
first_shown Nothing row = None
first_shown Begun row = None
first_shown (Asked request refusal) row = first_of row.0 (span_in row.1.length (resolved request.fields row.1))
first_shown (Refused status) row = None

abbrev pub is_lacked : Option Next → Parts → Bool
is_lacked None p = false
is_lacked (Some next) p = not (is_provided next p.cache p.flow)

-- a reply that has begun goes on by its own version alone, and before that its request is shown what it asks for of that row
abbrev pub lacks_of : Bool → Next → ObjectId × Version → Seat → Parts → Bool
lacks_of true next row seat p = is_same_id next.source row.0 && is_lacked (Some next) p
lacks_of false next row seat p = is_lacked (first_shown (current_of seat.client.heard) row) p

abbrev pub lacks_row : Option Next → Option (ObjectId × Version) → Seat → Parts → Bool
lacks_row None row seat p = false
lacks_row (Some next) None seat p = false
lacks_row (Some next) (Some row) seat p = lacks_of (has_begun seat) next row seat p

abbrev pub lacks_by : Option Seat → ℕ → Parts → Bool
lacks_by None number p = false
lacks_by (Some seat) number p = lacks_row (next_of seat) (row_for number p) seat p

-- the exchange's own client still lacks what it is to be said next, of the row that stands
abbrev pub lacks_next : ℕ → Parts → Bool
lacks_next number p = lacks_by (asker_of number p) number p

-- what it brings is no use for its own follower
abbrev pub counted : Exchange → Parts → Parts
counted e p = elim (is_bound e.number p.flow && lacks_next e.number p) [ true ↦ lost_attempt e p | false ↦ p ]

pub record FillsHead (e : Exchange) (errand : Errand) (head : Response) (rule : BodyRule) (s : State) (new : Parts) : Type 0 where
  pub between : Parts
  pub taken : TakesPart e errand head rule (version_in errand head) s between
  pub elsewhere : new ≡ counted e between

-- ---- by what was asked

abbrev pub TakesAim : Aim → Exchange → Errand → Response → BodyRule → State → Parts → Type 0
TakesAim Own e errand head rule s new = TakesOwn e errand head rule (version_in errand head) s new
TakesAim (Hole v from to) e errand head rule s new = FillsHead e errand head rule s new
TakesAim Through e errand head rule s new = PassesHead s.name.items e errand head rule (parts s) new

abbrev pub roomed_for : Aim → Errand → Response → ℕ → State → State
roomed_for Own errand head number s = roomed (version_in errand head) number s
roomed_for (Hole v from to) errand head number s = roomed (version_in errand head) number s
roomed_for Through errand head number s = s

-- and what becomes of the body is known
abbrev pub noted_body : ℕ → Parts → Parts
noted_body number p = record p { flow = with_body number p.seats p.flow }

pub record TakesHead (number : ℕ) (e : Exchange) (errand : Errand) (head : Response) (rule : BodyRule) (s : State) (new : Parts) : Type 0 where
  pub between : Parts
  pub taken : TakesAim e.aim e errand head rule s between
  pub noted : new ≡ noted_body number between

-- ---- whether it answers an ask of its kind

abbrev pub right_rule : Bool → Result BodyRule ResponseFault → Option BodyRule
right_rule true rule = None
right_rule false (Err fault) = None
right_rule false (Ok rule) = Some rule

abbrev pub rule_for : Exchange → Errand → Response → Option BodyRule
rule_for e errand head = right_rule (is_wrong e.aim errand.kind head) (rule_of errand.asks_head head.status head.fields)

abbrev pub answer_to : Response → Option Entry → Option (Entry × BodyRule)
answer_to head None = None
answer_to head (Some x) = option_map (λ rule. (x, rule)) (rule_for x.exchange x.errand head)

-- all else is as where its key got room; and where it answers none, as it was
abbrev pub roomed_by : Response → Option (Entry × BodyRule) → State → State
roomed_by head None s = s
roomed_by head (Some a) s = roomed_for a.0.exchange.aim a.0.errand head a.0.exchange.number s

abbrev pub AnswersAsk : ℕ → Response → Option (Entry × BodyRule) → State → Parts → Type 0
AnswersAsk number head None s new = new ≡ parts s
AnswersAsk number head (Some a) s new = TakesHead number a.0.exchange a.0.errand head a.1 s new
