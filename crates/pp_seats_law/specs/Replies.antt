-- How the reply of a seat stands for that of its client in the law (RFC 2616, sections 6, 8.1.4 and 8.2.3).
use Rattle.std.specs.Prelude.{◌≡◌, ◌≤◌, ◌⊎◌, ℕ, ◌-◌, Bool, true, false, List, [], length, drop, Option, Some, None, option_map, ⊤}
use Rattle.pp_client.specs.Replies.{Reply as Said, continue_text}
use Rattle.pp_client.specs.declared.interim.Interim.{Interim}
use Rattle.pp_client.specs.declared.interim.Interim.TheVariants.{Unasked, Left}
use Rattle.pp_client.specs.declared.reply.Begin.{Begin}
use Rattle.pp_client.specs.declared.reply.Begin.TheVariants.{Page, Instance, Passed as IsPassed}
use Rattle.pp_client.specs.declared.reply.Stage.{Stage as SaidStage}
use Rattle.pp_client.specs.declared.reply.Stage.TheVariants.{Due, Begun}
use Rattle.pp_objects.specs.declared.id.ObjectId.{ObjectId}
use Rattle.pp_plan.specs.Requests.{is_head}
use Rattle.pp_reply.specs.Texts.{passed_head}
use Rattle.pp_target.specs.Key.{Key, text_of}
use Rattle.pp_law.specs.Due.{still_waits}
use Rattle.pp_law.specs.Lists.{Bytes, has_text}
use Rattle.pp_law.specs.Requests.{Front, NoHeadYet, NoHead, IsRequest, keeps_open, key_in}
use Rattle.pp_law.specs.Stages.{is_passing}
use Rattle.pp_law.specs.State.{Client, Passed, Reply, Shared, Stage, Undecided, Waiting, Passing, Answering, Brought, Awaited, Useless, Joins, Passes, TooWide, Course, Trying, OutOfTries, AskTooLong, RowRefused}
use Rattle.pp_seats.specs.declared.seat.Answer.{Answer}
use Rattle.pp_seats.specs.declared.seat.Brought.{Brought as SeatBrought}
use Rattle.pp_seats.specs.declared.seat.Brought.TheVariants.{Awaited as NoneYet, Useless as NoneOfUse, Joins as JoinsRow, Passes as PassesOn, TooWide as IsTooWide, Refused}
use Rattle.pp_seats.specs.declared.seat.Course.{Course as SeatCourse}
use Rattle.pp_seats.specs.declared.seat.Course.TheVariants.{Trying as IsTrying, OutOfTries as IsOut, AskTooLong as IsTooLong}
use Rattle.pp_seats.specs.declared.seat.Passed.{Passed as SeatPassed}
use Rattle.pp_seats.specs.declared.seat.PassedEnd.{PassedEnd}
use Rattle.pp_seats.specs.declared.seat.PassedEnd.TheVariants.{Coming, Whole, Short}
use Rattle.pp_seats.specs.declared.seat.Shared.{Shared as SeatShared}
use Rattle.pp_seats.specs.declared.seat.Stage.{Stage as SeatStage}
use Rattle.pp_seats.specs.declared.seat.Stage.TheVariants.{Undecided as IsUndecided, Waiting as IsWaiting, Passing as IsPassing, Answering as IsAnswering}

-- an instance is known by the law's number of its life, whatever slot it stands in. The law numbers each row that a response makes,
-- also one for which memory was refused; the program gives a life to those alone that are in memory. So each life has a number,
-- which the log tells
abbrev pub source_number : (ℕ → ℕ) → Option ObjectId → Option ℕ
source_number number id = option_map (λ x. number x.life) id

-- ---- what of the reply is to be said

-- what is left of the head, or of the page, stands in the client's buffer
pub record IsBegunAs (text : Bytes) (at to : ℕ) (a : Answer) (r : Reply) : Type 0 where
  pub begun : a.has_begun ≡ true
  pub left : r.head_left ≡ text
  pub next : r.at ≡ at
  pub end : r.to ≡ to

-- where the answer begins, and of one without a body where it ends, is not read any more: the client knows how far it is
abbrev pub ShowsBegin : Begin → Bytes → Answer → Reply → Type 0
ShowsBegin Page text a r = IsBegunAs text r.to r.to a r × (a.source ≡ None) × (is_passing r.decision ≡ false)
ShowsBegin (Instance id next to) text a r = IsBegunAs text next to a r × (a.source ≡ Some id) × (a.to ≡ to) × (is_passing r.decision ≡ false) × (next ≤ to)
ShowsBegin IsPassed text a r = IsBegunAs text r.to r.to a r × (a.source ≡ None) × (is_passing r.decision ≡ true)

-- before it begins its span is that of the decision
pub record IsDueAs (a : Answer) (r : Reply) : Type 0 where
  pub due : a.has_begun ≡ false
  pub left : r.head_left ≡ []
  pub from : r.at ≡ a.from
  pub to : r.to ≡ a.to

abbrev pub ShowsSaid : SaidStage → Bytes → Answer → Reply → Type 0
ShowsSaid Due text a r = IsDueAs a r
ShowsSaid (Begun reply) text a r = ShowsBegin reply text a r

pub record ShowsAnswer (number : ℕ → ℕ) (said : Said) (a : Answer) (r : Reply) : Type 0 where
  pub decision : a.decision ≡ r.decision
  pub source : source_number number a.source ≡ r.source
  pub begun : a.has_begun ≡ r.has_begun
  pub says : ShowsSaid said.stage said.text a r

-- an interim answer comes with the first decision
abbrev pub ShowsStage : (ℕ → ℕ) → Said → SeatStage → Stage → Type 0
ShowsStage number said IsUndecided Undecided = (said.stage ≡ Due) × (said.interim ≡ Unasked)
ShowsStage number said IsWaiting Waiting = said.stage ≡ Due
ShowsStage number said IsPassing Passing = said.stage ≡ Due
ShowsStage number said (IsAnswering a) (Answering r) = ShowsAnswer number said a r
ShowsStage number said stage other = ⊥

abbrev pub ShowsInterim : Interim → Bytes → Type 0
ShowsInterim Unasked left = left ≡ []
ShowsInterim (Left n) left = (n ≤ 25) × (left ≡ drop (25 - n) continue_text)

-- ---- what is passed

-- its body is whole once its pipe is finished, and ends early where its connection was gone before
abbrev pub end_of : Passed → PassedEnd
end_of p = elim p.pipe.is_finished [ true ↦ Whole | false ↦ elim p.is_short [ true ↦ Short | false ↦ Coming ] ]

abbrev pub passed_text : Bytes → Front → Passed → Bytes
passed_text name NoHeadYet p = []
passed_text name (NoHead status) p = []
passed_text name (IsRequest r) p = passed_head p.head p.rule r.head.minor (is_head r.head.method) name (keeps_open r)

-- its head was written as it came: it stands in the client's buffer until the reply begins, and is not kept else
abbrev pub IsHeadKept : Bytes → SaidStage → Said → Front → SeatPassed → Passed → Type 0
IsHeadKept name Due said front x p = (said.text ≡ passed_text name front p) × (x.head_len ≡ length said.text)
IsHeadKept name (Begun reply) said front x p = ⊤

pub record ShowsPassed (name : Bytes) (said : Said) (front : Front) (x : SeatPassed) (p : Passed) : Type 0 where
  pub rule : x.rule ≡ p.rule
  pub pipe : said.pipe ≡ p.pipe
  pub end : x.end ≡ end_of p
  pub head : IsHeadKept name said.stage said front x p

-- ---- how the request fares

abbrev pub course_of : SeatCourse → Course
course_of (IsTrying n) = Trying n
course_of IsOut = OutOfTries
course_of IsTooLong = AskTooLong

-- a row of these keys was refused memory, which is not noted yet: the law has that row
pub record IsOwed (owed : List Bytes) (front : Front) : Type 0 where
  pub key : Key
  pub names : key_in front ≡ Some key
  pub is_owed : has_text (text_of key) owed ≡ true

-- the row that its exchange brought was refused memory: its own course is not read any more
pub record IsRefusedRow (owed : List Bytes) (c : Client) : Type 0 where
  pub waits : still_waits c ≡ true
  pub joins : (id : ℕ) × (plain : Bool) × (c.brought ≡ Joins id plain)
  pub refused : (c.course ≡ RowRefused) ⊎ IsOwed owed c.front

abbrev pub ShowsBrought : (ℕ → ℕ) → Bytes → Said → Front → SeatBrought → Brought → Type 0
ShowsBrought number name said front NoneYet Awaited = ⊤
ShowsBrought number name said front NoneOfUse Useless = ⊤
ShowsBrought number name said front (JoinsRow id plain) (Joins n other) = (number id.life ≡ n) × (plain ≡ other)
ShowsBrought number name said front (PassesOn x) (Passes p) = ShowsPassed name said front x p
ShowsBrought number name said front IsTooWide TooWide = ⊤
ShowsBrought number name said front brought other = ⊥

abbrev pub ShowsFate : (ℕ → ℕ) → Bytes → List Bytes → Said → SeatCourse → SeatBrought → Client → Type 0
ShowsFate number name owed said course Refused c = IsRefusedRow owed c
ShowsFate number name owed said course brought c = (course_of course ≡ c.course) × ShowsBrought number name said c.front brought c.brought

-- what a pipe says is a response that is passed
abbrev pub IsPipedFor : SaidStage → SeatBrought → Type 0
IsPipedFor (Begun IsPassed) (PassesOn x) = ⊤
IsPipedFor (Begun IsPassed) brought = ⊥
IsPipedFor stage brought = ⊤

-- as long as no request stands there nothing was brought
abbrev pub IsBroughtFor : Front → SeatBrought → Type 0
IsBroughtFor NoHeadYet NoneYet = ⊤
IsBroughtFor NoHeadYet brought = ⊥
IsBroughtFor front brought = ⊤

-- the exchange of another client that it waits for, and since when
abbrev pub shared_of : SeatShared → Shared
shared_of x = record { exchange = x.exchange; since = x.since }
