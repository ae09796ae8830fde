-- Replies begin at the end of a turn, with the head that the table and the clock of then give (RFC 2616, sections 6, 13.2.3 and 14;
-- RFC 7233, section 4).
use Rattle.std.specs.Prelude.{ℕ, ◌+◌, ◌-◌, ◌^◌, ◌≡◌, ◌==◌, min, Bool, true, false, ◌&&◌, not, ◌||◌, is_some, nat_le, nat_lt, List, [], ◌∷◌, length, slice_get, Option, Some, None, option_map}
use Rattle.std.specs.List.{find}
use Rattle.pp_cache.specs.Memory.{Memory}
use Rattle.pp_client.specs.Replies.{has_begun, with_begun}
use Rattle.pp_client.specs.Requests.{Front, Nothing, Begun as More, Asked as IsAsked, Refused, current_of}
use Rattle.pp_client.specs.declared.reply.Begin.{Begin}
use Rattle.pp_client.specs.declared.reply.Begin.TheVariants.{Page, Instance, Passed as FromPipe}
use Rattle.pp_flow.specs.Changes.{Exchanges, changed, entry_of, first_of}
use Rattle.pp_flow.specs.Entries.{is_asked_by, nobodys}
use Rattle.pp_flow.specs.declared.entry.Entry.{Entry}
use Rattle.pp_fresh.specs.Age.{age_of}
use Rattle.pp_fresh.specs.declared.aging.Times.{Times}
use Rattle.pp_objects.specs.Changes.{given_back, is_last, left_from}
use Rattle.pp_objects.specs.Instances.{Instance as Known, followers_of, in_slot, is_same_id, is_there}
use Rattle.pp_objects.specs.declared.id.ObjectId.{ObjectId}
use Rattle.pp_objects.specs.declared.objects.RowView.{RowView}
use Rattle.pp_plan.specs.Spans.{resolved}
use Rattle.pp_ranges.specs.declared.range.Resolved.{Resolved}
use Rattle.pp_ranges.specs.declared.range.Resolved.TheVariants.{Whole as OfAll, Part as OfPart, Unsatisfiable as OfNone}
use Rattle.pp_reply.specs.Keeping.{is_end_known}
use Rattle.pp_reply.specs.Kept.{kept_reply}
use Rattle.pp_reply.specs.declared.kept.KeptReply.{KeptReply}
use Rattle.pp_reply.specs.declared.kept.KeptReply.TheVariants.{Whole, Part, Head, NotModified, Unsatisfiable}
use Rattle.pp_seats.specs.Accounts.{HasLine, begun, head_len_in, line_in, line_of}
use Rattle.pp_seats.specs.Heads.{asked_in}
use Rattle.pp_seats.specs.Seats.{passed_in}
use Rattle.pp_seats.specs.declared.front.Asked.{Asked}
use Rattle.pp_seats.specs.declared.seat.Answer.{Answer}
use Rattle.pp_seats.specs.declared.seat.Brought.{Brought}
use Rattle.pp_seats.specs.declared.seat.Brought.TheVariants.{Awaited, Useless, Joins, Passes, TooWide, Refused as NoRoom}
use Rattle.pp_seats.specs.declared.seat.Passed.{Passed}
use Rattle.pp_seats.specs.declared.seat.Seat.{Seat}
use Rattle.pp_seats.specs.declared.seat.Stage.{Stage}
use Rattle.pp_seats.specs.declared.seat.Stage.TheVariants.{Undecided, Waiting, Passing, Answering}
use Rattle.pp_text.specs.Fields.{Field}
use Rattle.pp_text.specs.Lines.{lines_of}
use Rattle.pp_valid.specs.declared.version.Version.{Version}
use Rattle.pp_world.specs.declared.note.Decision.{Decision}
use Rattle.pp_world.specs.declared.note.Decision.TheVariants.{Head as HeadOf, NotModified as Unchanged, Unsatisfiable as NoneOf, Relay, Pass}
use Rattle.pp_state.specs.Accounts.{status_of}
use Rattle.pp_state.specs.Bringing.{is_held}
use Rattle.pp_state.specs.Passing.{may_answer}
use Rattle.pp_state.specs.Places.{IsChangedAt}
use Rattle.pp_steps.specs.declared.begin.Written.{Written}
use Rattle.pp_state.specs.declared.state.State.{State}

-- ---- a reply begins

-- what was written of it goes out; the operator's log has this line of its request
abbrev pub begun_as : Written → Begin → Answer → Seat → List ℕ → Seat
begun_as w reply answer seat line = record seat {
  client = record seat.client { reply = with_begun reply seat.client.reply };
  before_body = min (seat.before_body + w.len) (2 ^ 64 - 1);
  stage = Answering answer;
  account = begun line w.status (min (seat.before_body + w.head_len) (2 ^ 64 - 1)) seat.account;
}

-- whichever line memory was there for
pub record HasBegun (wanted : List ℕ → Seat) (old new : Seat) : Type 0 where
  pub seat : new ≡ wanted (line_in new.account)
  pub line : HasLine old.account (line_in new.account) (line_of (current_of old.client.heard))

-- ---- by a response that is passed, whose head was written when it came

abbrev pub pass_begun : Decision → Passed → Asked → Seat → List ℕ → Seat
pass_begun d p a seat = begun_as
    (record { status = p.status; head_len = p.head_len; len = p.head_len })
    FromPipe
    (record { decision = d; source = None; from = 0; to = 0; has_begun = true })
    (record seat { closes = not (a.keeps_open && is_end_known p.rule a.minor) })

abbrev pub HasBegunPassed : Decision → Option Passed → Option Asked → Bool → Seat → Seat → Type 0
HasBegunPassed d None asked may old new = new ≡ old
HasBegunPassed d (Some p) None may old new = new ≡ old
HasBegunPassed d (Some p) (Some a) false old new = new ≡ old
HasBegunPassed d (Some p) (Some a) true old new = HasBegun (pass_begun d p a old) old new

abbrev pub IsPassBegun : Decision → Seat → Seat → Type 0
IsPassBegun d old new = HasBegunPassed d (passed_in old.brought) (asked_in old.front) (may_answer old.client) old new

-- ---- from an instance

abbrev pub is_part : Resolved → Bool
is_part OfAll = false
is_part (OfPart from to) = true
is_part OfNone = false

-- by whether its request asks for a part
abbrev pub body_of : ℕ × ℕ → Bool → KeptReply
body_of span part = elim part [ true ↦ Part span.0 span.1 | false ↦ Whole ]

abbrev pub shows_of : Decision → ℕ × ℕ → Bool → KeptReply
shows_of HeadOf span part = Head
shows_of Unchanged span part = NotModified
shows_of NoneOf span part = Unsatisfiable
shows_of d span part = body_of span part

-- its exchange made or refreshed this instance, and told no age
abbrev pub has_plain_age : ObjectId → Brought → Bool
has_plain_age id Awaited = false
has_plain_age id Useless = false
has_plain_age id (Joins row plain) = is_same_id row id && plain
has_plain_age id (Passes p) = false
has_plain_age id TooWide = false
has_plain_age id NoRoom = false

abbrev pub age_shown : ObjectId → Times → ℕ → Brought → Option ℕ
age_shown id times now brought = elim (has_plain_age id brought) [ true ↦ None | false ↦ Some (age_of times now) ]

-- a part lies within the body
abbrev pub can_show : KeptReply → ℕ → Bool
can_show Whole n = true
can_show (Part from to) n = nat_lt from to && nat_le to n
can_show Head n = true
can_show NotModified n = true
can_show Unsatisfiable n = true

-- the lines that are kept have room in a head
abbrev pub keeps_lines : List Field → Bool
keeps_lines fields = nat_le (length (lines_of fields)) 18432

-- what it shows of a version to what stands at the front
abbrev pub shown_to : Front → Answer → Version → Option KeptReply
shown_to Nothing answer v = None
shown_to More answer v = None
shown_to (Refused status) answer v = None
shown_to (IsAsked head fault) answer v = Some (shows_of answer.decision (answer.from, answer.to) (is_part (resolved head.fields v)))

-- where it may be shown
abbrev pub allowed : Bool → Version → List Field → Option KeptReply → Option KeptReply
allowed begun v fields None = None
allowed begun v fields (Some shows) = elim (not begun && can_show shows v.length && keeps_lines fields) [ true ↦ Some shows | false ↦ None ]

abbrev pub shown_of : Seat → Answer → Version → List Field → Option KeptReply
shown_of seat answer v fields = allowed (has_begun seat.client.reply.stage) v fields (shown_to (current_of seat.client.heard) answer v)

-- bytes of the head in a text: of a range that is not satisfied it is a whole page
abbrev pub head_of : KeptReply → List ℕ → ℕ
head_of Whole text = length text
head_of (Part from to) text = length text
head_of Head text = length text
head_of NotModified text = length text
head_of Unsatisfiable text = head_len_in text

abbrev pub written : KeptReply → List ℕ → Written
written shows text = record { status = status_of shows; head_len = head_of shows text; len = length text }

abbrev pub with_text : List ℕ → Seat → Seat
with_text text seat = record seat { client = record seat.client { reply = record seat.client.reply { text = text } } }

-- one without a body follows its instance no longer
abbrev pub source_left : Answer → Answer
source_left answer = elim (answer.from == answer.to) [ true ↦ record answer { source = None; has_begun = true } | false ↦ record answer { has_begun = true } ]

abbrev pub begin_of : ObjectId → Answer → Begin
begin_of id answer = elim (answer.from == answer.to) [ true ↦ Page | false ↦ Instance id answer.from answer.to ]

abbrev pub kept_begun : ObjectId → Answer → KeptReply → List ℕ → Seat → List ℕ → Seat
kept_begun id answer shows text seat = begun_as (written shows text) (begin_of id answer) (source_left answer) (with_text text seat)

-- what is kept of the response, and the name and the second of this proxy
pub record Kept : Type 0 where
  pub version : Version
  pub fields : List Field
  pub times : Times
  pub name : List ℕ
  pub now : ℕ

abbrev pub kept_by : RowView → List ℕ → ℕ → Kept
kept_by row name now = record { version = row.version.now; fields = row.fields; times = row.times; name = name; now = now }

abbrev pub text_of : KeptReply → ObjectId → Kept → Asked → Seat → List ℕ
text_of shows id k a seat = kept_reply shows k.version.length k.fields (age_shown id k.times k.now seat.brought) k.name a.keeps_open

abbrev pub HasBegunShown : ObjectId → Answer → Kept → Option Asked → Option KeptReply → Seat → Seat → Type 0
HasBegunShown id answer k None shows old new = new ≡ old
HasBegunShown id answer k (Some a) None old new = new ≡ old
HasBegunShown id answer k (Some a) (Some shows) old new = HasBegun (kept_begun id answer shows (text_of shows id k a old) old) old new

abbrev pub IsKeptBegun : ObjectId → Answer → Kept → Seat → Seat → Type 0
IsKeptBegun id answer k old new = HasBegunShown id answer k (asked_in old.front) (shown_of old answer k.version k.fields) old new

abbrev pub may_be_shown : Answer → Version → List Field → Seat → Bool
may_be_shown answer v fields seat = is_some (asked_in seat.front) && is_some (shown_of seat answer v fields)

-- ---- in the state

abbrev pub kept_in : List ℕ → ℕ → Option Known → Option Kept
kept_in name now None = None
kept_in name now (Some x) = Some (record { version = x.version; fields = x.fields; times = x.times; name = name; now = now })

-- what is kept of the instance, where it is there
abbrev pub kept_of : ObjectId → List ℕ → ℕ → Memory → Option Kept
kept_of id name now m = elim (is_there id m.instances) [ true ↦ kept_in name now (in_slot id.slot m.instances) | false ↦ None ]

-- one without a body begins at once, and others once their first byte is held
abbrev pub may_begin : ObjectId → Answer → Memory → Bool
may_begin id answer m = (answer.from == answer.to) || (nat_lt answer.from answer.to && is_held id answer.from m)

-- a follower less
abbrev pub with_left : ObjectId → Memory → Memory
with_left id m = elim (is_there id m.instances && nat_lt 0 (followers_of (in_slot id.slot m.instances))) [
  | true ↦ record m {
    instances = left_from id.slot (in_slot id.slot m.instances) m.instances;
    chunks = given_back (is_last (in_slot id.slot m.instances)) id.slot m.chunks;
  }
  | false ↦ m
]

abbrev pub with_source_left : ObjectId → Answer → Memory → Memory
with_source_left id answer m = elim (answer.from == answer.to) [ true ↦ with_left id m | false ↦ m ]

-- the number of the exchange that the client's current request asks
abbrev pub asked_by : ℕ → Exchanges → Option ℕ
asked_by client f = option_map (λ e. e.exchange.number) (first_of (find (is_asked_by client) f.waiting) (find (is_asked_by client) f.placed))

-- it is nobody's from now on, where it was not answered yet
abbrev pub left_unanswered : ℕ → Option Entry → Exchanges → Exchanges
left_unanswered number None f = f
left_unanswered number (Some e) f = elim e.exchange.headed [
  | true ↦ f
  | false ↦ record f { waiting = changed number nobodys f.waiting; placed = changed number nobodys f.placed }
]

abbrev pub without_unanswered : Option ℕ → Exchanges → Exchanges
without_unanswered None f = f
without_unanswered (Some number) f = left_unanswered number (entry_of number f) f

-- the reply of the client begins from something else
abbrev pub without_outrun : ℕ → Exchanges → Exchanges
without_outrun client f = without_unanswered (asked_by client f) f

abbrev pub after_kept : ObjectId → Answer → ℕ → State → State
after_kept id answer client s = record s { cache = with_source_left id answer s.cache; flow = without_outrun client s.flow }

-- one client begins its reply, and all else is this
pub record BeginsAt (P : Seat → Seat → Type 0) (i : ℕ) (wanted old new : State) : Type 0 where
  pub seat : IsChangedAt P i old.seats.items new.seats.items
  pub rest : record new { seats = old.seats } ≡ wanted

abbrev pub after_shown : Bool → ObjectId → Answer → ℕ → State → State
after_shown begins id answer client s = elim begins [ true ↦ after_kept id answer client s | false ↦ s ]

abbrev pub BeginsRow : ℕ → ObjectId → Answer → Option Kept → Option Seat → State → State → Type 0
BeginsRow i id answer None seat old new = new ≡ old
BeginsRow i id answer (Some k) None old new = new ≡ old
BeginsRow i id answer (Some k) (Some seat) old new =
    BeginsAt (IsKeptBegun id answer k) i (after_shown (may_be_shown answer k.version k.fields seat) id answer seat.client.id old) old new

abbrev pub BeginsKept : ℕ → ObjectId → Answer → Bool → State → State → Type 0
BeginsKept i id answer false old new = new ≡ old
BeginsKept i id answer true old new = BeginsRow i id answer (kept_of id old.name.items old.now old.cache) (slice_get old.seats.items i) old new

abbrev pub BeginsFrom : ℕ → Answer → Option ObjectId → State → State → Type 0
BeginsFrom i answer None old new = new ≡ old
BeginsFrom i answer (Some id) old new = BeginsKept i id answer (may_begin id answer old.cache) old new

abbrev pub BeginsPassed : ℕ → Decision → State → State → Type 0
BeginsPassed i d old new = BeginsAt (IsPassBegun d) i old old new

abbrev pub BeginsDecided : ℕ → Answer → Decision → State → State → Type 0
BeginsDecided i answer Pass old new = BeginsPassed i Pass old new
BeginsDecided i answer Relay old new = BeginsPassed i Relay old new
BeginsDecided i answer d old new = BeginsFrom i answer answer.source old new

abbrev pub BeginsAnswer : ℕ → Answer → Bool → State → State → Type 0
BeginsAnswer i answer true old new = new ≡ old
BeginsAnswer i answer false old new = BeginsDecided i answer answer.decision old new

abbrev pub BeginsBy : ℕ → Bool → Stage → State → State → Type 0
BeginsBy i true stage old new = new ≡ old
BeginsBy i false Undecided old new = new ≡ old
BeginsBy i false Waiting old new = new ≡ old
BeginsBy i false Passing old new = BeginsPassed i Pass old new
BeginsBy i false (Answering answer) old new = BeginsAnswer i answer answer.has_begun old new

abbrev pub BeginsOf : ℕ → Option Seat → State → State → Type 0
BeginsOf i None old new = new ≡ old
BeginsOf i (Some seat) old new = BeginsBy i seat.is_closing seat.stage old new

-- the reply of the client at a place begins, where it may
abbrev pub BeginsReply : ℕ → State → State → Type 0
BeginsReply i old new = BeginsOf i (slice_get old.seats.items i) old new

abbrev pub BeginsIn : Option ℕ → State → State → Type 0
BeginsIn None old new = new ≡ old
BeginsIn (Some i) old new = BeginsReply i old new

-- those at these places, one behind the other
unfoldable pub BeginsReplies : List ℕ → State → State → Type 0
BeginsReplies [] old new = new ≡ old
BeginsReplies (i ∷ is) old new = (next : State) × BeginsReply i old next × BeginsReplies is next new
