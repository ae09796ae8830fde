-- What a decision makes of a seat is what the law makes of its client.
use Rattle.std.proofs.Common.{◌≡◌, refl, sym, subst, ap, ap₂, ◌∙◌, ℕ, ◌+◌, ◌-◌, ◌^◌, ◌≤◌, min, Bool, true, false, not, ◌&&◌, ◌||◌, is_some, List, [], ◌∷◌, ◌++◌, length, length-drop, drop, Option, arith}
use Rattle.std.specs.Prelude.{if◌then◌else◌}
use Rattle.pp_client.specs.Bodies.{IsIdle, IsKept, unread, unwanted}
use Rattle.pp_client.specs.Replies.{Reply as Said, continue_text, is_unasked, may_interim, with_interim as interim_on}
use Rattle.pp_client.specs.Requests.{Heard, body_dropped}
use Rattle.pp_client.specs.declared.body.Body.{Body}
use Rattle.pp_client.specs.declared.body.Body.TheVariants.{Unread, Dropped, Over}
use Rattle.pp_client.specs.declared.interim.Interim.{Interim}
use Rattle.pp_client.specs.declared.interim.Interim.TheVariants.{Unasked, Left}
use Rattle.pp_client.specs.declared.reply.Stage.{Stage as SaidStage}
use Rattle.pp_client.specs.declared.reply.Stage.TheVariants.{Due}
use Rattle.pp_objects.specs.declared.id.ObjectId.{ObjectId}
use Rattle.pp_reply.specs.Keeping.{interim}
use Rattle.pp_reply.specs.Texts.{has_page, page}
use Rattle.pp_world.specs.declared.note.Decision.{Decision}
use Rattle.pp_law.specs.Deciding.{answering_with, asking_with, first_interim, is_pass, refused_with, reply_by, span_of}
use Rattle.pp_law.specs.Lists.{Bytes}
use Rattle.pp_law.specs.Requests.{Front, Parsed, NoHeadYet, NoHead, IsRequest, asks_head, expects_interim, front_of, keeps_after, parsed_in}
use Rattle.pp_law.specs.Stages.{is_begun, is_undecided, reply_of}
use Rattle.pp_law.specs.State.{Client, Brought, Reply, Stage, Undecided, Waiting, Passing, Answering}
use Rattle.pp_seats.specs.declared.account.Account.{Account}
use Rattle.pp_seats.specs.declared.front.Front.{Front as SeatFront}
use Rattle.pp_seats.specs.declared.seat.Answer.{Answer}
use Rattle.pp_seats.specs.declared.seat.Brought.{Brought as SeatBrought}
use Rattle.pp_seats.specs.declared.seat.Brought.TheVariants.{Awaited as NoneYet, Useless as NoneOfUse, Joins as JoinsRow, Passes as PassesOn, TooWide as IsTooWide, Refused}
use Rattle.pp_seats.specs.declared.seat.Course.{Course as SeatCourse}
use Rattle.pp_seats.specs.declared.seat.Seat.{Seat}
use Rattle.pp_seats.specs.declared.seat.Stage.{Stage as SeatStage}
use Rattle.pp_seats.specs.declared.seat.Stage.TheVariants.{Undecided as IsUndecided, Waiting as IsWaiting, Passing as IsPassing, Answering as IsAnswering}
use Rattle.pp_seats.specs.Decided.{answering, asked_stage, asking, expects_in, page_for, paged, shown_status, with_interim}
use Rattle.pp_seats.specs.Dues.{is_refused_in}
use Rattle.pp_seats.specs.Heads.{asked_in, head_asked_in, keeps_in}
use Rattle.pp_seats.specs.Seats.{is_undecided_in}
use Rattle.pp_seats_law.specs.Decided.{AnswersAreTheLaws, AsksAreTheLaws, MayBeDecided, PagesAreTheLaws, expects_of}
use Rattle.pp_seats_law.specs.Fronts.{IsHeadTaken, ShowsBody, ShowsFront, StandsStill, has_no_end, is_over}
use Rattle.pp_seats_law.specs.Replies.{IsPipedFor, ShowsBrought, ShowsFate, ShowsInterim, ShowsSaid, ShowsStage, course_of, source_number}
use Rattle.pp_seats_law.specs.Seats.{ShowsOpen, head_left}
use Rattle.pp_seats_law.proofs.Answered.{brought_anew, dropped_in_order}
use Rattle.pp_seats_law.proofs.Begins.{reply_due}
use Rattle.pp_seats_law.proofs.Fronts.{fronts_read}
use Rattle.pp_seats_law.proofs.Hears.{IsHeardAs, of, request_still}
use Rattle.pp_seats_law.proofs.Nexts.{reply_in}
use Rattle.pp_seats_law.proofs.SaidOn.{brought_kept, head_kept}
use Rattle.pp_seats_law.proofs.Stages.{undecided}

-- ---- the rest of the request's body is dropped

still_there : (head rest more : Bytes) (front : Front) → IsHeadTaken head front → 1 ≤ length head → StandsStill front (front_of (head ++ rest)) → StandsStill front (front_of (head ++ more))
still_there [] rest more front taken some still = absurd (omega (arith, some))
still_there (b ∷ head) rest more NoHeadYet taken some still = absurd taken
still_there (b ∷ head) rest more (NoHead status) taken some still = absurd taken
still_there (b ∷ head) rest more (IsRequest r) taken some still = request_still (b ∷ head) r.head more taken ∙ sym (request_still (b ∷ head) r.head rest taken) ∙ still

left_by : (n left skip len : ℕ) → left ≡ n → skip ≡ 0 → skip + (left - len) ≡ n - len
left_by n left skip len same none = omega (arith, same, none)

skipped_by : (n left skip len : ℕ) → left ≡ 0 → skip ≡ n → skip + (left - len) ≡ n
skipped_by n left skip len none same = omega (arith, none, same)

dropped_by : (head rest : Bytes) (body : Body) (front : Front) (left skip : ℕ) → IsHeadTaken head front → StandsStill front (front_of (head ++ rest)) → IsKept rest body → IsIdle head body → ShowsBody body left skip → is_over body ≡ has_no_end front
    → IsHeardAs (of head (drop (unread body) rest) (unwanted body (length rest))) front (drop left rest) 0 (skip + (left - length rest))
dropped_by [] rest (Unread n) front left skip taken still kept idle shows over = absurd idle
dropped_by (b ∷ head) rest (Unread n) front left skip taken still kept idle shows over = record {
  heard = record {
    is_front = still_there (b ∷ head) rest (drop n rest) front taken (omega arith) still;
    head = taken;
    behind = ap (λ (m : ℕ). drop m rest) (sym shows.0);
    kept = dropped_in_order n rest;
    idle = tt;
  };
  body = (refl, left_by n left skip (length rest) shows.0 shows.1);
  over = over;
}
dropped_by head rest (Dropped n) front left skip taken still kept idle shows over = record {
  heard = record { is_front = still; head = taken; behind = ap (λ (m : ℕ). drop m rest) (sym shows.0); kept = kept; idle = idle };
  body = (refl, skipped_by n left skip (length rest) shows.0 shows.1);
  over = over;
}
dropped_by head rest Over front left skip taken still kept idle shows over = record {
  heard = record { is_front = still; head = taken; behind = ap (λ (m : ℕ). drop m rest) (sym shows.0); kept = kept; idle = idle };
  body = (refl, skipped_by 0 left skip (length rest) shows.0 shows.1);
  over = over;
}

pub dropped_as : (h : Heard) (front : Front) (heard : Bytes) (left skip : ℕ) → IsHeardAs h front heard left skip → IsHeardAs (body_dropped h) front (drop left heard) 0 (skip + (left - length heard))
dropped_as h front heard left skip shows =
    subst (λ (b : Bytes). IsHeardAs (body_dropped h) front (drop left b) 0 (skip + (left - length b))) shows.heard.behind
    (dropped_by h.head h.rest h.body front left skip shows.heard.head shows.heard.is_front shows.heard.kept shows.heard.idle shows.body shows.over)

-- ---- no reply has begun

due_now : (number : ℕ → ℕ) (name : Bytes) (owed : List Bytes) (seat : Seat) (c : Client) → ShowsOpen number name owed seat c → is_begun c ≡ false → seat.client.reply.stage ≡ Due
due_now number name owed seat c shows isnt = reply_due number seat.client.reply seat.stage c.stage shows.stage isnt

none_left : (number : ℕ → ℕ) (said : Said) (stage : SeatStage) (other : Stage) → ShowsStage number said stage other → said.stage ≡ Due → head_left (reply_in other) ≡ 0
none_left number said IsUndecided Undecided shows due = refl
none_left number said IsWaiting Waiting shows due = refl
none_left number said IsPassing Passing shows due = refl
none_left number said (IsAnswering a) (Answering r) shows due =
    by (subst (λ (s : SaidStage). ShowsSaid s said.text a r) due shows.says)
  where
    by : ShowsSaid Due said.text a r → length r.head_left ≡ 0
    by says = ap (λ (b : Bytes). length b) says.left
none_left number said stage other shows due = absurd shows

before_now : (number : ℕ → ℕ) (name : Bytes) (owed : List Bytes) (seat : Seat) (c : Client) → ShowsOpen number name owed seat c → is_begun c ≡ false → seat.before_body ≡ length c.interim_left
before_now number name owed seat c shows isnt =
    let before : seat.before_body ≡ length c.interim_left + head_left (reply_of c) = shows.before_body in
    let none : head_left (reply_of c) ≡ 0 = none_left number seat.client.reply seat.stage c.stage shows.stage (due_now number name owed seat c shows isnt) in
    omega (arith, before, none)

-- ---- the interim answer

-- the seat with this much of it
abbrev interimed : Interim → ℕ → Seat → Seat
interimed i before seat = record seat { client = record seat.client { reply = record seat.client.reply { interim = i } }; before_body = before }

-- as it is before the reply
record IsInterim (seat : Seat) (left : Bytes) (i : Interim) (before : ℕ) : Type 0 where
  shown : ShowsInterim i left
  same : before ≡ length left

silent_by : (i : Interim) (left : Bytes) → ShowsInterim i left → is_unasked i ≡ true → left ≡ []
silent_by Unasked left shows is = shows
silent_by (Left n) left shows is = absurd (cc is)

unasked : (number : ℕ → ℕ) (said : Said) (stage : SeatStage) (other : Stage) → ShowsStage number said stage other → is_undecided other ≡ true → may_interim said ≡ true
unasked number said IsUndecided Undecided shows is = ap₂ (λ (i : Interim) (s : SaidStage). may_interim (record said { interim = i; stage = s })) shows.1 shows.0
unasked number said IsWaiting Waiting shows is = absurd (cc is)
unasked number said IsPassing Passing shows is = absurd (cc is)
unasked number said (IsAnswering a) (Answering r) shows is = absurd (cc is)
unasked number said stage other shows is = absurd shows

silent : (number : ℕ → ℕ) (said : Said) (stage : SeatStage) (other : Stage) (left : Bytes) → ShowsStage number said stage other → is_undecided other ≡ true → ShowsInterim said.interim left → left ≡ []
silent number said IsUndecided Undecided left shows is shown = subst (λ (i : Interim). ShowsInterim i left) shows.1 shown
silent number said IsWaiting Waiting left shows is shown = absurd (cc is)
silent number said IsPassing Passing left shows is shown = absurd (cc is)
silent number said (IsAnswering a) (Answering r) left shows is shown = absurd (cc is)
silent number said stage other left shows is shown = absurd shows

-- what the law has of it, where nothing was decided, and else
abbrev interim_of : Client → Bool → Parsed → Bytes
interim_of c b r = elim b [ true ↦ elim (expects_interim r) [ true ↦ interim | false ↦ [] ] | false ↦ c.interim_left ]

abbrev interim_at : Client → Bool → Front → Bytes
interim_at c b front = elim front [ NoHeadYet ↦ [] | NoHead status ↦ [] | IsRequest r ↦ interim_of c b r ]

first_at : (c : Client) (b : Bool) → is_undecided c.stage ≡ b → first_interim c ≡ interim_at c b c.front
first_at c b is = ap (λ (x : Bool). interim_at c x c.front) is

expected : (c : Client) (front : Front) → expects_of front ≡ true → interim_at c true front ≡ interim
expected c NoHeadYet is = absurd (cc is)
expected c (NoHead status) is = absurd (cc is)
expected c (IsRequest r) is = ap (λ (b : Bool). elim b as (λ x. Bytes) [ true ↦ interim | false ↦ [] ]) is

unexpected : (c : Client) (front : Front) → expects_of front ≡ false → interim_at c true front ≡ []
unexpected c NoHeadYet is = refl
unexpected c (NoHead status) is = refl
unexpected c (IsRequest r) is = ap (λ (b : Bool). elim b as (λ x. Bytes) [ true ↦ interim | false ↦ [] ]) is

kept_on : (c : Client) (front : Front) → is_some (parsed_in front) ≡ true → interim_at c false front ≡ c.interim_left
kept_on c NoHeadYet is = absurd (cc is)
kept_on c (NoHead status) is = absurd (cc is)
kept_on c (IsRequest r) is = refl

all_of_it : ShowsInterim (Left 25) interim
all_of_it = (omega arith, refl)

len_of_it : length interim ≡ 25
len_of_it = refl

interim_few : (i : Interim) (left : Bytes) → ShowsInterim i left → length left ≤ 25
interim_few Unasked left shows = let none : length left ≡ 0 = ap (λ (b : Bytes). length b) shows in omega (arith, none)
interim_few (Left n) left shows = let same : length left ≡ 25 - (25 - n) = ap (λ (b : Bytes). length b) shows.1 ∙ length-drop (25 - n) continue_text in omega (arith, same)

-- it is said now
given : (number : ℕ → ℕ) (name : Bytes) (owed : List Bytes) (seat : Seat) (c : Client) → ShowsOpen number name owed seat c → MayBeDecided seat c → expects_in (asked_in seat.front) ≡ true → is_undecided_in seat.stage ≡ true
    → IsInterim seat (first_interim c) (Left 25) (min (seat.before_body + 25) (2 ^ 64 - 1))
given number name owed seat c shows may expects first =
    let none : is_undecided c.stage ≡ true = sym (undecided number name owed seat c shows) ∙ first in
    let said : first_interim c ≡ interim = first_at c true none ∙ expected c c.front (sym may.expects ∙ expects) in
    let before : seat.before_body ≡ length c.interim_left = before_now number name owed seat c shows may.unbegun in
    let nothing : length c.interim_left ≡ 0 = ap (λ (b : Bytes). length b) (silent number seat.client.reply seat.stage c.stage c.interim_left shows.stage none shows.interim) in
    let all : length (first_interim c) ≡ 25 = ap (λ (b : Bytes). length b) said ∙ len_of_it in record {
      shown = subst (λ (b : Bytes). ShowsInterim (Left 25) b) (sym said) all_of_it;
      same = omega (arith, before, nothing, all);
    }

both_false : (b : Bool) → (b && true && true) ≡ false → b ≡ false
both_false true is = is
both_false false is = refl

-- what is left of it is what was
same_left : (number : ℕ → ℕ) (name : Bytes) (owed : List Bytes) (seat : Seat) (c : Client) → ShowsOpen number name owed seat c → MayBeDecided seat c → (expects_in (asked_in seat.front) && is_undecided_in seat.stage && may_interim seat.client.reply) ≡ false
    → (b : Bool) → is_undecided c.stage ≡ b → first_interim c ≡ c.interim_left
same_left number name owed seat c shows may isnt true is =
    let first : is_undecided_in seat.stage ≡ true = undecided number name owed seat c shows ∙ is in
    let asks : (expects_in (asked_in seat.front) && true && true) ≡ false
    = sym (ap₂ (λ (x y : Bool). expects_in (asked_in seat.front) && x && y) first (unasked number seat.client.reply seat.stage c.stage shows.stage is)) ∙ isnt in
    first_at c true is ∙ unexpected c c.front (sym may.expects ∙ both_false (expects_in (asked_in seat.front)) asks)
    ∙ sym (silent number seat.client.reply seat.stage c.stage c.interim_left shows.stage is shows.interim)
same_left number name owed seat c shows may isnt false is = first_at c false is ∙ kept_on c c.front (ap (λ (b : Bool). b || is_some (parsed_in c.front)) (sym is) ∙ may.first)

was_left : (number : ℕ → ℕ) (name : Bytes) (owed : List Bytes) (seat : Seat) (c : Client) → ShowsOpen number name owed seat c → MayBeDecided seat c → (expects_in (asked_in seat.front) && is_undecided_in seat.stage && may_interim seat.client.reply) ≡ false
    → IsInterim seat (first_interim c) seat.client.reply.interim seat.before_body
was_left number name owed seat c shows may isnt =
    let same : first_interim c ≡ c.interim_left = same_left number name owed seat c shows may isnt (is_undecided c.stage) refl in record {
      shown = subst (λ (b : Bytes). ShowsInterim seat.client.reply.interim b) (sym same) shows.interim;
      same = before_now number name owed seat c shows may.unbegun ∙ ap (λ (b : Bytes). length b) (sym same);
    }

first_of : (a b c : Bool) → (a && b && c) ≡ true → a ≡ true
first_of true b c is = refl
first_of false b c is = absurd (cc is)

second_of : (a b c : Bool) → (a && b && c) ≡ true → b ≡ true
second_of true true c is = refl
second_of true false c is = absurd (cc is)
second_of false b c is = absurd (cc is)

-- whatever holds of the seat with as much of it as the law has, holds of the seat behind it
behind_interim : (number : ℕ → ℕ) (name : Bytes) (owed : List Bytes) (seat : Seat) (c d : Client) (f : Seat → Seat) → ShowsOpen number name owed seat c → MayBeDecided seat c
    → ((i : Interim) (before : ℕ) → IsInterim seat (first_interim c) i before → ShowsOpen number name owed (f (interimed i before seat)) d) → ShowsOpen number name owed (f (with_interim seat)) d
behind_interim number name owed seat c d f shows may so = by (expects_in (asked_in seat.front) && is_undecided_in seat.stage && may_interim seat.client.reply) refl
  where
    on : Seat
    on = record seat { client = record seat.client { reply = interim_on seat.client.reply }; before_body = min (seat.before_body + 25) (2 ^ 64 - 1) }

    by : (b : Bool) → (expects_in (asked_in seat.front) && is_undecided_in seat.stage && may_interim seat.client.reply) ≡ b → ShowsOpen number name owed (f (with_interim seat)) d
    by true is =
        subst (λ (x : Bool). ShowsOpen number name owed (f (elim x as (λ y. Seat) [ true ↦ on | false ↦ seat ])) d) (sym is)
        (so (Left 25) (min (seat.before_body + 25) (2 ^ 64 - 1))
        (given number name owed seat c shows may (first_of (expects_in (asked_in seat.front)) (is_undecided_in seat.stage) (may_interim seat.client.reply) is)
        (second_of (expects_in (asked_in seat.front)) (is_undecided_in seat.stage) (may_interim seat.client.reply) is)))
    by false isnt =
        subst (λ (x : Bool). ShowsOpen number name owed (f (elim x as (λ y. Seat) [ true ↦ on | false ↦ seat ])) d) (sym isnt)
        (so seat.client.reply.interim seat.before_body (was_left number name owed seat c shows may isnt))

-- ---- a page

same_status : (status : ℕ) → has_page status ≡ true → shown_status status ≡ status
same_status status has = ap (λ (b : Bool). if b then status else 504) has

same_page : (status : ℕ) (front : SeatFront) (f : Front) → has_page status ≡ true → ShowsFront front f → page status (asks_head f) (keeps_after status f) ≡ page_for status front
same_page status front f has shows =
    ap₂ (λ (a b : Bool). page status a b) (sym (fronts_read front f shows).head_asked) (sym ((fronts_read front f shows).keeps status))
    ∙ ap (λ (n : ℕ). page n (head_asked_in (asked_in front)) (keeps_in status (asked_in front))) (sym (same_status status has))

heard_of : (number : ℕ → ℕ) (name : Bytes) (owed : List Bytes) (seat : Seat) (c : Client) → ShowsOpen number name owed seat c → IsHeardAs seat.client.heard c.front c.heard c.body_left c.skip
heard_of number name owed seat c shows = record { heard = shows.heard; body = shows.body; over = shows.over }

page_shows : (number : ℕ → ℕ) (status : ℕ) (account : Account) (name : Bytes) (owed : List Bytes) (seat : Seat) (c : Client) (i : Interim) (before : ℕ) → ShowsOpen number name owed seat c → has_page status ≡ true → length (page_for status seat.front) ≤ 20480
    → IsInterim seat (first_interim c) i before → ShowsOpen number name owed (record (paged status (interimed i before seat)) { account = account }) (refused_with status c)
page_shows number status account name owed seat c i before shows has short interims =
    let text : page status (asks_head c.front) (keeps_after status c.front) ≡ page_for status seat.front = same_page status seat.front c.front has shows.front in
    let dropped : IsHeardAs (body_dropped seat.client.heard) c.front (drop c.body_left c.heard) 0 (c.skip + (c.body_left - length c.heard))
    = dropped_as seat.client.heard c.front c.heard c.body_left c.skip (heard_of number name owed seat c shows) in
    let len : length (page status (asks_head c.front) (keeps_after status c.front)) ≡ length (page_for status seat.front) = ap (λ (b : Bytes). length b) text in
    let left : before ≡ length (first_interim c) = interims.same in
    let few : length (first_interim c) ≤ 25 = interim_few i (first_interim c) interims.shown in record {
      hung_up = shows.hung_up;
      mark = shows.mark;
      heard = dropped.heard;
      body = dropped.body;
      over = dropped.over;
      front = shows.front;
      body_left = refl;
      index = shows.index;
      stage = record { decision = refl; source = refl; begun = refl; says = (record { begun = refl; left = text; next = refl; end = refl }, refl, refl) };
      waits_on = shows.waits_on;
      fate = (refl, tt);
      asked = brought_anew c.front;
      piped = tt;
      given_up = shows.given_up;
      interim = interims.shown;
      before_body = omega (arith, left, len, short, few);
      closes = ap not ((fronts_read seat.front c.front shows.front).keeps status);
    }

-- ---- the seat of that client

abbrev interimed_by : Bool → Seat → Seat
interimed_by b seat = elim b [
  | true ↦ record seat { client = record seat.client { reply = interim_on seat.client.reply }; before_body = min (seat.before_body + 25) (2 ^ 64 - 1) }
  | false ↦ seat
]

same_id : (seat : Seat) (b : Bool) → (interimed_by b seat).client.id ≡ seat.client.id
same_id seat true = refl
same_id seat false = refl

same_closing : (seat : Seat) (b : Bool) → (interimed_by b seat).is_closing ≡ seat.is_closing
same_closing seat true = refl
same_closing seat false = refl

abbrev begins_with : Seat → Bool
begins_with seat = expects_in (asked_in seat.front) && is_undecided_in seat.stage && may_interim seat.client.reply

pub pages : PagesAreTheLaws
pages number status account name owed seat c shows going may has short = record {
  number = same_id seat (begins_with seat) ∙ shows.number;
  closing = same_closing seat (begins_with seat) ∙ shows.closing;
  going = λ still.
      behind_interim number name owed seat c (refused_with status c) (λ x. record (paged status x) { account = account }) (shows.going going) may
      (λ i before interims. page_shows number status account name owed seat c i before (shows.going going) has short interims);
}

-- ---- an exchange

course_kept : (number : ℕ → ℕ) (name : Bytes) (owed : List Bytes) (said : Said) (course : SeatCourse) (brought : SeatBrought) (c : Client) → ShowsFate number name owed said course brought c → is_refused_in brought ≡ false → course_of course ≡ c.course
course_kept number name owed said course Refused c shows isnt = absurd (cc isnt)
course_kept number name owed said course NoneYet c shows isnt = shows.0
course_kept number name owed said course NoneOfUse c shows isnt = shows.0
course_kept number name owed said course (JoinsRow id plain) c shows isnt = shows.0
course_kept number name owed said course (PassesOn x) c shows isnt = shows.0
course_kept number name owed said course IsTooWide c shows isnt = shows.0

abbrev stage_by : Bool → Stage
stage_by b = elim b [ true ↦ Passing | false ↦ Waiting ]

stage_asked : (number : ℕ → ℕ) (said : Said) (b : Bool) → said.stage ≡ Due → ShowsStage number said (asked_stage b) (stage_by b)
stage_asked number said true due = due
stage_asked number said false due = due

stage_left : (b : Bool) → head_left (reply_in (stage_by b)) ≡ 0
stage_left true = refl
stage_left false = refl

asks_show : (number : ℕ → ℕ) (d : Decision) (name : Bytes) (owed : List Bytes) (seat : Seat) (c : Client) (i : Interim) (before : ℕ) → ShowsOpen number name owed seat c → MayBeDecided seat c → is_refused_in seat.brought ≡ false → IsInterim seat (first_interim c) i before
    → ShowsOpen number name owed (asking (is_pass d) (interimed i before seat)) (asking_with d c)
asks_show number d name owed seat c i before shows may isnt interims =
    let due : seat.client.reply.stage ≡ Due = due_now number name owed seat c shows may.unbegun in
    let left : before ≡ length (first_interim c) = interims.same in
    let none : head_left (reply_in (stage_by (is_pass d))) ≡ 0 = stage_left (is_pass d) in record {
      hung_up = shows.hung_up;
      mark = shows.mark;
      heard = shows.heard;
      body = shows.body;
      over = shows.over;
      front = shows.front;
      body_left = shows.body_left;
      index = shows.index;
      stage = stage_asked number (record seat.client.reply { interim = i }) (is_pass d) due;
      waits_on = shows.waits_on;
      fate = (course_kept number name owed seat.client.reply seat.course seat.brought c shows.fate isnt, tt);
      asked = brought_anew c.front;
      piped = subst (λ (s : SaidStage). IsPipedFor s NoneYet) (sym due) tt;
      given_up = shows.given_up;
      interim = interims.shown;
      before_body = omega (arith, left, none);
      closes = shows.closes;
    }

pub asks : AsksAreTheLaws
asks number d name owed seat c shows going may isnt = record {
  number = same_id seat (begins_with seat) ∙ shows.number;
  closing = same_closing seat (begins_with seat) ∙ shows.closing;
  going = λ still.
      behind_interim number name owed seat c (asking_with d c) (λ x. asking (is_pass d) x) (shows.going going) may (λ i before interims. asks_show number d name owed seat c i before (shows.going going) may isnt interims);
}

-- ---- a reply by the row

abbrev decided_as : Bytes → Stage → Bool → Client → Client
decided_as left stage closes c = record c { interim_left = left; stage = stage; closes = closes }

brought_on : (number : ℕ → ℕ) (name : Bytes) (said : Said) (i : Interim) (front : Front) (brought : SeatBrought) (other : Brought) → ShowsBrought number name said front brought other → ShowsBrought number name (record said { interim = i }) front brought other
brought_on number name said i front brought other shows = brought_kept number name said (record said { interim = i }) front brought other refl (λ x p kept. head_kept name said.stage said i front x p kept) shows

fate_on : (number : ℕ → ℕ) (name : Bytes) (owed : List Bytes) (said : Said) (i : Interim) (course : SeatCourse) (brought : SeatBrought) (c : Client) (left : Bytes) (stage : Stage) (closes : Bool) → ShowsFate number name owed said course brought c → is_refused_in brought ≡ false
    → ShowsFate number name owed (record said { interim = i }) course brought (decided_as left stage closes c)
fate_on number name owed said i course Refused c left stage closes shows isnt = absurd (cc isnt)
fate_on number name owed said i course NoneYet c left stage closes shows isnt = (shows.0, brought_on number name said i c.front NoneYet c.brought shows.1)
fate_on number name owed said i course NoneOfUse c left stage closes shows isnt = (shows.0, brought_on number name said i c.front NoneOfUse c.brought shows.1)
fate_on number name owed said i course (JoinsRow id plain) c left stage closes shows isnt = (shows.0, brought_on number name said i c.front (JoinsRow id plain) c.brought shows.1)
fate_on number name owed said i course (PassesOn x) c left stage closes shows isnt = (shows.0, brought_on number name said i c.front (PassesOn x) c.brought shows.1)
fate_on number name owed said i course IsTooWide c left stage closes shows isnt = (shows.0, brought_on number name said i c.front IsTooWide c.brought shows.1)

answers_show : (number : ℕ → ℕ) (d : Decision) (source : Option ObjectId) (name : Bytes) (owed : List Bytes) (seat : Seat) (c : Client) (i : Interim) (before : ℕ) → ShowsOpen number name owed seat c → MayBeDecided seat c → is_refused_in seat.brought ≡ false
    → IsInterim seat (first_interim c) i before → ShowsOpen number name owed (answering d source (span_of d) (interimed i before seat)) (answering_with (reply_by d (source_number number source)) c)
answers_show number d source name owed seat c i before shows may isnt interims =
    let due : seat.client.reply.stage ≡ Due = due_now number name owed seat c shows may.unbegun in
    let left : before ≡ length (first_interim c) = interims.same in
    let a : Answer = record { decision = d; source = source; from = (span_of d).0; to = (span_of d).1; has_begun = false } in
    let r : Reply = reply_by d (source_number number source) in record {
      hung_up = shows.hung_up;
      mark = shows.mark;
      heard = shows.heard;
      body = shows.body;
      over = shows.over;
      front = shows.front;
      body_left = shows.body_left;
      index = shows.index;
      stage = record {
        decision = refl;
        source = refl;
        begun = refl;
        says = subst (λ (s : SaidStage). ShowsSaid s seat.client.reply.text a r) (sym due) (record { due = refl; left = refl; from = refl; to = refl });
      };
      waits_on = shows.waits_on;
      fate = fate_on number name owed seat.client.reply i seat.course seat.brought c (first_interim c) (Answering r) (not (keeps_after 200 c.front)) shows.fate isnt;
      asked = shows.asked;
      piped = shows.piped;
      given_up = shows.given_up;
      interim = interims.shown;
      before_body = omega (arith, left);
      closes = ap not ((fronts_read seat.front c.front shows.front).keeps 200);
    }

pub answers : AnswersAreTheLaws
answers number d source name owed seat c shows going may isnt = record {
  number = same_id seat (begins_with seat) ∙ shows.number;
  closing = same_closing seat (begins_with seat) ∙ shows.closing;
  going = λ still.
      behind_interim number name owed seat c (answering_with (reply_by d (source_number number source)) c) (λ x. answering d source (span_of d) x) (shows.going going) may
      (λ i before interims. answers_show number d source name owed seat c i before (shows.going going) may isnt interims);
}
