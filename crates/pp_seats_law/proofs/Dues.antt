-- What is due of a seat is what is due of its client.
use Rattle.std.proofs.Common.{◌≡◌, ◌⊎◌, inl, inr, refl, sym, ap, ap₂, ◌∙◌, ℕ, ◌-◌, ◌≤◌, nat_lt, nat_le, min, length, take, length-take, is_some, arith, Bool, true, false, not, ◌&&◌, ◌||◌, find, List, [], ◌∷◌, Option, Some, None, option_map}
use Rattle.std.proofs.lemmas.Bool.Decides.{nat_tests}
use Rattle.pp_client.specs.Bodies.{unread}
use Rattle.pp_client.specs.Replies.{Reply as Said}
use Rattle.pp_client.specs.Requests.{body_in}
use Rattle.pp_client.specs.declared.body.Body.{Body}
use Rattle.pp_client.specs.declared.body.Body.TheVariants.{Unread, Dropped, Over}
use Rattle.pp_world.specs.declared.note.Cause.{Cause}
use Rattle.pp_world.specs.declared.note.Cause.TheVariants.{Superseded, Origin, Short as ShortOf, Idle, Stop}
use Rattle.pp_world.specs.declared.note.Decision.{Decision}
use Rattle.pp_world.specs.declared.note.Decision.TheVariants.{Refuse, Hit, Part, Head, NotModified, Unsatisfiable, Relay, Validate, Fetch, Pass}
use Rattle.pp_law.specs.Connections.{is_trying}
use Rattle.pp_law.specs.Decisions.{decide}
use Rattle.pp_law.specs.Due.{Due, Decide, CutOff, cut_in, due_by_stage, give_up, has_lost_row, is_dry, is_idle, is_short, is_superseded, is_told}
use Rattle.pp_law.specs.Lists.{Bytes, is_some_with}
use Rattle.pp_law.specs.Offers.{has_to_say}
use Rattle.pp_law.specs.Requests.{Front, has_request}
use Rattle.pp_law.specs.Sharing.{due_undecided, is_patient, may_share, shared_ask}
use Rattle.pp_law.specs.Stages.{is_begun, is_followed_by, is_page, passed_of}
use Rattle.pp_law.specs.State.{State, Client, Course, RowRefused, Passed, Reply, Shared, Stage, Undecided, Waiting, Passing, Answering}
use Rattle.pp_law.specs.Table.{source_of}
use Rattle.pp_seats.specs.declared.front.Front.{Front as SeatFront}
use Rattle.pp_seats.specs.declared.seat.Brought.{Brought as SeatBrought}
use Rattle.pp_seats.specs.declared.seat.Brought.TheVariants.{Awaited as NoneYet, Useless as NoneOfUse, Joins as JoinsRow, Passes as PassesOn, TooWide as IsTooWide, Refused}
use Rattle.pp_seats.specs.declared.seat.Course.{Course as SeatCourse}
use Rattle.pp_seats.specs.declared.seat.Course.TheVariants.{Trying as IsTrying, OutOfTries as IsOut, AskTooLong as IsTooLong}
use Rattle.pp_seats.specs.declared.seat.Passed.{Passed as SeatPassed}
use Rattle.pp_seats.specs.declared.seat.PassedEnd.{PassedEnd}
use Rattle.pp_seats.specs.declared.seat.PassedEnd.TheVariants.{Coming, Whole, Short}
use Rattle.pp_seats.specs.declared.seat.Seat.{Seat}
use Rattle.pp_seats.specs.declared.seat.Shared.{Shared as SeatShared}
use Rattle.pp_seats.specs.declared.seat.Stage.{Stage as SeatStage}
use Rattle.pp_seats.specs.declared.seat.Stage.TheVariants.{Undecided as IsUndecided, Waiting as IsWaiting, Passing as IsPassing, Answering as IsAnswering}
use Rattle.pp_seats.specs.Follows.{answer_in}
use Rattle.pp_seats.specs.Courses.{has_begun, is_trying_in}
use Rattle.pp_seats.specs.Dues.{by_stage_in, decision_in, due_in, ends_short, follows, give_up_in, is_end_short, is_idle_in, is_refused_in, is_short_in, lost_in, may_share as may_share_in, undecided_in}
use Rattle.pp_seats.specs.Heads.{is_there_in}
use Rattle.pp_seats.specs.Seats.{is_told_in, passed_in}
use Rattle.pp_seats_law.specs.Dues.{CutIsTheLaws, DecisionIsTheLaws, DueIsTheLaws, FinishedIsTheLaws, LostIsTheLaws, SharingIsTheLaws, WaitingIsTheLaws, cut_of, due_as, has_lost_its_row, still_waits_in, waits_on_still}
use Rattle.pp_seats_law.specs.Fronts.{ShowsBody, ShowsFront}
use Rattle.pp_seats_law.specs.Replies.{IsOwed, IsRefusedRow, ShowsFate, ShowsStage, course_of, shared_of}
use Rattle.pp_seats_law.specs.Seats.{ShowsOpen}
use Rattle.pp_seats_law.specs.Words.{ShowsMaybePassed}
use Rattle.pp_seats_law.proofs.Fronts.{fronts_read}
use Rattle.pp_seats_law.proofs.Nexts.{reply_in}
use Rattle.pp_seats_law.proofs.Stages.{begun, passed, told}

-- ---- it waits

waits_same : (begun page : Bool) → (not begun && not page) ≡ not (begun || page)
waits_same true page = refl
waits_same false page = refl

stage_waits : (number : ℕ → ℕ) (said : Said) (stage : SeatStage) (other : Stage) → ShowsStage number said stage other
    → still_waits_in stage ≡ (elim other as (λ c. Bool) [ Undecided ↦ false | Waiting ↦ true | Passing ↦ false | Answering r ↦ not (r.has_begun || is_page r.decision) ])
stage_waits number said IsUndecided Undecided shows = refl
stage_waits number said IsWaiting Waiting shows = refl
stage_waits number said IsPassing Passing shows = refl
stage_waits number said (IsAnswering a) (Answering r) shows = ap₂ (λ (b : Bool) (d : Decision). not b && not (is_page d)) shows.begun shows.decision ∙ waits_same r.has_begun (is_page r.decision)
stage_waits number said stage other shows = absurd shows

pub waiting : WaitingIsTheLaws
waiting number name owed seat c shows = stage_waits number seat.client.reply seat.stage c.stage shows.stage

-- ---- decisions

give_up_same : (course : SeatCourse) (other : Option Decision) → give_up_in course other ≡ give_up (course_of course) other
give_up_same (IsTrying n) other = refl
give_up_same IsOut other = refl
give_up_same IsTooLong other = refl

-- the law's, by its parts
abbrev reply_due : Bool → Course → Bool → Option Decision → Option Decision
reply_due begun course lost decided = elim begun [ true ↦ None | false ↦ give_up course (elim lost [ true ↦ decided | false ↦ None ]) ]

abbrev stage_due : (Reply → Bool) → Stage → Course → Bool → Option Decision → Option Decision → Option Decision
stage_due lost stage course told undecided decided = elim stage [
  | Undecided ↦ undecided
  | Waiting ↦ give_up course (elim told [ true ↦ decided | false ↦ None ])
  | Passing ↦ give_up course None
  | Answering r ↦ reply_due r.has_begun course (lost r) decided
]

stage_decision : (number : ℕ → ℕ) (lost : Reply → Bool) (said : Said) (stage : SeatStage) (other : Stage) (course : SeatCourse) (came : Bool) (undecided decided : Option Decision) → ShowsStage number said stage other
    → by_stage_in stage course came (is_some_with lost (reply_in other)) undecided decided ≡ stage_due lost other (course_of course) came undecided decided
stage_decision number lost said IsUndecided Undecided course came undecided decided shows = refl
stage_decision number lost said IsWaiting Waiting course came undecided decided shows = give_up_same course (elim came as (λ c. Option Decision) [ true ↦ decided | false ↦ None ])
stage_decision number lost said IsPassing Passing course came undecided decided shows = give_up_same course None
stage_decision number lost said (IsAnswering a) (Answering r) course came undecided decided shows =
    ap₂ (λ (b : Bool) (o : Option Decision). elim b as (λ c. Option Decision) [ true ↦ None | false ↦ o ]) shows.begun (give_up_same course (elim (lost r) as (λ c. Option Decision) [ true ↦ decided | false ↦ None ]))
stage_decision number lost said stage other course came undecided decided shows = absurd shows

-- one that waits for a row that memory was refused for
stage_refused : (lost : Reply → Bool) (stage : Stage) (told : Bool) (undecided decided : Option Decision)
    → (elim stage as (λ c. Bool) [ Undecided ↦ false | Waiting ↦ true | Passing ↦ false | Answering r ↦ not (r.has_begun || is_page r.decision) ]) ≡ true → Some (Refuse 500) ≡ stage_due lost stage RowRefused told undecided decided
stage_refused lost Undecided told undecided decided waits = absurd (cc waits)
stage_refused lost Waiting told undecided decided waits = refl
stage_refused lost Passing told undecided decided waits = absurd (cc waits)
stage_refused lost (Answering r) told undecided decided waits = by r.has_begun (is_page r.decision) (lost r) waits
  where
    by : (begun page b : Bool) → not (begun || page) ≡ true → Some (Refuse 500) ≡ reply_due begun RowRefused b decided
    by true page b is = absurd (cc is)
    by false page b is = refl

none_owed : (front : Front) → IsOwed [] front → ⊥
none_owed front owed = let e : false ≡ true = owed.is_owed in absurd (cc e)

refused_course : (c : Client) → IsRefusedRow [] c → c.course ≡ RowRefused
refused_course c shows = by shows.refused
  where
    by : (c.course ≡ RowRefused) ⊎ IsOwed [] c.front → c.course ≡ RowRefused
    by (inl is) = is
    by (inr owed) = absurd (none_owed c.front owed)

-- what a seat decides that shows this client, with a row or without
abbrev decided_by : SeatStage → SeatCourse → SeatBrought → Bool → Option Decision → Option Decision → Option Decision
decided_by stage course brought lost undecided decided = elim (is_refused_in brought) [ true ↦ Some (Refuse 500) | false ↦ by_stage_in stage course (is_told_in brought) lost undecided decided ]

fate_decision : (number : ℕ → ℕ) (lost : Reply → Bool) (said : Said) (stage : SeatStage) (course : SeatCourse) (brought : SeatBrought) (c : Client) (undecided decided : Option Decision) (name : Bytes) → ShowsStage number said stage c.stage
    → ShowsFate number name [] said course brought c → is_told_in brought ≡ is_told c.brought
    → decided_by stage course brought (is_some_with lost (reply_in c.stage)) undecided decided ≡ stage_due lost c.stage c.course (is_told c.brought) undecided decided
fate_decision number lost said stage course Refused c undecided decided name at shows same =
    stage_refused lost c.stage (is_told c.brought) undecided decided shows.waits
    ∙ ap (λ (x : Course). stage_due lost c.stage x (is_told c.brought) undecided decided) (sym (refused_course c shows))
fate_decision number lost said stage course NoneYet c undecided decided name at shows same =
    stage_decision number lost said stage c.stage course false undecided decided at ∙ ap₂ (λ (x : Course) (b : Bool). stage_due lost c.stage x b undecided decided) shows.0 same
fate_decision number lost said stage course NoneOfUse c undecided decided name at shows same =
    stage_decision number lost said stage c.stage course true undecided decided at ∙ ap₂ (λ (x : Course) (b : Bool). stage_due lost c.stage x b undecided decided) shows.0 same
fate_decision number lost said stage course (JoinsRow id plain) c undecided decided name at shows same =
    stage_decision number lost said stage c.stage course true undecided decided at ∙ ap₂ (λ (x : Course) (b : Bool). stage_due lost c.stage x b undecided decided) shows.0 same
fate_decision number lost said stage course (PassesOn x) c undecided decided name at shows same =
    stage_decision number lost said stage c.stage course true undecided decided at ∙ ap₂ (λ (x : Course) (b : Bool). stage_due lost c.stage x b undecided decided) shows.0 same
fate_decision number lost said stage course IsTooWide c undecided decided name at shows same =
    stage_decision number lost said stage c.stage course true undecided decided at ∙ ap₂ (λ (x : Course) (b : Bool). stage_due lost c.stage x b undecided decided) shows.0 same

pub decisions : DecisionIsTheLaws
decisions number s name seat c shows =
    fate_decision number (has_lost_row s) seat.client.reply seat.stage seat.course seat.brought c (due_undecided s c) (decide s c) name shows.stage shows.fate (told number name [] seat c shows)

-- ---- what is shared, and lost

same_follows : (d : Decision) → follows d ≡ is_followed_by d
same_follows (Refuse status) = refl
same_follows (Hit from to) = refl
same_follows (Part from to) = refl
same_follows Head = refl
same_follows NotModified = refl
same_follows Unsatisfiable = refl
same_follows Relay = refl
same_follows Validate = refl
same_follows Fetch = refl
same_follows Pass = refl

stage_lost : (number : ℕ → ℕ) (s : State) (said : Said) (stage : SeatStage) (other : Stage) → ShowsStage number said stage other
    → lost_in (answer_in stage) (is_some_with (λ r. is_some_with (λ x. not x.is_retired) (source_of s r)) (reply_in other)) ≡ is_some_with (has_lost_row s) (reply_in other)
stage_lost number s said IsUndecided Undecided shows = refl
stage_lost number s said IsWaiting Waiting shows = refl
stage_lost number s said IsPassing Passing shows = refl
stage_lost number s said (IsAnswering a) (Answering r) shows =
    ap (λ (b : Bool). b && not (is_some_with (λ x. not x.is_retired) (source_of s r))) (same_follows a.decision ∙ ap is_followed_by shows.decision)
stage_lost number s said stage other shows = absurd shows

pub lost : LostIsTheLaws
lost s number name owed seat c shows = stage_lost number s seat.client.reply seat.stage c.stage shows.stage

-- the law's, by its parts
abbrev first_due_by : Bool → Bool → Option Decision → Option Decision
first_due_by shares asked decided = elim decided [ None ↦ None | Some d ↦ elim (shares && may_share d && asked) [ true ↦ None | false ↦ Some d ] ]

abbrev shared_due : State → Option Shared → Bool → Bool → Option Decision → Option Decision
shared_due s waits shares asked decided = elim waits [ Some w ↦ elim (is_patient s w) [ true ↦ None | false ↦ decided ] | None ↦ first_due_by shares asked decided ]

same_share : (d : Decision) → may_share_in d ≡ may_share d
same_share (Refuse status) = refl
same_share (Hit from to) = refl
same_share (Part from to) = refl
same_share Head = refl
same_share NotModified = refl
same_share Unsatisfiable = refl
same_share Relay = refl
same_share Validate = refl
same_share Fetch = refl
same_share Pass = refl

shared_by : (s : State) (waits : Option SeatShared) (shares asked : Bool) (decided : Option Decision)
    → undecided_in waits (waits_on_still s waits) shares asked decided ≡ shared_due s (option_map shared_of waits) shares asked decided
shared_by s (Some w) shares asked decided = refl
shared_by s None shares asked None = refl
shared_by s None shares asked (Some d) = ap (λ (b : Bool). elim (shares && b && asked) as (λ c. Option Decision) [ true ↦ None | false ↦ Some d ]) (same_share d)

pub sharing : SharingIsTheLaws
sharing s number name owed seat c shows =
    shared_by s seat.waits_on s.settings.shares_fetches (is_some (shared_ask s c)) (decide s c)
    ∙ ap (λ (waits : Option Shared). shared_due s waits s.settings.shares_fetches (is_some (shared_ask s c)) (decide s c)) shows.waits_on

-- ---- the end of a client that sends no more

same_there : (front : SeatFront) (f : Front) → ShowsFront front f → is_there_in front ≡ has_request f
same_there front f shows = (fronts_read front f shows).there

less_same : (m n left : ℕ) (t u : Bool) → left ≤ n → nat_lt (min n m) left ≡ t → nat_lt m left ≡ u → t ≡ u
less_same m n left true true few first second = refl
less_same m n left false false few first second = refl
less_same m n left true false few first second = absurd (grind (arith, nat_tests))
less_same m n left false true few first second = absurd (grind (arith, nat_tests))

-- of the body no more is there than was heard
short_body : (body : Body) (rest : Bytes) (left skip : ℕ) → ShowsBody body left skip → nat_lt (length (take (unread body) rest)) left ≡ nat_lt (length rest) left
short_body body rest left skip shows =
    ap (λ (m : ℕ). nat_lt m left) (length-take (unread body) rest) ∙ less_same (length rest) (unread body) left (nat_lt (min (unread body) (length rest)) left) (nat_lt (length rest) left) (few body left skip shows) refl refl
  where
    few : (body : Body) (left skip : ℕ) → ShowsBody body left skip → left ≤ unread body
    few (Unread n) left skip shows = let is = shows.0 in omega (arith, is)
    few (Dropped n) left skip shows = let is = shows.0 in omega (arith, is)
    few Over left skip shows = let is = shows.0 in omega (arith, is)

both_closing : (a b v w x y : Bool) → a ≡ b → (b ≡ false → v ≡ w) → (b ≡ false → x ≡ y) → (v && not a && x) ≡ (w && not b && y)
both_closing true true true true x y same first second = refl
both_closing true true true false x y same first second = refl
both_closing true true false true x y same first second = refl
both_closing true true false false x y same first second = refl
both_closing false false v w x y same first second = ap₂ (λ (s t : Bool). s && true && t) (first refl) (second refl)
both_closing true false v w x y same first second = absurd (cc same)
both_closing false true v w x y same first second = absurd (cc same)

left_over : (number : ℕ → ℕ) (name : Bytes) (owed : List Bytes) (seat : Seat) (c : Client) → ShowsOpen number name owed seat c
    → (not (is_there_in seat.front) || nat_lt (length (body_in seat.client.heard)) seat.body_left) ≡ (not (has_request c.front) || nat_lt (length c.heard) c.body_left)
left_over number name owed seat c shows =
    ap₂ (λ (a b : Bool). not a || b) (same_there seat.front c.front shows.front)
    (ap (λ (n : ℕ). nat_lt (length (body_in seat.client.heard)) n) shows.body_left ∙ short_body seat.client.heard.body seat.client.heard.rest c.body_left c.skip shows.body
    ∙ ap (λ (bytes : Bytes). nat_lt (length bytes) c.body_left) shows.heard.behind)

pub finished : FinishedIsTheLaws
finished number name owed seat c shows =
    both_closing seat.is_closing c.is_closing seat.has_hung_up c.has_hung_up (not (is_there_in seat.front) || nat_lt (length (body_in seat.client.heard)) seat.body_left)
    (not (has_request c.front) || nat_lt (length c.heard) c.body_left) shows.closing (λ going. (shows.going going).hung_up) (λ going. left_over number name owed seat c (shows.going going))

-- ---- cuts

trying_same : (course : SeatCourse) → is_trying_in course ≡ is_trying (course_of course)
trying_same (IsTrying n) = refl
trying_same IsOut = refl
trying_same IsTooLong = refl

-- one that is in the midst of a reply waits no more
no_waiting : (stage : Stage) → (elim stage as (λ c. Bool) [ Undecided ↦ false | Waiting ↦ true | Passing ↦ false | Answering r ↦ not (r.has_begun || is_page r.decision) ]) ≡ true
    → is_some_with (λ r. r.has_begun) (reply_in stage) ≡ true → ⊥
no_waiting Undecided waits is = absurd (cc waits)
no_waiting Waiting waits is = absurd (cc is)
no_waiting Passing waits is = absurd (cc waits)
no_waiting (Answering r) waits is = by r.has_begun (is_page r.decision) waits is
  where
    by : (begun page : Bool) → not (begun || page) ≡ true → begun ≡ true → ⊥
    by true page waits is = absurd (cc waits)
    by false page waits is = absurd (cc is)

fate_trying : (number : ℕ → ℕ) (name : Bytes) (said : Said) (course : SeatCourse) (brought : SeatBrought) (c : Client) → ShowsFate number name [] said course brought c → is_begun c ≡ true → is_trying_in course ≡ is_trying c.course
fate_trying number name said course Refused c shows is = absurd (no_waiting c.stage shows.waits is)
fate_trying number name said course NoneYet c shows is = trying_same course ∙ ap is_trying shows.0
fate_trying number name said course NoneOfUse c shows is = trying_same course ∙ ap is_trying shows.0
fate_trying number name said course (JoinsRow id plain) c shows is = trying_same course ∙ ap is_trying shows.0
fate_trying number name said course (PassesOn x) c shows is = trying_same course ∙ ap is_trying shows.0
fate_trying number name said course IsTooWide c shows is = trying_same course ∙ ap is_trying shows.0

short_end_by : (finished short : Bool)
    → ends_short (elim finished as (λ c. PassedEnd) [ true ↦ Whole | false ↦ elim short as (λ c. PassedEnd) [ true ↦ Short | false ↦ Coming ] ]) ≡ (short && not finished)
short_end_by true true = refl
short_end_by true false = refl
short_end_by false true = refl
short_end_by false false = refl

short_same : (name : Bytes) (said : Said) (front : Front) (x : Option SeatPassed) (p : Option Passed) → ShowsMaybePassed name said front x p
    → is_end_short x ≡ is_some_with (λ q. q.is_short && not q.pipe.is_finished) p
short_same name said front None None shows = refl
short_same name said front (Some x) (Some p) shows = ap ends_short shows.end ∙ short_end_by p.pipe.is_finished p.is_short
short_same name said front x p shows = absurd shows

swapped : (a b : Bool) → (a && b) ≡ (b && a)
swapped true true = refl
swapped true false = refl
swapped false true = refl
swapped false false = refl

turned : (a b c : Bool) → (a && b && c) ≡ ((a && c) && b)
turned true b c = swapped b c
turned false b c = refl

guarded : (a x y : Bool) → (a ≡ true → x ≡ y) → (a && x) ≡ (a && y)
guarded true x y same = same refl
guarded false x y same = refl

-- the first that applies
first_cause : (a b c d e : Bool)
    → (elim a as (λ x. Option Cause) [
      | true ↦ Some Stop
      | false ↦ elim b as (λ x. Option Cause) [
        | true ↦ Some ShortOf
        | false ↦ elim c as (λ x. Option Cause) [
          | true ↦ Some Origin
          | false ↦
              elim d as (λ x. Option Cause) [ true ↦ Some Superseded | false ↦ elim e as (λ x. Option Cause) [ true ↦ Some Idle | false ↦ None ] ]
        ]
      ]
    ])
    ≡ option_map (λ (x : Bool × Cause). x.1) (find (λ (x : Bool × Cause). x.0) ((a, Stop) ∷ (b, ShortOf) ∷ (c, Origin) ∷ (d, Superseded) ∷ (e, Idle) ∷ []))
first_cause true b c d e = refl
first_cause false true c d e = refl
first_cause false false true d e = refl
first_cause false false false true e = refl
first_cause false false false false true = refl
first_cause false false false false false = refl

abbrev pub cause_by : Bool → Bool → Bool → Bool → Bool → Option Cause
cause_by a b c d e =
    elim a [ true ↦ Some Stop | false ↦ elim b [ true ↦ Some ShortOf | false ↦ elim c [ true ↦ Some Origin | false ↦ elim d [ true ↦ Some Superseded | false ↦ elim e [ true ↦ Some Idle | false ↦ None ] ] ] ] ]

same_causes : (a b c d e v w x y z : Bool) → a ≡ v → b ≡ w → c ≡ x → d ≡ y → e ≡ z → cause_by a b c d e ≡ cause_by v w x y z
same_causes a b c d e v w x y z first second third fourth fifth =
    ap (λ (t : Bool). cause_by t b c d e) first ∙ ap (λ (t : Bool). cause_by v t c d e) second ∙ ap (λ (t : Bool). cause_by v w t d e) third
    ∙ ap (λ (t : Bool). cause_by v w x t e) fourth ∙ ap (λ (t : Bool). cause_by v w x y t) fifth

pub cuts : CutIsTheLaws
cuts number s name seat c shows =
    let is : has_begun seat ≡ is_begun c = begun number name [] seat c shows in
    let dry = not (has_to_say s c) in
    let short : is_short_in seat.brought ≡ is_short c = short_same name seat.client.reply c.front (passed_in seat.brought) (passed_of c) (passed number name [] seat c shows) in
    same_causes
    (has_begun seat && s.is_stopped) (has_begun seat && is_short_in seat.brought && dry) (has_begun seat && not (is_trying_in seat.course) && dry) (has_begun seat && is_superseded s c) (is_idle_in s.is_ticked s.clock seat)
    (s.is_stopped && is_begun c) (is_dry s c && is_short c) (is_dry s c && not (is_trying c.course)) (is_begun c && is_superseded s c) (is_idle s c)
    (ap (λ (b : Bool). b && s.is_stopped) is ∙ swapped (is_begun c) s.is_stopped)
    (ap₂ (λ (a b : Bool). a && b && dry) is short ∙ turned (is_begun c) (is_short c) dry)
    (ap (λ (b : Bool). b && dry)
    (ap (λ (b : Bool). b && not (is_trying_in seat.course)) is
    ∙ guarded (is_begun c) (not (is_trying_in seat.course)) (not (is_trying c.course)) (λ there. ap not (fate_trying number name seat.client.reply seat.course seat.brought c shows.fate there)))
    ∙ turned (is_begun c) (not (is_trying c.course)) dry)
    (ap (λ (b : Bool). b && is_superseded s c) is)
    (ap₂ (λ (b : Bool) (n : ℕ). s.is_ticked && nat_le (elim b as (λ x. ℕ) [ true ↦ 900 | false ↦ 120 ]) (s.clock - n)) is shows.mark)
    ∙ first_cause (s.is_stopped && is_begun c) (is_dry s c && is_short c) (is_dry s c && not (is_trying c.course)) (is_begun c && is_superseded s c) (is_idle s c)

-- ---- both

abbrev due_by : Bool → Bool → ℕ → ℕ → Option Cause → Option Decision → Option Due
due_by closing stopped n i cut decision = option_map (due_as n i) (due_in closing stopped cut decision)

abbrev law_due : Bool → Bool → ℕ → ℕ → Option Cause → Option Decision → Option Due
law_due closing stopped n i cut decision = elim (elim closing as (λ c. Option Cause) [ true ↦ None | false ↦ cut ]) [
  | Some cause ↦ Some (CutOff n cause)
  | None ↦ elim (elim (closing || stopped) as (λ c. Option Decision) [ true ↦ None | false ↦ decision ]) [ Some d ↦ Some (Decide n i d) | None ↦ None ]
]

same_due : (closing stopped : Bool) (n i : ℕ) (cut : Option Cause) (decision : Option Decision) → due_by closing stopped n i cut decision ≡ law_due closing stopped n i cut decision
same_due true stopped n i cut decision = refl
same_due false stopped n i (Some cause) decision = refl
same_due false true n i None decision = refl
same_due false false n i None None = refl
same_due false false n i None (Some d) = refl

-- of one that is closing neither is read
closing_due : (a b stopped : Bool) (n i j : ℕ) (cut other : Option Cause) (decision then : Option Decision) → a ≡ b → (b ≡ false → cut ≡ other) → (b ≡ false → decision ≡ then) → (b ≡ false → i ≡ j)
    → due_by a stopped n i cut decision ≡ due_by b stopped n j other then
closing_due true true stopped n i j cut other decision then same cuts decisions index = refl
closing_due false false stopped n i j cut other decision then same cuts decisions index =
    ap₂ (λ (x : Option Cause) (y : Option Decision). due_by false stopped n i x y) (cuts refl) (decisions refl) ∙ ap (λ (m : ℕ). due_by false stopped n m other then) (index refl)
closing_due true false stopped n i j cut other decision then same cuts decisions index = absurd (cc same)
closing_due false true stopped n i j cut other decision then same cuts decisions index = absurd (cc same)

pub dues : DueIsTheLaws
dues number s name seat c shows =
    closing_due seat.is_closing c.is_closing s.is_stopped seat.client.id seat.index c.index (cut_of s seat c) (cut_in s c) (decision_in seat (has_lost_its_row s c) (due_undecided s c) (decide s c)) (due_by_stage s c) shows.closing
    (λ going. cuts number s name seat c (shows.going going)) (λ going. decisions number s name seat c (shows.going going)) (λ going. (shows.going going).index)
    ∙ ap (λ (n : ℕ). due_by c.is_closing s.is_stopped n c.index (cut_in s c) (due_by_stage s c)) shows.number
    ∙ same_due c.is_closing s.is_stopped c.number c.index (cut_in s c) (due_by_stage s c)
