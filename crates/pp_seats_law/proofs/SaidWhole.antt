-- All of a reply was said, and the next request stands, as the law says.
use Rattle.std.proofs.Common.{◌≡◌, ◌⊎◌, inl, inr, refl, sym, subst, ap, ap₂, ◌∙◌, ℕ, ◌-◌, ◌<◌, ◌≤◌, Bool, true, false, not, ◌==◌, ◌&&◌, ◌||◌, nat_le, List, [], length, Option, Some, None, arith}
use Rattle.std.proofs.lemmas.Bool.Decides.{nat_tests}
use Rattle.pp_text.specs.Bytes.{is_empty}
use Rattle.pp_client.specs.Clients.{Client as Side, said_by as side_said}
use Rattle.pp_client.specs.Replies.{Reply as Said, ended, interim_left, is_body_said, is_said, said}
use Rattle.pp_client.specs.Requests.{answered}
use Rattle.pp_client.specs.declared.interim.Interim.{Interim}
use Rattle.pp_client.specs.declared.reply.Begin.{Begin}
use Rattle.pp_client.specs.declared.reply.Begin.TheVariants.{Page, Instance as OfInstance, Passed as IsPassed}
use Rattle.pp_client.specs.declared.reply.Stage.{Stage as SaidStage}
use Rattle.pp_client.specs.declared.reply.Stage.TheVariants.{Due, Begun}
use Rattle.pp_pass.specs.Pipe.{Pipe}
use Rattle.pp_law.specs.Lists.{Bytes, is_some_with}
use Rattle.pp_law.specs.Replies.{has_no_more, said_by}
use Rattle.pp_law.specs.Requests.{Front}
use Rattle.pp_law.specs.Stages.{is_passing, passed_of}
use Rattle.pp_law.specs.State.{Client, Passed, Reply, Stage, Undecided, Waiting, Passing, Answering, Brought, Awaited, Useless, Joins, Passes, TooWide}
use Rattle.pp_seats.specs.Accounts.{said as said_account}
use Rattle.pp_seats.specs.Seats.{IsRead, at_next_request}
use Rattle.pp_seats.specs.declared.seat.Answer.{Answer}
use Rattle.pp_seats.specs.declared.seat.Brought.{Brought as SeatBrought}
use Rattle.pp_seats.specs.declared.seat.Brought.TheVariants.{Passes as PassesOn}
use Rattle.pp_seats.specs.declared.seat.Course.{Course as SeatCourse}
use Rattle.pp_seats.specs.declared.seat.Passed.{Passed as SeatPassed}
use Rattle.pp_seats.specs.declared.seat.Seat.{Seat}
use Rattle.pp_seats.specs.declared.seat.Stage.{Stage as SeatStage}
use Rattle.pp_seats.specs.declared.seat.Stage.TheVariants.{Undecided as IsUndecided, Waiting as IsWaiting, Passing as IsPassing, Answering as IsAnswering}
use Rattle.pp_seats_law.specs.Reads.{answered_on}
use Rattle.pp_seats_law.specs.Replies.{IsPipedFor, ShowsBegin, ShowsBrought, ShowsFate, ShowsStage}
use Rattle.pp_seats_law.specs.Saying.{EndingsAreTheLaws, EndsAreTheSame}
use Rattle.pp_seats_law.proofs.Answered.{next_requests}
use Rattle.pp_seats_law.proofs.Nexts.{reply_in}
use Rattle.pp_seats_law.proofs.SaidOn.{IsToldBy, open_told, parts, told_with}
use Rattle.pp_seats_law.proofs.Uses.{interim_by, not_empty}

-- ---- the interim answer

nothing_empty : (left : Bytes) → left ≡ [] → is_empty left ≡ true
nothing_empty left is = ap is_empty is

some_left : (m : ℕ) → 0 < m → (m == 0) ≡ false
some_left m some = grind (arith, nat_tests)

interim_over : (i : Interim) (left : Bytes) → ((left ≡ []) × (interim_left i ≡ 0)) ⊎ ((length left ≡ interim_left i) × (0 < interim_left i)) → (interim_left i == 0) ≡ is_empty left
interim_over i left (inl over) = ap (λ (m : ℕ). m == 0) over.1 ∙ sym (nothing_empty left over.0)
interim_over i left (inr more) = let same = more.0 in let some = more.1 in some_left (interim_left i) some ∙ sym (not_empty left (omega (arith, same, some)))

-- ---- the body

both_le : (next to : ℕ) → next ≤ to → (b d : Bool) → nat_le to next ≡ b → (next == to) ≡ d → b ≡ d
both_le next to ordered true true first second = refl
both_le next to ordered false false first second = refl
both_le next to ordered true false first second = absurd (grind (arith, nat_tests))
both_le next to ordered false true first second = absurd (grind (arith, nat_tests))

-- the law's words of what is left of a reply
abbrev left_by : Bool → Bool → Option Passed → Bool
left_by at passing passed = at && (not passing || is_some_with (λ p. p.pipe.is_finished && is_empty p.pipe.bytes) passed)

same_number : (n : ℕ) → (n == n) ≡ true
same_number n = grind (arith, nat_tests)

and_true : (b : Bool) → (b && true) ≡ b
and_true true = refl
and_true false = refl

and_false : (b : Bool) → (b && false) ≡ false
and_false true = refl
and_false false = refl

-- what is passed stands in both pipes
abbrev passed_by : Brought → Option Passed
passed_by brought = elim brought [ Awaited ↦ None | Useless ↦ None | Joins id plain ↦ None | Passes p ↦ Some p | TooWide ↦ None ]

abbrev pipe_over : Pipe → Bool
pipe_over pipe = pipe.is_finished && is_empty pipe.bytes

brought_over : (number : ℕ → ℕ) (name : Bytes) (reply : Said) (front : Front) (x : SeatPassed) (other : Brought) → ShowsBrought number name reply front (PassesOn x) other → pipe_over reply.pipe ≡ is_some_with (λ p. p.pipe.is_finished && is_empty p.pipe.bytes) (passed_by other)
brought_over number name reply front x (Passes p) shows = ap pipe_over shows.pipe
brought_over number name reply front x other shows = absurd shows

piped_over : (number : ℕ → ℕ) (name : Bytes) (owed : List Bytes) (reply : Said) (course : SeatCourse) (brought : SeatBrought) (c : Client) → IsPipedFor (Begun IsPassed) brought → ShowsFate number name owed reply course brought c
    → pipe_over reply.pipe ≡ is_some_with (λ p. p.pipe.is_finished && is_empty p.pipe.bytes) (passed_of c)
piped_over number name owed reply course (PassesOn x) c piped shows = brought_over number name reply c.front x c.brought shows.1
piped_over number name owed reply course brought c piped shows = absurd piped

-- nothing of its body is left, by what its exchange brought
body_over : (b : Begin) (text : Bytes) (pipe : Pipe) (a : Answer) (r : Reply) (passed : Option Passed) → ShowsBegin b text a r → (b ≡ IsPassed → pipe_over pipe ≡ is_some_with (λ p. p.pipe.is_finished && is_empty p.pipe.bytes) passed)
    → is_body_said b pipe ≡ left_by (r.at == r.to) (is_passing r.decision) passed
body_over Page text pipe a r passed shows over = sym (ap₂ (λ (x y : Bool). left_by x y passed) (ap (λ (m : ℕ). m == r.to) shows.0.next ∙ same_number r.to) shows.2)
body_over (OfInstance id next to) text pipe a r passed shows over =
    both_le next to shows.4 (nat_le to next) (next == to) refl refl ∙ sym (and_true (next == to))
    ∙ sym (ap₂ (λ (x y : Bool). left_by x y passed) (ap₂ (λ (m k : ℕ). m == k) shows.0.next shows.0.end) shows.3)
body_over IsPassed text pipe a r passed shows over =
    over refl ∙ sym (ap₂ (λ (x y : Bool). left_by x y passed) (ap (λ (m : ℕ). m == r.to) shows.0.next ∙ same_number r.to) shows.2)

-- ---- all of it

begin_begun : (b : Begin) (text : Bytes) (a : Answer) (r : Reply) → ShowsBegin b text a r → a.has_begun ≡ true
begin_begun Page text a r shows = shows.0.begun
begin_begun (OfInstance id next to) text a r shows = shows.0.begun
begin_begun IsPassed text a r shows = shows.0.begun

begin_left : (b : Begin) (text : Bytes) (a : Answer) (r : Reply) → ShowsBegin b text a r → r.head_left ≡ text
begin_left Page text a r shows = shows.0.left
begin_left (OfInstance id next to) text a r shows = shows.0.left
begin_left IsPassed text a r shows = shows.0.left

abbrev over_of : Bool → Client → Option Reply → Bool
over_of none c reply = none && is_some_with (λ r. r.has_begun && is_empty r.head_left && has_no_more c r) reply

ends_by : (number : ℕ → ℕ) (name : Bytes) (owed : List Bytes) (seat : Seat) (c : Client) (i : Interim) (stage : SaidStage) (text : Bytes) (pipe : Pipe) (at : SeatStage) (other : Stage) → ShowsStage number (parts i stage text pipe) at other
    → (interim_left i == 0) ≡ is_empty c.interim_left → IsPipedFor stage seat.brought → ShowsFate number name owed (parts i stage text pipe) seat.course seat.brought c → is_said (parts i stage text pipe) ≡ over_of (is_empty c.interim_left) c (reply_in other)
ends_by number name owed seat c i Due text pipe IsUndecided Undecided shows none piped fate = sym (and_false (is_empty c.interim_left))
ends_by number name owed seat c i Due text pipe IsWaiting Waiting shows none piped fate = sym (and_false (is_empty c.interim_left))
ends_by number name owed seat c i Due text pipe IsPassing Passing shows none piped fate = sym (and_false (is_empty c.interim_left))
ends_by number name owed seat c i Due text pipe (IsAnswering a) (Answering r) shows none piped fate =
    sym (ap (λ (b : Bool). is_empty c.interim_left && (b && is_empty r.head_left && has_no_more c r)) (sym shows.begun ∙ shows.says.due) ∙ and_false (is_empty c.interim_left))
ends_by number name owed seat c i (Begun b) text pipe IsUndecided Undecided shows none piped fate = absurd (cc (shows.0))
ends_by number name owed seat c i (Begun b) text pipe IsWaiting Waiting shows none piped fate = absurd (cc shows)
ends_by number name owed seat c i (Begun b) text pipe IsPassing Passing shows none piped fate = absurd (cc shows)
ends_by number name owed seat c i (Begun b) text pipe (IsAnswering a) (Answering r) shows none piped fate =
    let begun : r.has_begun ≡ true = sym shows.begun ∙ begin_begun b text a r shows.says in
    ap₂ (λ (x y : Bool). x && y) none
    (ap₂ (λ (x y : Bool). x && y) (sym (ap is_empty (begin_left b text a r shows.says)))
    (body_over b text pipe a r (passed_of c) shows.says
    (λ is. piped_over number name owed (parts i (Begun b) text pipe) seat.course seat.brought c (subst (λ (x : Begin). IsPipedFor (Begun x) seat.brought) is piped) fate)))
    ∙ sym (ap (λ (x : Bool). is_empty c.interim_left && (x && is_empty r.head_left && has_no_more c r)) begun)
ends_by number name owed seat c i stage text pipe at other shows none piped fate = absurd shows

pub ends_same : EndsAreTheSame
ends_same number name owed seat c shows =
    ends_by number name owed seat c seat.client.reply.interim seat.client.reply.stage seat.client.reply.text seat.client.reply.pipe seat.stage c.stage shows.stage
    (interim_over seat.client.reply.interim c.interim_left (interim_by seat.client.reply.interim c.interim_left shows.interim)) shows.piped shows.fate

-- ---- the next request

pub endings : EndingsAreTheLaws
endings number n name owed seat new c r shows going few all front ok index read =
    let mid : Seat = told_with (said n seat.client.reply) (seat.before_body - n) (said_account n seat.account) seat in
    let told : IsToldBy number n name owed seat c (said_account n seat.account) (said n seat.client.reply) = open_told number n name owed seat c (said_account n seat.account) (shows.going going) few in
    let client : side_said n seat.client ≡ record seat.client { heard = answered seat.client.heard; reply = ended (said n seat.client.reply) }
    = ap (λ (b : Bool). elim b as (λ x. Side) [ true ↦ record seat.client { heard = answered seat.client.heard; reply = ended (said n seat.client.reply) } | false ↦ record seat.client { reply = said n seat.client.reply } ]) all in
    let next : IsRead (at_next_request (answered_on mid)) new
    = subst (λ (x : Side). IsRead (at_next_request (record seat { client = x; before_body = seat.before_body - n; account = said_account n seat.account })) new) client read in record {
      over = sym (ends_same number name owed mid (said_by n c) told.shows) ∙ all;
      next = next_requests number name owed mid new (said_by n c) r told.shows (told.front ∙ front) ok index next;
    }
