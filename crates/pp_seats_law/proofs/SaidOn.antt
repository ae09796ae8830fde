-- So many bytes are said as the law says them.
use Rattle.std.proofs.Common.{◌≡◌, ◌⊎◌, inl, inr, refl, sym, subst, ap, ap₂, ◌∙◌, ℕ, ◌+◌, ◌-◌, ◌<◌, ◌≤◌, Bool, true, false, not, ◌||◌, nat_lt, nat_le, List, [], length, drop, length-drop, drop-drop, Option, Some, None, cond, arith}
use Rattle.std.proofs.lemmas.Bool.Decides.{nat_tests}
use Rattle.std.proofs.lemmas.List.{drop_all}
use Rattle.pp_text.specs.Bytes.{is_empty}
use Rattle.pp_client.specs.Clients.{Client as Side, said_by as side_said}
use Rattle.pp_client.specs.Replies.{Reply as Said, body_left, body_said, continue_text, ended, interim_left, left_next, said, stage_left, stage_said}
use Rattle.pp_client.specs.Requests.{answered}
use Rattle.pp_client.specs.declared.interim.Interim.{Interim}
use Rattle.pp_client.specs.declared.interim.Interim.TheVariants.{Unasked, Left}
use Rattle.pp_client.specs.declared.reply.Begin.{Begin}
use Rattle.pp_client.specs.declared.reply.Begin.TheVariants.{Page, Instance as OfInstance, Passed as IsPassed}
use Rattle.pp_client.specs.declared.reply.Stage.{Stage as SaidStage}
use Rattle.pp_client.specs.declared.reply.Stage.TheVariants.{Due, Begun}
use Rattle.pp_objects.specs.declared.id.ObjectId.{ObjectId}
use Rattle.pp_pass.specs.Pipe.{Pipe, without_first}
use Rattle.pp_law.specs.Due.{still_waits}
use Rattle.pp_law.specs.Lists.{Bytes}
use Rattle.pp_law.specs.Replies.{said_by, said_of, said_of_body}
use Rattle.pp_law.specs.Requests.{Front}
use Rattle.pp_law.specs.Stages.{is_page, is_passing, on_passed, reply_of}
use Rattle.pp_law.specs.State.{Client, Passed, Reply, Stage, Undecided, Waiting, Passing, Answering, Brought, Awaited, Useless, Joins, Passes, TooWide}
use Rattle.pp_seats.specs.declared.account.Account.{Account}
use Rattle.pp_seats.specs.declared.seat.Answer.{Answer}
use Rattle.pp_seats.specs.declared.seat.Brought.{Brought as SeatBrought}
use Rattle.pp_seats.specs.declared.seat.Brought.TheVariants.{Awaited as NoneYet, Useless as NoneOfUse, Joins as JoinsRow, Passes as PassesOn, TooWide as IsTooWide, Refused}
use Rattle.pp_seats.specs.declared.seat.Course.{Course as SeatCourse}
use Rattle.pp_seats.specs.declared.seat.Passed.{Passed as SeatPassed}
use Rattle.pp_seats.specs.declared.seat.Seat.{Seat}
use Rattle.pp_seats.specs.declared.seat.Stage.{Stage as SeatStage}
use Rattle.pp_seats.specs.declared.seat.Stage.TheVariants.{Undecided as IsUndecided, Waiting as IsWaiting, Passing as IsPassing, Answering as IsAnswering}
use Rattle.pp_seats.specs.Accounts.{said as said_account}
use Rattle.pp_seats_law.specs.Replies.{IsHeadKept, IsPipedFor, IsRefusedRow, ShowsAnswer, ShowsBegin, ShowsBrought, ShowsFate, ShowsInterim, ShowsStage}
use Rattle.pp_seats_law.specs.Saying.{SayingsAreTheLaws}
use Rattle.pp_seats_law.specs.Seats.{ShowsOpen, ShowsSeat, head_left}
use Rattle.pp_seats_law.proofs.Nexts.{reply_in}
use Rattle.pp_seats_law.proofs.Uses.{first_few, interim_by, not_empty}

-- ---- the seat, with another reply

abbrev pub parts : Interim → SaidStage → Bytes → Pipe → Said
parts i stage text pipe = record { interim = i; stage = stage; text = text; pipe = pipe }

abbrev pub told_with : Said → ℕ → Account → Seat → Seat
told_with reply before account seat = record seat { client = record seat.client { reply = reply }; before_body = before; account = account }

abbrev now_with : Stage → Bytes → Brought → Client → Client
now_with stage left brought c = record c { stage = stage; interim_left = left; brought = brought }

said_with : (number : ℕ → ℕ) (name : Bytes) (owed : List Bytes) (seat : Seat) (c : Client) (reply : Said) (stage : Stage) (left : Bytes) (brought : Brought) (before : ℕ) (account : Account) → ShowsOpen number name owed seat c → ShowsStage number reply seat.stage stage
    → ShowsFate number name owed reply seat.course seat.brought (now_with stage left brought c) → ShowsInterim reply.interim left → IsPipedFor reply.stage seat.brought → before ≡ length left + head_left (reply_in stage)
    → ShowsOpen number name owed (told_with reply before account seat) (now_with stage left brought c)
said_with number name owed seat c reply stage left brought before account shows at fate interim piped same = record {
  hung_up = shows.hung_up;
  mark = shows.mark;
  heard = shows.heard;
  body = shows.body;
  over = shows.over;
  front = shows.front;
  body_left = shows.body_left;
  index = shows.index;
  stage = at;
  waits_on = shows.waits_on;
  fate = fate;
  asked = shows.asked;
  piped = piped;
  given_up = shows.given_up;
  interim = interim;
  before_body = same;
  closes = shows.closes;
}

-- ---- what its exchange brought

pub brought_kept : (number : ℕ → ℕ) (name : Bytes) (old new : Said) (front : Front) (brought : SeatBrought) (other : Brought) → new.pipe ≡ old.pipe
    → ((x : SeatPassed) (p : Passed) → IsHeadKept name old.stage old front x p → IsHeadKept name new.stage new front x p) → ShowsBrought number name old front brought other → ShowsBrought number name new front brought other
brought_kept number name old new front NoneYet Awaited pipe head shows = tt
brought_kept number name old new front NoneOfUse Useless pipe head shows = tt
brought_kept number name old new front (JoinsRow id plain) (Joins n other) pipe head shows = shows
brought_kept number name old new front (PassesOn x) (Passes p) pipe head shows = record { rule = shows.rule; pipe = pipe ∙ shows.pipe; end = shows.end; head = head x p shows.head }
brought_kept number name old new front IsTooWide TooWide pipe head shows = tt
brought_kept number name old new front brought other pipe head shows = absurd shows

refused_kept : (owed : List Bytes) (c : Client) (stage : Stage) (left : Bytes) → still_waits (now_with stage left c.brought c) ≡ still_waits c → IsRefusedRow owed c → IsRefusedRow owed (now_with stage left c.brought c)
refused_kept owed c stage left same shows = record { waits = same ∙ shows.waits; joins = shows.joins; refused = shows.refused }

fate_kept : (number : ℕ → ℕ) (name : Bytes) (owed : List Bytes) (old new : Said) (course : SeatCourse) (brought : SeatBrought) (c : Client) (stage : Stage) (left : Bytes) → new.pipe ≡ old.pipe
    → ((x : SeatPassed) (p : Passed) → IsHeadKept name old.stage old c.front x p → IsHeadKept name new.stage new c.front x p) → still_waits (now_with stage left c.brought c) ≡ still_waits c → ShowsFate number name owed old course brought c
    → ShowsFate number name owed new course brought (now_with stage left c.brought c)
fate_kept number name owed old new course Refused c stage left pipe head same shows = refused_kept owed c stage left same shows
fate_kept number name owed old new course NoneYet c stage left pipe head same shows = (shows.0, brought_kept number name old new c.front NoneYet c.brought pipe head shows.1)
fate_kept number name owed old new course NoneOfUse c stage left pipe head same shows = (shows.0, brought_kept number name old new c.front NoneOfUse c.brought pipe head shows.1)
fate_kept number name owed old new course (JoinsRow id plain) c stage left pipe head same shows = (shows.0, brought_kept number name old new c.front (JoinsRow id plain) c.brought pipe head shows.1)
fate_kept number name owed old new course (PassesOn x) c stage left pipe head same shows = (shows.0, brought_kept number name old new c.front (PassesOn x) c.brought pipe head shows.1)
fate_kept number name owed old new course IsTooWide c stage left pipe head same shows = (shows.0, brought_kept number name old new c.front IsTooWide c.brought pipe head shows.1)

-- ---- of the interim answer

pub head_kept : (name : Bytes) (stage : SaidStage) (old : Said) (i : Interim) (front : Front) (x : SeatPassed) (p : Passed) → IsHeadKept name stage old front x p → IsHeadKept name stage (record old { interim = i }) front x p
head_kept name Due old i front x p kept = kept
head_kept name (Begun reply) old i front x p kept = tt

not_unasked : (i : Interim) → 0 < interim_left i → i ≡ Unasked → ⊥
not_unasked Unasked some is = omega (arith, some)
not_unasked (Left n) some is = absurd (cc is)

stage_kept : (number : ℕ → ℕ) (old : Said) (i : Interim) (stage : SeatStage) (other : Stage) → 0 < interim_left old.interim → ShowsStage number old stage other → ShowsStage number (record old { interim = i }) stage other
stage_kept number old i IsUndecided Undecided some shows = absurd (not_unasked old.interim some shows.1)
stage_kept number old i IsWaiting Waiting some shows = shows
stage_kept number old i IsPassing Passing some shows = shows
stage_kept number old i (IsAnswering a) (Answering r) some shows = record { decision = shows.decision; source = shows.source; begun = shows.begun; says = shows.says }
stage_kept number old i stage other some shows = absurd shows

interim_less : (i : Interim) (left : Bytes) (n : ℕ) → ShowsInterim i left → 0 < interim_left i → n ≤ interim_left i → ShowsInterim (Left (interim_left i - n)) (drop n left)
interim_less Unasked left n shows some few = absurd (omega (arith, some))
interim_less (Left m) left n shows some few =
    let within = shows.0 in
    let place : 25 - m + n ≡ 25 - (m - n) = omega (arith, within, few) in
    (omega (arith, within), ap (λ (bytes : Bytes). drop n bytes) shows.1 ∙ drop-drop n (25 - m) continue_text ∙ ap (λ (k : ℕ). drop k continue_text) place)

interim_told : (number : ℕ → ℕ) (n : ℕ) (name : Bytes) (owed : List Bytes) (seat : Seat) (c : Client) (account : Account) → ShowsOpen number name owed seat c → 0 < interim_left seat.client.reply.interim → length c.interim_left ≡ interim_left seat.client.reply.interim
    → n ≤ interim_left seat.client.reply.interim
    → ShowsOpen number name owed (told_with (record seat.client.reply { interim = Left (interim_left seat.client.reply.interim - n) }) (seat.before_body - n) account seat) (record c { interim_left = drop n c.interim_left })
interim_told number n name owed seat c account shows some len few =
    said_with number name owed seat c (record seat.client.reply { interim = Left (interim_left seat.client.reply.interim - n) }) c.stage (drop n c.interim_left) c.brought (seat.before_body - n) account shows
    (stage_kept number seat.client.reply (Left (interim_left seat.client.reply.interim - n)) seat.stage c.stage some shows.stage)
    (fate_kept number name owed seat.client.reply (record seat.client.reply { interim = Left (interim_left seat.client.reply.interim - n) }) seat.course seat.brought c c.stage (drop n c.interim_left) refl
    (λ x p kept. head_kept name seat.client.reply.stage seat.client.reply (Left (interim_left seat.client.reply.interim - n)) c.front x p kept) refl shows.fate)
    (interim_less seat.client.reply.interim c.interim_left n shows.interim some few) shows.piped
    (let before = shows.before_body in let dropped = length-drop n c.interim_left in omega (arith, before, dropped, len, few))

-- ---- of a head, and of what stands behind it

-- what stands before the body, of a client in the midst of this reply
before_of : (number : ℕ → ℕ) (name : Bytes) (owed : List Bytes) (seat : Seat) (c : Client) (r : Reply) → ShowsOpen number name owed seat c → c.stage ≡ Answering r → seat.before_body ≡ length c.interim_left + length r.head_left
before_of number name owed seat c r shows is = shows.before_body ∙ ap (λ (s : Stage). length c.interim_left + head_left (reply_in s)) is

-- it is no page that waits
waits_kept : (c : Client) (r other : Reply) (left : Bytes) → c.stage ≡ Answering r → other.has_begun ≡ r.has_begun → other.decision ≡ r.decision → still_waits (now_with (Answering other) left c.brought c) ≡ still_waits c
waits_kept c r other left is begun decision =
    ap₂ (λ (b p : Bool). not (b || p)) begun (ap is_page decision)
    ∙ sym (ap (λ (s : Stage). elim s as (λ x. Bool) [ Undecided ↦ false | Waiting ↦ true | Passing ↦ false | Answering x ↦ not (x.has_begun || is_page x.decision) ]) is)

begin_dropped : (n : ℕ) (b : Begin) (text : Bytes) (a : Answer) (r : Reply) → ShowsBegin b text a r → ShowsBegin b (drop n text) a (record r { head_left = drop n r.head_left })
begin_dropped n Page text a r shows = (record { begun = shows.0.begun; left = ap (λ (x : Bytes). drop n x) shows.0.left; next = shows.0.next; end = shows.0.end }, shows.1, shows.2)
begin_dropped n (OfInstance id next to) text a r shows = (record { begun = shows.0.begun; left = ap (λ (x : Bytes). drop n x) shows.0.left; next = shows.0.next; end = shows.0.end }, shows.1, shows.2, shows.3, shows.4)
begin_dropped n IsPassed text a r shows = (record { begun = shows.0.begun; left = ap (λ (x : Bytes). drop n x) shows.0.left; next = shows.0.next; end = shows.0.end }, shows.1, shows.2)

-- what is known of a client in the midst of a reply
record Midst (number : ℕ → ℕ) (name : Bytes) (owed : List Bytes) (seat : Seat) (c : Client) (i : Interim) (b : Begin) (text : Bytes) (pipe : Pipe) (a : Answer) (r : Reply) : Type 0 where
  shows : ShowsOpen number name owed seat c
  seat_at : seat.stage ≡ IsAnswering a
  client_at : c.stage ≡ Answering r
  reply : seat.client.reply ≡ parts i (Begun b) text pipe
  answers : ShowsAnswer number (parts i (Begun b) text pipe) a r
  begins : ShowsBegin b text a r
  none : c.interim_left ≡ []

pipe_same : (reply : Said) (i : Interim) (stage : SaidStage) (text : Bytes) (pipe : Pipe) → reply ≡ parts i stage text pipe → pipe ≡ reply.pipe
pipe_same reply i stage text pipe is = sym (ap (λ (x : Said). x.pipe) is)

interim_same : (number : ℕ → ℕ) (name : Bytes) (owed : List Bytes) (seat : Seat) (c : Client) (i : Interim) (stage : SaidStage) (text : Bytes) (pipe : Pipe) → ShowsOpen number name owed seat c → seat.client.reply ≡ parts i stage text pipe → ShowsInterim i c.interim_left
interim_same number name owed seat c i stage text pipe shows is = subst (λ (x : Said). ShowsInterim x.interim c.interim_left) is shows.interim

piped_same : (reply : Said) (i : Interim) (b : Begin) (text : Bytes) (pipe : Pipe) (brought : SeatBrought) → reply ≡ parts i (Begun b) text pipe → IsPipedFor reply.stage brought → IsPipedFor (Begun b) brought
piped_same reply i b text pipe brought is piped = subst (λ (x : Said). IsPipedFor x.stage brought) is piped

-- another reply of it, with the same pipe
midst_with : (number : ℕ → ℕ) (n : ℕ) (name : Bytes) (owed : List Bytes) (seat : Seat) (c : Client) (i : Interim) (b d : Begin) (text more : Bytes) (pipe : Pipe) (a : Answer) (r other : Reply) (account : Account) → Midst number name owed seat c i b text pipe a r
    → ShowsAnswer number (parts i (Begun d) more pipe) a other → other.has_begun ≡ r.has_begun → other.decision ≡ r.decision → IsPipedFor (Begun d) seat.brought → length other.head_left ≡ length r.head_left - n
    → ShowsOpen number name owed (told_with (parts i (Begun d) more pipe) (seat.before_body - n) account seat) (record c { stage = Answering other })
midst_with number n name owed seat c i b d text more pipe a r other account midst answers begun decision piped len =
    said_with number name owed seat c (parts i (Begun d) more pipe) (Answering other) c.interim_left c.brought (seat.before_body - n) account midst.shows
    (subst (λ (s : SeatStage). ShowsStage number (parts i (Begun d) more pipe) s (Answering other)) (sym midst.seat_at) answers)
    (fate_kept number name owed seat.client.reply (parts i (Begun d) more pipe) seat.course seat.brought c (Answering other) c.interim_left (pipe_same seat.client.reply i (Begun b) text pipe midst.reply) (λ x p kept. tt)
    (waits_kept c r other c.interim_left midst.client_at begun decision) midst.shows.fate)
    (interim_same number name owed seat c i (Begun b) text pipe midst.shows midst.reply) piped
    (let before = before_of number name owed seat c r midst.shows midst.client_at in
    let nothing : length c.interim_left ≡ 0 = ap (λ (x : Bytes). length x) midst.none in
    omega (arith, before, nothing, len))

head_told : (number : ℕ → ℕ) (n : ℕ) (name : Bytes) (owed : List Bytes) (seat : Seat) (c : Client) (i : Interim) (b : Begin) (text : Bytes) (pipe : Pipe) (a : Answer) (r : Reply) (account : Account) → Midst number name owed seat c i b text pipe a r
    → ShowsOpen number name owed (told_with (parts i (Begun b) (drop n text) pipe) (seat.before_body - n) account seat) (record c { stage = Answering (record r { head_left = drop n r.head_left }) })
head_told number n name owed seat c i b text pipe a r account midst =
    midst_with number n name owed seat c i b b text (drop n text) pipe a r (record r { head_left = drop n r.head_left }) account midst
    (record { decision = midst.answers.decision; source = midst.answers.source; begun = midst.answers.begun; says = begin_dropped n b text a r midst.begins }) refl refl
    (piped_same seat.client.reply i b text pipe seat.brought midst.reply midst.shows.piped) (length-drop n r.head_left)

-- of the body of an instance
body_told : (number : ℕ → ℕ) (n : ℕ) (name : Bytes) (owed : List Bytes) (seat : Seat) (c : Client) (i : Interim) (id : ObjectId) (next to : ℕ) (text : Bytes) (pipe : Pipe) (a : Answer) (r : Reply) (account : Account)
    → Midst number name owed seat c i (OfInstance id next to) text pipe a r → length text < n → n ≤ length text + (to - next)
    → ShowsOpen number name owed (told_with (parts i (Begun (OfInstance id (next + (n - length text)) to)) (drop n text) pipe) (seat.before_body - n) account seat)
    (record c { stage = Answering (record (record r { head_left = [] }) { at = r.at + (n - length r.head_left) }) })
body_told number n name owed seat c i id next to text pipe a r account midst past few =
    let same : length r.head_left ≡ length text = ap (λ (x : Bytes). length x) midst.begins.0.left in
    let from = midst.begins.0.next in
    let ordered = midst.begins.4 in
    midst_with number n name owed seat c i (OfInstance id next to) (OfInstance id (next + (n - length text)) to) text (drop n text) pipe a r (record (record r { head_left = [] }) { at = r.at + (n - length r.head_left) }) account midst
    (record {
      decision = midst.answers.decision;
      source = midst.answers.source;
      begun = midst.answers.begun;
      says = (record { begun = midst.begins.0.begun; left = sym (drop_all n text (omega (arith, past))); next = omega (arith, same, from); end = midst.begins.0.end }, midst.begins.1, midst.begins.2, midst.begins.3, omega (arith, past, few, ordered));
    }) refl refl tt
    (omega (arith, same, past))

-- ---- of the body of a response that is passed

abbrev piped : ℕ → Passed → Passed
piped k p = record p { pipe = without_first k p.pipe }

abbrev brought_on : ℕ → Brought → Brought
brought_on k brought = elim brought [ Awaited ↦ Awaited | Useless ↦ Useless | Joins id plain ↦ Joins id plain | Passes p ↦ Passes (piped k p) | TooWide ↦ TooWide ]

on_passed_by : (k : ℕ) (c : Client) (brought : Brought) → c.brought ≡ brought
    → (elim (elim brought as (λ x. Option Passed) [ Awaited ↦ None | Useless ↦ None | Joins id plain ↦ None | Passes p ↦ Some p | TooWide ↦ None ]) as (λ x. Client) [ None ↦ c | Some p ↦ record c { brought = Passes (piped k p) } ])
    ≡ record c { brought = brought_on k brought }
on_passed_by k c Awaited is = ap (λ (b : Brought). record c { brought = b }) is
on_passed_by k c Useless is = ap (λ (b : Brought). record c { brought = b }) is
on_passed_by k c (Joins id plain) is = ap (λ (b : Brought). record c { brought = b }) is
on_passed_by k c (Passes p) is = refl
on_passed_by k c TooWide is = ap (λ (b : Brought). record c { brought = b }) is

brought_piped : (number : ℕ → ℕ) (name : Bytes) (k : ℕ) (old new : Said) (front : Front) (brought : SeatBrought) (other : Brought) → new.pipe ≡ without_first k old.pipe → ((x : SeatPassed) (p : Passed) → IsHeadKept name new.stage new front x p)
    → ShowsBrought number name old front brought other → ShowsBrought number name new front brought (brought_on k other)
brought_piped number name k old new front NoneYet Awaited pipe head shows = tt
brought_piped number name k old new front NoneOfUse Useless pipe head shows = tt
brought_piped number name k old new front (JoinsRow id plain) (Joins n other) pipe head shows = shows
brought_piped number name k old new front (PassesOn x) (Passes p) pipe head shows =
    record { rule = shows.rule; pipe = pipe ∙ ap (λ (q : Pipe). without_first k q) shows.pipe; end = shows.end; head = head x (piped k p) }
brought_piped number name k old new front IsTooWide TooWide pipe head shows = tt
brought_piped number name k old new front brought other pipe head shows = absurd shows

joins_on : (k : ℕ) (brought : Brought) (id : ℕ) (plain : Bool) → brought ≡ Joins id plain → brought_on k brought ≡ Joins id plain
joins_on k brought id plain is = ap (brought_on k) is

refused_piped : (k : ℕ) (owed : List Bytes) (c : Client) (stage : Stage) → still_waits (now_with stage c.interim_left c.brought c) ≡ still_waits c → IsRefusedRow owed c → IsRefusedRow owed (now_with stage c.interim_left (brought_on k c.brought) c)
refused_piped k owed c stage same shows = record {
  waits = same ∙ shows.waits;
  joins = (shows.joins.0, shows.joins.1, joins_on k c.brought shows.joins.0 shows.joins.1 shows.joins.2);
  refused = shows.refused;
}

fate_piped : (number : ℕ → ℕ) (name : Bytes) (owed : List Bytes) (k : ℕ) (old new : Said) (course : SeatCourse) (brought : SeatBrought) (c : Client) (stage : Stage) → new.pipe ≡ without_first k old.pipe
    → ((x : SeatPassed) (p : Passed) → IsHeadKept name new.stage new c.front x p) → still_waits (now_with stage c.interim_left c.brought c) ≡ still_waits c → ShowsFate number name owed old course brought c
    → ShowsFate number name owed new course brought (now_with stage c.interim_left (brought_on k c.brought) c)
fate_piped number name owed k old new course Refused c stage pipe head same shows = refused_piped k owed c stage same shows
fate_piped number name owed k old new course NoneYet c stage pipe head same shows = (shows.0, brought_piped number name k old new c.front NoneYet c.brought pipe head shows.1)
fate_piped number name owed k old new course NoneOfUse c stage pipe head same shows = (shows.0, brought_piped number name k old new c.front NoneOfUse c.brought pipe head shows.1)
fate_piped number name owed k old new course (JoinsRow id plain) c stage pipe head same shows = (shows.0, brought_piped number name k old new c.front (JoinsRow id plain) c.brought pipe head shows.1)
fate_piped number name owed k old new course (PassesOn x) c stage pipe head same shows = (shows.0, brought_piped number name k old new c.front (PassesOn x) c.brought pipe head shows.1)
fate_piped number name owed k old new course IsTooWide c stage pipe head same shows = (shows.0, brought_piped number name k old new c.front IsTooWide c.brought pipe head shows.1)

pipe_told : (number : ℕ → ℕ) (n : ℕ) (name : Bytes) (owed : List Bytes) (seat : Seat) (c : Client) (i : Interim) (text : Bytes) (pipe : Pipe) (a : Answer) (r : Reply) (account : Account) → Midst number name owed seat c i IsPassed text pipe a r → length text < n
    → ShowsOpen number name owed (told_with (parts i (Begun IsPassed) (drop n text) (without_first (n - length text) pipe)) (seat.before_body - n) account seat)
    (now_with (Answering (record r { head_left = [] })) c.interim_left (brought_on (n - length r.head_left) c.brought) c)
pipe_told number n name owed seat c i text pipe a r account midst past =
    let same : length r.head_left ≡ length text = ap (λ (x : Bytes). length x) midst.begins.0.left in
    let new : Said = parts i (Begun IsPassed) (drop n text) (without_first (n - length text) pipe) in
    let over : without_first (n - length text) pipe ≡ without_first (n - length r.head_left) seat.client.reply.pipe
    = ap₂ (λ (m : ℕ) (q : Pipe). without_first (n - m) q) (sym same) (pipe_same seat.client.reply i (Begun IsPassed) text pipe midst.reply) in
    said_with number name owed seat c new (Answering (record r { head_left = [] })) c.interim_left (brought_on (n - length r.head_left) c.brought) (seat.before_body - n) account midst.shows
    (subst (λ (s : SeatStage). ShowsStage number new s (Answering (record r { head_left = [] }))) (sym midst.seat_at) (record {
      decision = midst.answers.decision;
      source = midst.answers.source;
      begun = midst.answers.begun;
      says = (record { begun = midst.begins.0.begun; left = sym (drop_all n text (omega (arith, past))); next = midst.begins.0.next; end = midst.begins.0.end }, midst.begins.1, midst.begins.2);
    }))
    (fate_piped number name owed (n - length r.head_left) seat.client.reply new seat.course seat.brought c (Answering (record r { head_left = [] })) over (λ x p. tt)
    (waits_kept c r (record r { head_left = [] }) c.interim_left midst.client_at refl refl) midst.shows.fate)
    (interim_same number name owed seat c i (Begun IsPassed) text pipe midst.shows midst.reply) (piped_same seat.client.reply i IsPassed text pipe seat.brought midst.reply midst.shows.piped)
    (let before = before_of number name owed seat c r midst.shows midst.client_at in
    let nothing : length c.interim_left ≡ 0 = ap (λ (x : Bytes). length x) midst.none in
    omega (arith, before, nothing, same, past))

-- ---- the words of both

le_test : (m n : ℕ) (b : Bool) → nat_le m n ≡ b → ((m ≤ n) × (b ≡ true)) ⊎ ((n < m) × (b ≡ false))
le_test m n true is = inl (grind (arith, nat_tests), refl)
le_test m n false is = inr (grind (arith, nat_tests), refl)

-- what the law says of a reply, by whether the bytes are of the head alone
abbrev law_of : Bool → ℕ → Reply → Client → Client
law_of few n r c = elim few [
  | true ↦ record c { stage = Answering (record r { head_left = drop n r.head_left }) }
  | false ↦ said_of_body (n - length r.head_left) (record r { head_left = [] }) c
]

law_said : (n : ℕ) (c : Client) (r : Reply) (b : Bool) → c.interim_left ≡ [] → c.stage ≡ Answering r → nat_le n (length r.head_left) ≡ b → law_of b n r c ≡ said_by n c
law_said n c r b none is few =
    sym (ap (λ (x : Bool). law_of x n r c) few)
    ∙ sym (ap (λ (s : Stage). elim (reply_in s) as (λ x. Client) [ None ↦ c | Some x ↦ said_of n x c ]) is)
    ∙ sym (ap (λ (x : Bytes). elim (is_empty x) as (λ y. Client) [ false ↦ record c { interim_left = drop n c.interim_left } | true ↦ elim (reply_of c) as (λ y. Client) [ None ↦ c | Some y ↦ said_of n y c ] ]) none)

law_body : (n : ℕ) (c : Client) (r : Reply) (b : Bool) → is_passing r.decision ≡ b
    → (elim b as (λ x. Client) [ true ↦ on_passed (λ p. record p { pipe = without_first n p.pipe }) (record c { stage = Answering r }) | false ↦ record c { stage = Answering (record r { at = r.at + n }) } ]) ≡ said_of_body n r c
law_body n c r b is =
    sym (ap (λ (x : Bool). elim x as (λ y. Client) [ true ↦ on_passed (λ p. record p { pipe = without_first n p.pipe }) (record c { stage = Answering r }) | false ↦ record c { stage = Answering (record r { at = r.at + n }) } ]) is)

-- nothing of the interim answer is left
no_interim : (n : ℕ) (i : Interim) (stage : SaidStage) (text : Bytes) (pipe : Pipe) → interim_left i ≡ 0 → stage_said n stage (parts i stage text pipe) ≡ said n (parts i stage text pipe)
no_interim n i stage text pipe none =
    sym (ap (λ (m : ℕ). cond (nat_lt 0 m) (record (parts i stage text pipe) { interim = Left (interim_left i - n) }) (stage_said n stage (parts i stage text pipe))) none)

with_interim : (n : ℕ) (r : Said) → 0 < interim_left r.interim → record r { interim = Left (interim_left r.interim - n) } ≡ said n r
with_interim n r some = by (nat_lt 0 (interim_left r.interim)) refl
  where
    by : (b : Bool) → nat_lt 0 (interim_left r.interim) ≡ b → record r { interim = Left (interim_left r.interim - n) } ≡ cond b (record r { interim = Left (interim_left r.interim - n) }) (stage_said n r.stage r)
    by true is = refl
    by false is = absurd (grind (arith, nat_tests))

-- of a head alone, nothing is said behind it
head_alone : (b : Begin) (i : Interim) (text : Bytes) (pipe : Pipe) (k : ℕ) → k ≡ 0 → parts i (Begun b) text pipe ≡ body_said k b (parts i (Begun b) text pipe)
head_alone Page i text pipe k none = refl
head_alone (OfInstance id next to) i text pipe k none = ap (λ (m : ℕ). parts i (Begun (OfInstance id m to)) text pipe) (omega (arith, none))
head_alone IsPassed i text pipe k none = ap (λ (m : ℕ). parts i (Begun IsPassed) text (without_first m pipe)) (sym none)

-- ---- the reply

pub record IsTold (numbers : ℕ → ℕ) (name : Bytes) (owed : List Bytes) (seat new : Seat) (c said : Client) : Type 0 where
  pub number : said.number ≡ c.number
  pub closing : said.is_closing ≡ c.is_closing
  pub front : said.front ≡ c.front
  pub shows : ShowsOpen numbers name owed new said

abbrev pub IsToldBy : (ℕ → ℕ) → ℕ → Bytes → List Bytes → Seat → Client → Account → Said → Type 0
IsToldBy number n name owed seat c account reply = IsTold number name owed seat (told_with reply (seat.before_body - n) account seat) c (said_by n c)

to_law : (number : ℕ → ℕ) (n : ℕ) (name : Bytes) (owed : List Bytes) (seat : Seat) (c to : Client) (account : Account) (old new : Said) → old ≡ new → to ≡ said_by n c → to.number ≡ c.number → to.is_closing ≡ c.is_closing → to.front ≡ c.front
    → ShowsOpen number name owed (told_with old (seat.before_body - n) account seat) to → IsToldBy number n name owed seat c account new
to_law number n name owed seat c to account old new reply client numbered closing front shows =
    subst (λ (x : Client). IsTold number name owed seat (told_with new (seat.before_body - n) account seat) c x) client (record {
      number = numbered;
      closing = closing;
      front = front;
      shows = subst (λ (x : Said). ShowsOpen number name owed (told_with x (seat.before_body - n) account seat) to) reply shows;
    })

midst_told : (number : ℕ → ℕ) (n : ℕ) (name : Bytes) (owed : List Bytes) (seat : Seat) (c : Client) (i : Interim) (b : Begin) (text : Bytes) (pipe : Pipe) (a : Answer) (r : Reply) (account : Account) → Midst number name owed seat c i b text pipe a r → length r.head_left ≡ length text
    → interim_left i ≡ 0 → n ≤ length text + body_left b pipe → IsToldBy number n name owed seat c account (said n (parts i (Begun b) text pipe))
midst_told number n name owed seat c i b text pipe a r account midst same none few = by (le_test n (length r.head_left) (nat_le n (length r.head_left)) refl)
  where
    behind : (d : Begin) → d ≡ b → length r.head_left < n → nat_le n (length r.head_left) ≡ false → IsToldBy number n name owed seat c account (said n (parts i (Begun b) text pipe))
    behind Page is past test = let little : n ≤ length text + body_left Page pipe = subst (λ (x : Begin). n ≤ length text + body_left x pipe) (sym is) few in absurd (omega (arith, little, past, same))
    behind (OfInstance id next to) is past test =
        let at : Midst number name owed seat c i (OfInstance id next to) text pipe a r = subst (λ (x : Begin). Midst number name owed seat c i x text pipe a r) (sym is) midst in
        subst (λ (x : Begin). IsToldBy number n name owed seat c account (said n (parts i (Begun x) text pipe))) is
        (to_law number n name owed seat c (record c { stage = Answering (record (record r { head_left = [] }) { at = r.at + (n - length r.head_left) }) }) account (parts i (Begun (OfInstance id (next + (n - length text)) to)) (drop n text) pipe)
        (said n (parts i (Begun (OfInstance id next to)) text pipe)) (no_interim n i (Begun (OfInstance id next to)) text pipe none)
        (law_body (n - length r.head_left) c (record r { head_left = [] }) false at.begins.3 ∙ law_said n c r false at.none at.client_at test) refl refl refl
        (body_told number n name owed seat c i id next to text pipe a r account at (omega (arith, past, same)) (subst (λ (x : Begin). n ≤ length text + body_left x pipe) (sym is) few)))
    behind IsPassed is past test =
        let at : Midst number name owed seat c i IsPassed text pipe a r = subst (λ (x : Begin). Midst number name owed seat c i x text pipe a r) (sym is) midst in
        subst (λ (x : Begin). IsToldBy number n name owed seat c account (said n (parts i (Begun x) text pipe))) is
        (to_law number n name owed seat c (now_with (Answering (record r { head_left = [] })) c.interim_left (brought_on (n - length r.head_left) c.brought) c) account (parts i (Begun IsPassed) (drop n text) (without_first (n - length text) pipe))
        (said n (parts i (Begun IsPassed) text pipe)) (no_interim n i (Begun IsPassed) text pipe none)
        (sym (on_passed_by (n - length r.head_left) (record c { stage = Answering (record r { head_left = [] }) }) c.brought refl) ∙ law_body (n - length r.head_left) c (record r { head_left = [] }) true at.begins.2
        ∙ law_said n c r false at.none at.client_at test) refl refl refl
        (pipe_told number n name owed seat c i text pipe a r account at (omega (arith, past, same))))

    by : ((n ≤ length r.head_left) × (nat_le n (length r.head_left) ≡ true)) ⊎ ((length r.head_left < n) × (nat_le n (length r.head_left) ≡ false)) → IsToldBy number n name owed seat c account (said n (parts i (Begun b) text pipe))
    by (inl within) =
        let short = within.0 in
        to_law number n name owed seat c (record c { stage = Answering (record r { head_left = drop n r.head_left }) }) account (parts i (Begun b) (drop n text) pipe) (said n (parts i (Begun b) text pipe))
        (head_alone b i (drop n text) pipe (n - length text) (omega (arith, short, same)) ∙ no_interim n i (Begun b) text pipe none)
        (law_said n c r true midst.none midst.client_at within.1) refl refl refl (head_told number n name owed seat c i b text pipe a r account midst)
    by (inr past) = behind b refl past.0 past.1

head_same : (b : Begin) (text : Bytes) (a : Answer) (r : Reply) → ShowsBegin b text a r → length r.head_left ≡ length text
head_same Page text a r shows = ap (λ (x : Bytes). length x) shows.0.left
head_same (OfInstance id next to) text a r shows = ap (λ (x : Bytes). length x) shows.0.left
head_same IsPassed text a r shows = ap (λ (x : Bytes). length x) shows.0.left

-- ---- of one whose reply has not begun nothing is said

law_silent : (c : Client) → c.interim_left ≡ [] → reply_of c ≡ None → c ≡ said_by 0 c
law_silent c none reply =
    sym (ap (λ (o : Option Reply). elim o as (λ x. Client) [ None ↦ c | Some x ↦ said_of 0 x c ]) reply)
    ∙ sym (ap (λ (x : Bytes). elim (is_empty x) as (λ y. Client) [ false ↦ record c { interim_left = drop 0 c.interim_left } | true ↦ elim (reply_of c) as (λ y. Client) [ None ↦ c | Some y ↦ said_of 0 y c ] ]) none)

zero_le : (m : ℕ) → nat_le 0 m ≡ true
zero_le m = grind (arith, nat_tests)

law_none : (c : Client) (stage : Stage) → c.stage ≡ stage → c.interim_left ≡ [] → c ≡ said_by 0 c
law_none c Undecided is none = law_silent c none (ap reply_in is)
law_none c Waiting is none = law_silent c none (ap reply_in is)
law_none c Passing is none = law_silent c none (ap reply_in is)
law_none c (Answering r) is none = ap (λ (s : Stage). record c { stage = s }) is ∙ law_said 0 c r true none is (zero_le (length r.head_left))

nothing_told : (number : ℕ → ℕ) (n : ℕ) (name : Bytes) (owed : List Bytes) (seat : Seat) (c : Client) (i : Interim) (text : Bytes) (pipe : Pipe) (account : Account) → ShowsOpen number name owed seat c → seat.client.reply ≡ parts i Due text pipe → c.interim_left ≡ [] → interim_left i ≡ 0 → n ≤ 0
    → IsToldBy number n name owed seat c account (said n (parts i Due text pipe))
nothing_told number n name owed seat c i text pipe account shows reply none left few =
    subst (λ (m : ℕ). IsToldBy number m name owed seat c account (said m (parts i Due text pipe))) (omega (arith, few))
    (to_law number 0 name owed seat c c account seat.client.reply (said 0 (parts i Due text pipe)) (reply ∙ no_interim 0 i Due text pipe left) (law_none c c.stage refl none) refl refl refl
    (said_with number name owed seat c seat.client.reply c.stage c.interim_left c.brought (seat.before_body - 0) account shows shows.stage shows.fate shows.interim shows.piped (let before = shows.before_body in omega (arith, before))))

-- ---- all

begun_told : (number : ℕ → ℕ) (n : ℕ) (name : Bytes) (owed : List Bytes) (seat : Seat) (c : Client) (i : Interim) (b : Begin) (text : Bytes) (pipe : Pipe) (account : Account) (stage : SeatStage) (other : Stage) → ShowsOpen number name owed seat c → seat.client.reply ≡ parts i (Begun b) text pipe
    → seat.stage ≡ stage → c.stage ≡ other → ShowsStage number (parts i (Begun b) text pipe) stage other → c.interim_left ≡ [] → interim_left i ≡ 0 → n ≤ length text + body_left b pipe → IsToldBy number n name owed seat c account (said n (parts i (Begun b) text pipe))
begun_told number n name owed seat c i b text pipe account IsUndecided Undecided shows reply at is stands none left few = absurd (cc (stands.0))
begun_told number n name owed seat c i b text pipe account IsWaiting Waiting shows reply at is stands none left few = absurd (cc stands)
begun_told number n name owed seat c i b text pipe account IsPassing Passing shows reply at is stands none left few = absurd (cc stands)
begun_told number n name owed seat c i b text pipe account (IsAnswering a) (Answering r) shows reply at is stands none left few =
    midst_told number n name owed seat c i b text pipe a r account (record { shows = shows; seat_at = at; client_at = is; reply = reply; answers = stands; begins = stands.says; none = none }) (head_same b text a r stands.says) left few
begun_told number n name owed seat c i b text pipe account stage other shows reply at is stands none left few = absurd stands

parts_told : (number : ℕ → ℕ) (n : ℕ) (name : Bytes) (owed : List Bytes) (seat : Seat) (c : Client) (i : Interim) (stage : SaidStage) (text : Bytes) (pipe : Pipe) (account : Account) → ShowsOpen number name owed seat c → seat.client.reply ≡ parts i stage text pipe
    → c.interim_left ≡ [] → interim_left i ≡ 0 → n ≤ stage_left stage text pipe → IsToldBy number n name owed seat c account (said n (parts i stage text pipe))
parts_told number n name owed seat c i Due text pipe account shows reply none left few = nothing_told number n name owed seat c i text pipe account shows reply none left few
parts_told number n name owed seat c i (Begun b) text pipe account shows reply none left few =
    begun_told number n name owed seat c i b text pipe account seat.stage c.stage shows reply refl refl (subst (λ (x : Said). ShowsStage number x seat.stage c.stage) reply shows.stage) none left few

pub open_told : (number : ℕ → ℕ) (n : ℕ) (name : Bytes) (owed : List Bytes) (seat : Seat) (c : Client) (account : Account) → ShowsOpen number name owed seat c → n ≤ left_next seat.client.reply → IsToldBy number n name owed seat c account (said n seat.client.reply)
open_told number n name owed seat c account shows few = by (interim_by seat.client.reply.interim c.interim_left shows.interim)
  where
    by : ((c.interim_left ≡ []) × (interim_left seat.client.reply.interim ≡ 0)) ⊎ ((length c.interim_left ≡ interim_left seat.client.reply.interim) × (0 < interim_left seat.client.reply.interim)) → IsToldBy number n name owed seat c account (said n seat.client.reply)
    by (inl over) =
        parts_told number n name owed seat c seat.client.reply.interim seat.client.reply.stage seat.client.reply.text seat.client.reply.pipe account shows refl over.0 over.1
        (subst (λ (m : ℕ). n ≤ cond (nat_lt 0 m) m (stage_left seat.client.reply.stage seat.client.reply.text seat.client.reply.pipe)) over.1 few)
    by (inr left) =
        let same = left.0 in
        let some = left.1 in
        let first : n ≤ interim_left seat.client.reply.interim = first_few n (interim_left seat.client.reply.interim) (stage_left seat.client.reply.stage seat.client.reply.text seat.client.reply.pipe) some few in
        to_law number n name owed seat c (record c { interim_left = drop n c.interim_left }) account (record seat.client.reply { interim = Left (interim_left seat.client.reply.interim - n) }) (said n seat.client.reply)
        (with_interim n seat.client.reply some)
        (sym (ap (λ (b : Bool). elim b as (λ y. Client) [ false ↦ record c { interim_left = drop n c.interim_left } | true ↦ elim (reply_of c) as (λ y. Client) [ None ↦ c | Some y ↦ said_of n y c ] ]) (not_empty c.interim_left (omega (arith, same, some)))))
        refl refl refl (interim_told number n name owed seat c account shows some same first)

pub sayings : SayingsAreTheLaws
sayings number n name owed seat c shows going few left =
    let told : IsToldBy number n name owed seat c (said_account n seat.account) (said n seat.client.reply) = open_told number n name owed seat c (said_account n seat.account) (shows.going going) few in
    let client : record seat.client { reply = said n seat.client.reply } ≡ side_said n seat.client
    = sym (ap (λ (b : Bool). elim b as (λ x. Side) [ true ↦ record seat.client { heard = answered seat.client.heard; reply = ended (said n seat.client.reply) } | false ↦ record seat.client { reply = said n seat.client.reply } ]) left) in
    subst (λ (x : Side). ShowsSeat number name owed (record seat { client = x; before_body = seat.before_body - n; account = said_account n seat.account }) (said_by n c)) client
    (record { number = shows.number ∙ sym told.number; closing = shows.closing ∙ sym told.closing; going = λ still. told.shows })
