-- Where no byte is said nothing changes; and of whom the reply is over, in the program as in the law.
use Rattle.std.proofs.Common.{◌≡◌, refl, sym, ap, ap₂, ◌∙◌, ℕ, ◌+◌, ◌-◌, Bool, true, false, not, ◌&&◌, cond, nat_lt, drop, length, [], arith}
use Rattle.pp_client.specs.Clients.{Client as Side, said_by as side_said}
use Rattle.pp_client.specs.Replies.{Reply as Said, body_said, ended, has_begun as is_said_to, interim_left, is_said, said, stage_said}
use Rattle.pp_client.specs.Requests.{answered}
use Rattle.pp_client.specs.declared.interim.Interim.{Interim}
use Rattle.pp_client.specs.declared.interim.Interim.TheVariants.{Unasked, Left}
use Rattle.pp_client.specs.declared.reply.Begin.{Begin}
use Rattle.pp_client.specs.declared.reply.Begin.TheVariants.{Page, Instance as OfInstance, Passed as IsPassed}
use Rattle.pp_client.specs.declared.reply.Stage.{Stage as SaidStage}
use Rattle.pp_client.specs.declared.reply.Stage.TheVariants.{Due, Begun}
use Rattle.pp_law.specs.Lists.{Bytes}
use Rattle.pp_law.specs.Replies.{is_said as is_over}
use Rattle.pp_law.specs.State.{Client, Stage, Answering}
use Rattle.pp_pass.specs.Pipe.{Pipe}
use Rattle.pp_seats.specs.Courses.{has_begun, has_begun_in}
use Rattle.pp_seats.specs.Follows.{answer_in}
use Rattle.pp_seats.specs.Seats.{passed_in}
use Rattle.pp_seats.specs.declared.seat.Seat.{Seat}
use Rattle.pp_seats.specs.declared.seat.Stage.{Stage as SeatStage}
use Rattle.pp_seats.specs.declared.seat.Stage.TheVariants.{Undecided as IsUndecided, Waiting as IsWaiting, Passing as IsPassing, Answering as IsAnswering}
use Rattle.pp_seats_law.proofs.SaidOn.{parts}
use Rattle.pp_seats_law.proofs.SaidWhole.{ends_same}
use Rattle.pp_seats_law.specs.Reads.{answered_on}
use Rattle.pp_seats_law.specs.Replies.{ShowsStage}
use Rattle.pp_seats_law.specs.Seats.{ShowsOpen, ShowsSeat}
use Rattle.pp_state.specs.Hearing.{is_passed_whole, is_said as is_said_whole, is_under_way, may_end, with_end}

-- ---- no byte

body_nothing : (m : ℕ) → m ≡ 0 → (i : Interim) (b : Begin) (text : Bytes) (pipe : Pipe) → body_said m b (parts i (Begun b) text pipe) ≡ parts i (Begun b) text pipe
body_nothing m none i Page text pipe = refl
body_nothing m none i (OfInstance id next to) text pipe = let same : next + m ≡ next = omega (arith, none) in ap (λ (k : ℕ). parts i (Begun (OfInstance id k to)) text pipe) same
body_nothing m none i IsPassed text pipe = ap (λ (k : ℕ). parts i (Begun IsPassed) text (let q : Pipe = record pipe { bytes = drop k pipe.bytes } in q)) none

less_none : (n : ℕ) → 0 - n ≡ 0
less_none n = omega arith

stage_nothing : (i : Interim) (stage : SaidStage) (text : Bytes) (pipe : Pipe) → stage_said 0 stage (parts i stage text pipe) ≡ parts i stage text pipe
stage_nothing i Due text pipe = refl
stage_nothing i (Begun b) text pipe = body_nothing (0 - length text) (less_none (length text)) i b text pipe

interim_nothing : (i : Interim) (b : Bool) (stage : SaidStage) (text : Bytes) (pipe : Pipe) → nat_lt 0 (interim_left i) ≡ b
    → cond b (parts (Left (interim_left i - 0)) stage text pipe) (stage_said 0 stage (parts i stage text pipe)) ≡ parts i stage text pipe
interim_nothing i false stage text pipe is = stage_nothing i stage text pipe
interim_nothing Unasked true stage text pipe is = absurd (cc is)
interim_nothing (Left n) true stage text pipe is = let same : n - 0 ≡ n = omega arith in ap (λ (m : ℕ). parts (Left m) stage text pipe) same

pub said_nothing : (r : Said) → said 0 r ≡ r
said_nothing r = interim_nothing r.interim (nat_lt 0 (interim_left r.interim)) r.stage r.text r.pipe refl

abbrev side_if : Bool → Side → Side
side_if b c = elim b [ true ↦ record c { heard = answered c.heard; reply = ended c.reply } | false ↦ c ]

side_nothing : (c : Side) (b : Bool) → is_said c.reply ≡ b → side_said 0 c ≡ side_if b c
side_nothing c b is =
    ap (λ (r : Said). elim (is_said r) as (λ t. Side) [ true ↦ record c { heard = answered c.heard; reply = ended r } | false ↦ record c { reply = r } ]) (said_nothing c.reply)
    ∙ ap (λ (t : Bool). side_if t c) is

-- ---- one that is passed, of which the end came

abbrev end_if : Bool → Seat → Seat
end_if b seat = elim b [ true ↦ record seat { client = side_said 0 seat.client } | false ↦ seat ]

pub over_end : (seat : Seat) → may_end seat ≡ true → is_said seat.client.reply ≡ true → with_end seat ≡ answered_on seat
over_end seat may over = ap (λ (b : Bool). end_if b seat) may ∙ ap (λ (c : Side). let x : Seat = record seat { client = c } in x) (side_nothing seat.client true over)

pub unsaid_end : (seat : Seat) → is_said seat.client.reply ≡ false → with_end seat ≡ seat
unsaid_end seat unsaid = by (may_end seat)
  where
    by : (b : Bool) → end_if b seat ≡ seat
    by true = ap (λ (c : Side). let x : Seat = record seat { client = c } in x) (side_nothing seat.client false unsaid)
    by false = refl

-- ---- all of it was said

begun_says : (number : ℕ → ℕ) (said : Said) (stage : SaidStage) (text : Bytes) (pipe : Pipe) (i : Interim) (at : SeatStage) (other : Stage) → ShowsStage number (parts i stage text pipe) at other → has_begun_in (answer_in at) ≡ true → is_said_to stage ≡ true
begun_says number said (Begun b) text pipe i at other shows begun = refl
begun_says number said Due text pipe i (IsAnswering a) (Answering r) shows begun = sym shows.says.due ∙ begun
begun_says number said Due text pipe i IsUndecided other shows begun = absurd (cc begun)
begun_says number said Due text pipe i IsWaiting other shows begun = absurd (cc begun)
begun_says number said Due text pipe i IsPassing other shows begun = absurd (cc begun)
begun_says number said Due text pipe i at other shows begun = absurd shows

and_false : (b : Bool) → (b && false) ≡ false
and_false true = refl
and_false false = refl

first_of : (a b : Bool) → (a && b) ≡ true → a ≡ true
first_of true b is = refl
first_of false b is = absurd (cc is)

under_way : (a b : Bool) → (a ≡ true → b ≡ true) → (a && not b) ≡ false
under_way true b to = ap not (to refl)
under_way false b to = refl

pub over_same : (number : ℕ → ℕ) (name : Bytes) (seat : Seat) (c : Client) → ShowsSeat number name [] seat c → (c.is_closing ≡ false → is_said seat.client.reply ≡ true → may_end seat ≡ true) → is_said_whole seat ≡ (is_over c && not c.is_closing)
over_same number name seat c shows ends = by c.is_closing refl
  where
    at : c.is_closing ≡ false → (b : Bool) → is_said seat.client.reply ≡ b → is_said_whole seat ≡ b
    at going true over =
        let may : may_end seat ≡ true = ends going over in
        let way : is_under_way seat ≡ true = first_of (is_under_way seat) (is_passed_whole (passed_in seat.brought)) (first_of (is_under_way seat && is_passed_whole (passed_in seat.brought)) (is_said_to seat.client.reply.stage) may) in
        ap₂ (λ (a : Bool) (x : Seat). a && not (is_said_to x.client.reply.stage)) way (over_end seat may over)
    at going false unsaid =
        let live : ShowsOpen number name [] seat c = shows.going going in
        ap (λ (x : Seat). is_under_way seat && not (is_said_to x.client.reply.stage)) (unsaid_end seat unsaid)
        ∙ under_way (is_under_way seat) (is_said_to seat.client.reply.stage)
        (λ way. begun_says number seat.client.reply seat.client.reply.stage seat.client.reply.text seat.client.reply.pipe seat.client.reply.interim seat.stage c.stage live.stage
        (sym (ap (λ (b : Bool). not b && has_begun seat) (shows.closing ∙ going)) ∙ way))

    and_true : (b : Bool) → (b && true) ≡ b
    and_true true = refl
    and_true false = refl

    by : (b : Bool) → c.is_closing ≡ b → is_said_whole seat ≡ (is_over c && not c.is_closing)
    by true closing =
        ap (λ (b : Bool). (not b && has_begun seat) && not (is_said_to (with_end seat).client.reply.stage)) (shows.closing ∙ closing)
        ∙ sym (ap (λ (b : Bool). is_over c && not b) closing ∙ and_false (is_over c))
    by false going =
        at going (is_said seat.client.reply) refl ∙ ends_same number name [] seat c (shows.going going) ∙ sym (ap (λ (b : Bool). is_over c && not b) going ∙ and_true (is_over c))
