-- How a request fares.
use Rattle.std.proofs.Common.{◌≡◌, ◌⊎◌, inl, inr, refl, sym, subst, ap, ap₂, ◌∙◌, ℕ, ◌+◌, nat_le, Bool, true, false, not, ◌&&◌, ◌||◌, List}
use Rattle.pp_client.specs.Replies.{Reply as Said}
use Rattle.pp_flow.specs.declared.entry.Aim.TheVariants.{Own as OfItself, Hole, Pass}
use Rattle.pp_law.specs.Connections.{anew, is_out, lost_one, out_of_tries}
use Rattle.pp_law.specs.Lists.{Bytes}
use Rattle.pp_law.specs.Stages.{is_begun}
use Rattle.pp_law.specs.State.{Client, Course, Trying, OutOfTries, AskTooLong, RowRefused}
use Rattle.pp_law.specs.Table.{is_same_version}
use Rattle.pp_seats.specs.Courses.{has_begun, lost_one as lost_one_in, is_out as is_out_in}
use Rattle.pp_seats.specs.declared.seat.Brought.{Brought as SeatBrought}
use Rattle.pp_seats.specs.declared.seat.Brought.TheVariants.{Awaited as NoneYet, Useless as NoneOfUse, Joins as JoinsRow, Passes as PassesOn, TooWide as IsTooWide, Refused}
use Rattle.pp_seats.specs.declared.seat.Course.{Course as SeatCourse}
use Rattle.pp_seats.specs.declared.seat.Course.TheVariants.{Trying as IsTrying, OutOfTries as IsOut, AskTooLong as IsTooLong}
use Rattle.pp_seats.specs.declared.seat.Seat.{Seat}
use Rattle.pp_seats_law.specs.Fates.{AnewIsTheLaws, AttemptsAreTheLaws, EndsAreTheLaws, LongAsksAreTheLaws, RowsLeaveAsTheLaws, SharedRowsLeaveAsTheLaws, UnfilledIsTheLaws, is_refused}
use Rattle.pp_seats_law.specs.Replies.{IsOwed, IsRefusedRow, ShowsFate, course_of}
use Rattle.pp_seats_law.specs.Seats.{ShowsOpen, ShowsSeat}
use Rattle.pp_seats_law.proofs.Stages.{begun}

-- ---- the same with another course

-- where memory was refused for the row, it stays so, or that is not noted yet
refused_with : (owed : List Bytes) (c : Client) (course : Course) (given_up : Bool) → IsRefusedRow owed c → (c.course ≡ RowRefused → course ≡ RowRefused) → IsRefusedRow owed (record c { course = course; has_given_up = given_up })
refused_with owed c course given_up shows stays = record { waits = shows.waits; joins = shows.joins; refused = by shows.refused }
  where
    by : (c.course ≡ RowRefused) ⊎ IsOwed owed c.front → (course ≡ RowRefused) ⊎ IsOwed owed c.front
    by (inl is) = inl (stays is)
    by (inr not_noted) = inr not_noted

fate_with : (number : ℕ → ℕ) (name : Bytes) (owed : List Bytes) (said : Said) (old new : SeatCourse) (brought : SeatBrought) (c : Client) (course : Course) (given_up : Bool) → ShowsFate number name owed said old brought c
    → (c.course ≡ RowRefused → course ≡ RowRefused) → (course_of old ≡ c.course → course_of new ≡ course) → ShowsFate number name owed said new brought (record c { course = course; has_given_up = given_up })
fate_with number name owed said old new Refused c course given_up shows stays same = refused_with owed c course given_up shows stays
fate_with number name owed said old new NoneYet c course given_up shows stays same = (same shows.0, shows.1)
fate_with number name owed said old new NoneOfUse c course given_up shows stays same = (same shows.0, shows.1)
fate_with number name owed said old new (JoinsRow id plain) c course given_up shows stays same = (same shows.0, shows.1)
fate_with number name owed said old new (PassesOn x) c course given_up shows stays same = (same shows.0, shows.1)
fate_with number name owed said old new IsTooWide c course given_up shows stays same = (same shows.0, shows.1)

open_with : (number : ℕ → ℕ) (name : Bytes) (owed : List Bytes) (seat : Seat) (c : Client) (new : SeatCourse) (course : Course) (given_up : Bool) → ShowsOpen number name owed seat c
    → (c.course ≡ RowRefused → course ≡ RowRefused) → (course_of seat.course ≡ c.course → course_of new ≡ course)
    → ShowsOpen number name owed (record seat { course = new; has_given_up = given_up }) (record c { course = course; has_given_up = given_up })
open_with number name owed seat c new course given_up shows stays same = record {
  hung_up = shows.hung_up;
  mark = shows.mark;
  heard = shows.heard;
  body = shows.body;
  over = shows.over;
  front = shows.front;
  body_left = shows.body_left;
  index = shows.index;
  stage = shows.stage;
  waits_on = shows.waits_on;
  fate = fate_with number name owed seat.client.reply seat.course new seat.brought c course given_up shows.fate stays same;
  asked = shows.asked;
  piped = shows.piped;
  given_up = refl;
  interim = shows.interim;
  before_body = shows.before_body;
  closes = shows.closes;
}

seat_with : (number : ℕ → ℕ) (name : Bytes) (owed : List Bytes) (seat : Seat) (c : Client) (new : SeatCourse) (course : Course) (given_up : Bool) → ShowsSeat number name owed seat c
    → (c.course ≡ RowRefused → course ≡ RowRefused) → (course_of seat.course ≡ c.course → course_of new ≡ course)
    → ShowsSeat number name owed (record seat { course = new; has_given_up = given_up }) (record c { course = course; has_given_up = given_up })
seat_with number name owed seat c new course given_up shows stays same = record {
  number = shows.number;
  closing = shows.closing;
  going = λ going. open_with number name owed seat c new course given_up (shows.going going) stays same;
}

-- given up is what was given up
seat_same : (number : ℕ → ℕ) (name : Bytes) (owed : List Bytes) (seat : Seat) (c : Client) (new : SeatCourse) (course : Course) → ShowsSeat number name owed seat c
    → (c.course ≡ RowRefused → course ≡ RowRefused) → (course_of seat.course ≡ c.course → course_of new ≡ course)
    → ShowsSeat number name owed (record seat { course = new }) (record c { course = course })
seat_same number name owed seat c new course shows stays same = record {
  number = shows.number;
  closing = shows.closing;
  going = λ going. subst (λ (b : Bool). ShowsOpen number name owed (record seat { course = new }) (record c { course = course; has_given_up = b })) (shows.going going).given_up
      (open_with number name owed seat c new course seat.has_given_up (shows.going going) stays same);
}

isnt_refused : (course : Course) → is_refused course ≡ false → (other : Course) → course ≡ RowRefused → other ≡ RowRefused
isnt_refused course isnt other is = absurd (by (sym (ap is_refused is) ∙ isnt))
  where
    by : true ≡ false → ⊥
    by e = absurd (cc e)

-- ---- attempts

lost_same_by : (n : ℕ) (b : Bool) → course_of (elim b as (λ c. SeatCourse) [ true ↦ IsOut | false ↦ IsTrying (n + 1) ]) ≡ (elim b as (λ c. Course) [ true ↦ OutOfTries | false ↦ Trying (n + 1) ])
lost_same_by n true = refl
lost_same_by n false = refl

lost_same : (most : ℕ) (course : SeatCourse) → course_of (lost_one_in most course) ≡ lost_one most (course_of course)
lost_same most (IsTrying n) = lost_same_by n (nat_le most (n + 1))
lost_same most IsOut = refl
lost_same most IsTooLong = refl

pub attempts : AttemptsAreTheLaws
attempts most number name owed seat c shows =
    seat_same number name owed seat c (lost_one_in most seat.course) (lost_one most c.course) shows (λ refused. ap (lost_one most) refused) (λ same. lost_same most seat.course ∙ ap (lost_one most) same)

anew_same : (course : SeatCourse) → anew (course_of course) ≡ Trying 0
anew_same (IsTrying n) = refl
anew_same IsOut = refl
anew_same IsTooLong = refl

pub counts_anew : AnewIsTheLaws
counts_anew number name owed seat c shows = seat_same number name owed seat c (IsTrying 0) (anew c.course) shows (λ refused. ap anew refused) (λ same. sym (anew_same seat.course) ∙ ap anew same)

ends_same : (course : SeatCourse) → out_of_tries (course_of course) ≡ OutOfTries
ends_same (IsTrying n) = refl
ends_same IsOut = refl
ends_same IsTooLong = refl

pub ends : EndsAreTheLaws
ends number name owed seat c shows =
    seat_same number name owed seat c IsOut (out_of_tries c.course) shows (λ refused. ap out_of_tries refused) (λ same. sym (ends_same seat.course) ∙ ap out_of_tries same)

pub long_asks : LongAsksAreTheLaws
long_asks number name owed seat c shows isnt = seat_same number name owed seat c IsTooLong AskTooLong shows (isnt_refused c.course isnt AskTooLong) (λ same. refl)

-- ---- rows

-- of one that is closing no more is shown than that
crossed : (number : ℕ → ℕ) (name : Bytes) (owed : List Bytes) (seat : Seat) (c : Client) → seat.client.id ≡ c.number → seat.is_closing ≡ c.is_closing → (c.is_closing ≡ false → true ≡ false) → ShowsSeat number name owed seat c
crossed number name owed seat c numbered closing isnt = record { number = numbered; closing = closing; going = λ going. let e : true ≡ false = isnt going in absurd (cc e) }

row_by : (number : ℕ → ℕ) (name : Bytes) (owed : List Bytes) (seat : Seat) (c : Client) (a b : Bool) → ShowsSeat number name owed seat c → (c.is_closing ≡ false → a ≡ b)
    → ShowsSeat number name owed (elim a as (λ x. Seat) [ true ↦ seat | false ↦ record seat { course = IsTrying 0; has_given_up = true } ])
    (elim b as (λ x. Client) [ true ↦ c | false ↦ record c { course = anew c.course; has_given_up = true } ])
row_by number name owed seat c true true shows same = shows
row_by number name owed seat c false false shows same = seat_with number name owed seat c (IsTrying 0) (anew c.course) true shows (λ refused. ap anew refused) (λ same. sym (anew_same seat.course) ∙ ap anew same)
row_by number name owed seat c true false shows same = crossed number name owed seat (record c { course = anew c.course; has_given_up = true }) shows.number shows.closing same
row_by number name owed seat c false true shows same = crossed number name owed (record seat { course = IsTrying 0; has_given_up = true }) c shows.number shows.closing (λ going. sym (same going))

stands_same : (number : ℕ → ℕ) (name : Bytes) (owed : List Bytes) (seat : Seat) (c : Client) → ShowsSeat number name owed seat c → c.is_closing ≡ false → (has_begun seat || seat.has_given_up) ≡ (is_begun c || c.has_given_up)
stands_same number name owed seat c shows going = ap₂ (λ (a b : Bool). a || b) (begun number name owed seat c (shows.going going)) (shows.going going).given_up

pub rows_leave : RowsLeaveAsTheLaws
rows_leave number name owed seat c shows = row_by number name owed seat c (has_begun seat || seat.has_given_up) (is_begun c || c.has_given_up) shows (stands_same number name owed seat c shows)

shared_by : (number : ℕ → ℕ) (most : ℕ) (name : Bytes) (owed : List Bytes) (seat : Seat) (c : Client) (a b x y : Bool) → ShowsSeat number name owed seat c → (c.is_closing ≡ false → a ≡ b) → (c.is_closing ≡ false → x ≡ y)
    → ShowsSeat number name owed
    (elim a as (λ x. Seat) [ true ↦ record seat { course = lost_one_in most seat.course } | false ↦ elim x as (λ x. Seat) [ true ↦ seat | false ↦ record seat { course = IsTrying 0; has_given_up = true } ] ])
    (elim b as (λ x. Client) [ true ↦ record c { course = lost_one most c.course } | false ↦ elim y as (λ x. Client) [ true ↦ c | false ↦ record c { course = anew c.course; has_given_up = true } ] ])
shared_by number most name owed seat c true true x y shows same other = attempts most number name owed seat c shows
shared_by number most name owed seat c false false x y shows same other = row_by number name owed seat c x y shows other
shared_by number most name owed seat c true false x true shows same other = crossed number name owed (record seat { course = lost_one_in most seat.course }) c shows.number shows.closing same
shared_by number most name owed seat c true false x false shows same other =
    crossed number name owed (record seat { course = lost_one_in most seat.course }) (record c { course = anew c.course; has_given_up = true }) shows.number shows.closing same
shared_by number most name owed seat c false true true y shows same other = crossed number name owed seat (record c { course = lost_one most c.course }) shows.number shows.closing (λ going. sym (same going))
shared_by number most name owed seat c false true false y shows same other =
    crossed number name owed (record seat { course = IsTrying 0; has_given_up = true }) (record c { course = lost_one most c.course }) shows.number shows.closing (λ going. sym (same going))

pub shared_rows_leave : SharedRowsLeaveAsTheLaws
shared_rows_leave most number name owed seat c shows =
    shared_by number most name owed seat c (seat.has_given_up && not (has_begun seat)) (c.has_given_up && not (is_begun c)) (has_begun seat || seat.has_given_up) (is_begun c || c.has_given_up) shows
    (λ going. ap₂ (λ (a b : Bool). a && not b) (shows.going going).given_up (begun number name owed seat c (shows.going going)))
    (stands_same number name owed seat c shows)

-- ---- a hole that nobody fills

out_same : (course : SeatCourse) → is_out_in course ≡ is_out (course_of course)
out_same (IsTrying n) = refl
out_same IsOut = refl
out_same IsTooLong = refl

swapped : (a b : Bool) → (a && b) ≡ (b && a)
swapped true true = refl
swapped true false = refl
swapped false true = refl
swapped false false = refl

pub unfilled : UnfilledIsTheLaws
unfilled OfItself course known = refl
unfilled Pass course known = refl
unfilled (Hole v from to) course known = ap (λ (b : Bool). b && is_same_version v known) (out_same course) ∙ swapped (is_out (course_of course)) (is_same_version v known)
