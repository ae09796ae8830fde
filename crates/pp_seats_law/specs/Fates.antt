-- How a request fares is how the law has it fare (RFC 2616, section 8.1.4; ours: how often it is tried).
use Rattle.std.specs.Prelude.{◌≡◌, ℕ, ◌&&◌, Bool, true, false, List, Option, Some, None}
use Rattle.pp_flow.specs.declared.entry.Aim.{Aim as SeatAim}
use Rattle.pp_flow.specs.declared.entry.Aim.TheVariants.{Own as OfItself, Hole, Pass}
use Rattle.pp_valid.specs.declared.version.Version.{Version}
use Rattle.pp_law.specs.Connections.{anew, is_out, lost_one, out_of_tries, without_row, without_shared_row}
use Rattle.pp_law.specs.Lists.{Bytes, is_some_with}
use Rattle.pp_law.specs.State.{Aim, Through, Own, Filling, Client, Course, AskTooLong, RowRefused}
use Rattle.pp_law.specs.Table.{is_same_version}
use Rattle.pp_seats.specs.Courses.{is_unfilled, lost_one as lost_one_in, without_row as seat_without_row, without_shared_row as seat_without_shared_row}
use Rattle.pp_seats.specs.declared.seat.Course.{Course as SeatCourse}
use Rattle.pp_seats.specs.declared.seat.Course.TheVariants.{Trying as IsTrying, OutOfTries as IsOut, AskTooLong as IsTooLong}
use Rattle.pp_seats.specs.declared.seat.Seat.{Seat}
use Rattle.pp_seats_law.specs.Replies.{course_of}
use Rattle.pp_seats_law.specs.Seats.{ShowsSeat}

-- a row was refused memory for its request: behind the note of it nothing is asked, brought or lost before the refusal
abbrev pub is_refused : Course → Bool
is_refused RowRefused = true
is_refused course = false

-- what is made of a seat that shows a client shows what is made of that client
abbrev pub GoesAlong : (Seat → Seat) → (Client → Client) → Type 0
GoesAlong f g = (number : ℕ → ℕ) (name : Bytes) (owed : List Bytes) (seat : Seat) (c : Client) → ShowsSeat number name owed seat c → ShowsSeat number name owed (f seat) (g c)

-- an attempt is lost, of so many
abbrev pub AttemptsAreTheLaws : Type 0
AttemptsAreTheLaws = (most : ℕ) → GoesAlong (λ seat. record seat { course = lost_one_in most seat.course }) (λ c. record c { course = lost_one most c.course })

-- attempts count anew
abbrev pub AnewIsTheLaws : Type 0
AnewIsTheLaws = GoesAlong (λ seat. record seat { course = IsTrying 0 }) (λ c. record c { course = anew c.course })

-- they end at once
abbrev pub EndsAreTheLaws : Type 0
EndsAreTheLaws = GoesAlong (λ seat. record seat { course = IsOut }) (λ c. record c { course = out_of_tries c.course })

-- what would be asked is too long: nothing is, once memory was refused
abbrev pub LongAsksAreTheLaws : Type 0
LongAsksAreTheLaws = (number : ℕ → ℕ) (name : Bytes) (owed : List Bytes) (seat : Seat) (c : Client) → ShowsSeat number name owed seat c → is_refused c.course ≡ false
    → ShowsSeat number name owed (record seat { course = IsTooLong }) (record c { course = AskTooLong })

-- the row is cleared whose hole nobody fills, or which may not be shared
abbrev pub RowsLeaveAsTheLaws : Type 0
RowsLeaveAsTheLaws = GoesAlong seat_without_row without_row

abbrev pub SharedRowsLeaveAsTheLaws : Type 0
SharedRowsLeaveAsTheLaws = (most : ℕ) → GoesAlong (seat_without_shared_row most) (without_shared_row most)

-- ---- a hole that nobody fills

abbrev pub aim_of : SeatAim → Aim
aim_of OfItself = Own
aim_of (Hole v from to) = Filling v from to
aim_of Pass = Through

abbrev pub filled_in : Aim → Option Version
filled_in aim = elim aim [ Through ↦ None | Own ↦ None | Filling v from to ↦ Some v ]

-- of the version of the row, by the course of its client
abbrev pub UnfilledIsTheLaws : Type 0
UnfilledIsTheLaws = (aim : SeatAim) (course : SeatCourse) (known : Version) → is_unfilled aim course known ≡ (is_some_with (λ v. is_same_version v known) (filled_in (aim_of aim)) && is_out (course_of course))
