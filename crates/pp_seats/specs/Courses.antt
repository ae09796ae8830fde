-- How a request fares (RFC 2616, section 8.1.4; ours: how often it is tried).
use Rattle.std.specs.Prelude.{ℕ, ◌+◌, Bool, true, false, ◌==◌, ◌&&◌, ◌||◌, not, nat_le, bytes_eq, Option, Some, None}
use Rattle.pp_flow.specs.declared.entry.Aim.{Aim}
use Rattle.pp_flow.specs.declared.entry.Aim.TheVariants.{Own, Hole, Pass as Through}
use Rattle.pp_valid.specs.declared.version.Version.{Version}
use Rattle.pp_seats.specs.declared.seat.Answer.{Answer}
use Rattle.pp_seats.specs.declared.seat.Course.{Course}
use Rattle.pp_seats.specs.declared.seat.Course.TheVariants.{Trying, OutOfTries, AskTooLong}
use Rattle.pp_seats.specs.declared.seat.Seat.{Seat}
use Rattle.pp_seats.specs.Follows.{answer_in}

-- the client is in the midst of a reply
abbrev pub has_begun_in : Option Answer → Bool
has_begun_in None = false
has_begun_in (Some a) = a.has_begun

abbrev pub has_begun : Seat → Bool
has_begun seat = has_begun_in (answer_in seat.stage)

-- more may be asked for its request
abbrev pub is_trying_in : Course → Bool
is_trying_in (Trying n) = true
is_trying_in OutOfTries = false
is_trying_in AskTooLong = false

-- the attempts of the request for a hole of the row's version ended
abbrev pub is_out : Course → Bool
is_out (Trying n) = false
is_out OutOfTries = true
is_out AskTooLong = false

abbrev pub is_same_version : Version → Version → Bool
is_same_version v w = bytes_eq v.tag w.tag && (v.length == w.length)

abbrev pub is_unfilled : Aim → Course → Version → Bool
is_unfilled Own course known = false
is_unfilled (Hole v from to) course known = is_out course && is_same_version v known
is_unfilled Through course known = false

-- an attempt is lost, of so many
abbrev pub lost_one : ℕ → Course → Course
lost_one most (Trying n) = elim (nat_le most (n + 1)) [ true ↦ OutOfTries | false ↦ Trying (n + 1) ]
lost_one most OutOfTries = OutOfTries
lost_one most AskTooLong = AskTooLong

-- a row whose hole nobody fills is cleared; where the reply has not begun, its request is decided again without it, once, and its
-- attempts count anew
abbrev pub without_row : Seat → Seat
without_row seat = elim (has_begun seat || seat.has_given_up) [ true ↦ seat | false ↦ record seat { course = Trying 0; has_given_up = true } ]

-- a row that may not be shared is cleared: the same; where a row was cleared for the request before, an attempt is lost
abbrev pub without_shared_row : ℕ → Seat → Seat
without_shared_row most seat = elim (seat.has_given_up && not (has_begun seat)) [ true ↦ record seat { course = lost_one most seat.course } | false ↦ without_row seat ]
