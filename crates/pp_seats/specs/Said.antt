-- What is said of an instance (RFC 2616, section 6): its bytes stand behind the interim answer and the head.
use Rattle.std.specs.Prelude.{ℕ, ◌+◌, ◌-◌, Bool, true, false, ◌&&◌, nat_lt, min, Option, Some, None, option_map}
use Rattle.pp_seats.specs.declared.seat.Next.{Next}
use Rattle.pp_seats.specs.declared.seat.Seat.{Seat}
use Rattle.pp_seats.specs.Courses.{has_begun}
use Rattle.pp_seats.specs.Follows.{next_of}

-- so many bytes of it, no further than its span
abbrev pub first_of : ℕ → Next → Next
first_of n next = record next { to = min next.to (next.at + n) }

-- of the next so many bytes that are said, those of the instance that the client follows
abbrev pub used_by : ℕ → Seat → Option Next
used_by n seat = elim (nat_lt seat.before_body n && has_begun seat) [ true ↦ option_map (first_of (n - seat.before_body)) (next_of seat) | false ↦ None ]
