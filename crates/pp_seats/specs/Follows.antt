-- The next byte of a client that follows an instance (RFC 2616, section 4.4).
use Rattle.std.specs.Prelude.{ℕ, true, false, nat_lt, Option, Some, None, option_map}
use Rattle.pp_client.specs.Replies.{Reply, next_byte}
use Rattle.pp_objects.specs.declared.id.ObjectId.{ObjectId}
use Rattle.pp_seats.specs.declared.seat.Answer.{Answer}
use Rattle.pp_seats.specs.declared.seat.Next.{Next}
use Rattle.pp_seats.specs.declared.seat.Seat.{Seat}
use Rattle.pp_seats.specs.declared.seat.Stage.{Stage}
use Rattle.pp_seats.specs.declared.seat.Stage.TheVariants.{Undecided, Waiting, Passing, Answering}

abbrev pub answer_in : Stage → Option Answer
answer_in Undecided = None
answer_in Waiting = None
answer_in Passing = None
answer_in (Answering a) = Some a

-- of a reply that has begun the client knows how far it is
abbrev pub at_of : Answer → Reply → Option ℕ
at_of a reply = elim a.has_begun [ true ↦ option_map (λ next. next.1) (next_byte reply) | false ↦ Some a.from ]

abbrev pub next_at : ObjectId → ℕ → Option ℕ → Option Next
next_at source to None = None
next_at source to (Some at) = elim (nat_lt at to) [ true ↦ Some (record { source = source; at = at; to = to }) | false ↦ None ]

abbrev pub next_by : Option Answer → Reply → Option Next
next_by None reply = None
next_by (Some a) reply = elim a.source [ None ↦ None | Some id ↦ next_at id a.to (at_of a reply) ]

abbrev pub next_of : Seat → Option Next
next_of seat = elim seat.is_closing [ true ↦ None | false ↦ next_by (answer_in seat.stage) seat.client.reply ]
