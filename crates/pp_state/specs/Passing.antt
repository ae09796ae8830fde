-- A response that is passed to a client, spelled anew (RFC 2616, sections 3.6.1 and 13.5).
use Rattle.std.specs.Prelude.{ℕ, Bool, true, false, ◌&&◌, not, List, length, Option, Some, None}
use Rattle.pp_client.specs.Clients.{Client}
use Rattle.pp_client.specs.Replies.{has_begun}
use Rattle.pp_client.specs.Requests.{current_of, is_answerable}
use Rattle.pp_framing.specs.declared.body.BodyRule.{BodyRule}
use Rattle.pp_framing.specs.declared.body.BodyRule.TheVariants.{Empty, Length, Chunked, ToEnd}
use Rattle.pp_head.specs.Response.{Response}
use Rattle.pp_pass.specs.Pipe.{started}
use Rattle.pp_reply.specs.Keeping.{is_old}
use Rattle.pp_reply.specs.Texts.{passed_head}
use Rattle.pp_seats.specs.Heads.{asked_in}
use Rattle.pp_seats.specs.declared.front.Asked.{Asked}
use Rattle.pp_seats.specs.declared.seat.Brought.TheVariants.{Passes}
use Rattle.pp_seats.specs.declared.seat.PassedEnd.TheVariants.{Coming}
use Rattle.pp_seats.specs.declared.seat.Seat.{Seat}

-- a request, or what is none, waits for its reply
abbrev pub may_answer : Client → Bool
may_answer c = is_answerable (current_of c.heard) && not (has_begun c.reply.stage)

-- a body whose length is not told goes on in chunks, but not to HTTP/1.0 (section 3.6.1)
abbrev pub is_coded : BodyRule → ℕ → Bool
is_coded Empty minor = false
is_coded (Length n) minor = false
is_coded Chunked minor = not (is_old minor)
is_coded ToEnd minor = not (is_old minor)

-- its head is written, and its body will go through the pipe
abbrev pub with_head : List ℕ → Response → BodyRule → Asked → Seat → Seat
with_head text head rule a seat = record seat {
  client = record seat.client { reply = record seat.client.reply { text = text; pipe = started (is_coded rule a.minor) } };
  brought = Passes (record { status = head.status; rule = rule; head_len = length text; end = Coming });
}

abbrev pub head_for : List ℕ → Response → BodyRule → Asked → List ℕ
head_for name head rule a = passed_head head rule a.minor a.is_head name a.keeps_open

-- to the client that asked it, where no reply has begun
abbrev pub passed_on : List ℕ → Response → BodyRule → Option Asked → Bool → Seat → Seat
passed_on name head rule None may seat = seat
passed_on name head rule (Some a) may seat = elim may [ true ↦ with_head (head_for name head rule a) head rule a seat | false ↦ seat ]

abbrev pub passed_to : List ℕ → Response → BodyRule → Seat → Seat
passed_to name head rule seat = passed_on name head rule (asked_in seat.front) (may_answer seat.client) seat
