-- What a decision makes of a seat (RFC 2616, sections 6 and 8.2.3).
use Rattle.std.specs.Prelude.{ℕ, ◌+◌, ◌-◌, ◌^◌, min, Bool, true, false, ◌&&◌, not, length, List, if◌then◌else◌, Option, Some, None}
use Rattle.pp_client.specs.Replies.{may_interim, with_begun, with_interim as interim_on}
use Rattle.pp_client.specs.declared.reply.Begin.TheVariants.{Page}
use Rattle.pp_objects.specs.declared.id.ObjectId.{ObjectId}
use Rattle.pp_reply.specs.Texts.{has_page, page}
use Rattle.pp_world.specs.declared.note.Decision.{Decision}
use Rattle.pp_world.specs.declared.note.Decision.TheVariants.{Refuse}
use Rattle.pp_seats.specs.declared.front.Asked.{Asked}
use Rattle.pp_seats.specs.declared.front.Front.{Front}
use Rattle.pp_seats.specs.declared.seat.Brought.TheVariants.{Awaited}
use Rattle.pp_seats.specs.declared.seat.Course.TheVariants.{Trying}
use Rattle.pp_seats.specs.declared.seat.Seat.{Seat}
use Rattle.pp_seats.specs.declared.seat.Stage.{Stage}
use Rattle.pp_seats.specs.declared.seat.Stage.TheVariants.{Waiting, Passing, Answering}
use Rattle.pp_seats.specs.Heads.{asked_in, head_asked_in, keeps_in}
use Rattle.pp_seats.specs.Seats.{is_undecided_in, without_body}

-- ---- the interim answer

abbrev pub expects_in : Option Asked → Bool
expects_in None = false
expects_in (Some a) = a.expects_interim

-- it comes before the reply, once
abbrev pub with_interim : Seat → Seat
with_interim seat = elim (expects_in (asked_in seat.front) && is_undecided_in seat.stage && may_interim seat.client.reply) [
  | true ↦ record seat { client = record seat.client { reply = interim_on seat.client.reply }; before_body = min (seat.before_body + 25) (2 ^ 64 - 1) }
  | false ↦ seat
]

-- ---- a page

-- one without a page of its own has that of 504
abbrev pub shown_status : ℕ → ℕ
shown_status status = if has_page status then status else 504

abbrev pub page_for : ℕ → Front → List ℕ
page_for status front = page (shown_status status) (head_asked_in (asked_in front)) (keeps_in status (asked_in front))

-- it is the reply, and the rest of the request's body is dropped as it comes
abbrev pub paged : ℕ → Seat → Seat
paged status seat = without_body (record seat {
  client = record seat.client { reply = with_begun Page (record seat.client.reply { text = page_for status seat.front }) };
  before_body = min (seat.before_body + length (page_for status seat.front)) (2 ^ 64 - 1);
  stage = Answering (record { decision = Refuse status; source = None; from = 0; to = 0; has_begun = true });
  closes = not (keeps_in status (asked_in seat.front));
  brought = Awaited;
  course = Trying 0;
})

-- ---- an exchange, or a reply by the row

-- the response is passed, or decided by
abbrev pub asked_stage : Bool → Stage
asked_stage passes = elim passes [ true ↦ Passing | false ↦ Waiting ]

abbrev pub asking : Bool → Seat → Seat
asking passes seat = record seat { stage = asked_stage passes; brought = Awaited }

-- of this instance, or of none, these offsets
abbrev pub answering : Decision → Option ObjectId → ℕ × ℕ → Seat → Seat
answering d source span seat = record seat {
  stage = Answering (record { decision = d; source = source; from = span.0; to = span.1; has_begun = false });
  closes = not (keeps_in 200 (asked_in seat.front));
}
