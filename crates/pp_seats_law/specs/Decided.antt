-- What a decision makes of a seat is what the law makes of its client (RFC 2616, sections 6, 8.2.3 and 13).
use Rattle.std.specs.Prelude.{◌≡◌, ◌≤◌, ℕ, Bool, true, false, ◌||◌, is_some, length, List, Option}
use Rattle.pp_objects.specs.declared.id.ObjectId.{ObjectId}
use Rattle.pp_reply.specs.Texts.{has_page}
use Rattle.pp_world.specs.declared.note.Decision.{Decision}
use Rattle.pp_law.specs.Deciding.{answering_with, asking_with, is_pass, refused_with, reply_by, span_of}
use Rattle.pp_law.specs.Lists.{Bytes, is_some_with}
use Rattle.pp_law.specs.Requests.{Front, expects_interim, parsed_in}
use Rattle.pp_law.specs.Stages.{is_begun, is_undecided}
use Rattle.pp_law.specs.State.{Client}
use Rattle.pp_seats.specs.declared.account.Account.{Account}
use Rattle.pp_seats.specs.declared.seat.Seat.{Seat}
use Rattle.pp_seats.specs.Decided.{answering, asking, expects_in, page_for, paged, with_interim}
use Rattle.pp_seats.specs.Dues.{is_refused_in}
use Rattle.pp_seats.specs.Heads.{asked_in}
use Rattle.pp_seats_law.specs.Replies.{source_number}
use Rattle.pp_seats_law.specs.Seats.{ShowsSeat}

abbrev pub expects_of : Front → Bool
expects_of f = is_some_with expects_interim (parsed_in f)

-- a decision may be taken: no reply has begun, what is no head was not decided before, and the interim answer is expected as the law
-- has it, which is so unless memory was refused for a target that has no key
pub record MayBeDecided (seat : Seat) (c : Client) : Type 0 where
  pub unbegun : is_begun c ≡ false
  pub first : (is_undecided c.stage || is_some (parsed_in c.front)) ≡ true
  pub expects : expects_in (asked_in seat.front) ≡ expects_of c.front

-- a page, which has room; what the operator's log is to say of it is beside it
abbrev pub PagesAreTheLaws : Type 0
PagesAreTheLaws = (number : ℕ → ℕ) (status : ℕ) (account : Account) (name : Bytes) (owed : List Bytes) (seat : Seat) (c : Client) → ShowsSeat number name owed seat c → c.is_closing ≡ false → MayBeDecided seat c → has_page status ≡ true
    → length (page_for status seat.front) ≤ 20480 → ShowsSeat number name owed (record (paged status (with_interim seat)) { account = account }) (refused_with status c)

-- its origin is asked. Where its row was refused memory, it is refused, and nothing is asked for it
abbrev pub AsksAreTheLaws : Type 0
AsksAreTheLaws = (number : ℕ → ℕ) (d : Decision) (name : Bytes) (owed : List Bytes) (seat : Seat) (c : Client) → ShowsSeat number name owed seat c → c.is_closing ≡ false → MayBeDecided seat c → is_refused_in seat.brought ≡ false
    → ShowsSeat number name owed (asking (is_pass d) (with_interim seat)) (asking_with d c)

-- a reply by the row, or by the response that is passed
abbrev pub AnswersAreTheLaws : Type 0
AnswersAreTheLaws = (number : ℕ → ℕ) (d : Decision) (source : Option ObjectId) (name : Bytes) (owed : List Bytes) (seat : Seat) (c : Client) → ShowsSeat number name owed seat c → c.is_closing ≡ false → MayBeDecided seat c → is_refused_in seat.brought ≡ false
    → ShowsSeat number name owed (answering d source (span_of d) (with_interim seat)) (answering_with (reply_by d (source_number number source)) c)
