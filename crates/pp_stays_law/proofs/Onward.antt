-- What becomes of a client as its request is decided, asked for, left and tried again: memory is refused for none, and what it is to be
-- said has room.
use Rattle.std.proofs.Common.{◌≡◌, ◌≤◌, refl, ℕ, Bool, true, false, not, cond, ◌==◌, ◌&&◌, ◌||◌, ◌++◌, nat_le, length, List, Option, codes, arith}
use Rattle.std.proofs.lemmas.Bool.Decides.{nat_tests}
use Rattle.std.specs.Fmt.{digits}
use Rattle.pp_cache.specs.Memory.{Memory}
use Rattle.pp_client.specs.Replies.{may_interim}
use Rattle.pp_objects.specs.declared.id.ObjectId.{ObjectId}
use Rattle.pp_reply.specs.Texts.{is_last, page_body, page_head, title_of}
use Rattle.pp_seats.specs.Courses.{has_begun, without_row}
use Rattle.pp_seats.specs.Decided.{answering, asking, expects_in, page_for, paged, shown_status, with_interim}
use Rattle.pp_seats.specs.Dues.{is_refused_in}
use Rattle.pp_seats.specs.Heads.{asked_in, head_asked_in, keeps_in}
use Rattle.pp_seats.specs.Seats.{brought_to, has_key, is_undecided_in}
use Rattle.pp_seats.specs.declared.account.Account.{Account}
use Rattle.pp_seats.specs.declared.front.Front.{Front}
use Rattle.pp_seats.specs.declared.seat.Brought.{Brought}
use Rattle.pp_seats.specs.declared.seat.Brought.TheVariants.{Awaited, Useless, Joins, Passes, TooWide, Refused}
use Rattle.pp_seats.specs.declared.seat.Course.TheVariants.{Trying}
use Rattle.pp_seats.specs.declared.seat.PassedEnd.TheVariants.{Short}
use Rattle.pp_seats.specs.declared.seat.Seat.{Seat}
use Rattle.pp_state.specs.Ends.{decided_anew, is_regained, regained, useless_if_refused}
use Rattle.pp_world.specs.declared.note.Decision.{Decision}

-- its request stands; where memory was refused for nothing that it waits for, it is not, and where what it is said has room, it has
pub record IsOnward (a b : Seat) : Type 0 where
  pub front : b.front ≡ a.front
  pub given : is_refused_in a.brought ≡ false → is_refused_in b.brought ≡ false
  pub short : length a.client.reply.text ≤ 20480 → length b.client.reply.text ≤ 20480

pub itself : (seat : Seat) → IsOnward seat seat
itself seat = record { front = refl; given = λ is. is; short = λ is. is }

when : (b : Bool) (seat x y : Seat) → IsOnward seat x → IsOnward seat y → IsOnward seat (elim b as (λ t. Seat) [ true ↦ x | false ↦ y ])
when true seat x y one two = one
when false seat x y one two = two

when_if : (b : Bool) (seat x y : Seat) → IsOnward seat x → IsOnward seat y → IsOnward seat (cond b x y)
when_if true seat x y one two = one
when_if false seat x y one two = two

-- ---- a page has room

fits_is : (n : ℕ) → nat_le n 20480 ≡ true → n ≤ 20480
fits_is n is = grind (arith, nat_tests)

abbrev text_of : List ℕ → Bool → Bool → List ℕ
text_of title keep head_asked = page_head title keep ++ page_body title head_asked

abbrev fits : List ℕ → Bool → Bool → Bool
fits title keep head_asked = nat_le (length (text_of title keep head_asked)) 20480

each_fits : (title : List ℕ) (keep head_asked : Bool) → fits title true true ≡ true → fits title true false ≡ true → fits title false true ≡ true → fits title false false ≡ true → fits title keep head_asked ≡ true
each_fits title true true a b c d = a
each_fits title true false a b c d = b
each_fits title false true a b c d = c
each_fits title false false a b c d = d

title_fits : (status : ℕ) (keep head_asked : Bool) → fits (title_of status) keep head_asked ≡ true
unfolding digits
title_fits status keep head_asked = by (status == 400) (status == 411) (status == 431) (status == 500) (status == 502)
  where
    by : (a b c d e : Bool)
        → fits (elim a as (λ t. List ℕ) [
          | true ↦ codes "400 Bad Request"
          | false ↦ elim b as (λ t. List ℕ) [
            | true ↦ codes "411 Length Required"
            | false ↦ elim c as (λ t. List ℕ) [
              | true ↦ codes "431 Request Header Fields Too Large"
              | false ↦ elim d as (λ t. List ℕ) [
                | true ↦ codes "500 Internal Server Error"
                | false ↦ elim e as (λ t. List ℕ) [ true ↦ codes "502 Bad Gateway" | false ↦ codes "504 Gateway Timeout" ]
              ]
            ]
          ]
        ]) keep head_asked ≡ true
    by true b c d e = each_fits (codes "400 Bad Request") keep head_asked refl refl refl refl
    by false true c d e = each_fits (codes "411 Length Required") keep head_asked refl refl refl refl
    by false false true d e = each_fits (codes "431 Request Header Fields Too Large") keep head_asked refl refl refl refl
    by false false false true e = each_fits (codes "500 Internal Server Error") keep head_asked refl refl refl refl
    by false false false false true = each_fits (codes "502 Bad Gateway") keep head_asked refl refl refl refl
    by false false false false false = each_fits (codes "504 Gateway Timeout") keep head_asked refl refl refl refl

pub page_short : (status : ℕ) (front : Front) → length (page_for status front) ≤ 20480
page_short status front = fits_is (length (page_for status front)) (title_fits (shown_status status) (keeps_in status (asked_in front) && not (is_last (shown_status status))) (head_asked_in (asked_in front)))

pub paged_on : (status : ℕ) (account : Account) (seat : Seat) → IsOnward seat (record (paged status seat) { account = account })
paged_on status account seat = record { front = refl; given = λ is. refl; short = λ is. page_short status seat.front }

-- ---- what it is said first, and what is asked for it

pub interim_on : (seat : Seat) → IsOnward seat (with_interim seat)
interim_on seat = when (expects_in (asked_in seat.front) && is_undecided_in seat.stage && may_interim seat.client.reply) seat _ seat (record { front = refl; given = λ is. is; short = λ is. is }) (itself seat)

pub asking_on : (passes : Bool) (seat : Seat) → IsOnward seat (asking passes seat)
asking_on passes seat = record { front = refl; given = λ is. refl; short = λ is. is }

pub answering_on : (d : Decision) (source : Option ObjectId) (span : ℕ × ℕ) (seat : Seat) → IsOnward seat (answering d source span seat)
answering_on d source span seat = record { front = refl; given = λ is. is; short = λ is. is }

-- ---- its attempts

pub row_on : (seat : Seat) → IsOnward seat (without_row seat)
row_on seat = when (has_begun seat || seat.has_given_up) seat seat _ (itself seat) (record { front = refl; given = λ is. is; short = λ is. is })

pub regained_on : (m : Memory) (seat : Seat) → IsOnward seat (regained m seat)
regained_on m seat = when_if (is_regained m seat) seat (record seat { course = Trying 0 }) seat (record { front = refl; given = λ is. is; short = λ is. is }) (itself seat)

anew_given : (b : Brought) → is_refused_in (useless_if_refused b) ≡ false
anew_given Awaited = refl
anew_given Useless = refl
anew_given (Joins id plain) = refl
anew_given (Passes x) = refl
anew_given TooWide = refl
anew_given Refused = refl

pub anew_on : (key : List ℕ) (seat : Seat) → IsOnward seat (decided_anew key seat)
anew_on key seat = when_if (has_key key seat) seat (record seat { brought = useless_if_refused seat.brought }) seat (record { front = refl; given = λ is. anew_given seat.brought; short = λ is. is }) (itself seat)

short_given : (b : Brought) → is_refused_in b ≡ false → is_refused_in (brought_to Short b) ≡ false
short_given Awaited is = refl
short_given Useless is = refl
short_given (Joins id plain) is = refl
short_given (Passes x) is = refl
short_given TooWide is = refl
short_given Refused is = is

pub short_on : (seat : Seat) → IsOnward seat (record seat { brought = brought_to Short seat.brought })
short_on seat = record { front = refl; given = λ is. short_given seat.brought is; short = λ is. is }
