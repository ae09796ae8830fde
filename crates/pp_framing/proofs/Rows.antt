-- Worked bodies, and the rules that heads give (RFC 2616, sections 3.6.1 and 4.4; RFC 9110, section 15).
use Rattle.std.proofs.Common.{refl, ℕ, Bool, true, false, List, [], ◌∷◌, ◌++◌, Some, None, Ok, Err, codes, replicate}
use Rattle.pp_text.proofs.Table.{Rows}
use Rattle.pp_text.specs.Fields.{Field}
use Rattle.pp_framing.specs.Body.{Body, Outcome, Done, Going, Bad}
use Rattle.pp_framing.specs.Chunked.{chunked_body}
use Rattle.pp_framing.specs.Framing.{request_rule_of, rule_of}
use Rattle.pp_framing.specs.Rules.{body_of, ending_in}
use Rattle.pp_framing.specs.declared.body.BodyRule.{BodyRule}
use Rattle.pp_framing.specs.declared.body.BodyRule.TheVariants.{Empty, Length, Chunked, ToEnd}
use Rattle.pp_framing.specs.declared.body.Ending.TheVariants.{Whole, Short}
use Rattle.pp_framing.specs.declared.framing.FramingFault.TheVariants.{TwoLengths, BadLength, OtherCoding}
use Rattle.pp_framing.specs.declared.framing.ResponseFault.TheVariants.{NoStatus, Framing}

-- the data of a body, and where the text stands
abbrev body : List ℕ → Outcome → Body
body payload outcome = record { payload = payload; outcome = outcome }

a_body_ends_by_its_rule : Rows (λ (t : BodyRule × List ℕ). body_of t.0 t.1) (
    ((Empty, codes "HTTP/1.1"), body [] (Done (codes "HTTP/1.1")))
    ∷ ((Length 0, codes "HTTP/1.1"), body [] (Done (codes "HTTP/1.1")))
    ∷ ((Length 5, codes "helloHTTP/1.1"), body (codes "hello") (Done (codes "HTTP/1.1")))
    ∷ ((Length 10, codes "1234567"), body (codes "1234567") Going)
    ∷ ((ToEnd, codes "hello"), body (codes "hello") Going)
    ∷ ((Chunked, codes "5\r\nhello\r\n0\r\n\r\nHTTP"), body (codes "hello") (Done (codes "HTTP")))
    ∷ ((Chunked, codes "2\nab\n0b;x=\"y\"\r\n0123456789a\r\n00 \t\r\nA: b\n\n5"), body (codes "ab0123456789a") (Done (codes "5")))
    ∷ ((Chunked, codes "ffffffffffffffff\r\nab"), body (codes "ab") Going)
    ∷ ((Chunked, codes "5\r\nhello\r\n0\r\nA: b\r\n"), body (codes "hello") Going)
    ∷ [])
a_body_ends_by_its_rule = refl

what_begins_no_body_is_bad : Rows chunked_body (
    (codes "\r\n", body [] Bad)
    ∷ (codes "-5\r\nhello", body [] Bad)
    ∷ (codes "10000000000000000\r\n", body [] Bad)
    ∷ (codes "5 5\r\nhello", body [] Bad)
    ∷ (codes "5\rhello", body [] Bad)
    ∷ (codes "5\r\nhello5\r\n", body (codes "hello") Bad)
    ∷ (codes "5\r\nhello\r0", body (codes "hello") Bad)
    ∷ (codes "0\r\nA: b\rc\r\n\r\n", body [] Bad)
    ∷ (codes "0\r\n\rA: b\r\n\r\n", body [] Bad)
    ∷ [])
what_begins_no_body_is_bad = refl

the_end_of_the_connection_ends_a_body_of_no_length : Rows (λ (t : BodyRule × Outcome). ending_in t.0 t.1) (
    ((ToEnd, Going), Whole)
    ∷ ((Length 10, Going), Short)
    ∷ ((Chunked, Going), Short)
    ∷ ((Chunked, Bad), Short)
    ∷ ((Chunked, Done []), Whole)
    ∷ ((Empty, Done []), Whole)
    ∷ [])
the_end_of_the_connection_ends_a_body_of_no_length = refl

an_extension_has_at_most_4096_bytes : Rows (λ (n : ℕ). (chunked_body (codes "1;" ++ replicate n 120 ++ codes "\r\n")).outcome) (
    (4096, Going)
    ∷ (4097, Bad)
    ∷ [])
an_extension_has_at_most_4096_bytes = refl

trailers_have_at_most_16384_bytes_with_their_line_ends : Rows (λ (t : ℕ × List ℕ). (chunked_body (codes "0\r\n" ++ replicate t.0 120 ++ t.1)).outcome) (
    ((16382, codes "\r\n"), Going)
    ∷ ((16382, codes "\r\n\r\n"), Done [])
    ∷ ((16383, []), Going)
    ∷ ((16383, codes "\r\n"), Bad)
    ∷ [])
trailers_have_at_most_16384_bytes_with_their_line_ends = refl

-- ---- rules

abbrev coding : List ℕ → Field
coding value = (codes "Transfer-Encoding", value)

abbrev length : List ℕ → Field
length value = (codes "Content-Length", value)

abbrev both : List Field
both = length (codes "5") ∷ coding (codes "Identity, chunked") ∷ []

the_chunked_coding_counts_before_a_length : Rows (λ (t : Bool × ℕ × List Field). rule_of t.0 t.1 t.2) (
    ((false, 200, both), Ok Chunked)
    ∷ ((true, 200, both), Ok Empty)
    ∷ ((false, 304, both), Ok Empty)
    ∷ ((false, 204, both), Ok Empty)
    ∷ ((false, 199, both), Ok Empty)
    ∷ ((false, 205, both), Ok Chunked)
    ∷ ((false, 200, length (codes "5") ∷ []), Ok (Length 5))
    ∷ ((false, 200, length (codes "5") ∷ length (codes "05") ∷ []), Ok (Length 5))
    ∷ ((false, 200, coding (codes "") ∷ length (codes "5") ∷ []), Ok (Length 5))
    ∷ ((false, 200, []), Ok ToEnd)
    ∷ ((false, 999, []), Ok ToEnd)
    ∷ [])
the_chunked_coding_counts_before_a_length = refl

a_head_that_two_readers_may_take_differently_has_no_rule : Rows (λ (t : Bool × ℕ × List Field). rule_of t.0 t.1 t.2) (
    ((false, 200, coding (codes "gzip, chunked") ∷ []), Err (Framing OtherCoding))
    ∷ ((false, 200, coding (codes "chunked") ∷ coding (codes "chunked") ∷ []), Err (Framing OtherCoding))
    ∷ ((true, 304, length (codes "1") ∷ length (codes "2") ∷ []), Err (Framing TwoLengths))
    ∷ ((false, 200, length (codes "x") ∷ length (codes "1") ∷ length (codes "2") ∷ []), Err (Framing TwoLengths))
    ∷ ((false, 200, length (codes "x") ∷ []), Err (Framing BadLength))
    ∷ ((false, 200, length (codes "1, 1") ∷ []), Err (Framing BadLength))
    ∷ ((false, 200, coding (codes "x") ∷ length (codes "x") ∷ []), Err (Framing OtherCoding))
    ∷ [])
a_head_that_two_readers_may_take_differently_has_no_rule = refl

a_status_below_100_is_none : Rows (λ (t : Bool × ℕ × List Field). rule_of t.0 t.1 t.2) (
    ((false, 99, length (codes "2") ∷ []), Err NoStatus)
    ∷ ((true, 0, coding (codes "x") ∷ []), Err NoStatus)
    ∷ ((false, 100, []), Ok Empty)
    ∷ [])
a_status_below_100_is_none = refl

the_body_of_a_request_has_a_length_or_is_not_there : Rows request_rule_of (
    (both, Err OtherCoding)
    ∷ (length (codes "5") ∷ [], Ok (Length 5))
    ∷ ([], Ok Empty)
    ∷ (coding (codes "chunked") ∷ [], Err OtherCoding)
    ∷ (coding (codes "identity") ∷ length (codes "5") ∷ [], Ok (Length 5))
    ∷ (coding (codes "") ∷ length (codes "5") ∷ [], Err OtherCoding)
    ∷ (coding (codes " , ") ∷ [], Err OtherCoding)
    ∷ (coding (codes "") ∷ length (codes "1") ∷ length (codes "2") ∷ [], Err OtherCoding)
    ∷ (length (codes "1") ∷ length (codes "2") ∷ [], Err TwoLengths)
    ∷ (length (codes "+1") ∷ [], Err BadLength)
    ∷ [])
the_body_of_a_request_has_a_length_or_is_not_there = refl
