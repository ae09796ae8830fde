-- Worked exchanges on one connection (RFC 2616, sections 4.4, 6, 8.1.2 and 10.1; RFC 9112, sections 6.1 and 6.3; RFC 4559, section 6).
use Rattle.std.proofs.Common.{refl, ℕ, zero, suc, Bool, true, false, List, [], ◌∷◌, ◌++◌, filter, flat_map, fold, length, map, Option, Some, None, codes, replicate}
use Rattle.std.specs.Fmt.{decimal, digits}
use Rattle.pp_text.proofs.Table.{Rows}
use Rattle.pp_text.specs.Fields.{Field}
use Rattle.pp_head.proofs.OnLiterals.{pp_head_on_literals}
use Rattle.pp_head.specs.Read.{Whole as IsWhole, TooLong, Bad as IsBad, More}
use Rattle.pp_head.specs.Response.{response_at}
use Rattle.pp_framing.specs.Places.{first_place, step as place_behind}
use Rattle.pp_framing.specs.declared.body.BodyRule.{BodyRule}
use Rattle.pp_framing.specs.declared.body.BodyRule.TheVariants.{Length}
use Rattle.pp_framing.specs.declared.body.Ending.TheVariants.{Whole, Short}
use Rattle.pp_pipe.specs.Asks.{is_outstanding}
use Rattle.pp_pipe.specs.Authentication.{binds_connection}
use Rattle.pp_pipe.specs.Front.{Final, Unfinished, NoResponse, fate_of, front_of, stays_open}
use Rattle.pp_pipe.specs.Line.{Line, answered, is_begun_at, pushed, room_of, started, taken, withdrawn}
use Rattle.pp_pipe.specs.Reading.{Reading, Before, Within, Broken, ending_at}
use Rattle.pp_pipe.specs.Tale.{Event, Began, Byte, Ended, Failed, tale}
use Rattle.pp_pipe.specs.Texts.{stray_of, texts_of}
use Rattle.pp_pipe.specs.declared.asks.Ask.{Ask}
use Rattle.pp_pipe.specs.declared.fate.Fate.{Fate}
use Rattle.pp_pipe.specs.declared.fate.Fate.TheVariants.{Closes, Stays, Pipelines}

-- ---- what a connection brings

-- `<200 ` at a head of that status, the data of the body, `>` at an end, and `!` where no response came
abbrev spelled : Event → List ℕ
spelled (Began response) = codes "<" ++ (decimal response.status ++ codes " ")
spelled (Byte b) = b ∷ []
spelled Ended = codes ">"
spelled Failed = codes "!"

-- an ask that was written whole, by HEAD or not
abbrev written : Bool → Ask
written head_request = record { head_request = head_request; is_begun = true; text_left = 0 }

-- what is told behind asks, by HEAD or not, however the bytes are cut
abbrev told : List Bool × List ℕ → List ℕ
told t = flat_map spelled (tale (map written t.0) (Before []) t.1)

eight_responses_are_told_in_order : Rows told (
    ((false ∷ true ∷ false ∷ false ∷ false ∷ false ∷ false ∷ false ∷ [], codes "HTTP/1.1 200 OK\r\nContent-Length: 5\r\n\r\nhello" ++ (codes "HTTP/1.1 200 OK\r\nContent-Length: 5\r\n\r\n" ++ (codes "HTTP/1.1 100 Continue\r\n\r\nHTTP/1.1 103 Early Hints\r\nA: b\r\n\r\nHTTP/1.1 204 No Content\r\n\r\n" ++ (codes "HTTP/1.1 304 Not Modified\r\nContent-Length: 0\r\n\r\n" ++ (codes "HTTP/1.1 200 OK\r\nTransfer-Encoding: chunked\r\n\r\n5\r\nhello\r\n6\r\n world\r\n0\r\nExpires: 0\r\n\r\n" ++ (codes "HTTP/1.0 200 OK\r\nConnection: keep-alive\r\nContent-Length: 0\r\n\r\n" ++ (codes "HTTP/1.1 404 Not Found\r\nContent-Length: 3\r\n\r\nnot" ++ (codes "HTTP/1.1 200 OK\r\nConnection: close\r\n\r\nthe rest")))))))), codes "<200 hello><200 ><204 ><304 ><200 hello world><200 ><404 not><200 the rest")
    ∷ [])
unfolding front_of pp_head_on_literals digits
eight_responses_are_told_in_order = refl

-- the first response of RFC 7232, section 2.3.3, that of RFC 7233, section 4.4, with a length, and the answer to a check of the first, behind
-- which the connection closes
responses_of_the_standards_are_told : Rows told (
    ((false ∷ false ∷ false ∷ false ∷ [], codes "HTTP/1.1 200 OK\r\nDate: Fri, 26 Mar 2010 00:05:00 GMT\r\nETag: \"123-a\"\r\nContent-Length: 70\r\nVary: Accept-Encoding\r\nContent-Type: text/plain\r\n\r\n" ++ (codes "Hello World!\r\nHello World!\r\nHello World!\r\nHello World!\r\nHello World!\r\n" ++ (codes "HTTP/1.1 416 Range Not Satisfiable\r\nDate: Fri, 20 Jan 2012 15:41:54 GMT\r\nContent-Range: bytes */47022\r\nContent-Length: 0\r\n\r\n" ++ (codes "HTTP/1.1 304 Not Modified\r\nDate: Fri, 26 Mar 2010 00:05:00 GMT\r\nETag: \"123-a\"\r\nContent-Length: 70\r\n\r\n" ++ (codes "HTTP/1.1 200 OK\r\nContent-Length: 0\r\n\r\n"))))), codes "<200 Hello World!\r\nHello World!\r\nHello World!\r\nHello World!\r\nHello World!\r\n><416 ><304 >")
    ∷ [])
unfolding front_of pp_head_on_literals digits
responses_of_the_standards_are_told = refl

what_is_no_response_to_an_ask_is_bad : Rows told (
    (([], codes "HTTP/1.1 200 OK\r\nContent-Length: 0\r\n\r\n"), codes "!")
    ∷ (([], codes "\r"), codes "!")
    ∷ (([], codes ""), codes "")
    ∷ ((false ∷ [], codes "HTTP/1.1 101 Switching Protocols\r\nUpgrade: x\r\n\r\n"), codes "!")
    ∷ ((false ∷ [], codes "HTTP/2 200\r\n"), codes "!")
    ∷ ((false ∷ [], codes "HTTP/1.1 200 OK\r\nContent-Length: 1\r\nContent-Length: 2\r\n\r\n"), codes "!")
    ∷ ((false ∷ [], codes "HTTP/1.1 200 OK\r\nContent-Length: x\r\n\r\n"), codes "!")
    ∷ ((false ∷ [], codes "HTTP/1.1 200 OK\r\nTransfer-Encoding: gzip, chunked\r\n\r\n"), codes "!")
    ∷ ((false ∷ [], codes "HTTP/1.1 200 OK\r\nTransfer-Encoding: chunked\r\n\r\n2\r\nhi\r\nx"), codes "<200 hi!")
    ∷ ((false ∷ [], codes "HTTP/1.1 200 OK\r\nContent-Length: 2\r\n\r\nhi\r\n"), codes "<200 hi>!")
    ∷ ((false ∷ [], codes "HTTP/1.1 099 Odd\r\nContent-Length: 2\r\n\r\nhi"), codes "!")
    ∷ ((false ∷ [], codes "HTTP/1.1 000 \r\n\r\n"), codes "!")
    ∷ [])
unfolding front_of pp_head_on_literals digits
what_is_no_response_to_an_ask_is_bad = refl

an_ask_of_which_a_byte_is_left_is_not_answered : Rows (λ (bytes : List ℕ). tale ((record (written false) { text_left = 1 }) ∷ []) (Before []) bytes) (
    ([], [])
    ∷ (codes "H", Failed ∷ [])
    ∷ [])
an_ask_of_which_a_byte_is_left_is_not_answered = refl

-- ---- heads

data Size : Type 0 where
  IsFinal IsUnfinished IsNone : Size

abbrev front_in : List ℕ → Size
front_in text = elim (front_of false text) [ Final response rule rest ↦ IsFinal | Unfinished kept ↦ IsUnfinished | NoResponse ↦ IsNone ]

a_head_has_at_most_16384_bytes : Rows (λ (t : ℕ × List ℕ). front_in (codes "HTTP/1.1 200 " ++ (replicate t.0 120 ++ t.1))) (
    ((16367, []), IsUnfinished)
    ∷ ((16367, codes "\r\n\r\nhi"), IsFinal)
    ∷ ((16371, []), IsNone)
    ∷ [])
unfolding front_of pp_head_on_literals digits
a_head_has_at_most_16384_bytes = refl

abbrev lines : ℕ → List ℕ
lines zero = []
lines (suc n) = codes "a: b\r\n" ++ lines n

a_head_has_at_most_102_lines : Rows (λ (n : ℕ). front_in (codes "HTTP/1.1 200 OK\r\n" ++ (lines n ++ codes "\r\n"))) (
    (100, IsFinal)
    ∷ (101, IsNone)
    ∷ [])
unfolding front_of pp_head_on_literals digits
a_head_has_at_most_102_lines = refl

abbrev rule_in : List ℕ → Option BodyRule
rule_in text = elim (front_of false text) [ Final response rule rest ↦ Some rule | Unfinished kept ↦ None | NoResponse ↦ None ]

-- a part of an image (RFC 7233, section 4.1)
a_part_has_the_bytes_that_its_length_tells : Rows rule_in (
    (codes "HTTP/1.1 206 Partial Content\r\nDate: Wed, 15 Nov 1995 06:25:24 GMT\r\nLast-Modified: Wed, 15 Nov 1995 04:58:08 GMT\r\nContent-Range: bytes 21010-47021/47022\r\nContent-Length: 26012\r\nContent-Type: image/gif\r\n\r\n", Some (Length 26012))
    ∷ [])
unfolding front_of pp_head_on_literals digits
a_part_has_the_bytes_that_its_length_tells = refl

-- ---- what becomes of the connection

abbrev behind : List ℕ → Option Fate
behind text = elim (response_at text) [ IsWhole response ↦ Some (fate_of response) | TooLong ↦ None | IsBad ↦ None | More ↦ None ]

a_connection_is_pipelined_behind_a_response_of_its_version : Rows behind (
    (codes "HTTP/1.1 200 OK\r\nContent-Length: 0\r\n\r\n", Some Pipelines)
    ∷ (codes "HTTP/1.1 200 OK\r\nContent-Length: 0\r\nConnection: Close\r\n\r\n", Some Closes)
    ∷ (codes "HTTP/1.0 200 OK\r\nContent-Length: 0\r\n\r\n", Some Closes)
    ∷ (codes "HTTP/1.0 200 OK\r\nContent-Length: 0\r\nConnection: Keep-Alive\r\n\r\n", Some Stays)
    ∷ (codes "HTTP/1.0 200 OK\r\nContent-Length: 0\r\nConnection: keep-alive, close\r\n\r\n", Some Closes)
    ∷ [])
unfolding pp_head_on_literals
a_connection_is_pipelined_behind_a_response_of_its_version = refl

-- 204, 205 and 304 that tell of a body; both framings; HTTP/1.0 in a transfer coding
where_another_reader_may_see_the_end_elsewhere_it_closes : Rows behind (
    (codes "HTTP/1.1 204 No Content\r\n\r\n", Some Pipelines)
    ∷ (codes "HTTP/1.1 204 No Content\r\nContent-Length: 0\r\n\r\n", Some Pipelines)
    ∷ (codes "HTTP/1.1 204 No Content\r\nContent-Length: 84\r\n\r\n", Some Closes)
    ∷ (codes "HTTP/1.1 204 No Content\r\nTransfer-Encoding: chunked\r\n\r\n", Some Closes)
    ∷ (codes "HTTP/1.1 205 Reset Content\r\nContent-Length: 0\r\n\r\n", Some Pipelines)
    ∷ (codes "HTTP/1.1 205 Reset Content\r\nContent-Length: 1\r\n\r\n", Some Closes)
    ∷ (codes "HTTP/1.1 205 Reset Content\r\nTransfer-Encoding: chunked\r\n\r\n", Some Closes)
    ∷ (codes "HTTP/1.1 304 Not Modified\r\nETag: \"x\"\r\n\r\n", Some Pipelines)
    ∷ (codes "HTTP/1.1 304 Not Modified\r\nContent-Length: 70\r\n\r\n", Some Closes)
    ∷ (codes "HTTP/1.1 304 Not Modified\r\nTransfer-Encoding: identity\r\n\r\n", Some Closes)
    ∷ (codes "HTTP/1.1 200 OK\r\nContent-Length: 5\r\nTransfer-Encoding: chunked\r\n\r\n", Some Closes)
    ∷ (codes "HTTP/1.1 200 OK\r\nTransfer-Encoding: chunked\r\n\r\n", Some Pipelines)
    ∷ (codes "HTTP/1.0 200 OK\r\nTransfer-Encoding: chunked\r\nConnection: keep-alive\r\n\r\n", Some Closes)
    ∷ [])
unfolding pp_head_on_literals
where_another_reader_may_see_the_end_elsewhere_it_closes = refl

-- what follows such a response answers nobody
the_excess_of_a_response_is_not_the_next : Rows told (
    ((false ∷ false ∷ [], codes "HTTP/1.1 204 No Content\r\nContent-Length: 44\r\n\r\nHTTP/1.1 200 OK\r\nContent-Length: 4\r\n\r\nEVIL"), codes "<204 >")
    ∷ [])
unfolding front_of pp_head_on_literals digits
the_excess_of_a_response_is_not_the_next = refl

abbrev stays : List ℕ → Option Bool
stays text = elim (response_at text) [ IsWhole response ↦ Some (stays_open response) | TooLong ↦ None | IsBad ↦ None | More ↦ None ]

the_layers_above_are_told_so : Rows stays (
    (codes "HTTP/1.1 200 OK\r\nContent-Length: 0\r\n\r\n", Some true)
    ∷ (codes "HTTP/1.1 200 OK\r\nContent-Length: 0\r\nConnection: Close\r\n\r\n", Some false)
    ∷ (codes "HTTP/1.0 200 OK\r\nContent-Length: 0\r\nConnection: Keep-Alive\r\n\r\n", Some true)
    ∷ (codes "HTTP/1.1 204 No Content\r\nContent-Length: 84\r\n\r\n", Some false)
    ∷ [])
unfolding pp_head_on_literals
the_layers_above_are_told_so = refl

-- where the bytes of a response leave its reader
abbrev left_by : List ℕ → Reading
left_by text = elim (front_of false text) [
  | Final response rule rest ↦ Within response (fold place_behind (first_place rule) rest)
  | Unfinished kept ↦ Before kept
  | NoResponse ↦ Broken
]

the_end_of_the_connection_ends_a_body_of_no_length : Rows (λ (t : Bool × List ℕ). ending_at t.0 (left_by t.1)) (
    ((true, codes "HTTP/1.1 200 OK\r\n\r\nhello"), Whole)
    ∷ ((false, codes "HTTP/1.1 200 OK\r\n\r\nhello"), Short)
    ∷ ((true, codes "HTTP/1.1 200 OK\r\nContent-Length: 9\r\n\r\nhello"), Short)
    ∷ ((true, codes "HTTP/1.1 200 OK\r\n\r"), Short)
    ∷ ((true, codes ""), Short)
    ∷ ((true, codes "HTTP/1.0 200 OK\r\n\r\n"), Whole)
    ∷ ((true, codes "HTTP/1."), Short)
    ∷ [])
unfolding front_of pp_head_on_literals digits
the_end_of_the_connection_ends_a_body_of_no_length = refl

-- ---- what is asked

-- what is to be written, how many asks there are, and how many of them are written
abbrev outgoing : Line → List ℕ × ℕ × ℕ
outgoing line = (line.out, length line.asks, length (filter is_outstanding line.asks))

abbrev three : Line
three = pushed (codes "six") false (pushed (codes "two") true (pushed (codes "one") false (started 7)))

abbrev begun : Line
begun = taken 1 three

an_ask_is_withdrawn_while_no_byte_of_it_was_taken : Rows outgoing (
    (three, (codes "onetwosix", 3, 0))
    ∷ (begun, (codes "netwosix", 3, 0))
    ∷ (withdrawn 1 begun, (codes "nesix", 2, 0))
    ∷ (taken 3 (withdrawn 1 begun), (codes "ix", 2, 1))
    ∷ (started 8, ([], 0, 0))
    ∷ [])
an_ask_is_withdrawn_while_no_byte_of_it_was_taken = refl

which_of_them_are_begun : Rows (λ (t : ℕ × Line). is_begun_at t.0 t.1.asks) (
    ((0, begun), Some true)
    ∷ ((1, begun), Some false)
    ∷ ((1, taken 3 (withdrawn 1 begun)), Some true)
    ∷ ((2, taken 3 (withdrawn 1 begun)), None)
    ∷ [])
which_of_them_are_begun = refl

abbrev posted : Line
posted = taken 1 (pushed (codes "POST") false (started 1))

what_of_an_answered_ask_is_left_is_written : Rows outgoing (
    (posted, (codes "OST", 1, 0))
    ∷ (answered Pipelines posted, (codes "OST", 0, 0))
    ∷ (withdrawn 0 (pushed (codes "GET") false (answered Pipelines posted)), (codes "OST", 0, 0))
    ∷ [])
what_of_an_answered_ask_is_left_is_written = refl

what_of_an_answered_ask_is_left_goes_first : Rows {B = List ℕ × List (List ℕ)} (λ (line : Line). (stray_of line, texts_of line)) (
    (pushed (codes "GET") false (answered Pipelines posted), (codes "OST", codes "GET" ∷ []))
    ∷ (three, ([], codes "one" ∷ codes "two" ∷ codes "six" ∷ []))
    ∷ [])
what_of_an_answered_ask_is_left_goes_first = refl

room_is_what_is_left_of_131072_bytes : Rows room_of (
    (started 1, 131072)
    ∷ (three, 131063)
    ∷ [])
room_is_what_is_left_of_131072_bytes = refl

-- ---- authentication

abbrev authorized : List ℕ → List Field
authorized credentials = (codes "Authorization", credentials) ∷ []

ntlm_and_negotiate_authenticate_a_connection : Rows binds_connection (
    (authorized (codes "NTLM TlRMTVNTUAABAAAA"), true)
    ∷ (authorized (codes "ntlm"), true)
    ∷ (authorized (codes "Negotiate YIIJvwYG"), true)
    ∷ (authorized (codes "NEGOTIATE\tYIIJvwYG"), true)
    ∷ (authorized (codes "Basic QWxhZGRpbjpvcGVuIHNlc2FtZQ=="), false)
    ∷ (authorized (codes "Negotiated x"), false)
    ∷ (authorized (codes "Digest username=\"ntlm\""), false)
    ∷ (authorized (codes ""), false)
    ∷ ((codes "AUTHORIZATION", codes "Basic QQ==") ∷ (codes "authorization", codes "NTLM x") ∷ [], true)
    ∷ ((codes "Proxy-Authorization", codes "NTLM x") ∷ [], false)
    ∷ ([], false)
    ∷ [])
ntlm_and_negotiate_authenticate_a_connection = refl
