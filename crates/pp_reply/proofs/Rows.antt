-- Worked replies, from what an origin sent to what a client gets (RFC 2616, sections 4.4, 6, 8.1 and 8.2.3; RFC 7232;
-- RFC 7233, section 4).
use Rattle.std.proofs.Common.{refl, ℕ, Bool, true, false, List, [], ◌∷◌, Option, Some, None, Result, Ok, Err, codes}
use Rattle.std.specs.Fmt.{digits}
use Rattle.pp_framing.specs.Framing.{request_rule_of, rule_of}
use Rattle.pp_framing.specs.declared.body.BodyRule.{BodyRule}
use Rattle.pp_framing.specs.declared.body.BodyRule.TheVariants.{Empty, Length, Chunked, ToEnd}
use Rattle.pp_framing.specs.declared.framing.FramingFault.{FramingFault}
use Rattle.pp_framing.specs.declared.framing.FramingFault.TheVariants.{TwoLengths, BadLength, OtherCoding}
use Rattle.pp_framing.specs.declared.framing.ResponseFault.{ResponseFault}
use Rattle.pp_framing.specs.declared.framing.ResponseFault.TheVariants.{Framing}
use Rattle.pp_head.specs.Read.{Read, Whole as IsWhole, TooLong, Bad, More}
use Rattle.pp_head.specs.Request.{Request, request_at}
use Rattle.pp_head.specs.Response.{Response, response_at}
use Rattle.pp_head.proofs.OnLiterals.{pp_head_on_literals}
use Rattle.pp_text.proofs.Table.{Rows}
use Rattle.pp_text.specs.Fields.{Field}
use Rattle.pp_reply.specs.Keeping.{is_end_known, is_kept_open, wants_interim}
use Rattle.pp_reply.specs.Kept.{kept_reply}
use Rattle.pp_reply.specs.Texts.{reply_text}
use Rattle.pp_reply.specs.declared.kept.KeptReply.{KeptReply}
use Rattle.pp_reply.specs.declared.kept.KeptReply.TheVariants.{Whole, Part, Head, NotModified, Unsatisfiable}
use Rattle.pp_reply.specs.declared.reply.ReplyKind.{ReplyKind}
use Rattle.pp_reply.specs.declared.reply.ReplyKind.TheVariants.{Refusal, Passed}

abbrev by_rule : Response → ℕ → Bool → Result BodyRule ResponseFault → List ℕ
by_rule head minor head_asked (Ok rule) = reply_text (Passed rule minor head_asked) (Some head) (codes "polipo") true
by_rule head minor head_asked (Err fault) = []

abbrev by_head : ℕ → Bool → Read Response → List ℕ
by_head minor head_asked (IsWhole head) = by_rule head minor head_asked (rule_of head_asked head.status head.fields)
by_head minor head_asked TooLong = []
by_head minor head_asked Bad = []
by_head minor head_asked More = []

-- what a client of this minor version, that asked HEAD or not, gets for this head of a response
abbrev passed : List ℕ → ℕ → Bool → List ℕ
passed received minor head_asked = by_head minor head_asked (response_at received)

abbrev fields_in : Read Response → List Field
fields_in (IsWhole head) = head.fields
fields_in TooLong = []
fields_in Bad = []
fields_in More = []

-- a reply from a kept response, whose kept fields these lines have: what it shows, of how many bytes, with which age, and
-- whether the connection goes on
abbrev shown : List ℕ → KeptReply → ℕ → Option ℕ → Bool → List ℕ
shown kept shows length age keep = kept_reply shows length (fields_in (response_at kept)) age (codes "polipo") keep

abbrev five : List ℕ
five = codes "HTTP/1.1 200 OK\r\netag: \"x\"\r\ndate: Sun, 06 Nov 1994 08:49:37 GMT\r\ncache-control: max-age=60\r\n\r\n"

abbrev rule_in : Read Response → Option (Result BodyRule ResponseFault)
rule_in (IsWhole head) = Some (rule_of false head.status head.fields)
rule_in TooLong = None
rule_in Bad = None
rule_in More = None

abbrev wishes_by : Request → Result BodyRule FramingFault → Option (Bool × Bool)
wishes_by head (Ok rule) = Some (is_kept_open head.minor head.fields, wants_interim head.minor rule head.fields)
wishes_by head (Err fault) = None

-- whether the connection of a request goes on, and whether it waits for the interim answer
abbrev wishes : Read Request → Option (Bool × Bool)
wishes (IsWhole head) = wishes_by head (request_rule_of head.fields)
wishes TooLong = None
wishes Bad = None
wishes More = None

a_passed_response_has_one_framing_and_only_fields_that_go_on : Rows (λ (t : List ℕ × (ℕ × Bool)). passed t.0 t.1.0 t.1.1) (
    ((codes "HTTP/1.1 200 OK\r\nTransfer-Encoding: chunked\r\n\r\n", (0, false)), codes "HTTP/1.1 200 OK\r\nvia: 1.1 polipo\r\nconnection: close\r\n\r\n")
    ∷ ((codes "HTTP/1.0 404 Not Found\r\nServer: o\r\n\r\n", (1, false)), codes "HTTP/1.1 404 Not Found\r\nserver: o\r\nvia: 1.1 polipo\r\ntransfer-encoding: chunked\r\nconnection: keep-alive\r\n\r\n")
    ∷ ((codes "HTTP/1.1 200 OK\r\nDate: x\r\nContent-Length: 005\r\nKEEP-ALIVE: 5\r\nConnection: X-A, close\r\nx-a: 1\r\nX-Polipo-B: 2\r\nVia: 1.0 o\r\n\r\n", (0, false)), codes "HTTP/1.1 200 OK\r\ndate: x\r\nvia: 1.0 o\r\nvia: 1.1 polipo\r\ncontent-length: 5\r\nconnection: keep-alive\r\n\r\n")
    ∷ ((codes "HTTP/1.1 200 OK\r\nContent-Length: 5\r\n\r\n", (1, true)), codes "HTTP/1.1 200 OK\r\nvia: 1.1 polipo\r\ncontent-length: 5\r\nconnection: keep-alive\r\n\r\n")
    ∷ ((codes "HTTP/1.1 200 OK\r\nContent-Length: 5\r\nTransfer-Encoding: chunked\r\n\r\n", (1, true)), codes "HTTP/1.1 200 OK\r\nvia: 1.1 polipo\r\nconnection: keep-alive\r\n\r\n")
    ∷ ((codes "HTTP/1.1 304 Not Modified\r\nETag: \"a\"\r\nContent-Length: 9\r\n\r\n", (1, false)), codes "HTTP/1.1 304 Not Modified\r\netag: \"a\"\r\nvia: 1.1 polipo\r\ncontent-length: 9\r\nconnection: keep-alive\r\n\r\n")
    ∷ ((codes "HTTP/1.1 204 \r\nContent-Length: 0\r\n\r\n", (1, false)), codes "HTTP/1.1 204 \r\nvia: 1.1 polipo\r\nconnection: keep-alive\r\n\r\n")
    ∷ ((codes "HTTP/1.1 200 OK\r\n\r\n", (0, false)), codes "HTTP/1.1 200 OK\r\nvia: 1.1 polipo\r\nconnection: close\r\n\r\n")
    ∷ [])
unfolding pp_head_on_literals digits
a_passed_response_has_one_framing_and_only_fields_that_go_on = refl

-- one that is kept, the same with a weak tag, a part, and those of RFC 7232, section 2.3.3, and RFC 7233, sections 4.1 and 4.4
worked_responses_are_passed : Rows (λ (t : List ℕ). passed t 1 false) (
    (codes "HTTP/1.1 200 OK\r\nDate: Sun, 06 Nov 1994 08:49:37 GMT\r\nETag: \"x\"\r\nCache-Control: max-age=60\r\nContent-Length: 5\r\n\r\n", codes "HTTP/1.1 200 OK\r\ndate: Sun, 06 Nov 1994 08:49:37 GMT\r\netag: \"x\"\r\ncache-control: max-age=60\r\nvia: 1.1 polipo\r\ncontent-length: 5\r\nconnection: keep-alive\r\n\r\n")
    ∷ (codes "HTTP/1.1 200 OK\r\nETag: W/\"x\"\r\nContent-Length: 5\r\n\r\n", codes "HTTP/1.1 200 OK\r\netag: W/\"x\"\r\nvia: 1.1 polipo\r\ncontent-length: 5\r\nconnection: keep-alive\r\n\r\n")
    ∷ (codes "HTTP/1.1 206 Partial Content\r\nETag: W/\"x\"\r\nContent-Range: bytes 5000-5999/9000\r\nContent-Length: 1000\r\n\r\n", codes "HTTP/1.1 206 Partial Content\r\netag: W/\"x\"\r\ncontent-range: bytes 5000-5999/9000\r\nvia: 1.1 polipo\r\ncontent-length: 1000\r\nconnection: keep-alive\r\n\r\n")
    ∷ (codes "HTTP/1.1 200 OK\r\nDate: Fri, 26 Mar 2010 00:05:00 GMT\r\nETag: \"123-a\"\r\nContent-Length: 70\r\nVary: Accept-Encoding\r\nContent-Type: text/plain\r\n\r\n", codes "HTTP/1.1 200 OK\r\ndate: Fri, 26 Mar 2010 00:05:00 GMT\r\netag: \"123-a\"\r\nvary: Accept-Encoding\r\ncontent-type: text/plain\r\nvia: 1.1 polipo\r\ncontent-length: 70\r\nconnection: keep-alive\r\n\r\n")
    ∷ (codes "HTTP/1.1 206 Partial Content\r\nDate: Wed, 15 Nov 1995 06:25:24 GMT\r\nLast-Modified: Wed, 15 Nov 1995 04:58:08 GMT\r\nContent-Range: bytes 21010-47021/47022\r\nContent-Length: 26012\r\nContent-Type: image/gif\r\n\r\n", codes "HTTP/1.1 206 Partial Content\r\ndate: Wed, 15 Nov 1995 06:25:24 GMT\r\nlast-modified: Wed, 15 Nov 1995 04:58:08 GMT\r\ncontent-range: bytes 21010-47021/47022\r\ncontent-type: image/gif\r\nvia: 1.1 polipo\r\ncontent-length: 26012\r\nconnection: keep-alive\r\n\r\n")
    ∷ (codes "HTTP/1.1 206 Partial Content\r\nDate: Wed, 15 Nov 1995 06:25:24 GMT\r\nLast-Modified: Wed, 15 Nov 1995 04:58:08 GMT\r\nContent-Length: 1741\r\nContent-Type: multipart/byteranges; boundary=THIS_STRING_SEPARATES\r\n\r\n", codes "HTTP/1.1 206 Partial Content\r\ndate: Wed, 15 Nov 1995 06:25:24 GMT\r\nlast-modified: Wed, 15 Nov 1995 04:58:08 GMT\r\ncontent-type: multipart/byteranges; boundary=THIS_STRING_SEPARATES\r\nvia: 1.1 polipo\r\ncontent-length: 1741\r\nconnection: keep-alive\r\n\r\n")
    ∷ (codes "HTTP/1.1 416 Range Not Satisfiable\r\nDate: Fri, 20 Jan 2012 15:41:54 GMT\r\nContent-Range: bytes */47022\r\n\r\n", codes "HTTP/1.1 416 Range Not Satisfiable\r\ndate: Fri, 20 Jan 2012 15:41:54 GMT\r\ncontent-range: bytes */47022\r\nvia: 1.1 polipo\r\ntransfer-encoding: chunked\r\nconnection: keep-alive\r\n\r\n")
    ∷ [])
unfolding pp_head_on_literals digits
worked_responses_are_passed = refl

a_kept_response_is_shown_whole_in_part_or_not_at_all : Rows (λ (t : KeptReply × (ℕ × ((Option ℕ) × Bool))). shown five t.0 t.1.0 t.1.1.0 t.1.1.1) (
    ((Whole, (5, (None, true))), codes "HTTP/1.1 200 OK\r\netag: \"x\"\r\ndate: Sun, 06 Nov 1994 08:49:37 GMT\r\ncache-control: max-age=60\r\nvia: 1.1 polipo\r\ncontent-length: 5\r\nconnection: keep-alive\r\n\r\n")
    ∷ ((Whole, (5, (Some 10, true))), codes "HTTP/1.1 200 OK\r\netag: \"x\"\r\ndate: Sun, 06 Nov 1994 08:49:37 GMT\r\ncache-control: max-age=60\r\nage: 10\r\nvia: 1.1 polipo\r\ncontent-length: 5\r\nconnection: keep-alive\r\n\r\n")
    ∷ ((Part 1 4, (5, (Some 10, true))), codes "HTTP/1.1 206 Partial Content\r\netag: \"x\"\r\ndate: Sun, 06 Nov 1994 08:49:37 GMT\r\ncache-control: max-age=60\r\nage: 10\r\nvia: 1.1 polipo\r\ncontent-range: bytes 1-3/5\r\ncontent-length: 3\r\nconnection: keep-alive\r\n\r\n")
    ∷ ((Part 0 5, (5, (Some 10, true))), codes "HTTP/1.1 206 Partial Content\r\netag: \"x\"\r\ndate: Sun, 06 Nov 1994 08:49:37 GMT\r\ncache-control: max-age=60\r\nage: 10\r\nvia: 1.1 polipo\r\ncontent-range: bytes 0-4/5\r\ncontent-length: 5\r\nconnection: keep-alive\r\n\r\n")
    ∷ ((Unsatisfiable, (5, (Some 10, true))), codes "HTTP/1.1 416 Requested Range Not Satisfiable\r\ncontent-range: bytes */5\r\ncontent-type: text/plain\r\ncontent-length: 36\r\nconnection: keep-alive\r\n\r\n416 Requested Range Not Satisfiable\n")
    ∷ ((Head, (5, (Some 10, true))), codes "HTTP/1.1 200 OK\r\netag: \"x\"\r\ndate: Sun, 06 Nov 1994 08:49:37 GMT\r\ncache-control: max-age=60\r\nage: 10\r\nvia: 1.1 polipo\r\ncontent-length: 5\r\nconnection: keep-alive\r\n\r\n")
    ∷ ((NotModified, (5, (Some 10, true))), codes "HTTP/1.1 304 Not Modified\r\netag: \"x\"\r\ndate: Sun, 06 Nov 1994 08:49:37 GMT\r\ncache-control: max-age=60\r\nage: 10\r\nvia: 1.1 polipo\r\nconnection: keep-alive\r\n\r\n")
    ∷ ((Part 0 4096, (12288, (None, true))), codes "HTTP/1.1 206 Partial Content\r\netag: \"x\"\r\ndate: Sun, 06 Nov 1994 08:49:37 GMT\r\ncache-control: max-age=60\r\nvia: 1.1 polipo\r\ncontent-range: bytes 0-4095/12288\r\ncontent-length: 4096\r\nconnection: keep-alive\r\n\r\n")
    ∷ ((Part 8192 12288, (12288, (None, true))), codes "HTTP/1.1 206 Partial Content\r\netag: \"x\"\r\ndate: Sun, 06 Nov 1994 08:49:37 GMT\r\ncache-control: max-age=60\r\nvia: 1.1 polipo\r\ncontent-range: bytes 8192-12287/12288\r\ncontent-length: 4096\r\nconnection: keep-alive\r\n\r\n")
    ∷ ((Whole, (12288, (Some 0, true))), codes "HTTP/1.1 200 OK\r\netag: \"x\"\r\ndate: Sun, 06 Nov 1994 08:49:37 GMT\r\ncache-control: max-age=60\r\nage: 0\r\nvia: 1.1 polipo\r\ncontent-length: 12288\r\nconnection: keep-alive\r\n\r\n")
    ∷ ((Part 5000 6000, (9000, (None, true))), codes "HTTP/1.1 206 Partial Content\r\netag: \"x\"\r\ndate: Sun, 06 Nov 1994 08:49:37 GMT\r\ncache-control: max-age=60\r\nvia: 1.1 polipo\r\ncontent-range: bytes 5000-5999/9000\r\ncontent-length: 1000\r\nconnection: keep-alive\r\n\r\n")
    ∷ ((Unsatisfiable, (4500, (None, true))), codes "HTTP/1.1 416 Requested Range Not Satisfiable\r\ncontent-range: bytes */4500\r\ncontent-type: text/plain\r\ncontent-length: 36\r\nconnection: keep-alive\r\n\r\n416 Requested Range Not Satisfiable\n")
    ∷ ((Whole, (0, (None, true))), codes "HTTP/1.1 200 OK\r\netag: \"x\"\r\ndate: Sun, 06 Nov 1994 08:49:37 GMT\r\ncache-control: max-age=60\r\nvia: 1.1 polipo\r\ncontent-length: 0\r\nconnection: keep-alive\r\n\r\n")
    ∷ ((Unsatisfiable, (0, (Some 0, true))), codes "HTTP/1.1 416 Requested Range Not Satisfiable\r\ncontent-range: bytes */0\r\ncontent-type: text/plain\r\ncontent-length: 36\r\nconnection: keep-alive\r\n\r\n416 Requested Range Not Satisfiable\n")
    ∷ ((Whole, (0, (Some 0, false))), codes "HTTP/1.1 200 OK\r\netag: \"x\"\r\ndate: Sun, 06 Nov 1994 08:49:37 GMT\r\ncache-control: max-age=60\r\nage: 0\r\nvia: 1.1 polipo\r\ncontent-length: 0\r\nconnection: close\r\n\r\n")
    ∷ [])
unfolding pp_head_on_literals digits
a_kept_response_is_shown_whole_in_part_or_not_at_all = refl

-- of another version, after a check renewed the date, and of the standards
each_reply_has_the_fields_that_are_kept : Rows (λ (t : List ℕ × (KeptReply × (ℕ × ((Option ℕ) × Bool)))). shown t.0 t.1.0 t.1.1.0 t.1.1.1.0 t.1.1.1.1) (
    ((codes "HTTP/1.1 200 OK\r\netag: \"y\"\r\ndate: Sun, 06 Nov 1994 08:49:37 GMT\r\ncache-control: max-age=60\r\n\r\n", (Whole, (3, (Some 0, true)))), codes "HTTP/1.1 200 OK\r\netag: \"y\"\r\ndate: Sun, 06 Nov 1994 08:49:37 GMT\r\ncache-control: max-age=60\r\nage: 0\r\nvia: 1.1 polipo\r\ncontent-length: 3\r\nconnection: keep-alive\r\n\r\n")
    ∷ ((codes "HTTP/1.1 200 OK\r\netag: \"x\"\r\ndate: Sun, 06 Nov 1994 08:50:38 GMT\r\ncache-control: max-age=60\r\n\r\n", (Whole, (5, (Some 0, true)))), codes "HTTP/1.1 200 OK\r\netag: \"x\"\r\ndate: Sun, 06 Nov 1994 08:50:38 GMT\r\ncache-control: max-age=60\r\nage: 0\r\nvia: 1.1 polipo\r\ncontent-length: 5\r\nconnection: keep-alive\r\n\r\n")
    ∷ ((codes "HTTP/1.1 200 OK\r\nServer: o\r\nETag: \"x\"\r\nVia: 1.0 o\r\nContent-Location: /x.en\r\nLast-Modified: Sat, 05 Nov 1994 00:00:00 GMT\r\nContent-Type: text/html\r\ndate: Sun, 06 Nov 1994 08:49:37 GMT\r\nexpires: Sun, 06 Nov 1994 09:49:37 GMT\r\ncache-control: max-age=60\r\ncache-control: public\r\n\r\n", (NotModified, (70, (None, false)))), codes "HTTP/1.1 304 Not Modified\r\netag: \"x\"\r\ncontent-location: /x.en\r\ndate: Sun, 06 Nov 1994 08:49:37 GMT\r\nexpires: Sun, 06 Nov 1994 09:49:37 GMT\r\ncache-control: max-age=60\r\ncache-control: public\r\nvia: 1.1 polipo\r\nconnection: close\r\n\r\n")
    ∷ ((codes "HTTP/1.1 200 OK\r\nLast-Modified: Wed, 15 Nov 1995 04:58:08 GMT\r\nContent-Type: image/gif\r\nDate: Wed, 15 Nov 1995 06:25:24 GMT\r\n\r\n", (Part 21010 47022, (47022, (None, true)))), codes "HTTP/1.1 206 Partial Content\r\nlast-modified: Wed, 15 Nov 1995 04:58:08 GMT\r\ncontent-type: image/gif\r\ndate: Wed, 15 Nov 1995 06:25:24 GMT\r\nvia: 1.1 polipo\r\ncontent-range: bytes 21010-47021/47022\r\ncontent-length: 26012\r\nconnection: keep-alive\r\n\r\n")
    ∷ ((codes "HTTP/1.1 200 OK\r\n\r\n", (Part 0 500, (1234, (None, true)))), codes "HTTP/1.1 206 Partial Content\r\nvia: 1.1 polipo\r\ncontent-range: bytes 0-499/1234\r\ncontent-length: 500\r\nconnection: keep-alive\r\n\r\n")
    ∷ ((codes "HTTP/1.1 200 OK\r\n\r\n", (Part 500 1000, (1234, (None, true)))), codes "HTTP/1.1 206 Partial Content\r\nvia: 1.1 polipo\r\ncontent-range: bytes 500-999/1234\r\ncontent-length: 500\r\nconnection: keep-alive\r\n\r\n")
    ∷ ((codes "HTTP/1.1 200 OK\r\n\r\n", (Part 500 1234, (1234, (None, true)))), codes "HTTP/1.1 206 Partial Content\r\nvia: 1.1 polipo\r\ncontent-range: bytes 500-1233/1234\r\ncontent-length: 734\r\nconnection: keep-alive\r\n\r\n")
    ∷ ((codes "HTTP/1.1 200 OK\r\n\r\n", (Part 734 1234, (1234, (None, true)))), codes "HTTP/1.1 206 Partial Content\r\nvia: 1.1 polipo\r\ncontent-range: bytes 734-1233/1234\r\ncontent-length: 500\r\nconnection: keep-alive\r\n\r\n")
    ∷ ((codes "HTTP/1.1 200 OK\r\nDate: Fri, 20 Jan 2012 15:41:54 GMT\r\n\r\n", (Unsatisfiable, (47022, (None, false)))), codes "HTTP/1.1 416 Requested Range Not Satisfiable\r\ncontent-range: bytes */47022\r\ncontent-type: text/plain\r\ncontent-length: 36\r\nconnection: close\r\n\r\n416 Requested Range Not Satisfiable\n")
    ∷ [])
unfolding pp_head_on_literals digits
each_reply_has_the_fields_that_are_kept = refl

each_refusal_has_its_page_and_to_head_its_head_alone : Rows (λ (t : ReplyKind × Bool). reply_text t.0 None (codes "polipo") t.1) (
    ((Refusal 400 false, false), codes "HTTP/1.1 400 Bad Request\r\ncontent-type: text/plain\r\ncontent-length: 16\r\nconnection: close\r\n\r\n400 Bad Request\n")
    ∷ ((Refusal 400 false, true), codes "HTTP/1.1 400 Bad Request\r\ncontent-type: text/plain\r\ncontent-length: 16\r\nconnection: close\r\n\r\n400 Bad Request\n")
    ∷ ((Refusal 400 true, false), codes "HTTP/1.1 400 Bad Request\r\ncontent-type: text/plain\r\ncontent-length: 16\r\nconnection: close\r\n\r\n")
    ∷ ((Refusal 400 true, true), codes "HTTP/1.1 400 Bad Request\r\ncontent-type: text/plain\r\ncontent-length: 16\r\nconnection: close\r\n\r\n")
    ∷ ((Refusal 411 false, false), codes "HTTP/1.1 411 Length Required\r\ncontent-type: text/plain\r\ncontent-length: 20\r\nconnection: close\r\n\r\n411 Length Required\n")
    ∷ ((Refusal 411 false, true), codes "HTTP/1.1 411 Length Required\r\ncontent-type: text/plain\r\ncontent-length: 20\r\nconnection: close\r\n\r\n411 Length Required\n")
    ∷ ((Refusal 411 true, false), codes "HTTP/1.1 411 Length Required\r\ncontent-type: text/plain\r\ncontent-length: 20\r\nconnection: close\r\n\r\n")
    ∷ ((Refusal 411 true, true), codes "HTTP/1.1 411 Length Required\r\ncontent-type: text/plain\r\ncontent-length: 20\r\nconnection: close\r\n\r\n")
    ∷ ((Refusal 431 false, false), codes "HTTP/1.1 431 Request Header Fields Too Large\r\ncontent-type: text/plain\r\ncontent-length: 36\r\nconnection: close\r\n\r\n431 Request Header Fields Too Large\n")
    ∷ ((Refusal 431 false, true), codes "HTTP/1.1 431 Request Header Fields Too Large\r\ncontent-type: text/plain\r\ncontent-length: 36\r\nconnection: close\r\n\r\n431 Request Header Fields Too Large\n")
    ∷ ((Refusal 431 true, false), codes "HTTP/1.1 431 Request Header Fields Too Large\r\ncontent-type: text/plain\r\ncontent-length: 36\r\nconnection: close\r\n\r\n")
    ∷ ((Refusal 431 true, true), codes "HTTP/1.1 431 Request Header Fields Too Large\r\ncontent-type: text/plain\r\ncontent-length: 36\r\nconnection: close\r\n\r\n")
    ∷ ((Refusal 500 false, false), codes "HTTP/1.1 500 Internal Server Error\r\ncontent-type: text/plain\r\ncontent-length: 26\r\nconnection: close\r\n\r\n500 Internal Server Error\n")
    ∷ ((Refusal 500 false, true), codes "HTTP/1.1 500 Internal Server Error\r\ncontent-type: text/plain\r\ncontent-length: 26\r\nconnection: keep-alive\r\n\r\n500 Internal Server Error\n")
    ∷ ((Refusal 500 true, false), codes "HTTP/1.1 500 Internal Server Error\r\ncontent-type: text/plain\r\ncontent-length: 26\r\nconnection: close\r\n\r\n")
    ∷ ((Refusal 500 true, true), codes "HTTP/1.1 500 Internal Server Error\r\ncontent-type: text/plain\r\ncontent-length: 26\r\nconnection: keep-alive\r\n\r\n")
    ∷ ((Refusal 502 false, false), codes "HTTP/1.1 502 Bad Gateway\r\ncontent-type: text/plain\r\ncontent-length: 16\r\nconnection: close\r\n\r\n502 Bad Gateway\n")
    ∷ ((Refusal 502 false, true), codes "HTTP/1.1 502 Bad Gateway\r\ncontent-type: text/plain\r\ncontent-length: 16\r\nconnection: keep-alive\r\n\r\n502 Bad Gateway\n")
    ∷ ((Refusal 502 true, false), codes "HTTP/1.1 502 Bad Gateway\r\ncontent-type: text/plain\r\ncontent-length: 16\r\nconnection: close\r\n\r\n")
    ∷ ((Refusal 502 true, true), codes "HTTP/1.1 502 Bad Gateway\r\ncontent-type: text/plain\r\ncontent-length: 16\r\nconnection: keep-alive\r\n\r\n")
    ∷ ((Refusal 504 false, false), codes "HTTP/1.1 504 Gateway Timeout\r\ncontent-type: text/plain\r\ncontent-length: 20\r\nconnection: close\r\n\r\n504 Gateway Timeout\n")
    ∷ ((Refusal 504 false, true), codes "HTTP/1.1 504 Gateway Timeout\r\ncontent-type: text/plain\r\ncontent-length: 20\r\nconnection: keep-alive\r\n\r\n504 Gateway Timeout\n")
    ∷ ((Refusal 504 true, false), codes "HTTP/1.1 504 Gateway Timeout\r\ncontent-type: text/plain\r\ncontent-length: 20\r\nconnection: close\r\n\r\n")
    ∷ ((Refusal 504 true, true), codes "HTTP/1.1 504 Gateway Timeout\r\ncontent-type: text/plain\r\ncontent-length: 20\r\nconnection: keep-alive\r\n\r\n")
    ∷ [])
unfolding pp_head_on_literals digits
each_refusal_has_its_page_and_to_head_its_head_alone = refl

a_head_with_more_than_one_framing_is_refused : Rows rule_in (
    (response_at (codes "HTTP/1.1 200 OK\r\nTransfer-Encoding: gzip, chunked\r\n\r\n"), Some (Err (Framing OtherCoding)))
    ∷ (response_at (codes "HTTP/1.1 200 OK\r\nTransfer-Encoding: chunked\r\nTransfer-Encoding: chunked\r\n\r\n"), Some (Err (Framing OtherCoding)))
    ∷ (response_at (codes "HTTP/1.1 200 OK\r\nContent-Length: 5\r\ncontent-length: 7\r\nTE: x\r\nTransfer-Encoding: gzip\r\n\r\n"), Some (Err (Framing OtherCoding)))
    ∷ (response_at (codes "HTTP/1.1 200 OK\r\nTransfer-Encoding: IDENTITY\r\nContent-Length: 5\r\n\r\n"), Some (Ok (Length 5)))
    ∷ (response_at (codes "HTTP/1.1 200 OK\r\nContent-Length: 5\r\nContent-Length: 05\r\n\r\n"), Some (Ok (Length 5)))
    ∷ (response_at (codes "HTTP/1.1 200 OK\r\nContent-Length: 5\r\nContent-Length: x\r\nContent-Length: 7\r\n\r\n"), Some (Err (Framing TwoLengths)))
    ∷ (response_at (codes "HTTP/1.1 200 OK\r\nContent-Length: 1, 2\r\n\r\n"), Some (Err (Framing BadLength)))
    ∷ (response_at (codes "HTTP/1.1 200 OK\r\nContent-Length: +1\r\n\r\n"), Some (Err (Framing BadLength)))
    ∷ (response_at (codes "HTTP/1.1 200 OK\r\nContent-Length:\r\n\r\n"), Some (Err (Framing BadLength)))
    ∷ (response_at (codes "HTTP/1.1 200 OK\r\nContent-Length: 18446744073709551616\r\n\r\n"), Some (Err (Framing BadLength)))
    ∷ (response_at (codes "HTTP/1.1 204 No Content\r\nContent-Length: 5\r\n\r\n"), Some (Ok Empty))
    ∷ (response_at (codes "HTTP/1.1 103 Early Hints\r\n\r\n"), Some (Ok Empty))
    ∷ [])
unfolding pp_head_on_literals digits
a_head_with_more_than_one_framing_is_refused = refl

a_connection_goes_on_as_its_version_and_fields_say : Rows wishes (
    (request_at (codes "GET / HTTP/1.1\r\n\r\n"), Some (true, false))
    ∷ (request_at (codes "GET / HTTP/1.1\r\nConnection: x, CLOSE\r\n\r\n"), Some (false, false))
    ∷ (request_at (codes "GET / HTTP/1.0\r\n\r\n"), Some (false, false))
    ∷ (request_at (codes "GET / HTTP/1.0\r\nConnection: Keep-Alive\r\n\r\n"), Some (true, false))
    ∷ (request_at (codes "GET / HTTP/1.0\r\nProxy-Connection: keep-alive\r\n\r\n"), Some (true, false))
    ∷ (request_at (codes "POST / HTTP/1.1\r\nExpect: 100-Continue\r\nContent-Length: 5\r\n\r\n"), Some (true, true))
    ∷ (request_at (codes "POST / HTTP/1.1\r\nExpect: 100-continue\r\nContent-Length: 0\r\n\r\n"), Some (true, false))
    ∷ (request_at (codes "POST / HTTP/1.1\r\nTransfer-Encoding: chunked\r\n\r\n"), None)
    ∷ [])
unfolding pp_head_on_literals digits
a_connection_goes_on_as_its_version_and_fields_say = refl

an_old_client_knows_no_end_of_chunks : Rows (λ (t : BodyRule × ℕ). is_end_known t.0 t.1) (
    ((Chunked, 1), true)
    ∷ ((ToEnd, 0), false)
    ∷ [])
unfolding pp_head_on_literals digits
an_old_client_knows_no_end_of_chunks = refl
