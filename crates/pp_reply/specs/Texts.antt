-- The texts of replies (RFC 2616, section 6).
use Rattle.std.specs.Prelude.{ℕ, ◌+◌, ◌≤◌, Bool, true, false, ◌==◌, ◌&&◌, ◌||◌, not, List, [], ◌++◌, length, filter, flat_map, sum_by, Option, Some, None, IsTrue, codes, decimal}
use Rattle.std.specs.Option.{option_and_then}
use Rattle.pp_text.specs.Bytes.{lower}
use Rattle.pp_text.specs.Fields.{Field, is_named, has_field, first_value}
use Rattle.pp_text.specs.Forwarding.{is_hop_by_hop}
use Rattle.pp_text.specs.Numbers.{number_of}
use Rattle.pp_head.specs.Agreement.{field_len}
use Rattle.pp_head.specs.Response.{Response}
use Rattle.pp_reply.specs.Keeping.{is_old, is_end_known}
use Rattle.pp_framing.specs.declared.body.BodyRule.{BodyRule}
use Rattle.pp_framing.specs.declared.body.BodyRule.TheVariants.{Empty, Length, Chunked, ToEnd}
use Rattle.pp_reply.specs.declared.reply.ReplyKind.{ReplyKind}
use Rattle.pp_reply.specs.declared.reply.ReplyKind.TheVariants.{Refusal, Passed}

abbrev pub crlf : List ℕ
crlf = codes "\r\n"

-- message-header = field-name ":" [ field-value ]; ours: with one space
abbrev pub line : List ℕ → List ℕ → List ℕ
line name value = name ++ codes ": " ++ value ++ crlf

-- ours: names in lower case
abbrev pub field_line : Field → List ℕ
field_line field = line (lower field.0) field.1

abbrev pub length_line : ℕ → List ℕ
length_line n = line (codes "content-length") (decimal n)

-- "HTTP/1.1 applications that do not support persistent connections MUST include the "close" connection
-- option in every message"; ours: a line in either case
abbrev pub connection_line : Bool → List ℕ
connection_line keep = line (codes "connection") (elim keep [ true ↦ codes "keep-alive" | false ↦ codes "close" ])

-- Via = "Via" ":" 1#( received-protocol received-by [ comment ] ) (section 14.45); ours: always under 1.1
abbrev pub via_line : List ℕ → List ℕ
via_line name = codes "via: 1.1 " ++ name ++ crlf

-- Status-Code SP Reason-Phrase of the pages; of 431 see RFC 6585, section 5
abbrev pub title_of : ℕ → List ℕ
title_of status = elim (status == 400) [
  | true ↦ codes "400 Bad Request"
  | false ↦ elim (status == 411) [
    | true ↦ codes "411 Length Required"
    | false ↦ elim (status == 431) [
      | true ↦ codes "431 Request Header Fields Too Large"
      | false ↦ elim (status == 500) [
        | true ↦ codes "500 Internal Server Error"
        | false ↦ elim (status == 502) [ true ↦ codes "502 Bad Gateway" | false ↦ codes "504 Gateway Timeout" ]
      ]
    ]
  ]
]

abbrev pub has_page : ℕ → Bool
has_page status = (status == 400) || (status == 411) || (status == 431) || (status == 500) || (status == 502) || (status == 504)

-- behind these requests no other is read: where theirs ends is not known
abbrev pub is_last : ℕ → Bool
is_last status = (status == 400) || (status == 411) || (status == 431)

abbrev pub page_head : List ℕ → Bool → List ℕ
page_head title keep =
    codes "HTTP/1.1 " ++ title ++ crlf
    ++ line (codes "content-type") (codes "text/plain") ++ length_line (length title + 1)
    ++ connection_line keep ++ crlf

-- the title again, and a line feed; "The HEAD method is identical to GET except that the server MUST NOT
-- return a message-body" (section 9.4)
abbrev pub page_body : List ℕ → Bool → List ℕ
page_body title head_asked = elim head_asked [ true ↦ [] | false ↦ title ++ codes "\n" ]

abbrev pub page : ℕ → Bool → Bool → List ℕ
page status head_asked keep = page_head (title_of status) (keep && not (is_last status)) ++ page_body (title_of status) head_asked

-- fields that go on with a passed response: its framing is written anew
abbrev pub goes_on : List Field → Field → Bool
goes_on fields field = not (is_hop_by_hop fields field) && not (is_named (codes "content-length") field)

abbrev pub passed_lines : List Field → List ℕ
passed_lines fields = flat_map field_line (filter (goes_on fields) fields)

abbrev pub received_length : List Field → Option ℕ
received_length fields = elim (has_field (codes "transfer-encoding") fields) [
  | true ↦ None
  | false ↦ option_and_then number_of (first_value (codes "content-length") fields)
]

abbrev pub optional_length_line : Option ℕ → List ℕ
optional_length_line None = []
optional_length_line (Some n) = length_line n

-- to HEAD, and of a 304, the length that the body would have (sections 14.13 and 10.3.5); a body whose
-- length is not known goes on in chunks, or to HTTP/1.0 up to the end of the connection
abbrev pub framing_line : BodyRule → ℕ → Bool → List Field → List ℕ
framing_line Empty minor is_described fields = elim is_described [ true ↦ optional_length_line (received_length fields) | false ↦ [] ]
framing_line (Length n) minor is_described fields = length_line n
framing_line Chunked minor is_described fields = elim (is_old minor) [ true ↦ [] | false ↦ line (codes "transfer-encoding") (codes "chunked") ]
framing_line ToEnd minor is_described fields = elim (is_old minor) [ true ↦ [] | false ↦ line (codes "transfer-encoding") (codes "chunked") ]

-- Status-Line = HTTP-Version SP Status-Code SP Reason-Phrase CRLF
abbrev pub status_line : Response → List ℕ
status_line response = codes "HTTP/1.1 " ++ decimal response.status ++ codes " " ++ response.reason ++ crlf

abbrev pub passed_head : Response → BodyRule → ℕ → Bool → List ℕ → Bool → List ℕ
passed_head response rule minor head_asked name keep =
    status_line response ++ passed_lines response.fields ++ via_line name
    ++ framing_line rule minor (head_asked || (response.status == 304)) response.fields
    ++ connection_line (keep && is_end_known rule minor) ++ crlf

-- what stands before the body of a reply; of a refusal, all of it
abbrev pub reply_text : ReplyKind → Option Response → List ℕ → Bool → List ℕ
reply_text (Refusal status head_asked) response name keep = page status head_asked keep
reply_text (Passed rule minor head_asked) (Some response) name keep = passed_head response rule minor head_asked name keep
reply_text (Passed rule minor head_asked) None name keep = []

-- the limits of a response's head, as far as its text depends on them
pub record KeepsHeadLimits (response : Response) : Type 0 where
  pub few : length response.fields ≤ 100
  pub texts : length response.reason + sum_by field_len response.fields ≤ 16384

-- the reply has what it shows
abbrev pub CanWrite : ReplyKind → Option Response → Type 0
CanWrite (Refusal status head_asked) response = IsTrue (has_page status)
CanWrite (Passed rule minor head_asked) (Some response) = KeepsHeadLimits response
CanWrite (Passed rule minor head_asked) None = ⊥
