-- The texts of replies that are made from a kept response (RFC 2616, sections 6, 10.2.7, 10.3.5, 10.4.17 and 14.6; RFC 7232,
-- section 4.1; RFC 7233, sections 4.1, 4.2 and 4.4).
use Rattle.std.specs.Prelude.{ℕ, ◌+◌, ◌-◌, ◌≤◌, ◌<◌, Bool, List, [], ◌∷◌, ◌++◌, filter, length, codes, decimal, Option, Some, None, ⊤}
use Rattle.std.specs.List.{list_any}
use Rattle.pp_text.specs.Fields.{Field, is_named}
use Rattle.pp_text.specs.Lines.{lines_of}
use Rattle.pp_reply.specs.Texts.{crlf, line, length_line, connection_line, via_line}
use Rattle.pp_reply.specs.declared.kept.KeptReply.{KeptReply}
use Rattle.pp_reply.specs.declared.kept.KeptReply.TheVariants.{Whole, Part, Head, NotModified, Unsatisfiable}

-- "An HTTP/1.1 server that includes a cache MUST include an Age header field in every response generated from its own
-- cache" (section 14.6); ours: none where the response was fetched for this very request, and told none
abbrev pub age_line : Option ℕ → List ℕ
age_line None = []
age_line (Some seconds) = line (codes "age") (decimal seconds)

-- ours: the kept fields, age and Via, what frames the body, and whether the connection goes on, in this order
abbrev pub head_with : List ℕ → List Field → Option ℕ → List ℕ → List ℕ → Bool → List ℕ
head_with title fields age name framing keep =
    codes "HTTP/1.1 " ++ title ++ crlf ++ lines_of fields ++ age_line age ++ via_line name ++ framing ++ connection_line keep ++ crlf

abbrev pub whole_head : ℕ → List Field → Option ℕ → List ℕ → Bool → List ℕ
whole_head n fields age name keep = head_with (codes "200 OK") fields age name (length_line n) keep

-- byte-content-range = bytes-unit SP ( byte-range-resp / unsatisfied-range )
abbrev pub content_range_line : List ℕ → List ℕ
content_range_line range = line (codes "content-range") (codes "bytes " ++ range)

-- byte-range-resp = byte-range "/" complete-length; byte-range = first-byte-pos "-" last-byte-pos; the span is half-open
abbrev pub byte_range_resp : ℕ → ℕ → ℕ → List ℕ
byte_range_resp from to n = decimal from ++ codes "-" ++ decimal (to - 1) ++ codes "/" ++ decimal n

-- unsatisfied-range = "*/" complete-length
abbrev pub unsatisfied_range : ℕ → List ℕ
unsatisfied_range n = codes "*/" ++ decimal n

-- "If a single part is being transferred, the server generating the 206 response MUST generate a Content-Range header
-- field, describing what range of the selected representation is enclosed, and a payload consisting of the range"
abbrev pub part_head : ℕ → ℕ → ℕ → List Field → Option ℕ → List ℕ → Bool → List ℕ
part_head from to n fields age name keep =
    head_with (codes "206 Partial Content") fields age name (content_range_line (byte_range_resp from to n) ++ length_line (to - from)) keep

-- "the server generating a 304 response MUST generate any of the following header fields that would have been sent in a
-- 200 (OK) response to the same request: Cache-Control, Content-Location, Date, ETag, Expires, and Vary", and "a sender
-- SHOULD NOT generate representation metadata other than the above listed fields"; ours: none that is kept has Vary
abbrev pub is_described : Field → Bool
is_described field =
    list_any (λ name. is_named name field) (codes "etag" ∷ codes "content-location" ∷ codes "date" ∷ codes "expires" ∷ codes "cache-control" ∷ [])

abbrev pub not_modified_head : List Field → Option ℕ → List ℕ → Bool → List ℕ
not_modified_head fields age name keep = head_with (codes "304 Not Modified") (filter is_described fields) age name [] keep

abbrev pub unsatisfiable_title : List ℕ
unsatisfiable_title = codes "416 Requested Range Not Satisfiable"

-- "a server that generates a 416 response to a byte-range request SHOULD generate a Content-Range header field
-- specifying the current length of the selected representation"
abbrev pub unsatisfiable_page : ℕ → Bool → List ℕ
unsatisfiable_page n keep =
    codes "HTTP/1.1 " ++ unsatisfiable_title ++ crlf ++ content_range_line (unsatisfied_range n)
    ++ line (codes "content-type") (codes "text/plain") ++ length_line (length unsatisfiable_title + 1) ++ connection_line keep ++ crlf
    ++ unsatisfiable_title ++ codes "\n"

-- what stands before the body of a reply, of a body of this length; where no range is satisfied, all of it
abbrev pub kept_reply : KeptReply → ℕ → List Field → Option ℕ → List ℕ → Bool → List ℕ
kept_reply Whole n fields age name keep = whole_head n fields age name keep
kept_reply (Part from to) n fields age name keep = part_head from to n fields age name keep
kept_reply Head n fields age name keep = whole_head n fields age name keep
kept_reply NotModified n fields age name keep = not_modified_head fields age name keep
kept_reply Unsatisfiable n fields age name keep = unsatisfiable_page n keep

-- a Content-Range is invalid with "a last-byte-pos value less than its first-byte-pos value, or a complete-length value
-- less than or equal to its last-byte-pos value"
pub record IsSpanWithin (from to n : ℕ) : Type 0 where
  pub some : from < to
  pub within : to ≤ n

abbrev pub CanShow : KeptReply → ℕ → Type 0
CanShow Whole n = ⊤
CanShow (Part from to) n = IsSpanWithin from to n
CanShow Head n = ⊤
CanShow NotModified n = ⊤
CanShow Unsatisfiable n = ⊤

-- ours: the lines that are kept have at most 16,384 bytes where they last, and 2,048 where they are renewed
abbrev pub KeepsLineLimits : List Field → Type 0
KeepsLineLimits fields = length (lines_of fields) ≤ 16384 + 2048
