-- What a request says of its decision (RFC 2616, sections 9 and 14; RFC 7232; RFC 7233).
use Rattle.std.specs.Prelude.{ℕ, Bool, true, false, ◌&&◌, ◌||◌, not, nat_eq, nat_lt, List, codes, bytes_eq, is_some, Option, Some, None, unwrap_or, option_and_then}
use Rattle.std.specs.List.{starts_with}
use Rattle.pp_text.specs.Fields.{Field, first_value, has_field}
use Rattle.pp_text.specs.Numbers.{number_of}
use Rattle.pp_fresh.specs.Directives.{directives_of}
use Rattle.pp_ranges.specs.Ranges.{range_of}
use Rattle.pp_ranges.specs.declared.range.Range.{Range}
use Rattle.pp_ranges.specs.declared.range.Range.TheVariants.{Span, From, Last}

-- "The method is case-sensitive." (RFC 2616, section 5.1.1)
abbrev pub is_get : List ℕ → Bool
is_get method = bytes_eq method (codes "GET")

abbrev pub is_head : List ℕ → Bool
is_head method = bytes_eq method (codes "HEAD")

-- "A CONNECT request MUST use authority-form" (RFC 9110, section 9.3.6; RFC 9112, section 3.2.3), which is no key
abbrev pub is_connect : List ℕ → Bool
is_connect method = bytes_eq method (codes "CONNECT")

-- ours: a length that cannot be read counts as 0
abbrev pub length_of : List Field → ℕ
length_of fields = unwrap_or (option_and_then number_of (first_value (codes "content-length") fields)) 0

-- "When a shared cache .. receives a request containing an Authorization field, it MUST NOT return the
-- corresponding response as a reply to any other request" (section 14.8); no-store: "If sent in a request, a cache
-- MUST NOT store any part of either this request or any response to it" (section 14.9.2); ours: nor has a request
-- with a body, or with a condition on the origin's copy, part in the cache
abbrev pub never_uses : List Field → Bool
never_uses fields =
    (((nat_lt 0 (length_of fields) || has_field (codes "authorization") fields) || (directives_of fields).no_store)
    || has_field (codes "if-match") fields)
    || has_field (codes "if-unmodified-since") fields

-- suffix-byte-range-spec = "-" suffix-length (RFC 7233, section 2.1)
abbrev pub is_suffix : Option Range → Bool
is_suffix None = false
is_suffix (Some (Span first last)) = false
is_suffix (Some (From first)) = false
is_suffix (Some (Last length)) = true

-- If-Range = entity-tag / HTTP-date: "A client MUST NOT generate an If-Range header field containing an entity tag that is
-- marked as weak", and what is no strong tag, which begins with a quotation mark, only the origin judges (RFC 9110, section 13.1.5)
abbrev pub is_judged_by_origin : Option (List ℕ) → Bool
is_judged_by_origin None = false
is_judged_by_origin (Some value) = not (starts_with nat_eq value (codes "\""))

-- a part of what stands as it did at that date
abbrev pub is_resumed : List Field → Bool
is_resumed fields = is_some (range_of fields) && is_judged_by_origin (first_value (codes "if-range") fields)

-- where nothing is known, these ask for less than a whole or a range whose ends are known
abbrev pub is_conditional : List Field → Bool
is_conditional fields =
    ((is_suffix (range_of fields) || is_resumed fields) || has_field (codes "if-none-match") fields) || has_field (codes "if-modified-since") fields
