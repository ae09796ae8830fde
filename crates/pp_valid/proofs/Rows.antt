-- Worked validators and versions (RFC 2616, section 13.5.4; RFC 7232; RFC 7233, sections 3.2, 4.1 and 4.2).
use Rattle.std.proofs.Common.{refl, ℕ, Bool, true, false, List, [], ◌∷◌, ◌++◌, replicate, Option, Some, None, codes}
use Rattle.pp_valid.specs.Kept.{has_room_for}
use Rattle.pp_text.proofs.Table.{Rows}
use Rattle.pp_text.specs.Fields.{Field}
use Rattle.pp_valid.specs.Codings.{accepts_only_identity}
use Rattle.pp_valid.specs.Conditions.{if_range_holds, matches_none, names_other_tag, not_modified_since}
use Rattle.pp_valid.specs.ContentRanges.{content_range_of}
use Rattle.pp_valid.specs.Tags.{strong_tag}
use Rattle.pp_valid.specs.TagStates.{tag_of}
use Rattle.pp_valid.specs.Versions.{version_of}
use Rattle.pp_valid.specs.declared.content_range.ContentRange.TheVariants.{Span, Unsatisfied}
use Rattle.pp_valid.specs.declared.tag_state.TagState.TheVariants.{None as Untagged, Weak, Strong, Several, Bad}
use Rattle.pp_valid.specs.declared.version.Version.{Version}
use Rattle.pp_valid.proofs.OnLiterals.{pp_valid_on_literals}

-- the version of this tag and length
abbrev version : List ℕ → ℕ → Option Version
version tag n = Some (record { tag = tag; length = n })

-- a byte so many times
abbrev many : ℕ → List ℕ
many n = replicate n 97

-- a response whose one long field has this name and so many bytes has room
abbrev long_fits : List Field → List ℕ → ℕ → Bool
long_fits fields name n =
    has_room_for (fields ++ ((name, many n) ∷ (codes "ETag", codes "\"x\"") ∷ (codes "Content-Length", codes "5") ∷ (codes "Age", codes "7") ∷ []))

a_version_is_a_strong_tag_and_a_known_length : Rows (λ (t : List Field × ℕ). version_of t.0 t.1 true) (
    (((codes "ETag", codes "\"x\"") ∷ (codes "Content-Length", codes "5") ∷ [], 200), version (codes "\"x\"") 5)
    ∷ (((codes "ETag", codes "\"x\"") ∷ (codes "Content-Length", codes "0") ∷ [], 200), version (codes "\"x\"") 0)
    ∷ (((codes "ETag", codes "\"x\"") ∷ (codes "Content-Length", codes "5") ∷ (codes "Content-Length", codes "05") ∷ [], 200), version (codes "\"x\"") 5)
    ∷ (((codes "ETag", codes "\"x\"") ∷ (codes "Content-Length", codes "5") ∷ (codes "Content-Length", codes "6") ∷ [], 200), None)
    ∷ (((codes "ETag", codes "\"x\"") ∷ (codes "Content-Length", codes "five") ∷ [], 200), None)
    ∷ (((codes "ETag", codes "\"x\"") ∷ (codes "Content-Range", codes "bytes 0-4/9") ∷ [], 200), None)
    ∷ (((codes "ETag", codes "\"x\"") ∷ (codes "Content-Length", codes "5") ∷ (codes "Content-Range", codes "bytes 0-4/9") ∷ [], 200), version (codes "\"x\"") 5)
    ∷ (((codes "ETag", codes "\"x\"") ∷ (codes "Content-Length", codes "5") ∷ (codes "Transfer-Encoding", codes "identity") ∷ [], 200), None)
    ∷ (((codes "ETag", codes "\"x\"") ∷ (codes "Content-Length", codes "5") ∷ (codes "Connection", codes "content-length") ∷ [], 200), None)
    ∷ (((codes "ETag", codes "\"x\"") ∷ (codes "Content-Length", codes "5") ∷ (codes "Connection", codes "etag") ∷ [], 200), None)
    ∷ (((codes "ETag", codes "\"x\"") ∷ (codes "Content-Length", codes "5") ∷ (codes "ETag", codes "\"x\"") ∷ [], 200), None)
    ∷ (((codes "ETag", codes "\"x\"") ∷ (codes "Content-Length", codes "1073741824") ∷ [], 200), version (codes "\"x\"") 1073741824)
    ∷ (((codes "ETag", codes "\"x\"") ∷ (codes "Content-Length", codes "1073741825") ∷ [], 200), None)
    ∷ (((codes "ETag", codes "\"x\"") ∷ (codes "Content-Length", codes "5") ∷ (codes "Cache-Control", codes "max-age=60, no-cache") ∷ [], 200), version (codes "\"x\"") 5)
    ∷ (((codes "ETag", codes "\"x\"") ∷ (codes "Content-Length", codes "5") ∷ (codes "Cache-Control", codes "max-age=60, No-Store") ∷ [], 200), None)
    ∷ (((codes "ETag", codes "\"x\"") ∷ (codes "Content-Length", codes "5") ∷ (codes "Cache-Control", codes "private") ∷ [], 200), None)
    ∷ (((codes "ETag", codes "\"x\"") ∷ (codes "Content-Length", codes "5") ∷ (codes "Cache-Control", codes "private=\"set-cookie\"") ∷ [], 200), None)
    ∷ (((codes "ETag", codes "\"x\"") ∷ (codes "Content-Length", codes "5") ∷ (codes "Vary", codes "accept-encoding") ∷ [], 200), None)
    ∷ (((codes "ETag", codes "\"x\"") ∷ (codes "Content-Length", codes "5") ∷ (codes "Set-Cookie", codes "a=b") ∷ [], 200), None)
    ∷ (((codes "ETag", codes "\"x\"") ∷ (codes "Content-Length", codes "5") ∷ (codes "Connection", codes "vary") ∷ (codes "Vary", codes "accept-encoding") ∷ [], 200), None)
    ∷ (((codes "ETag", codes "\"x\"") ∷ (codes "Content-Length", codes "5") ∷ (codes "Connection", codes "cache-control") ∷ (codes "Cache-Control", codes "no-store") ∷ [], 200), None)
    ∷ (((codes "ETag", codes "\"x\"") ∷ (codes "Content-Length", codes "5") ∷ (codes "Content-Range", codes "bytes 2-6/9") ∷ [], 206), version (codes "\"x\"") 9)
    ∷ (((codes "ETag", codes "\"x\"") ∷ (codes "Content-Length", codes "5") ∷ (codes "Content-Range", codes "bytes 2-6/7") ∷ [], 206), version (codes "\"x\"") 7)
    ∷ (((codes "ETag", codes "\"x\"") ∷ (codes "Content-Length", codes "4") ∷ (codes "Content-Range", codes "bytes 2-6/9") ∷ [], 206), None)
    ∷ (((codes "ETag", codes "\"x\"") ∷ (codes "Content-Length", codes "5") ∷ (codes "Content-Range", codes "bytes 2-6/*") ∷ [], 206), None)
    ∷ (((codes "ETag", codes "\"x\"") ∷ (codes "Content-Length", codes "5") ∷ (codes "Content-Range", codes "bytes */9") ∷ [], 206), None)
    ∷ (((codes "ETag", codes "\"x\"") ∷ (codes "Content-Length", codes "5") ∷ [], 206), None)
    ∷ (((codes "ETag", codes "\"x\"") ∷ (codes "Content-Range", codes "bytes 2-6/9") ∷ [], 206), None)
    ∷ (((codes "ETag", codes "\"x\"") ∷ (codes "Content-Length", codes "5") ∷ [], 304), None)
    ∷ (((codes "ETag", codes "\"x\"") ∷ (codes "Content-Length", codes "5") ∷ [], 404), None)
    ∷ (((codes "ETag", codes "\"x\"") ∷ (codes "Date", codes "Sun, 06 Nov 1994 08:49:37 GMT") ∷ (codes "Cache-Control", codes "max-age=60") ∷ (codes "Content-Length", codes "5") ∷ [], 200), version (codes "\"x\"") 5)
    ∷ (((codes "ETag", codes "\"x\"") ∷ (codes "Content-Length", codes "5") ∷ (codes "Set-Cookie2", codes "a=b") ∷ [], 200), None)
    ∷ [])
unfolding pp_valid_on_literals
a_version_is_a_strong_tag_and_a_known_length = refl

a_weak_tag_makes_no_version_and_the_empty_one_none : Rows (λ (t : List Field). version_of t 200 true) (
    ((codes "ETag", codes "W/\"x\"") ∷ (codes "Content-Length", codes "5") ∷ [], None)
    ∷ ((codes "ETag", codes "\"\"") ∷ (codes "Content-Length", codes "5") ∷ [], None)
    ∷ ((codes "ETag", codes "\"y\"") ∷ (codes "Content-Length", codes "5") ∷ [], version (codes "\"y\"") 5)
    ∷ [])
unfolding pp_valid_on_literals
a_weak_tag_makes_no_version_and_the_empty_one_none = refl

what_has_a_content_coding_makes_a_version_only_where_the_request_wished_for_none : Rows (λ (t : List Field × Bool). version_of t.0 200 t.1) (
    (((codes "ETag", codes "\"x\"") ∷ (codes "Content-Length", codes "5") ∷ (codes "Content-Encoding", codes "gzip") ∷ [], false), None)
    ∷ (((codes "ETag", codes "\"x\"") ∷ (codes "Content-Length", codes "5") ∷ (codes "Content-Encoding", codes "gzip") ∷ [], true), version (codes "\"x\"") 5)
    ∷ (((codes "ETag", codes "\"x\"") ∷ (codes "Content-Length", codes "5") ∷ (codes "Content-Encoding", codes "identity") ∷ [], false), version (codes "\"x\"") 5)
    ∷ (((codes "ETag", codes "\"x\"") ∷ (codes "Content-Length", codes "5") ∷ (codes "Content-Encoding", codes "Identity") ∷ [], true), version (codes "\"x\"") 5)
    ∷ (((codes "ETag", codes "\"x\"") ∷ (codes "Content-Length", codes "5") ∷ (codes "Content-Encoding", codes "identity, gzip") ∷ [], false), None)
    ∷ (((codes "ETag", codes "\"x\"") ∷ (codes "Content-Length", codes "5") ∷ (codes "Content-Encoding", codes "") ∷ [], false), version (codes "\"x\"") 5)
    ∷ (((codes "ETag", codes "\"x\"") ∷ (codes "Content-Length", codes "5") ∷ (codes "Content-Encoding", codes "x-gzip") ∷ [], true), version (codes "\"x\"") 5)
    ∷ (((codes "ETag", codes "\"x\"") ∷ (codes "Content-Length", codes "5") ∷ [], false), version (codes "\"x\"") 5)
    ∷ [])
unfolding pp_valid_on_literals
what_has_a_content_coding_makes_a_version_only_where_the_request_wished_for_none = refl

a_request_wishes_for_no_coding_where_it_names_identity_alone : Rows accepts_only_identity (
    ([], true)
    ∷ ((codes "Accept-Encoding", codes "identity") ∷ [], true)
    ∷ ((codes "accept-encoding", codes "Identity, identity") ∷ [], true)
    ∷ ((codes "Accept-Encoding", codes "") ∷ [], true)
    ∷ ((codes "Accept-Encoding", codes "gzip") ∷ [], false)
    ∷ ((codes "Accept-Encoding", codes "identity") ∷ (codes "Accept-Encoding", codes "gzip") ∷ [], false)
    ∷ ((codes "Accept-Encoding", codes "identity;q=1, *;q=0") ∷ [], false)
    ∷ ((codes "Accept", codes "gzip") ∷ [], true)
    ∷ [])
unfolding pp_valid_on_literals
a_request_wishes_for_no_coding_where_it_names_identity_alone = refl

a_response_makes_no_version_where_connection_names_what_says_how_long_it_may_be_used : Rows (λ (t : List Field). version_of t 200 true) (
    ((codes "ETag", codes "\"x\"") ∷ (codes "Content-Length", codes "5") ∷ (codes "Connection", codes "cache-control") ∷ [], None)
    ∷ ((codes "ETag", codes "\"x\"") ∷ (codes "Content-Length", codes "5") ∷ (codes "Connection", codes "close, Expires") ∷ [], None)
    ∷ ((codes "ETag", codes "\"x\"") ∷ (codes "Content-Length", codes "5") ∷ (codes "Connection", codes "date") ∷ [], None)
    ∷ ((codes "ETag", codes "\"x\"") ∷ (codes "Content-Length", codes "5") ∷ (codes "Connection", codes "age") ∷ [], None)
    ∷ ((codes "ETag", codes "\"x\"") ∷ (codes "Content-Length", codes "5") ∷ (codes "Connection", codes "last-modified") ∷ [], None)
    ∷ ((codes "ETag", codes "\"x\"") ∷ (codes "Content-Length", codes "5") ∷ (codes "Connection", codes "keep-alive, x-note") ∷ [], version (codes "\"x\"") 5)
    ∷ [])
unfolding pp_valid_on_literals
a_response_makes_no_version_where_connection_names_what_says_how_long_it_may_be_used = refl

-- `cache-control: ` and CRLF have 17 bytes, `x-note: ` and CRLF 10, and the line of the tag 11
the_kept_lines_fit_their_room : Rows (λ (t : List Field × (List ℕ × ℕ)). long_fits t.0 t.1.0 t.1.1) (
    (([], (codes "Cache-Control", 1994)), true)
    ∷ (([], (codes "Cache-Control", 1995)), false)
    ∷ (((codes "Date", codes "today") ∷ [], (codes "Cache-Control", 1994)), true)
    ∷ (((codes "Date", codes "today") ∷ [], (codes "Cache-Control", 1995)), false)
    ∷ (((codes "Date", codes "Sunday, 06-Nov-94 08:49:37 GMT") ∷ [], (codes "Cache-Control", 1993)), true)
    ∷ (((codes "Date", codes "Sunday, 06-Nov-94 08:49:37 GMT") ∷ [], (codes "Cache-Control", 1994)), false)
    ∷ (((codes "Expires", codes "0") ∷ [], (codes "Cache-Control", 1982)), true)
    ∷ (((codes "Expires", codes "0") ∷ [], (codes "Cache-Control", 1983)), false)
    ∷ (([], (codes "X-Note", 16363)), true)
    ∷ (([], (codes "X-Note", 16364)), false)
    ∷ (([], (codes "X-Polipo-Note", 16384)), true)
    ∷ (((codes "Connection", codes "x-note") ∷ [], (codes "X-Note", 16384)), true)
    ∷ [])
unfolding pp_valid_on_literals
the_kept_lines_fit_their_room = refl

a_tag_is_quoted_and_marked_when_it_is_weak : Rows tag_of (
    ((codes "ETag", codes "\"xyzzy\"") ∷ [], Strong (codes "\"xyzzy\""))
    ∷ ((codes "ETAG", codes "\"\"") ∷ [], Strong (codes "\"\""))
    ∷ ((codes "ETag", codes "\"a,b\"") ∷ [], Strong (codes "\"a,b\""))
    ∷ ((codes "ETag", codes "W/\"xyzzy\"") ∷ [], Weak)
    ∷ ((codes "ETag", codes "W/\"\"") ∷ [], Weak)
    ∷ ((codes "ETag", codes "w/\"xyzzy\"") ∷ [], Bad)
    ∷ ((codes "ETag", codes "W/xyzzy") ∷ [], Bad)
    ∷ ((codes "ETag", codes "xyzzy") ∷ [], Bad)
    ∷ ((codes "ETag", codes "\"") ∷ [], Bad)
    ∷ ((codes "ETag", codes "") ∷ [], Bad)
    ∷ ((codes "ETag", codes "\"a b\"") ∷ [], Bad)
    ∷ ((codes "ETag", codes "\"a\", \"b\"") ∷ [], Bad)
    ∷ ((codes "ETag", codes "\"a\"") ∷ (codes "ETag", codes "\"a\"") ∷ [], Several)
    ∷ ((codes "If-Match", codes "\"a\"") ∷ [], Untagged)
    ∷ ((codes "Connection", codes "etag") ∷ (codes "ETag", codes "\"x\"") ∷ [], Untagged)
    ∷ ((codes "ETag", codes "\"x\"") ∷ (codes "Connection", codes "close, ETag") ∷ (codes "ETag", codes "\"y\"") ∷ [], Untagged)
    ∷ ((codes "Connection", codes "close") ∷ (codes "ETag", codes "\"x\"") ∷ [], Strong (codes "\"x\""))
    ∷ ((codes "ETag", 34 ∷ 33 ∷ 35 ∷ 126 ∷ 195 ∷ 169 ∷ 34 ∷ []) ∷ [], Strong (34 ∷ 33 ∷ 35 ∷ 126 ∷ 195 ∷ 169 ∷ 34 ∷ []))
    ∷ [])
unfolding pp_valid_on_literals
a_tag_is_quoted_and_marked_when_it_is_weak = refl

a_strong_tag_has_1024_bytes_at_most : Rows tag_of (
    ((codes "ETag", codes "\"" ++ many 1022 ++ codes "\"") ∷ [], Strong (codes "\"" ++ many 1022 ++ codes "\""))
    ∷ ((codes "ETag", codes "\"" ++ many 1023 ++ codes "\"") ∷ [], Bad)
    ∷ ((codes "ETag", codes "W/\"" ++ many 1023 ++ codes "\"") ∷ [], Weak)
    ∷ [])
unfolding pp_valid_on_literals
a_strong_tag_has_1024_bytes_at_most = refl

a_tag_is_read_whole : Rows strong_tag (
    (codes "\"xyzzy\"", Some (codes "\"xyzzy\""))
    ∷ (codes "W/\"xyzzy\"", None)
    ∷ [])
unfolding pp_valid_on_literals
a_tag_is_read_whole = refl

if_none_match_compares_weakly : Rows (λ (t : List Field). matches_none t (codes "\"1\"")) (
    ((codes "If-None-Match", codes "\"1\"") ∷ [], Some true)
    ∷ ((codes "If-None-Match", codes "W/\"1\"") ∷ [], Some true)
    ∷ ((codes "If-None-Match", codes "*") ∷ [], Some true)
    ∷ ((codes "If-None-Match", codes "\"0\", W/\"2\" ,\"1\"") ∷ [], Some true)
    ∷ ((codes "If-None-Match", codes "\"0\"") ∷ (codes "If-None-Match", codes "\"1\"") ∷ [], Some true)
    ∷ ((codes "If-None-Match", codes "\"2\"") ∷ [], Some false)
    ∷ ((codes "If-None-Match", codes "\"0,1\"") ∷ [], Some false)
    ∷ ((codes "If-None-Match", codes "1") ∷ [], Some false)
    ∷ ((codes "If-None-Match", codes "w/\"1\"") ∷ [], Some false)
    ∷ ((codes "If-None-Match", codes "") ∷ [], Some false)
    ∷ ((codes "If-Match", codes "\"1\"") ∷ [], None)
    ∷ [])
unfolding pp_valid_on_literals
if_none_match_compares_weakly = refl

the_tag_of_a_304_compares_weakly : Rows (λ (t : List Field). names_other_tag t (codes "\"1\"")) (
    ([], false)
    ∷ ((codes "ETag", codes "\"1\"") ∷ [], false)
    ∷ ((codes "ETag", codes "W/\"1\"") ∷ [], false)
    ∷ ((codes "ETag", codes "\"2\"") ∷ [], true)
    ∷ ((codes "ETag", codes "W/\"2\"") ∷ [], true)
    ∷ ((codes "ETag", codes "1") ∷ [], true)
    ∷ ((codes "ETag", codes "\"1\"") ∷ (codes "ETag", codes "\"2\"") ∷ [], true)
    ∷ ((codes "Connection", codes "etag") ∷ (codes "ETag", codes "\"2\"") ∷ [], false)
    ∷ [])
unfolding pp_valid_on_literals
the_tag_of_a_304_compares_weakly = refl

if_range_compares_strongly : Rows (λ (t : List Field). if_range_holds t (codes "\"1\"")) (
    ((codes "Range", codes "bytes=0-") ∷ [], true)
    ∷ ((codes "If-Range", codes "\"1\"") ∷ [], true)
    ∷ ((codes "If-Range", codes "W/\"1\"") ∷ [], false)
    ∷ ((codes "If-Range", codes "\"2\"") ∷ [], false)
    ∷ ((codes "If-Range", codes "1") ∷ [], false)
    ∷ ((codes "If-Range", codes "*") ∷ [], false)
    ∷ ((codes "If-Range", codes "Sun, 06 Nov 1994 08:49:37 GMT") ∷ [], false)
    ∷ ((codes "If-Range", codes "\"1\"") ∷ (codes "If-Range", codes "\"1\"") ∷ [], false)
    ∷ [])
unfolding pp_valid_on_literals
if_range_compares_strongly = refl

a_response_is_unmodified_up_to_its_date : Rows (λ (t : List Field × List Field). not_modified_since t.0 t.1) (
    (((codes "If-Modified-Since", codes "Sun, 06 Nov 1994 08:49:37 GMT") ∷ [], (codes "Last-Modified", codes "Sun, 06 Nov 1994 08:49:37 GMT") ∷ []), true)
    ∷ (((codes "If-Modified-Since", codes "Sun, 06 Nov 1994 08:49:37 GMT") ∷ [], (codes "Last-Modified", codes "Sunday, 06-Nov-94 08:49:36 GMT") ∷ []), true)
    ∷ (((codes "If-Modified-Since", codes "Sun, 06 Nov 1994 08:49:37 GMT") ∷ [], (codes "Last-Modified", codes "Sun Nov  6 08:49:38 1994") ∷ []), false)
    ∷ (((codes "If-Modified-Since", codes "Sun, 06 Nov 1994 08:49:37 GMT") ∷ [], (codes "Last-Modified", codes "yesterday") ∷ []), false)
    ∷ (((codes "If-Modified-Since", codes "Sun, 06 Nov 1994 08:49:37 GMT") ∷ [], (codes "Date", codes "Sun, 06 Nov 1994 08:49:37 GMT") ∷ []), false)
    ∷ (((codes "If-Modified-Since", codes "784111777") ∷ [], (codes "Last-Modified", codes "Sun, 06 Nov 1994 08:49:37 GMT") ∷ []), false)
    ∷ (((codes "If-Range", codes "\"1\"") ∷ [], (codes "Last-Modified", codes "Sun, 06 Nov 1994 08:49:37 GMT") ∷ []), false)
    ∷ (((codes "If-Range", codes "\"1\"") ∷ [], (codes "Date", codes "Sun, 06 Nov 1994 08:49:37 GMT") ∷ []), false)
    ∷ [])
unfolding pp_valid_on_literals
a_response_is_unmodified_up_to_its_date = refl

a_content_range_lies_within_the_whole_length : Rows content_range_of (
    ((codes "Content-Range", codes "bytes 42-1233/1234") ∷ [], Some (Span 42 1233 1234))
    ∷ ((codes "content-range", codes "BYTES 0-0/1") ∷ [], Some (Span 0 0 1))
    ∷ ((codes "Content-Range", codes "bytes */1234") ∷ [], Some (Unsatisfied 1234))
    ∷ ((codes "Content-Range", codes "bytes */0") ∷ [], Some (Unsatisfied 0))
    ∷ ((codes "Content-Range", codes "bytes 0-18446744073709551614/18446744073709551615") ∷ [], Some (Span 0 18446744073709551614 18446744073709551615))
    ∷ ((codes "Content-Range", codes "bytes 0-1/18446744073709551616") ∷ [], None)
    ∷ ((codes "Content-Range", codes "bytes 42-1233/*") ∷ [], None)
    ∷ ((codes "Content-Range", codes "bytes */*") ∷ [], None)
    ∷ ((codes "Content-Range", codes "bytes 0-4/4") ∷ [], None)
    ∷ ((codes "Content-Range", codes "bytes 0-4/3") ∷ [], None)
    ∷ ((codes "Content-Range", codes "bytes 3-2/9") ∷ [], None)
    ∷ ((codes "Content-Range", codes "bytes -4/9") ∷ [], None)
    ∷ ((codes "Content-Range", codes "bytes 4-/9") ∷ [], None)
    ∷ ((codes "Content-Range", codes "bytes 0-4") ∷ [], None)
    ∷ ((codes "Content-Range", codes "bytes=0-4/9") ∷ [], None)
    ∷ ((codes "Content-Range", codes "bytes  0-4/9") ∷ [], None)
    ∷ ((codes "Content-Range", codes "items 0-4/9") ∷ [], None)
    ∷ ((codes "Content-Range", codes "") ∷ [], None)
    ∷ ((codes "Content-Range", codes "bytes 0-4/9") ∷ (codes "Content-Range", codes "bytes 0-4/9") ∷ [], None)
    ∷ ((codes "Connection", codes "content-range") ∷ (codes "Content-Range", codes "bytes 0-4/9") ∷ [], None)
    ∷ ((codes "Range", codes "bytes 0-4/9") ∷ [], None)
    ∷ [])
unfolding pp_valid_on_literals
a_content_range_lies_within_the_whole_length = refl
