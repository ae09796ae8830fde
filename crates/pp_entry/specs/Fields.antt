-- The fields that an entry may keep of a response.
use Rattle.std.specs.Prelude.{ℕ, Bool, true, ◌==◌, ◌&&◌, ◌||◌, not, cond, nat_le, nat_lt, List, [], ◌∷◌, filter, length, codes, is_some, Some, None}
use Rattle.std.specs.List.{list_all}
use Rattle.httpdate.specs.Date.{parse_secs}
use Rattle.pp_text.specs.Bytes.{lower}
use Rattle.pp_text.specs.Fields.{Field, first_value, is_named}
use Rattle.pp_text.specs.Forwarding.{is_hop_by_hop}
use Rattle.pp_text.specs.Lines.{lines_of}
use Rattle.pp_valid.specs.Kept.{is_of_one_message, is_renewed}

-- "Field names are case-insensitive" (RFC 2616, section 4.2); ours: they are kept in lower case
abbrev pub lowered : Field → Field
lowered field = (lower field.0, field.1)

-- a field that another response of the version may renew (section 10.3.5)
abbrev pub is_passing : Field → Bool
is_passing field = is_named (codes "date") field || is_renewed field

-- "All other headers defined by HTTP/1.1 are end-to-end headers" and are stored (section 13.5.1); ours: but for those
-- that are of one message and not of the body, of which only Date is kept, since it tells when the response was made
abbrev pub may_be_kept : List Field → Field → Bool
may_be_kept fields field = not (is_hop_by_hop fields field) && (is_named (codes "date") field || not (is_of_one_message field))

-- ours: those that last stand first, and behind them Date, Expires and Cache-Control
abbrev pub place_of : Field → ℕ
place_of field =
    cond (is_named (codes "date") field) 1
    (cond (is_named (codes "expires") field) 2
    (cond (is_named (codes "cache-control") field) 3 0))

-- each behind those before it, and Date just once
abbrev pub may_follow : ℕ → ℕ → Bool
may_follow before place = nat_lt before place || (before == place && not (place == 1))

abbrev pub are_in_order : ℕ → List Field → Bool
are_in_order before [] = true
are_in_order before (field ∷ fields) = may_follow before (place_of field) && are_in_order (place_of field) fields

-- "A received message that does not have a Date header field MUST be assigned one by the recipient" (section 14.18), by
-- when it came; ours: none after the year 9999
abbrev pub is_dated : List Field → ℕ → Bool
is_dated fields came = elim (first_value (codes "date") fields) [ Some value ↦ is_some (parse_secs value) | None ↦ nat_le 253402300800 came ]

-- ours: they are as they are kept of a response that came then, and those that are renewed have at most 2,048 bytes
abbrev pub are_allowed : List Field → ℕ → Bool
are_allowed fields came =
    (list_all (may_be_kept fields) fields && nat_le (length (lines_of (filter is_passing fields))) 2048)
    && (are_in_order 0 fields && is_dated fields came)
