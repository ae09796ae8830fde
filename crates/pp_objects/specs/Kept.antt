-- The fields that are kept of the responses of a version (RFC 2616, sections 10.3.5, 13.5.3 and 14.18).
use Rattle.std.specs.Prelude.{ℕ, Bool, ◌||◌, not, cond, nat_lt, nat_le, List, [], ◌∷◌, ◌++◌, filter, length, codes, Option, Some, None}
use Rattle.pp_text.specs.Fields.{Field, is_named}
use Rattle.pp_text.specs.Lines.{lines_of}
use Rattle.pp_fresh.specs.declared.aging.Times.{Times}
use Rattle.pp_valid.specs.Kept.{date_value, is_renewed, lasting_fields, renewed_fields}
use Rattle.pp_objects.specs.Dates.{date_text_at}

-- "A received message that does not have a Date header field MUST be assigned one by the recipient" (section
-- 14.18): the second in which the response came; ours: none after the year 9999
abbrev pub date_field : Option (List ℕ) → ℕ → List Field
date_field (Some value) came = (codes "date", value) ∷ []
date_field None came = cond (nat_lt came 253402300800) ((codes "date", date_text_at came) ∷ []) []

abbrev pub or_else : List Field → List Field → List Field
or_else [] others = others
or_else (field ∷ fields) others = field ∷ fields

-- the fields of a name in the latest response that has it: "the cache MUST update the entry to reflect any new
-- field values given in the response" (section 10.3.5)
abbrev pub latest : List ℕ → List Field → List Field → List Field
latest name kept fields = or_else (filter (is_named name) (renewed_fields fields)) (filter (is_named name) kept)

-- the fields that a response of the version renews, where these were kept before
abbrev pub renewal_of : List Field → List Field → Times → List Field
renewal_of kept fields times =
    date_field (date_value fields) times.response
    ++ latest (codes "expires") kept fields ++ latest (codes "cache-control") kept fields

-- what is kept of the response that makes a row
abbrev pub kept_of : List Field → Times → List Field
kept_of fields times = lasting_fields fields ++ renewal_of [] fields times

-- a field that does not last: another response of the version may renew it
abbrev pub is_passing : Field → Bool
is_passing field = is_named (codes "date") field || is_renewed field

abbrev pub lasting_of : List Field → List Field
lasting_of kept = filter (λ field. not (is_passing field)) kept

-- what is kept after a later response of the version
abbrev pub refreshed_of : List Field → List Field → Times → List Field
refreshed_of kept fields times = lasting_of kept ++ renewal_of kept fields times

-- ours: the lines that are renewed have at most 2,048 bytes
abbrev pub has_room : List Field → List Field → Times → Bool
has_room kept fields times = nat_le (length (lines_of (renewal_of kept fields times))) 2048
