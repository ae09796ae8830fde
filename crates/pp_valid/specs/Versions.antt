-- The version of a response: its strong tag and the length of the whole body (RFC 2616, section 13.5.4;
-- RFC 7233, sections 4.1 and 4.3).
use Rattle.std.specs.Prelude.{ℕ, ◌+◌, ◌-◌, ◌^◌, Bool, false, ◌==◌, ◌&&◌, ◌||◌, not, nat_le, nat_lt, List, [], ◌∷◌, length, codes, Option, Some, None, option_and_then, if◌then◌else◌}
use Rattle.std.specs.List.{list_all}
use Rattle.pp_text.specs.Fields.{Field, has_field}
use Rattle.pp_text.specs.Numbers.{number_of}
use Rattle.pp_fresh.specs.Ready.{may_store}
use Rattle.pp_valid.specs.declared.version.Version.{Version}
use Rattle.pp_valid.specs.declared.content_range.ContentRange.{ContentRange}
use Rattle.pp_valid.specs.declared.content_range.ContentRange.TheVariants.{Span, Unsatisfied}
use Rattle.pp_valid.specs.declared.tag_state.TagState.{TagState}
use Rattle.pp_valid.specs.declared.tag_state.TagState.TheVariants.{None as Untagged, Weak, Strong, Several, Bad}
use Rattle.pp_valid.specs.Codings.{is_coded}
use Rattle.pp_valid.specs.EndToEnd.{end_to_end_values, hides_freshness}
use Rattle.pp_valid.specs.ContentRanges.{content_range_of}
use Rattle.pp_valid.specs.TagStates.{tag_of}
use Rattle.pp_valid.specs.Kept.{has_room_for}

abbrev pub is_number : ℕ → Option ℕ → Bool
is_number n None = false
is_number n (Some m) = m == n

-- Content-Length = 1*DIGIT; ours: equal repeated lengths count as one
abbrev pub length_in : List (List ℕ) → Option ℕ
length_in [] = None
length_in (value ∷ values) =
    option_and_then (λ n. if list_all (λ other. is_number n (number_of other)) values then Some n else None) (number_of value)

-- "If a message is received with both a Transfer-Encoding header field and a Content-Length header field, the
-- latter MUST be ignored." (section 4.4)
abbrev pub body_length : List Field → Option ℕ
body_length fields =
    if has_field (codes "transfer-encoding") fields then None
    else length_in (end_to_end_values (codes "content-length") fields)

-- the complete length that a part of so many bytes names
abbrev pub complete_length : Option ContentRange → ℕ → Option ℕ
complete_length None len = None
complete_length (Some (Unsatisfied n)) len = None
complete_length (Some (Span first last n)) len = if len == last - first + 1 then Some n else None

-- the length of the whole body, of a response 200 or 206
abbrev pub total_by : ℕ → List Field → ℕ → Option ℕ
total_by status fields len =
    if status == 200 then Some len
    else (if status == 206 then complete_length (content_range_of fields) len else None)

abbrev pub total_of : List Field → ℕ → Option ℕ
total_of fields status = option_and_then (total_by status fields) (body_length fields)

-- ours: the empty tag `""` tells no bytes from others, since servers give it to each body
abbrev pub is_telling : List ℕ → Bool
is_telling tag = nat_lt 2 (length tag)

-- ours: what has a content coding is for everybody only where the request had no other wish
abbrev pub is_for_everybody : List Field → Bool → Bool
is_for_everybody fields accepts_only_identity = accepts_only_identity || not (is_coded fields)

-- ours: what forbids storing does so also where Connection names it
abbrev pub can_share : List Field → Bool → Bool
can_share fields accepts_only_identity = may_store fields && (is_for_everybody fields accepts_only_identity && not (hides_freshness fields))

-- ours: at most 2^30 bytes
abbrev pub can_keep : List Field → ℕ → Bool
can_keep fields n = nat_le n (2 ^ 30) && has_room_for fields

abbrev pub version_with : List Field → Bool → List ℕ → ℕ → Option Version
version_with fields accepts_only_identity tag n =
    if is_telling tag && (can_keep fields n && can_share fields accepts_only_identity) then Some (record { tag = tag; length = n }) else None

-- a weak tag makes no version: "a weak entity-tag .. might change"
abbrev pub strong_part : TagState → Option (List ℕ)
strong_part Untagged = None
strong_part Weak = None
strong_part (Strong tag) = Some tag
strong_part Several = None
strong_part Bad = None

-- of a response with these fields and this status, to a request of which `accepts_only_identity` was said or not
abbrev pub version_of : List Field → ℕ → Bool → Option Version
version_of fields status accepts_only_identity =
    option_and_then (λ tag. option_and_then (version_with fields accepts_only_identity tag) (total_of fields status)) (strong_part (tag_of fields))
