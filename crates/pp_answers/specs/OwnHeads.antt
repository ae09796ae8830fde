-- What the head of a response to an exchange of the cache's own tells (RFC 2616, sections 10.3.5, 13.5 and 14.9; RFC 7233, sections
-- 4.1 and 4.2).
use Rattle.std.specs.Prelude.{ℕ, ◌+◌, ◌-◌, ◌^◌, min, Bool, true, false, ◌==◌, ◌&&◌, ◌||◌, not, nat_eq, is_some, List, codes, Option, Some, None}
use Rattle.std.specs.List.{list_any, starts_with}
use Rattle.pp_flow.specs.Errands.{named_by}
use Rattle.pp_flow.specs.declared.entry.Aim.{Aim}
use Rattle.pp_flow.specs.declared.entry.Aim.TheVariants.{Own, Hole, Pass as Through}
use Rattle.pp_flow.specs.declared.errand.Kind.{Kind}
use Rattle.pp_fresh.specs.Ready.{may_store}
use Rattle.pp_head.specs.Response.{Response}
use Rattle.pp_text.specs.Bytes.{lower}
use Rattle.pp_text.specs.Fields.{values_of}
use Rattle.pp_valid.specs.ContentRanges.{content_range_of}
use Rattle.pp_valid.specs.declared.content_range.ContentRange.{ContentRange}
use Rattle.pp_valid.specs.declared.content_range.ContentRange.TheVariants.{Span, Unsatisfied}
use Rattle.pp_valid.specs.declared.version.Version.{Version}

-- ---- offsets

abbrev pub first_in : Option ContentRange → ℕ
first_in None = 0
first_in (Some (Unsatisfied n)) = 0
first_in (Some (Span first last n)) = first

abbrev pub end_in : Option ContentRange → ℕ → ℕ
end_in None n = n
end_in (Some (Unsatisfied m)) n = n
end_in (Some (Span first last m)) n = min (last + 1) (2 ^ 64 - 1)

-- of a part these are in Content-Range, and else it is all (RFC 7233, section 4.2)
abbrev pub range_in : Response → Option ContentRange
range_in head = elim (head.status == 206) [ true ↦ content_range_of head.fields | false ↦ None ]

abbrev pub span_to_come : Response → Version → ℕ × ℕ
span_to_come head v = (first_in (range_in head), end_in (range_in head) v.length)

-- ---- rows

-- the row was known to be otherwise
abbrev pub clears_row : Response → Bool
clears_row head = (head.status == 200) || (head.status == 404) || (head.status == 410)

-- "private", "no-store" and what varies by client
abbrev pub is_private_part : Response → Bool
is_private_part head = (head.status == 206) && not (may_store head.fields)

-- ---- heads that answer no ask of this kind

abbrev pub is_multipart_type : List ℕ → Bool
is_multipart_type value = starts_with nat_eq (lower value) (codes "multipart/byteranges")

abbrev pub is_multipart : Response → Bool
is_multipart head = list_any is_multipart_type (values_of (codes "content-type") head.fields)

abbrev pub is_wrong_part : Response → Bool
is_wrong_part head = (head.status == 206) && is_multipart head

-- ours: one range was asked for; only what was named can be unchanged
abbrev pub is_wrong_for : Aim → Kind → Response → Bool
is_wrong_for Own kind head = is_wrong_part head || ((head.status == 304) && not (is_some (named_by kind)))
is_wrong_for (Hole v from to) kind head = is_wrong_part head
is_wrong_for Through kind head = false

-- ours: 101 would leave HTTP
abbrev pub is_wrong : Aim → Kind → Response → Bool
is_wrong aim kind head = (head.status == 101) || is_wrong_for aim kind head
