-- Which bytes of a version a reply shows (RFC 7233, sections 2.1, 3.1 and 3.2).
use Rattle.std.specs.Prelude.{ℕ, Bool, true, false, if◌then◌else◌, List, Option, Some, None}
use Rattle.pp_text.specs.Fields.{Field}
use Rattle.pp_ranges.specs.Ranges.{range_of, resolve}
use Rattle.pp_ranges.specs.declared.range.Range.{Range}
use Rattle.pp_ranges.specs.declared.range.Resolved.{Resolved}
use Rattle.pp_ranges.specs.declared.range.Resolved.TheVariants.{Whole, Part, Unsatisfiable}
use Rattle.pp_valid.specs.Conditions.{if_range_holds}
use Rattle.pp_valid.specs.declared.version.Version.{Version}

abbrev pub resolve_known : Option Range → ℕ → Resolved
resolve_known None length = Whole
resolve_known (Some range) length = resolve range length

-- "if the representation is unchanged, send me the part(s) that I am requesting in Range; otherwise, send me the
-- entire representation"
abbrev pub resolved : List Field → Version → Resolved
resolved fields version =
    if if_range_holds fields version.tag then resolve_known (range_of fields) version.length else Whole

-- half-open, and empty where there is nothing to show
abbrev pub span_in : ℕ → Resolved → ℕ × ℕ
span_in length Whole = (0, length)
span_in length (Part from to) = (from, to)
span_in length Unsatisfiable = (0, 0)

abbrev pub is_unsatisfiable : Resolved → Bool
is_unsatisfiable Whole = false
is_unsatisfiable (Part from to) = false
is_unsatisfiable Unsatisfiable = true
