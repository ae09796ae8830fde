-- What is asked where nothing is known (RFC 7233, section 3.1; ours: from the front of a chunk on).
use Rattle.std.specs.Prelude.{ℕ, ◌-◌, ◌%◌, if◌then◌else◌, List, codes, Option, Some, None, option_and_then}
use Rattle.pp_text.specs.Fields.{Field, has_field}
use Rattle.pp_ranges.specs.Ranges.{range_of}
use Rattle.pp_ranges.specs.declared.range.Range.{Range}
use Rattle.pp_ranges.specs.declared.range.Range.TheVariants.{Span, From, Last}

-- the greatest multiple of a chunk's length that is not above the offset
abbrev pub front_of : ℕ → ℕ
front_of offset = offset - offset % 4096

abbrev pub asked_range : Range → Option (ℕ × Option ℕ)
asked_range (Span first last) = Some (front_of first, Some last)
asked_range (From first) = Some (front_of first, None)
asked_range (Last length) = None

-- what stands at the origin is not known, and so whether If-Range holds: the whole is asked for
abbrev pub fetch_range : List Field → Option (ℕ × Option ℕ)
fetch_range fields = if has_field (codes "if-range") fields then None else option_and_then asked_range (range_of fields)
