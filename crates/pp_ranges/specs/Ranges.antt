-- Byte ranges of a request (RFC 7233, sections 2.1 and 4.4; RFC 2616, sections 3.12 and 14.35).
use Rattle.std.specs.Prelude.{ℕ, ◌+◌, ◌-◌, ◌<◌, ◌≤◌, ◌==◌, nat_lt, nat_le, min, if◌then◌else◌, List, codes, Option, Some, None, option_and_then}
use Rattle.pp_text.specs.Bytes.{is_empty, is_same}
use Rattle.pp_text.specs.Fields.{Field, values_of}
use Rattle.pp_text.specs.Lists.{items_of}
use Rattle.pp_text.specs.Numbers.{number_of}
use Rattle.pp_text.specs.Parts.{cut_at, sole}
use Rattle.pp_ranges.specs.declared.range.Range.{Range}
use Rattle.pp_ranges.specs.declared.range.Range.TheVariants.{Span, From, Last}
use Rattle.pp_ranges.specs.declared.range.Resolved.{Resolved}
use Rattle.pp_ranges.specs.declared.range.Resolved.TheVariants.{Whole, Part, Unsatisfiable}

-- "A byte-range-spec is invalid if the last-byte-pos value is present and less than the first-byte-pos."
abbrev pub span_of : ℕ → ℕ → Option Range
span_of first last = if nat_le first last then Some (Span first last) else None

-- byte-range-spec = first-byte-pos "-" [ last-byte-pos ]
abbrev pub spec_of : ℕ → List ℕ → Option Range
spec_of first last = if is_empty last then Some (From first) else option_and_then (span_of first) (number_of last)

-- suffix-byte-range-spec = "-" suffix-length
abbrev pub suffix_of : List ℕ → Option Range
suffix_of last = option_and_then (λ length. Some (Last length)) (number_of last)

-- what stands before and behind the "-"
abbrev pub range_of_ends : List ℕ × List ℕ → Option Range
range_of_ends ends =
    if is_empty ends.0 then suffix_of ends.1
    else option_and_then (λ first. spec_of first ends.1) (number_of ends.0)

abbrev pub range_of_item : List ℕ → Option Range
range_of_item item = option_and_then range_of_ends (cut_at 45 item)

-- byte-range-set = 1#( byte-range-spec / suffix-byte-range-spec ); ours: of several ranges none counts
abbrev pub range_of_set : List ℕ → Option Range
range_of_set set = option_and_then range_of_item (sole (items_of set))

-- byte-ranges-specifier = bytes-unit "=" byte-range-set; bytes-unit = "bytes", in any case
abbrev pub range_of_specifier : List ℕ × List ℕ → Option Range
range_of_specifier parts = if is_same (codes "bytes") parts.0 then range_of_set parts.1 else None

-- the range of a request, if one counts; ours: of several Range fields none does
abbrev pub range_of : List Field → Option Range
range_of fields = option_and_then range_of_specifier (option_and_then (cut_at 61) (sole (values_of (codes "range") fields)))

-- the first byte of a span is not behind its last
abbrev pub IsInOrder : Range → Type 0
IsInOrder (Span first last) = first ≤ last
IsInOrder (From first) = Unit {0}
IsInOrder (Last length) = Unit {0}

-- "if the value is greater than or equal to the current length of the representation data, the byte range is
-- interpreted as the remainder of the representation"; "if the selected representation is shorter than the
-- specified suffix-length, the entire representation is used"; "a suffix-byte-range-spec with a non-zero
-- suffix-length" is satisfiable
abbrev pub resolve : Range → ℕ → Resolved
resolve (Span first last) n = if nat_lt first n then Part first (min (last + 1) n) else Unsatisfiable
resolve (From first) n = if nat_lt first n then Part first n else Unsatisfiable
resolve (Last length) n =
    if length == 0 then Unsatisfiable
    else (if n == 0 then Whole else Part (n - min length n) n)

-- a part is not empty, and within the n bytes
abbrev pub IsPartOf : ℕ → Resolved → Type 0
IsPartOf n Whole = Unit {0}
IsPartOf n (Part from to) = (from < to) × (to ≤ n)
IsPartOf n Unsatisfiable = Unit {0}
