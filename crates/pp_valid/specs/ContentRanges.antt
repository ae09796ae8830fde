-- Content-Range (RFC 7233, section 4.2).
use Rattle.std.specs.Prelude.{ℕ, ◌&&◌, nat_lt, nat_le, bytes_eq, if◌then◌else◌, List, codes, Option, Some, None, option_and_then}
use Rattle.pp_text.specs.Bytes.{is_same}
use Rattle.pp_text.specs.Fields.{Field}
use Rattle.pp_text.specs.Numbers.{number_of}
use Rattle.pp_text.specs.Parts.{cut_at, sole}
use Rattle.pp_valid.specs.declared.content_range.ContentRange.{ContentRange}
use Rattle.pp_valid.specs.declared.content_range.ContentRange.TheVariants.{Span, Unsatisfied}
use Rattle.pp_valid.specs.EndToEnd.{end_to_end_values}

-- "A Content-Range field value is invalid if it contains a byte-range-resp that has a last-byte-pos value less
-- than its first-byte-pos value, or a complete-length value less than or equal to its last-byte-pos value."
abbrev pub span_of : ℕ → ℕ → ℕ → Option ContentRange
span_of first last n = if nat_le first last && nat_lt last n then Some (Span first last n) else None

-- byte-range = first-byte-pos "-" last-byte-pos
abbrev pub span_in : List ℕ × List ℕ → ℕ → Option ContentRange
span_in ends n = option_and_then (λ first. option_and_then (λ last. span_of first last n) (number_of ends.1)) (number_of ends.0)

-- byte-range-resp = byte-range "/" ( complete-length / "*" ); unsatisfied-range = "*/" complete-length;
-- ours: a length that is not known, "*", is none
abbrev pub range_in : List ℕ × List ℕ → ℕ → Option ContentRange
range_in parts n =
    if bytes_eq parts.0 (codes "*") then Some (Unsatisfied n)
    else option_and_then (λ ends. span_in ends n) (cut_at 45 parts.0)

abbrev pub response_range : List ℕ × List ℕ → Option ContentRange
response_range parts = option_and_then (range_in parts) (number_of parts.1)

-- byte-content-range = bytes-unit SP ( byte-range-resp / unsatisfied-range )
abbrev pub unit_range : List ℕ × List ℕ → Option ContentRange
unit_range parts = if is_same (codes "bytes") parts.0 then option_and_then response_range (cut_at 47 parts.1) else None

abbrev pub range_of_value : List ℕ → Option ContentRange
range_of_value value = option_and_then unit_range (cut_at 32 value)

-- ours: of several fields none counts
abbrev pub content_range_of : List Field → Option ContentRange
content_range_of fields = option_and_then range_of_value (sole (end_to_end_values (codes "content-range") fields))
