-- Where the kept fields stand in a head block, line by line.
use Rattle.std.specs.Prelude.{ℕ, ◌+◌, List, [], ◌∷◌, length}
use Rattle.pp_text.specs.Fields.{Field}
use Rattle.pp_text.specs.declared.fields.FieldSpan.{FieldSpan}

-- a colon and a space stand between name and value
abbrev pub span_at : ℕ → Field → FieldSpan
span_at at field = record {
  name_from = at;
  name_to = at + length field.0;
  value_from = at + length field.0 + 2;
  value_to = at + length field.0 + 2 + length field.1;
}

-- and CRLF behind the value
abbrev pub next_line : ℕ → Field → ℕ
next_line at field = at + length field.0 + 2 + length field.1 + 2

abbrev pub spans_from : ℕ → List Field → List FieldSpan
spans_from at [] = []
spans_from at (field ∷ fields) = span_at at field ∷ spans_from (next_line at field) fields

-- the status line has 17 bytes
abbrev pub spans_of : List Field → List FieldSpan
spans_of fields = spans_from 17 fields
