-- The lines of fields in a head that this proxy writes (RFC 2616, section 4.2).
use Rattle.std.specs.Prelude.{ℕ, List, [], ◌∷◌, ◌++◌, flat_map, codes}
use Rattle.pp_text.specs.Bytes.{lower}
use Rattle.pp_text.specs.Fields.{Field}

-- CRLF = CR LF
abbrev pub crlf : List ℕ
crlf = 13 ∷ 10 ∷ []

-- message-header = field-name ":" [ field-value ]; ours: the name in lower case, and one space
abbrev pub line_of : Field → List ℕ
line_of field = lower field.0 ++ (codes ": " ++ (field.1 ++ crlf))

abbrev pub lines_of : List Field → List ℕ
lines_of fields = flat_map line_of fields
