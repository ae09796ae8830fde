-- Dates in fields (RFC 2616, section 3.3.1).
use Rattle.std.specs.Prelude.{ℕ, List, Option, option_and_then}
use Rattle.httpdate.specs.Date.{parse_secs}
use Rattle.pp_text.specs.Fields.{Field, first_value}

-- ours: of several fields of the name the first counts, and a date that cannot be read is none
abbrev pub date_of : List ℕ → List Field → Option ℕ
date_of name fields = option_and_then parse_secs (first_value name fields)
