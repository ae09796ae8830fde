-- The head of a request (RFC 2616, section 5).
use Rattle.std.specs.Prelude.{ℕ, Bool, true, false, List, length, map}
use Rattle.std.specs.Str.{is_utf8}
use Rattle.httparse.specs.Grammar.{is_token_byte, is_uri_byte, LineEnd, Field, RequestHead as Head, print_request}
use Rattle.httparse.specs.Spans.{name_and_value}
use Rattle.pp_head.specs.Limits.{is_within_limits}
use Rattle.pp_head.specs.Step.{Step, Done, Short, Wrong, map_step, and_then, read_word}
use Rattle.pp_head.specs.Lines.{read_end, read_blank, read_version}
use Rattle.pp_head.specs.Section.{read_section}
use Rattle.pp_head.specs.Read.{Read, read_by}

-- its parts, the values of the fields without the blanks at their ends, and its length in bytes
pub record Request : Type 0 where
  pub method : List ℕ
  pub target : List ℕ
  pub minor : ℕ
  pub fields : List (List ℕ × List ℕ)
  pub length : ℕ

-- Method = token
abbrev pub read_method : List ℕ → Step (List ℕ)
read_method text = read_word is_token_byte 32 text

-- Request-URI; ours: any visible bytes that are UTF-8, once the space after them is there
abbrev pub check_text : Step (List ℕ) → Step (List ℕ)
check_text (Done word rest) = elim (is_utf8 word) [ true ↦ Done word rest | false ↦ Wrong ]
check_text Short = Short
check_text Wrong = Wrong

abbrev pub read_target : List ℕ → Step (List ℕ)
read_target text = check_text (read_word is_uri_byte 32 text)

-- Request-Line = Method SP Request-URI SP HTTP-Version CRLF
abbrev pub read_request_line : List ℕ → Step (List LineEnd × (List ℕ × (List ℕ × (ℕ × LineEnd))))
read_request_line text =
    and_then (read_blank text) (λ t. and_then (read_method t) (λ u. and_then (read_target u) (λ v. and_then (read_version v) read_end)))

-- its pieces, as a head of the grammar
abbrev pub head_from : (List LineEnd × (List ℕ × (List ℕ × (ℕ × LineEnd)))) × (List Field × LineEnd) → Head
head_from t = record {
  blank = t.0.0;
  method = t.0.1.0;
  target = t.0.1.1.0;
  minor = t.0.1.1.1.0;
  line_end = t.0.1.1.1.1;
  fields = t.1.0;
  last = t.1.1;
}

-- a head of any size
unfoldable pub find_request : List ℕ → Step Head
find_request text = map_step head_from (and_then (read_request_line text) read_section)

-- ours: the limits count the empty lines before it
abbrev pub is_within : Head → Bool
is_within h = is_within_limits (print_request h) (length h.fields)

abbrev pub request_of : Head → Request
request_of h = record {
  method = h.method;
  target = h.target;
  minor = h.minor;
  fields = map name_and_value h.fields;
  length = length (print_request h);
}

-- the request at the front of the bytes, or why there is none
unfoldable pub request_at : List ℕ → Read Request
request_at bytes = read_by is_within request_of bytes (find_request bytes)
