-- The head of a response (RFC 2616, section 6).
use Rattle.std.specs.Prelude.{ℕ, Bool, true, false, ◌==◌, List, [], ◌∷◌, length, map, Option, Some, None, ⊤}
use Rattle.std.specs.Char.{is_ascii_digit}
use Rattle.httparse.specs.Grammar.{LineEnd, Field, ResponseHead as Head, print_response, status_code, reason_phrase}
use Rattle.httparse.specs.Spans.{name_and_value}
use Rattle.pp_head.specs.Limits.{is_within_limits}
use Rattle.pp_head.specs.Step.{Step, Done, Short, Wrong, map_step, and_then, read_bytes}
use Rattle.pp_head.specs.Lines.{read_end, read_blank, read_version, read_text}
use Rattle.pp_head.specs.Section.{read_section}
use Rattle.pp_head.specs.Read.{Read, read_by}

-- its parts, the values of the fields without the blanks at their ends, and its length in bytes
pub record Response : Type 0 where
  pub minor : ℕ
  pub status : ℕ
  pub reason : List ℕ
  pub fields : List (List ℕ × List ℕ)
  pub length : ℕ

-- Status-Code = 3DIGIT
abbrev pub read_digit : List ℕ → Step ℕ
read_digit [] = Short
read_digit (b ∷ text) = elim (is_ascii_digit b) [ true ↦ Done b text | false ↦ Wrong ]

abbrev pub read_code : List ℕ → Step (ℕ × (ℕ × ℕ))
read_code text = and_then (read_digit text) (λ t. and_then (read_digit t) read_digit)

-- SP Reason-Phrase CRLF; ours: without the space the phrase is left out
abbrev pub read_reason : List ℕ → Step (Option (List ℕ) × LineEnd)
read_reason [] = Short
read_reason (b ∷ text) = elim (b == 32) [
  | true ↦ map_step (λ t. (Some t.0, t.1)) (read_text text)
  | false ↦ map_step (λ e. (None, e)) (read_end (b ∷ text))
]

-- Status-Line = HTTP-Version SP Status-Code SP Reason-Phrase CRLF
abbrev pub read_status_line : List ℕ → Step (List LineEnd × (ℕ × (⊤ × ((ℕ × (ℕ × ℕ)) × (Option (List ℕ) × LineEnd)))))
read_status_line text =
    and_then (read_blank text) (λ t. and_then (read_version t) (λ u. and_then (read_bytes (32 ∷ []) u) (λ v. and_then (read_code v) read_reason)))

-- its pieces, as a head of the grammar
abbrev pub head_from : (List LineEnd × (ℕ × (⊤ × ((ℕ × (ℕ × ℕ)) × (Option (List ℕ) × LineEnd))))) × (List Field × LineEnd) → Head
head_from t = record {
  blank = t.0.0;
  minor = t.0.1.0;
  digits = t.0.1.1.1.0.0 ∷ t.0.1.1.1.0.1.0 ∷ t.0.1.1.1.0.1.1 ∷ [];
  reason = t.0.1.1.1.1.0;
  line_end = t.0.1.1.1.1.1;
  fields = t.1.0;
  last = t.1.1;
}

-- a head of any size
unfoldable pub find_response : List ℕ → Step Head
find_response text = map_step head_from (and_then (read_status_line text) read_section)

-- ours: the limits count the empty lines before it
abbrev pub is_within : Head → Bool
is_within h = is_within_limits (print_response h) (length h.fields)

abbrev pub response_of : Head → Response
response_of h = record {
  minor = h.minor;
  status = status_code h;
  reason = reason_phrase h.reason;
  fields = map name_and_value h.fields;
  length = length (print_response h);
}

-- the response at the front of the bytes, or why there is none
unfoldable pub response_at : List ℕ → Read Response
response_at bytes = read_by is_within response_of bytes (find_response bytes)
