-- What the first lines of requests and responses share (RFC 2616, sections 3.1, 4.1 and 19.3).
use Rattle.std.specs.Prelude.{ℕ, zero, suc, true, false, ◌==◌, List, [], ◌∷◌, length, codes}
use Rattle.httparse.specs.Grammar.{is_value_byte, LineEnd, crlf, lf}
use Rattle.httparse.specs.Pieces.{is_newline}
use Rattle.pp_head.specs.Step.{Step, Done, Short, Wrong, map_step, and_then, cut, read_bytes}

-- "The line terminator for message-header fields is the sequence CRLF. However, we recommend that
-- applications .. recognize a single LF as a line terminator and ignore the leading CR."
abbrev pub read_end : List ℕ → Step LineEnd
read_end [] = Short
read_end (b ∷ text) = elim (b == 10) [
  | true ↦ Done lf text
  | false ↦ elim (b == 13) [ true ↦ map_step (λ _. crlf) (read_bytes (10 ∷ []) text) | false ↦ Wrong ]
]

-- an empty line before others
abbrev pub push_end : LineEnd × List LineEnd → List LineEnd
push_end p = p.0 ∷ p.1

-- "servers SHOULD ignore any empty line(s) received where a Request-Line is expected": all that are
-- there, which are fewer than so many
abbrev pub read_blank_within : ℕ → List ℕ → Step (List LineEnd)
read_blank_within zero text = Short
read_blank_within (suc n) [] = Short
read_blank_within (suc n) (b ∷ text) = elim (is_newline b) [
  | true ↦ map_step push_end (and_then (read_end (b ∷ text)) (read_blank_within n))
  | false ↦ Done [] (b ∷ text)
]

abbrev pub read_blank : List ℕ → Step (List LineEnd)
read_blank text = read_blank_within (suc (length text)) text

-- HTTP-Version = "HTTP" "/" 1*DIGIT "." 1*DIGIT; ours: 1.0 or 1.1, of which this is the second number
abbrev pub read_minor : List ℕ → Step ℕ
read_minor [] = Short
read_minor (b ∷ text) = elim (b == 48) [ true ↦ Done 0 text | false ↦ elim (b == 49) [ true ↦ Done 1 text | false ↦ Wrong ] ]

abbrev pub read_version : List ℕ → Step ℕ
read_version text = map_step (λ p. p.1) (and_then (read_bytes (codes "HTTP/1.") text) read_minor)

-- *TEXT, without control bytes but the tab, and the end of its line
abbrev pub text_of : List ℕ × List ℕ → Step (List ℕ × LineEnd)
text_of (run, rest) = map_step (λ e. (run, e)) (read_end rest)

abbrev pub read_text : List ℕ → Step (List ℕ × LineEnd)
read_text text = text_of (cut is_value_byte text)
