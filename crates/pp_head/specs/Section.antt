-- The fields of a head (RFC 2616, section 4.2).
-- ours: a folded line, which begins with a blank, is refused (RFC 7230, section 3.2.4, permits it).
use Rattle.std.specs.Prelude.{ℕ, zero, suc, true, false, List, [], ◌∷◌, length}
use Rattle.httparse.specs.Grammar.{is_token_byte, LineEnd, Field}
use Rattle.httparse.specs.Pieces.{is_newline}
use Rattle.pp_head.specs.Step.{Step, Short, map_step, and_then, read_word}
use Rattle.pp_head.specs.Lines.{read_end, read_text}

-- message-header = field-name ":" [ field-value ]
abbrev pub field_from : List ℕ × (List ℕ × LineEnd) → Field
field_from p = record { name = p.0; raw = p.1.0; end = p.1.1 }

abbrev pub read_field : List ℕ → Step Field
read_field text = map_step field_from (and_then (read_word is_token_byte 58 text) read_text)

-- a field before others
abbrev pub push_field : Field × (List Field × LineEnd) → List Field × LineEnd
push_field p = (p.0 ∷ p.1.0, p.1.1)

-- *( message-header CRLF ) CRLF, of fewer lines than so many
abbrev pub read_fields_within : ℕ → List ℕ → Step (List Field × LineEnd)
read_fields_within zero text = Short
read_fields_within (suc n) [] = Short
read_fields_within (suc n) (b ∷ text) = elim (is_newline b) [
  | true ↦ map_step (λ e. ([], e)) (read_end (b ∷ text))
  | false ↦ map_step push_field (and_then (read_field (b ∷ text)) (read_fields_within n))
]

abbrev pub read_section : List ℕ → Step (List Field × LineEnd)
read_section text = read_fields_within (suc (length text)) text
