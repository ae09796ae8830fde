-- The fields of a head are those of the grammar.
use Rattle.std.proofs.Common.{◌≡◌, ℕ, zero, suc, ◌+◌, ◌<◌, Bool, true, false, List, [], ◌∷◌, ◌++◌, length, refl, sym, ap, ◌∙◌, arith, append_assoc, append-nil, length-append, inl, inr}
use Rattle.std.proofs.lemmas.List.Elements.{All-nil, All-cons}
use Rattle.httparse.specs.Grammar.{is_token_byte, LineEnd, print_end, Field, IsField, print_field}
use Rattle.httparse.specs.Pieces.{Begins, Refutes, Completes, is_newline, FieldLine, FieldLines, Section}
use Rattle.httparse.proofs.PieceLemmas.{Refutes_by, Name_deterministic, colon_ends_token, Section_skip, FieldLines-append}
use Rattle.httparse.proofs.ReadLemmas.{BeginsLine_open, BeginsLine_either, FieldLine_at_newline, Newline_at_other, FieldLine_row, FieldLine_done, Section_after}
use Rattle.httparse.proofs.OpenLemmas.{some_text, some_newline, FieldLine_of_row, Section_of_line, Section_after_lines, letter_is_token}
use Rattle.pp_head.specs.Step.{Step, Done, Short, Wrong, map_step, and_then}
use Rattle.pp_head.specs.Lines.{read_end, read_text}
use Rattle.pp_head.specs.Section.{field_from, read_field, push_field, read_fields_within, read_section}
use Rattle.pp_head.proofs.StepLemmas.{Tells, Reads, map_tells, both_tell, word_tells, weaker}
use Rattle.pp_head.proofs.LineLemmas.{end_tells, text_tells}

pub field_tells : Reads FieldLine read_field
field_tells text =
    map_tells field_from
    (both_tell Name_deterministic some_text read_text (weaker (word_tells is_token_byte 58 65 colon_ends_token letter_is_token text) (λ x. x.0)) text_tells)
    (λ a rest g. FieldLine_done a.0 a.1.0 a.1.1 text g.0 rest g.1 g.2)
    (λ M. FieldLine_row) FieldLine_of_row

-- ---- field lines

field_shorter : (f : Field) (text rest : List ℕ) (n : ℕ) → FieldLine f text rest → length text < suc n → length rest < n
field_shorter f text rest n g fits =
    let long : length (print_field f) ≡ length (f.name ++ 58 ∷ f.raw) + length (print_end f.end) = length-append (f.name ++ 58 ∷ f.raw) (print_end f.end) in
    let more : length (f.name ++ 58 ∷ f.raw) ≡ length f.name + length (58 ∷ f.raw) = length-append f.name (58 ∷ f.raw) in
    let parts : length (print_field f ++ rest) ≡ length (print_field f) + length rest = length-append (print_field f) rest in
    omega (arith, ap length g.1)

regroup : (a b c r : List ℕ) → a ++ ((b ++ c) ++ r) ≡ ((a ++ b) ++ c) ++ r
regroup a b c r = simp append_assoc

section_push : (f : Field) {text rest : List ℕ} → FieldLine f text rest → (s : Step (List Field × LineEnd))
    → Tells Section (Completes Section) rest s
    → Tells Section (Completes Section) text (map_step push_field (map_step (λ b. (f, b)) s))
section_push f {text} {rest} g s t = section_push_by s t
  where
    lines : FieldLines (f ∷ []) text rest
    lines = (All-cons IsField f [] g.0 (All-nil _), g.1 ∙ ap (λ (t : List ℕ). t ++ rest) (sym (append-nil (print_field f))))

    refutes : {M : List ℕ → Type 0} → Refutes M (Begins Section) rest → Refutes M (Begins Section) text
    refutes = Refutes_by (λ more h.
        let skipped = Section_skip (f ∷ []) h.0.0 h.0.1 _ _ h.1 (FieldLines-append (f ∷ []) text rest more lines) h.2 in
        ((skipped.0, h.0.1), h.1, skipped.2))

    section_push_by : (s : Step (List Field × LineEnd)) → Tells Section (Completes Section) rest s
        → Tells Section (Completes Section) text (map_step push_field (map_step (λ b. (f, b)) s))
    section_push_by (Done p end) t = record { says = (All-cons IsField f p.0 g.0 t.says.0, g.1 ∙ ap (λ (u : List ℕ). print_field f ++ u) t.says.1 ∙ regroup (print_field f) _ _ end) }
    section_push_by Short t = record { says = (refutes t.says.0, Section_after_lines (f ∷ []) lines t.says.1) }
    section_push_by Wrong t = record { says = refutes t.says }

fields_step : (n : ℕ) (b : ℕ) (text : List ℕ) → is_newline b ≡ false → length (b ∷ text) < suc n
    → ((rest : List ℕ) → length rest < n → Tells Section (Completes Section) rest (read_fields_within n rest))
    → (s : Step Field) → Tells FieldLine (Completes FieldLine) (b ∷ text) s
    → Tells Section (Completes Section) (b ∷ text) (map_step push_field (and_then s (read_fields_within n)))
fields_step n b text other fits more (Done f rest) t =
    section_push f t.says (read_fields_within n rest) (more rest (field_shorter f (b ∷ text) rest n t.says fits))
fields_step n b text other fits more Short t = record {
  says = (
    Section_after [] (All-nil _, refl) (BeginsLine_either (Newline_at_other _ (b ∷ text) 0 (omega arith) other) t.says.0),
    Section_of_line (inr t.says.1),
  );
}
fields_step n b text other fits more Wrong t = record {
  says =
      Section_after [] (All-nil _, refl) (BeginsLine_either (Newline_at_other _ (b ∷ text) 0 (omega arith) other) t.says);
}

fields_tell : (n : ℕ) (text : List ℕ) → length text < n → Tells Section (Completes Section) text (read_fields_within n text)
fields_tell zero text fits = absurd (omega arith)
fields_tell (suc n) [] fits = record { says = (Section_after [] (All-nil _, refl) (BeginsLine_open [] 0 (omega arith)), Section_of_line (inl some_newline)) }
fields_tell (suc n) (b ∷ text) fits = by (is_newline b) refl (fields_tell n)
  where
    by : (v : Bool) → is_newline b ≡ v → ((rest : List ℕ) → length rest < n → Tells Section (Completes Section) rest (read_fields_within n rest))
        → Tells Section (Completes Section) (b ∷ text) (elim v [
          | true ↦ map_step (λ e. ([], e)) (read_end (b ∷ text))
          | false ↦ map_step push_field (and_then (read_field (b ∷ text)) (read_fields_within n))
        ])
    by true is more = map_tells (λ e. ([], e)) (end_tells (b ∷ text)) (λ e rest g. (All-nil _, g))
        (λ M r. Section_after [] (All-nil _, refl) (BeginsLine_either r (FieldLine_at_newline M (b ∷ text) 0 (omega arith) is)))
        (λ x. Section_of_line (inl x))
    by false is more = fields_step n b text is fits more (read_field (b ∷ text)) (field_tells (b ∷ text))

pub section_tells : Reads Section read_section
section_tells text = fields_tell (suc (length text)) text (omega arith)
