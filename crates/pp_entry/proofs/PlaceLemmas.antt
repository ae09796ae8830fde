-- Where the kept fields stand in a head block.
use Rattle.std.proofs.Common.{◌≡◌, ◌≤◌, ◌<◌, ◌+◌, ◌-◌, ℕ, List, [], ◌∷◌, ◌++◌, length, map, refl, sym, ◌∙◌, ap, take, drop, set, add-one, codes, append_assoc, arith, length-append}
use Rattle.std.specs.Prelude.{All}
use Rattle.std.specs.List.{slice_range}
use Rattle.std.proofs.Math.Seq.{take-append_seam, drop-append_seam}
use Rattle.std.proofs.lemmas.List.{take_more}
use Rattle.std.proofs.lemmas.List.Elements.{All-nil, All-cons}
use Rattle.std.proofs.Math.Seq.{take-suc-set}
use Rattle.pp_text.specs.Bytes.{lower}
use Rattle.pp_text.specs.Fields.{Field, field_at, field_in, IsFieldWithin}
use Rattle.pp_text.specs.Lines.{crlf, line_of, lines_of}
use Rattle.pp_text.specs.declared.fields.FieldSpan.{FieldSpan}
use Rattle.pp_entry.specs.Fields.{lowered}
use Rattle.pp_entry.specs.Places.{span_at, next_line, spans_from, spans_of}
use Rattle.pp_entry.proofs.LineLemmas.{length-line, length-lower, lines-more}

line_end : (at : ℕ) (f : Field) → next_line at f ≡ at + length (line_of f)
line_end at f = omega (arith, length-line f)

pub spans-append : (fs gs : List Field) (at : ℕ) → spans_from at (fs ++ gs) ≡ spans_from at fs ++ spans_from (at + length (lines_of fs)) gs
spans-append [] gs at = ap (λ (n : ℕ). spans_from n gs) (omega arith)
spans-append (f ∷ fs) gs at =
    let here : next_line at f + length (lines_of fs) ≡ at + length (lines_of (f ∷ fs)) = omega (arith, line_end at f, length-append (line_of f) (lines_of fs)) in
    ap (λ (spans : List FieldSpan). span_at at f ∷ spans) (spans-append fs gs (next_line at f) ∙ ap (λ (n : ℕ). spans_from (next_line at f) fs ++ spans_from n gs) here)

pub spans-more : (fs : List Field) (i : ℕ) → i < length fs
    → spans_of (take (i + 1) fs) ≡ spans_of (take i fs) ++ span_at (17 + length (lines_of (take i fs))) (field_at fs i) ∷ []
spans-more fs i within = ap spans_of (take_more fs i ([], []) within) ∙ spans-append (take i fs) (field_at fs i ∷ []) 17

pub length-spans : (fs : List Field) (at : ℕ) → length (spans_from at fs) ≡ length fs
length-spans [] at = refl
length-spans (f ∷ fs) at = omega (arith, length-spans fs (next_line at f))

-- the spans lie within what has all lines
pub spans_within : (fs : List Field) (at len : ℕ) → at + length (lines_of fs) ≤ len → All (IsFieldWithin len) (spans_from at fs)
spans_within [] at len room = All-nil (IsFieldWithin len)
spans_within (f ∷ fs) at len room =
    let all : length (lines_of (f ∷ fs)) ≡ length (line_of f) + length (lines_of fs) = length-append (line_of f) (lines_of fs) in
    let one : length (line_of f) ≡ length f.0 + 2 + length f.1 + 2 = length-line f in
    let first : IsFieldWithin len (span_at at f) = record { name_ordered = omega arith; name_within = omega arith; value_ordered = omega arith; value_within = omega arith } in
    All-cons (IsFieldWithin len) (span_at at f) (spans_from (next_line at f) fs) first (spans_within fs (next_line at f) len (omega arith))

middle : (a b c : List ℕ) (from to : ℕ) → from ≡ length a → to ≡ length a + length b → slice_range (a ++ (b ++ c)) from to ≡ b
middle a b c from to first last =
    let len : to - from ≡ length b = omega arith in
    ap (λ (n : ℕ). take (to - from) (drop n (a ++ (b ++ c)))) first
    ∙ ap (take (to - from)) (drop-append_seam a (b ++ c))
    ∙ ap (λ (n : ℕ). take n (b ++ c)) len
    ∙ take-append_seam b c

-- a name and a value, at their places in a text
name_there : (f : Field) (pre post : List ℕ) → slice_range (pre ++ (line_of f ++ post)) (length pre) (length pre + length f.0) ≡ lower f.0
name_there f pre post =
    let rest : List ℕ = codes ": " ++ (f.1 ++ (crlf ++ post)) in
    let text : pre ++ (line_of f ++ post) ≡ pre ++ (lower f.0 ++ rest) = simp append_assoc in
    ap (λ (t : List ℕ). slice_range t (length pre) (length pre + length f.0)) text
    ∙ middle pre (lower f.0) rest (length pre) (length pre + length f.0) refl (omega (arith, length-lower f.0))

value_there : (f : Field) (pre post : List ℕ) → slice_range (pre ++ (line_of f ++ post)) (length pre + length f.0 + 2) (length pre + length f.0 + 2 + length f.1) ≡ f.1
value_there f pre post =
    let front : List ℕ = pre ++ (lower f.0 ++ codes ": ") in
    let text : pre ++ (line_of f ++ post) ≡ front ++ (f.1 ++ (crlf ++ post)) = simp append_assoc in
    let long : length front ≡ length pre + length f.0 + 2 =
    omega (arith, length-append pre (lower f.0 ++ codes ": "), length-append (lower f.0) (codes ": "), length-lower f.0) in
    ap (λ (t : List ℕ). slice_range t (length pre + length f.0 + 2) (length pre + length f.0 + 2 + length f.1)) text
    ∙ middle front f.1 (crlf ++ post) (length pre + length f.0 + 2) (length pre + length f.0 + 2 + length f.1) (sym long) (omega arith)

field_there : (f : Field) (pre post : List ℕ) → field_in (pre ++ (line_of f ++ post)) (span_at (length pre) f) ≡ lowered f
field_there f pre post =
    ap (λ (n : List ℕ). (n, (field_in (pre ++ (line_of f ++ post)) (span_at (length pre) f)).1)) (name_there f pre post)
    ∙ ap (λ (v : List ℕ). (lower f.0, v)) (value_there f pre post)

-- the fields, at their places in a text
pub fields_there : (fs : List Field) (pre post : List ℕ) → map (field_in (pre ++ (lines_of fs ++ post))) (spans_from (length pre) fs) ≡ map lowered fs
fields_there [] pre post = refl
fields_there (f ∷ fs) pre post =
    let text : pre ++ (lines_of (f ∷ fs) ++ post) ≡ pre ++ (line_of f ++ (lines_of fs ++ post)) = simp append_assoc in
    let later : pre ++ (lines_of (f ∷ fs) ++ post) ≡ (pre ++ line_of f) ++ (lines_of fs ++ post) = simp append_assoc in
    let here : next_line (length pre) f ≡ length (pre ++ line_of f) = omega (arith, line_end (length pre) f, length-append pre (line_of f)) in
    let first : field_in (pre ++ (lines_of (f ∷ fs) ++ post)) (span_at (length pre) f) ≡ lowered f =
    ap (λ (t : List ℕ). field_in t (span_at (length pre) f)) text ∙ field_there f pre (lines_of fs ++ post) in
    let others : map (field_in (pre ++ (lines_of (f ∷ fs) ++ post))) (spans_from (next_line (length pre) f) fs) ≡ map lowered fs =
    ap (λ (t : List ℕ). map (field_in t) (spans_from (next_line (length pre) f) fs)) later
    ∙ ap (λ (n : ℕ). map (field_in ((pre ++ line_of f) ++ (lines_of fs ++ post))) (spans_from n fs)) here
    ∙ fields_there fs (pre ++ line_of f) post in
    ap (λ (g : Field). g ∷ map (field_in (pre ++ (lines_of (f ∷ fs) ++ post))) (spans_from (next_line (length pre) f) fs)) first
    ∙ ap (λ (gs : List Field). lowered f ∷ gs) others

-- the next span, and where the line behind it begins
pub next_end : (fs : List Field) (i at : ℕ) (span : FieldSpan) → i < length fs → at ≡ 17 + length (lines_of (take i fs)) → span ≡ span_at at (field_at fs i)
    → span.value_to + 2 ≡ 17 + length (lines_of (take (i + 1) fs))
next_end fs i at span within begins is =
    let ends : span.value_to ≡ at + length (field_at fs i).0 + 2 + length (field_at fs i).1 = ap (λ (s : FieldSpan). s.value_to) is in
    omega (arith, ends, begins, length-line (field_at fs i), ap length (lines-more fs i within), length-append (lines_of (take i fs)) (line_of (field_at fs i)))

pub next_span : (fs : List Field) (i at : ℕ) (spans : List FieldSpan) (span : FieldSpan) → i < length fs → i < length spans → at ≡ 17 + length (lines_of (take i fs))
    → take i spans ≡ spans_of (take i fs) → span ≡ span_at at (field_at fs i) → take (i + 1) (set spans i span) ≡ spans_of (take (i + 1) fs)
next_span fs i at spans span within room begins before is =
    let step : take (i + 1) (set spans i span) ≡ take i spans ++ span ∷ [] = rw add-one (take-suc-set spans i span room) in
    step
    ∙ ap (λ (s : List FieldSpan). s ++ span ∷ []) before
    ∙ ap (λ (s : FieldSpan). spans_of (take i fs) ++ s ∷ []) (is ∙ ap (λ (n : ℕ). span_at n (field_at fs i)) begins)
    ∙ sym (spans-more fs i within)
