-- The lines of kept fields, one by one: what the loops over them write.
use Rattle.std.proofs.Common.{◌≡◌, ◌≤◌, ◌<◌, ◌+◌, ◌*◌, ℕ, Bool, true, false, cond, List, [], ◌∷◌, ◌++◌, length, filter, sum_by, codes, refl, sym, ◌∙◌, ap, drop, arith, append_assoc, length-append}
use Rattle.std.proofs.lemmas.List.{drop_all, length-map}
use Rattle.std.proofs.lemmas.List.Sums.{sum_by-cons}
use Rattle.pp_text.specs.Fields.{Field, field_at}
use Rattle.std.specs.Char.{to_ascii_lowercase}
use Rattle.pp_text.specs.Bytes.{lower}
use Rattle.pp_text.specs.Lines.{crlf, line_of, lines_of}
use Rattle.pp_head.specs.Agreement.{field_len}
use Rattle.pp_reply.specs.Texts.{field_line}
use Rattle.pp_reply.proofs.PassedLemmas.{line_if, next}

-- the two ways in which a line is grouped
line_is : (field : Field) → line_of field ≡ field_line field
line_is field = simp append_assoc

-- ---- all fields

pub kept-next : (fields : List Field) (i : ℕ) (before written all : List ℕ) → i < length fields → all ≡ before ++ lines_of (drop i fields)
    → written ≡ before ++ field_line (field_at fields i) → all ≡ written ++ lines_of (drop (i + 1) fields)
kept-next fields i before written all within so done =
    so
    ∙ ap (λ (t : List ℕ). before ++ t) (ap lines_of (next fields i ([], []) within) ∙ ap (λ (t : List ℕ). t ++ lines_of (drop (i + 1) fields)) (line_is (field_at fields i)))
    ∙ sym (append_assoc before (field_line (field_at fields i)) (lines_of (drop (i + 1) fields)))
    ∙ ap (λ (t : List ℕ). t ++ lines_of (drop (i + 1) fields)) (sym done)

pub kept-none : (fields : List Field) (i : ℕ) → length fields ≤ i → lines_of (drop i fields) ≡ []
kept-none fields i past = ap lines_of (drop_all i fields past)

line-len : (field : Field) → length (line_of field) ≡ length field.0 + length field.1 + 4
line-len field =
    omega (
      arith,
      length-append (lower field.0) (codes ": " ++ (field.1 ++ crlf)),
      length-append (codes ": ") (field.1 ++ crlf),
      length-append field.1 crlf,
      length-map field.0 to_ascii_lowercase,
    )

-- two bytes of a line are not in the length of its field
pub lines_len : (fields : List Field) → length (lines_of fields) ≡ sum_by field_len fields + 2 * length fields
lines_len [] = refl
lines_len (f ∷ fs) = omega (arith, length-append (line_of f) (lines_of fs), line-len f, sum_by-cons field_len f fs, lines_len fs)

-- ---- those that pass a test

lines-cond : (passes : Bool) (f : Field) (kept : List Field) → lines_of (cond passes (f ∷ kept) kept) ≡ line_if passes f ++ lines_of kept
lines-cond true f kept = ap (λ (t : List ℕ). t ++ lines_of kept) (line_is f)
lines-cond false f kept = refl

-- the next field is written, or left out
pub chosen-next : (test : Field → Bool) (fields : List Field) (i : ℕ) (before written all : List ℕ) → i < length fields → all ≡ before ++ lines_of (filter test (drop i fields))
    → written ≡ before ++ line_if (test (field_at fields i)) (field_at fields i) → all ≡ written ++ lines_of (filter test (drop (i + 1) fields))
chosen-next test fields i before written all within so done =
    so
    ∙ ap (λ (t : List ℕ). before ++ t) (ap (λ (t : List Field). lines_of (filter test t)) (next fields i ([], []) within) ∙ lines-cond (test (field_at fields i)) (field_at fields i) (filter test (drop (i + 1) fields)))
    ∙ sym (append_assoc before (line_if (test (field_at fields i)) (field_at fields i)) (lines_of (filter test (drop (i + 1) fields))))
    ∙ ap (λ (t : List ℕ). t ++ lines_of (filter test (drop (i + 1) fields))) (sym done)

pub chosen-none : (test : Field → Bool) (fields : List Field) (i : ℕ) → length fields ≤ i → lines_of (filter test (drop i fields)) ≡ []
chosen-none test fields i past = ap (λ (t : List Field). lines_of (filter test t)) (drop_all i fields past)
