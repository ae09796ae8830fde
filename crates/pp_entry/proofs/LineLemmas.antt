-- The lines of fields.
use Rattle.std.proofs.Common.{◌≡◌, ◌≤◌, ◌<◌, ◌+◌, ℕ, List, [], ◌∷◌, ◌++◌, length, map, refl, ◌∙◌, ap, get_or, take, codes, arith, length-take-le, length-append}
use Rattle.std.specs.Char.{to_ascii_lowercase}
use Rattle.std.proofs.lemmas.Grind.{flat_map-append}
use Rattle.std.proofs.lemmas.List.{append-nil, get_or-take, take_more, take-take, length-map}
use Rattle.std.proofs.lemmas.Str.Ascii.{lowercase-lowercase}
use Rattle.std.proofs.lemmas.List.Folds.{length-flat_map-take}
use Rattle.pp_text.specs.Bytes.{lower}
use Rattle.pp_text.specs.Fields.{Field, field_at}
use Rattle.pp_text.specs.Lines.{crlf, line_of, lines_of}
use Rattle.pp_entry.specs.Fields.{lowered}

pub length-lower : (text : List ℕ) → length (lower text) ≡ length text
length-lower text = length-map text to_ascii_lowercase

pub length-line : (f : Field) → length (line_of f) ≡ length f.0 + 2 + length f.1 + 2
length-line f = omega (arith, length-lower f.0, length-append (lower f.0) (58 ∷ 32 ∷ (f.1 ++ crlf)), length-append f.1 crlf)

pub lines-append : (fs gs : List Field) → lines_of (fs ++ gs) ≡ lines_of fs ++ lines_of gs
lines-append fs gs = flat_map-append line_of fs gs

one : (f : Field) → lines_of (f ∷ []) ≡ line_of f
one f = append-nil (line_of f)

-- the lines up to the next field, and its own
pub lines-more : (fs : List Field) (i : ℕ) → i < length fs → lines_of (take (i + 1) fs) ≡ lines_of (take i fs) ++ line_of (field_at fs i)
lines-more fs i within =
    ap lines_of (take_more fs i ([], []) within)
    ∙ lines-append (take i fs) (field_at fs i ∷ [])
    ∙ ap (λ (t : List ℕ). lines_of (take i fs) ++ t) (one (field_at fs i))

-- the next field's line is among those of the first so many
pub line-within : (fs : List Field) (i n : ℕ) → i < n → n ≤ length fs
    → length (lines_of (take i fs)) + length (line_of (field_at fs i)) ≤ length (lines_of (take n fs))
line-within fs i n before within =
    let some : length (take n fs) ≡ n = length-take-le n fs within in
    let there : i < length (take n fs) = omega (arith, some) in
    let least = length-flat_map-take line_of (take n fs) i ([], []) there in
    let front : take i (take n fs) ≡ take i fs = take-take i n fs (omega arith) in
    let same : get_or (take n fs) i ([], []) ≡ field_at fs i = get_or-take n fs i ([], []) before in
    rw (front, same) at least

-- a line that does not fit is part of lines that do not
pub lines-over : (fs : List Field) (i n : ℕ) (old before : List ℕ) → i < n → n ≤ length fs → before ≡ old ++ lines_of (take i fs)
    → 8192 < length before + length (line_of (field_at fs i)) → 8192 < length old + length (lines_of (take n fs))
lines-over fs i n old before first within so over =
    omega (arith, over, line-within fs i n first within, ap length so, length-append old (lines_of (take i fs)))

-- names in lower case have the same lines
lower-lower : (text : List ℕ) → lower (lower text) ≡ lower text
lower-lower [] = refl
lower-lower (b ∷ text) = ap (λ (c : ℕ). c ∷ lower (lower text)) (lowercase-lowercase b) ∙ ap (λ (t : List ℕ). to_ascii_lowercase b ∷ t) (lower-lower text)

line-lowered : (f : Field) → line_of (lowered f) ≡ line_of f
line-lowered f = ap (λ (n : List ℕ). n ++ (codes ": " ++ (f.1 ++ crlf))) (lower-lower f.0)

pub lines-lowered : (fs : List Field) → lines_of (map lowered fs) ≡ lines_of fs
lines-lowered [] = refl
lines-lowered (f ∷ fs) =
    ap (λ (t : List ℕ). t ++ lines_of (map lowered fs)) (line-lowered f) ∙ ap (λ (t : List ℕ). line_of f ++ t) (lines-lowered fs)
