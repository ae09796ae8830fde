-- The fields that go on, one by one: what the loop over them writes.
use Rattle.std.proofs.Common.{◌≡◌, ◌≤◌, ◌<◌, ◌+◌, ℕ, Bool, true, false, cond, List, [], ◌∷◌, ◌++◌, length, filter, refl, sym, ◌∙◌, ap, get_or, drop, add-one, drop-cons, append_assoc, arith, length-append}
use Rattle.std.specs.List.{flat_map}
use Rattle.std.proofs.lemmas.List.{drop_all}
use Rattle.pp_text.specs.Fields.{Field, field_at}
use Rattle.pp_ask.specs.Texts.{field_line}

-- the lines of the fields that pass a test
abbrev pub lines : (Field → Bool) → List Field → List ℕ
lines test fields = flat_map field_line (filter test fields)

-- the line of a field, where it passes
abbrev pub line_if : Bool → Field → List ℕ
line_if passes field = cond passes (field_line field) []

lines-cond : (passes : Bool) (f : Field) (kept : List Field) → flat_map field_line (cond passes (f ∷ kept) kept) ≡ line_if passes f ++ flat_map field_line kept
lines-cond true f kept = refl
lines-cond false f kept = refl

next : (fields : List Field) (i : ℕ) (d : Field) → i < length fields → drop i fields ≡ get_or fields i d ∷ drop (i + 1) fields
next fields i d within = rw add-one (drop-cons fields i d within)

-- what is left begins with the next field's line, where that field passes
lines-drop : (test : Field → Bool) (fields : List Field) (i : ℕ) → i < length fields
    → lines test (drop i fields) ≡ line_if (test (field_at fields i)) (field_at fields i) ++ lines test (drop (i + 1) fields)
lines-drop test fields i within =
    ap (lines test) (next fields i ([], []) within) ∙ lines-cond (test (field_at fields i)) (field_at fields i) (filter test (drop (i + 1) fields))

-- the next field is written, or left out
pub lines-next : (test : Field → Bool) (fields : List Field) (i : ℕ) (before written all : List ℕ) → i < length fields → all ≡ before ++ lines test (drop i fields)
    → written ≡ before ++ line_if (test (field_at fields i)) (field_at fields i) → all ≡ written ++ lines test (drop (i + 1) fields)
lines-next test fields i before written all within so done =
    so
    ∙ ap (λ (t : List ℕ). before ++ t) (lines-drop test fields i within)
    ∙ sym (append_assoc before (line_if (test (field_at fields i)) (field_at fields i)) (lines test (drop (i + 1) fields)))
    ∙ ap (λ (t : List ℕ). t ++ lines test (drop (i + 1) fields)) (sym done)

-- the line of the next field, which goes on, is part of all
pub lines-over : (test : Field → Bool) (fields : List Field) (i : ℕ) (before old : List ℕ) → i < length fields
    → old ++ lines test fields ≡ before ++ lines test (drop i fields) → test (field_at fields i) ≡ true
    → 16384 < length before + length (field_line (field_at fields i)) → 16384 < length old + length (lines test fields)
lines-over test fields i before old within so passes over =
    let f = field_at fields i in
    let rest = lines test (drop (i + 1) fields) in
    let cut : old ++ lines test fields ≡ before ++ (field_line f ++ rest) =
    so ∙ ap (λ (t : List ℕ). before ++ t) (lines-drop test fields i within ∙ ap (λ (p : Bool). line_if p f ++ rest) passes) in
    omega (arith, over, length-append old (lines test fields), ap length cut, length-append before (field_line f ++ rest), length-append (field_line f) rest)

pub lines-none : (test : Field → Bool) (fields : List Field) (i : ℕ) → length fields ≤ i → lines test (drop i fields) ≡ []
lines-none test fields i past = ap (lines test) (drop_all i fields past)
