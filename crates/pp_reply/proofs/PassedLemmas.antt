-- The fields that go on, one by one: what the loop over them writes.
use Rattle.std.proofs.Common.{◌≡◌, ◌≤◌, ◌<◌, ◌+◌, ℕ, Bool, true, false, cond, List, [], ◌∷◌, ◌++◌, length, filter, sum_by, refl, sym, ◌∙◌, ap, get_or, drop, add-one, drop-cons, append_assoc}
use Rattle.std.specs.List.{flat_map}
use Rattle.std.proofs.lemmas.List.{drop_all}
use Rattle.std.proofs.lemmas.List.Sums.{sum_by-cons}
use Rattle.pp_text.specs.Fields.{Field, field_at}
use Rattle.pp_head.specs.Agreement.{field_len}
use Rattle.pp_reply.specs.Texts.{field_line}

-- the lines of the fields that pass a test
abbrev pub lines : (Field → Bool) → List Field → List ℕ
lines test fields = flat_map field_line (filter test fields)

-- the line of a field, where it passes
abbrev pub line_if : Bool → Field → List ℕ
line_if passes field = cond passes (field_line field) []

lines-cond : (passes : Bool) (f : Field) (kept : List Field) → flat_map field_line (cond passes (f ∷ kept) kept) ≡ line_if passes f ++ flat_map field_line kept
lines-cond true f kept = refl
lines-cond false f kept = refl

pub next : (fields : List Field) (i : ℕ) (d : Field) → i < length fields → drop i fields ≡ get_or fields i d ∷ drop (i + 1) fields
next fields i d within = rw add-one (drop-cons fields i d within)

-- the next field is written, or left out
pub lines-next : (test : Field → Bool) (fields : List Field) (i : ℕ) (before written all : List ℕ) → i < length fields → all ≡ before ++ lines test (drop i fields)
    → written ≡ before ++ line_if (test (field_at fields i)) (field_at fields i) → all ≡ written ++ lines test (drop (i + 1) fields)
lines-next test fields i before written all within so done =
    so
    ∙ ap (λ (t : List ℕ). before ++ t) (ap (lines test) (next fields i ([], []) within) ∙ lines-cond (test (field_at fields i)) (field_at fields i) (filter test (drop (i + 1) fields)))
    ∙ sym (append_assoc before (line_if (test (field_at fields i)) (field_at fields i)) (lines test (drop (i + 1) fields)))
    ∙ ap (λ (t : List ℕ). t ++ lines test (drop (i + 1) fields)) (sym done)

-- what is left grows shorter by a field
pub sum-next : (fields : List Field) (i : ℕ) → i < length fields → sum_by field_len (drop i fields) ≡ field_len (field_at fields i) + sum_by field_len (drop (i + 1) fields)
sum-next fields i within = ap (sum_by field_len) (next fields i ([], []) within) ∙ sum_by-cons field_len (field_at fields i) (drop (i + 1) fields)

pub lines-none : (test : Field → Bool) (fields : List Field) (i : ℕ) → length fields ≤ i → lines test (drop i fields) ≡ []
lines-none test fields i past = ap (lines test) (drop_all i fields past)
