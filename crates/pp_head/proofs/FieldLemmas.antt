-- The fields of a head of the grammar, as names and values.
use Rattle.std.proofs.Common.{◌≡◌, ℕ, ◌+◌, ◌≤◌, Bool, true, false, List, [], ◌∷◌, ◌++◌, length, map, reverse, refl, sym, ap, ◌∙◌, subst, arith, length-append, flat_map}
use Rattle.std.specs.Prelude.{All, sum_by}
use Rattle.std.proofs.lemmas.List.{reverse-append, reverse-reverse, length-reverse}
use Rattle.std.proofs.lemmas.List.Sums.{sum_by-cons}
use Rattle.std.proofs.lemmas.List.Elements.{All-nil, All-cons, All-head, All-tail}
use Rattle.httparse.specs.Grammar.{skip_ows, trim_ows, is_value_byte, LineEnd, crlf, lf, print_end, print_field, Field, IsField}
use Rattle.httparse.specs.Spans.{name_and_value}
use Rattle.httparse.proofs.TrimLemmas.{AllPass-trim_ows}
use Rattle.pp_text.specs.Bytes.{is_blank, skip_blanks, trim}
use Rattle.pp_head.specs.Agreement.{IsFieldText, field_len}

-- ---- blanks at the ends

pub skip_blanks-is : (xs : List ℕ) → skip_ows xs ≡ skip_blanks xs
skip_blanks-is [] = refl
skip_blanks-is (b ∷ xs) = by (is_blank b) refl (skip_blanks-is xs)
  where
    by : (v : Bool) → is_blank b ≡ v → skip_ows xs ≡ skip_blanks xs → skip_ows (b ∷ xs) ≡ skip_blanks (b ∷ xs)
    by true is more = rw (is, skip_ows, skip_blanks) more
    by false is more = rw (is, skip_ows, skip_blanks) refl

pub trim-is : (xs : List ℕ) → trim_ows xs ≡ trim xs
unfolding trim_ows
trim-is xs = ap (λ (t : List ℕ). reverse (skip_ows (reverse t))) (skip_blanks-is xs) ∙ ap (λ (t : List ℕ). reverse t) (skip_blanks-is (reverse (skip_blanks xs)))

skip_blanks-first : (b : ℕ) (xs : List ℕ) → is_blank b ≡ true → skip_blanks (b ∷ xs) ≡ skip_blanks xs
skip_blanks-first b xs is = rw (is, skip_blanks) refl

skip_blanks-other : (b : ℕ) (xs : List ℕ) → is_blank b ≡ false → skip_blanks (b ∷ xs) ≡ b ∷ xs
skip_blanks-other b xs is = rw (is, skip_blanks) refl

record IsSkip (xs rest : List ℕ) : Type 0 where
  pub front : List ℕ
  pub whole : xs ≡ front ++ rest
  pub again : skip_blanks rest ≡ rest

skip_is : (xs : List ℕ) → IsSkip xs (skip_blanks xs)
skip_is [] = record { front = []; whole = refl; again = refl }
skip_is (b ∷ xs) = by (is_blank b) refl (skip_is xs)
  where
    by : (v : Bool) → is_blank b ≡ v → IsSkip xs (skip_blanks xs) → IsSkip (b ∷ xs) (skip_blanks (b ∷ xs))
    by true is s = subst (IsSkip (b ∷ xs)) (sym (skip_blanks-first b xs is)) (record { front = b ∷ s.front; whole = ap (λ (t : List ℕ). b ∷ t) s.whole; again = s.again })
    by false is s = subst (IsSkip (b ∷ xs)) (sym (skip_blanks-other b xs is)) (record { front = []; whole = refl; again = skip_blanks-other b xs is })

-- a front of what begins with no blank begins with none
skip_front : (xs ys : List ℕ) → skip_blanks (xs ++ ys) ≡ xs ++ ys → skip_blanks xs ≡ xs
skip_front [] ys is = refl
skip_front (b ∷ xs) ys is = by (is_blank b) refl
  where
    by : (v : Bool) → is_blank b ≡ v → skip_blanks (b ∷ xs) ≡ b ∷ xs
    by false other = skip_blanks-other b xs other
    by true blank =
        let s = skip_is (xs ++ ys) in
        let same : skip_blanks (xs ++ ys) ≡ b ∷ (xs ++ ys) = sym (skip_blanks-first b (xs ++ ys) blank) ∙ is in
        let shorter : length (xs ++ ys) ≡ length s.front + length (skip_blanks (xs ++ ys)) = ap length s.whole ∙ length-append s.front (skip_blanks (xs ++ ys)) in
        absurd (omega (arith, shorter, ap length same))

pub trim-trim : (xs : List ℕ) → trim (trim xs) ≡ trim xs
trim-trim xs =
    let front = skip_is xs in
    let back = skip_is (reverse (skip_blanks xs)) in
    let kept = skip_blanks (reverse (skip_blanks xs)) in
    let whole : skip_blanks xs ≡ reverse kept ++ reverse back.front = sym (reverse-reverse (skip_blanks xs)) ∙ ap (λ (t : List ℕ). reverse t) back.whole ∙ reverse-append back.front kept in
    let first : skip_blanks (reverse kept) ≡ reverse kept = skip_front (reverse kept) (reverse back.front) (subst (λ (t : List ℕ). skip_blanks t ≡ t) whole front.again) in
    ap (λ (t : List ℕ). reverse (skip_blanks (reverse t))) first ∙ ap (λ (t : List ℕ). reverse (skip_blanks t)) (reverse-reverse kept) ∙ ap (λ (t : List ℕ). reverse t) back.again

length-skip_blanks : (xs : List ℕ) → length (skip_blanks xs) ≤ length xs
length-skip_blanks xs = let s = skip_is xs in omega (arith, ap length s.whole, length-append s.front (skip_blanks xs))

length-trim : (xs : List ℕ) → length (trim xs) ≤ length xs
length-trim xs = omega (
  arith,
  length-reverse (skip_blanks (reverse (skip_blanks xs))),
  length-skip_blanks (reverse (skip_blanks xs)),
  length-reverse (skip_blanks xs),
  length-skip_blanks xs,
)

-- ---- fields

field_text : (f : Field) → IsField f → IsFieldText (name_and_value f)
field_text f field = record {
  name = field.name;
  value = AllPass-trim_ows is_value_byte f.raw field.raw;
  trimmed = ap trim (trim-is f.raw) ∙ trim-trim f.raw ∙ sym (trim-is f.raw);
}

pub fields_text : (fs : List Field) → All IsField fs → All IsFieldText (map name_and_value fs)
fields_text [] all = All-nil _
fields_text (f ∷ fs) all = All-cons IsFieldText (name_and_value f) (map name_and_value fs) (field_text f (All-head IsField f fs all)) (fields_text fs (All-tail IsField f fs all))

pub some_end : (e : LineEnd) → 1 ≤ length (print_end e)
some_end crlf = omega arith
some_end lf = omega arith

field_len-le : (f : Field) → field_len (name_and_value f) ≤ length (print_field f)
field_len-le f = omega (
  arith,
  length-append (f.name ++ 58 ∷ f.raw) (print_end f.end),
  length-append f.name (58 ∷ f.raw),
  some_end f.end,
  ap length (trim-is f.raw),
  length-trim f.raw,
)

-- the names and values are no longer than the field lines
pub fields_len-le : (fs : List Field) → sum_by field_len (map name_and_value fs) ≤ length (flat_map print_field fs)
fields_len-le [] = omega arith
fields_len-le (f ∷ fs) =
    omega (arith, sum_by-cons field_len (name_and_value f) (map name_and_value fs), field_len-le f, fields_len-le fs, length-append (print_field f) (flat_map print_field fs))
