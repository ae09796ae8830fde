-- What the parser found, as spans of fields.
use Rattle.std.proofs.Common.{◌≡◌, ℕ, ◌≤◌, List, [], ◌∷◌, ◌++◌, length, map, take, sym, ap, ◌∙◌, subst, arith, length-take-le}
use Rattle.std.specs.Prelude.{All}
use Rattle.std.proofs.lemmas.List.{length-map}
use Rattle.std.proofs.lemmas.List.Elements.{All-nil, All-cons, All-head, All-tail}
use Rattle.std.proofs.lemmas.Simd.{map-map}
use Rattle.std.proofs.Math.Seq.{take-append_seam}
use Rattle.httparse.specs.Grammar.{Field}
use Rattle.httparse.specs.Spans.{IsHeaderWithin, IsSectionWithin, header_bytes, name_and_value, AreFieldsAt}
use Rattle.httparse.specs.declared.spans.HeaderSpan.{HeaderSpan}
use Rattle.pp_text.specs.Fields.{field_in, IsFieldWithin}
use Rattle.pp_text.specs.declared.fields.FieldSpan.{FieldSpan}
use Rattle.pp_head.specs.Shown.{field_span, AreFieldsWithin}

-- the length of a front is its text's
pub take_front : (bytes text rest : List ℕ) (n : ℕ) → bytes ≡ text ++ rest → n ≡ length text → take n bytes ≡ text
take_front bytes text rest n whole len = ap (λ (k : ℕ). take k bytes) len ∙ ap (λ (t : List ℕ). take (length text) t) whole ∙ take-append_seam text rest

-- so many headers are so many fields
pub fields_count : (bytes : List ℕ) (headers : List HeaderSpan) (n : ℕ) (fs : List Field) → n ≤ length headers → AreFieldsAt bytes headers n fs → n ≡ length fs
fields_count bytes headers n fs few at =
    sym (length-take-le n headers few) ∙ sym (length-map (take n headers) (header_bytes bytes)) ∙ ap length at ∙ length-map fs name_and_value

-- the spans cover what the headers do
pub spans_cover : (bytes : List ℕ) (found : List HeaderSpan) (spans : List FieldSpan) → spans ≡ map field_span found → map (field_in bytes) spans ≡ map (header_bytes bytes) found
spans_cover bytes found spans is = ap (map (field_in bytes)) is ∙ map-map (field_in bytes) field_span found

span_within : (n m : ℕ) (h : HeaderSpan) → n ≤ m → IsHeaderWithin n h → IsFieldWithin m (field_span h)
span_within n m h le (name, value) = record {
  name_ordered = name.0;
  name_within = omega (arith, name.1);
  value_ordered = value.0;
  value_within = omega (arith, value.1);
}

spans_within : (n m : ℕ) (found : List HeaderSpan) → n ≤ m → All (IsHeaderWithin n) found → All (IsFieldWithin m) (map field_span found)
spans_within n m [] le all = All-nil _
spans_within n m (h ∷ found) le all =
    All-cons (IsFieldWithin m) (field_span h) (map field_span found) (span_within n m h le (All-head (IsHeaderWithin n) h found all))
    (spans_within n m found le (All-tail (IsHeaderWithin n) h found all))

pub within_len : (n m : ℕ) (s : ℕ) (e : ℕ) → n ≤ m → (s ≤ e) × (e ≤ n) → (s ≤ e) × (e ≤ m)
within_len n m s e le w = (w.0, omega (arith, w.1))

pub fields_within : (bytes text : List ℕ) (headers : List HeaderSpan) (spans : List FieldSpan) (len n : ℕ) → IsSectionWithin bytes headers len n → len ≤ length text → length spans ≡ length headers
    → take n spans ≡ map field_span (take n headers) → AreFieldsWithin text spans n
fields_within bytes text headers spans len n section long same is = record {
  few = omega (arith, section.count_fits, same);
  within = subst (All (IsFieldWithin (length text))) (sym is) (spans_within len (length text) (take n headers) long section.headers_fit);
}

-- what was written of the first headers, counted by themselves
pub fields_taken : (headers : List HeaderSpan) (fields : List FieldSpan) (n : ℕ) → n ≤ length headers
    → take (length (take n headers)) fields ≡ map field_span (take n headers) → take n fields ≡ map field_span (take n headers)
fields_taken headers fields n few is = ap (λ (k : ℕ). take k fields) (sym (length-take-le n headers few)) ∙ is
