-- What is kept of a head, over more bytes than it needs, and over its own.
use Rattle.std.proofs.Common.{◌≡◌, ℕ, ◌-◌, ◌≤◌, List, [], ◌∷◌, ◌++◌, length, map, take, drop, slice_range, refl, sym, ap, ◌∙◌, subst, arith, length-take, length-drop, length-append}
use Rattle.std.specs.Prelude.{All}
use Rattle.std.proofs.lemmas.List.{drop-append-le, take-append-le, take-append-drop, take_all}
use Rattle.std.proofs.lemmas.List.Elements.{All-nil, All-cons, All-head, All-tail}
use Rattle.httparse.specs.Spans.{span_bytes}
use Rattle.httparse.specs.declared.spans.RequestSpans.{RequestSpans}
use Rattle.pp_text.specs.Fields.{field_in, IsFieldWithin}
use Rattle.pp_text.specs.declared.fields.FieldSpan.{FieldSpan}
use Rattle.pp_head.specs.Kept.{Shows}
use Rattle.pp_head.specs.Read.{Whole, TooLong, Bad, More}
use Rattle.pp_head.specs.Request.{Request, find_request, request_at}
use Rattle.pp_head.specs.Shown.{state_of, IfWhole, shown_request, spanned_request, AreFieldsWithin, AreRequestSpans}
use Rattle.pp_head.specs.declared.kept.KeptHead.{KeptHead}
use Rattle.pp_head.specs.declared.request.RequestHead.{RequestHead}
use Rattle.pp_head.specs.declared.state.HeadState.{HeadState}
use Rattle.pp_head.specs.declared.state.HeadState.TheVariants.{Whole as IsWhole, TooLong as IsTooLong, Bad as IsBad, More as IsMore}
use Rattle.pp_head.proofs.RequestAgrees.{request_cut}

-- ---- spans of a front

slice_front : (p q : List ℕ) (s e : ℕ) → s ≤ e → e ≤ length p → slice_range (p ++ q) s e ≡ slice_range p s e
slice_front p q s e ordered within =
    ap (take (e - s)) (drop-append-le s p q (omega (arith, ordered, within)))
    ∙ take-append-le (e - s) (drop s p) q (omega (arith, ordered, within, length-drop s p))

field_front : (p q : List ℕ) (span : FieldSpan) → IsFieldWithin (length p) span → field_in (p ++ q) span ≡ field_in p span
field_front p q span within =
    ap (λ t. (t, slice_range (p ++ q) span.value_from span.value_to)) (slice_front p q span.name_from span.name_to within.name_ordered within.name_within)
    ∙ ap (λ t. (slice_range p span.name_from span.name_to, t)) (slice_front p q span.value_from span.value_to within.value_ordered within.value_within)

fields_front : (p q : List ℕ) (spans : List FieldSpan) → All (IsFieldWithin (length p)) spans → map (field_in (p ++ q)) spans ≡ map (field_in p) spans
fields_front p q [] all = refl
fields_front p q (span ∷ spans) all =
    ap (λ f. f ∷ map (field_in (p ++ q)) spans) (field_front p q span (All-head (IsFieldWithin (length p)) span spans all))
    ∙ ap (λ fs. field_in p span ∷ fs) (fields_front p q spans (All-tail (IsFieldWithin (length p)) span spans all))

spanned_front : (p q : List ℕ) (fields : List FieldSpan) (spans : RequestSpans) → AreRequestSpans p fields spans → spanned_request (p ++ q) fields spans ≡ spanned_request p fields spans
spanned_front p q fields spans are =
    let method : span_bytes (p ++ q) spans.method ≡ span_bytes p spans.method = slice_front p q spans.method.start spans.method.end are.method.0 are.method.1 in
    let target : span_bytes (p ++ q) spans.path ≡ span_bytes p spans.path = slice_front p q spans.path.start spans.path.end are.target.0 are.target.1 in
    let covered = fields_front p q (take spans.headers fields) are.section.within in
    cc (method, target, covered)

-- ---- spans over more bytes

within_more : (n m : ℕ) (span : FieldSpan) → n ≤ m → IsFieldWithin n span → IsFieldWithin m span
within_more n m span le within = record {
  name_ordered = within.name_ordered;
  name_within = omega (arith, le, within.name_within);
  value_ordered = within.value_ordered;
  value_within = omega (arith, le, within.value_within);
}

all_more : (n m : ℕ) (spans : List FieldSpan) → n ≤ m → All (IsFieldWithin n) spans → All (IsFieldWithin m) spans
all_more n m [] le all = All-nil _
all_more n m (span ∷ spans) le all =
    All-cons (IsFieldWithin m) span spans (within_more n m span le (All-head (IsFieldWithin n) span spans all)) (all_more n m spans le (All-tail (IsFieldWithin n) span spans all))

spans_more : (n : ℕ) (bytes : List ℕ) (fields : List FieldSpan) (spans : RequestSpans) → AreRequestSpans (take n bytes) fields spans → AreRequestSpans bytes fields spans
spans_more n bytes fields spans are =
    let le : length (take n bytes) ≤ length bytes = omega (arith, length-take n bytes) in
    record {
      method = (are.method.0, omega (arith, le, are.method.1));
      target = (are.target.0, omega (arith, le, are.target.1));
      section = record { few = are.section.few; within = all_more (length (take n bytes)) (length bytes) (take spans.headers fields) le are.section.within };
    }

more_by : (bytes : List ℕ) (fields : List FieldSpan) (state : HeadState RequestSpans) → IfWhole state (λ spans. AreRequestSpans (take spans.len bytes) fields spans)
    → IfWhole state (AreRequestSpans bytes fields)
more_by bytes fields (IsWhole spans) are = spans_more spans.len bytes fields spans are
more_by bytes fields IsTooLong are = tt
more_by bytes fields IsBad are = tt
more_by bytes fields IsMore are = tt

pub kept_within : (kept : KeptHead) (bytes : List ℕ) → Shows kept bytes → IfWhole kept.located (AreRequestSpans bytes kept.scratch.fields)
kept_within kept bytes shows = more_by bytes kept.scratch.fields kept.located shows.within

-- ---- a whole head, over its own bytes

own_spans : (bytes : List ℕ) (fields : List FieldSpan) (spans : RequestSpans) → AreRequestSpans (take spans.len bytes) fields spans → request_at bytes ≡ Whole (spanned_request bytes fields spans)
    → Whole (spanned_request (take spans.len bytes) fields spans) ≡ request_at (take spans.len bytes)
own_spans bytes fields spans are whole =
    let own = take spans.len bytes in
    let same : spanned_request bytes fields spans ≡ spanned_request own fields spans =
    ap (λ (t : List ℕ). spanned_request t fields spans) (sym (take-append-drop spans.len bytes)) ∙ spanned_front own (drop spans.len bytes) fields spans are in
    ap Whole (sym same) ∙ sym (request_cut bytes (spanned_request bytes fields spans) whole).enough

own_by : (bytes : List ℕ) (kept : KeptHead) (r : Request) (state : HeadState RequestSpans) → state_of (spanned_request bytes kept.scratch.fields) state ≡ Whole r
    → IfWhole state (λ spans. AreRequestSpans (take spans.len bytes) kept.scratch.fields spans) → request_at bytes ≡ Whole r → kept.located ≡ state → Shows kept (take r.length bytes)
own_by bytes kept r (IsWhole spans) shown are whole is =
    let e : spanned_request bytes kept.scratch.fields spans ≡ r = cc shown in
    let twice : take spans.len (take spans.len bytes) ≡ take spans.len bytes = take_all spans.len (take spans.len bytes) (omega (arith, length-take spans.len bytes)) in
    subst (λ (n : ℕ). Shows kept (take n bytes)) (ap (λ (q : Request). q.length) e)
    (record {
      value = ap (state_of (spanned_request (take spans.len bytes) kept.scratch.fields)) is ∙ own_spans bytes kept.scratch.fields spans are (whole ∙ ap Whole (sym e));
      within = subst (λ (s : HeadState RequestSpans). IfWhole s (λ spans'. AreRequestSpans (take spans'.len (take spans.len bytes)) kept.scratch.fields spans')) (sym is)
          (subst (λ (t : List ℕ). AreRequestSpans t kept.scratch.fields spans) (sym twice) are);
    })
own_by bytes kept r IsTooLong shown are whole is = absurd (cc shown)
own_by bytes kept r IsBad shown are whole is = absurd (cc shown)
own_by bytes kept r IsMore shown are whole is = absurd (cc shown)

kept_alone : (kept : KeptHead) (bytes : List ℕ) → Shows kept bytes → (r : Request) → request_at bytes ≡ Whole r → Shows kept (take r.length bytes)
kept_alone kept bytes shows r whole = own_by bytes kept r kept.located (shows.value ∙ whole) shows.within whole refl

pub shown_alone : (kept : KeptHead) (bytes : List ℕ) → Shows kept bytes → (state : HeadState RequestHead) → state_of shown_request state ≡ request_at bytes
    → IfWhole state (λ head. Shows kept (take head.length bytes))
shown_alone kept bytes shows (IsWhole head) is = kept_alone kept bytes shows (shown_request head) (sym is)
shown_alone kept bytes shows IsTooLong is = tt
shown_alone kept bytes shows IsBad is = tt
shown_alone kept bytes shows IsMore is = tt

-- ---- no bytes

nothing_read : More ≡ request_at []
unfolding request_at find_request
nothing_read = refl

pub kept_none : (kept : KeptHead) → kept.located ≡ IsMore → Shows kept []
kept_none kept is = record {
  value = ap (state_of (spanned_request [] kept.scratch.fields)) is ∙ nothing_read;
  within = subst (λ (s : HeadState RequestSpans). IfWhole s (λ spans. AreRequestSpans (take spans.len []) kept.scratch.fields spans)) (sym is) tt;
}
