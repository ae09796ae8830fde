-- What the parser answers of a request is the grammar's answer.
use Rattle.std.proofs.Common.{◌≡◌, ℕ, ◌≤◌, true, false, List, length, map, take, sym, ap, ◌∙◌, arith, inr, length-take}
use Rattle.std.proofs.lemmas.Bool.{both_ways}
use Rattle.httparse.specs.Grammar.{RequestHead as Head, print_request, ReadsRequest, HasNoRequest, NeverHasRequest, MayBecomeRequest, EndsInTarget}
use Rattle.httparse.specs.Spans.{IsRequestOf, IsRequestWithin as AreWithin}
use Rattle.httparse.specs.declared.spans.HeaderSpan.{HeaderSpan}
use Rattle.httparse.specs.declared.spans.RequestSpans.{RequestSpans}
use Rattle.pp_text.specs.declared.fields.FieldSpan.{FieldSpan}
use Rattle.pp_head.specs.Limits.{is_within_limits, is_limit_reached, IsLimitReached}
use Rattle.pp_head.specs.Read.{Whole, TooLong, Bad, More, IsCutAt}
use Rattle.pp_head.specs.Request.{request_of, request_at}
use Rattle.pp_head.specs.Agreement.{IsRequestWithin}
use Rattle.pp_head.specs.Shown.{state_of, IfWhole, shown_request, field_span, spanned_request, AreRequestSpans}
use Rattle.pp_head.specs.declared.state.HeadState.{HeadState}
use Rattle.pp_head.specs.declared.state.HeadState.TheVariants.{Whole as IsWhole, TooLong as IsTooLong, Bad as IsBad, More as IsMore}
use Rattle.pp_head.specs.declared.request.RequestHead.{RequestHead}
use Rattle.pp_head.proofs.LimitLemmas.{within_limits, limit_reached, is_limit_reached-true}
use Rattle.pp_head.proofs.RequestAgrees.{request_only, request_too_long, never_has, request_within, request_cut}
use Rattle.pp_head.proofs.SpanLemmas.{take_front, fields_count, spans_cover, fields_within, within_len}

-- the test of the limits is that of the head
same_limits : (bytes : List ℕ) (headers : List HeaderSpan) (spans : RequestSpans) → AreWithin bytes headers spans → (of : IsRequestOf bytes headers spans)
    → is_within_limits (take spans.len bytes) spans.headers ≡ is_within_limits (print_request of.0) (length of.0.fields)
same_limits bytes headers spans within (h, at) =
    let text = take_front bytes (print_request h) _ spans.len at.reads.1 at.len in
    let count = fields_count bytes headers spans.headers h.fields within.section.count_fits at.fields in
    ap (λ (t : List ℕ). is_within_limits t spans.headers) text ∙ ap (λ (n : ℕ). is_within_limits (print_request h) n) count

pub request_whole : (bytes : List ℕ) (headers : List HeaderSpan) (fields : List FieldSpan) (spans : RequestSpans)
    → AreWithin bytes headers spans → IsRequestOf bytes headers spans → is_within_limits (take spans.len bytes) spans.headers ≡ true
    → take spans.headers fields ≡ map field_span (take spans.headers headers)
    → Whole (spanned_request bytes fields spans) ≡ request_at bytes
request_whole bytes headers fields spans within (h, at) fits is =
    let limits = within_limits (print_request h) (length h.fields) (sym (same_limits bytes headers spans within (h, at)) ∙ fits) in
    let covered = spans_cover bytes (take spans.headers headers) (take spans.headers fields) is ∙ at.fields in
    let shown : spanned_request bytes fields spans ≡ request_of h = cc (at.len, at.method, at.path, at.version, covered) in
    request_only bytes (Whole (spanned_request bytes fields spans)) (h, record { rest = _; reads = at.reads; limits = limits }, shown)

pub request_passes : (bytes : List ℕ) (headers : List HeaderSpan) (spans : RequestSpans)
    → AreWithin bytes headers spans → IsRequestOf bytes headers spans → is_within_limits (take spans.len bytes) spans.headers ≡ false → TooLong ≡ request_at bytes
request_passes bytes headers spans within (h, at) passes =
    request_only bytes TooLong (request_too_long bytes h _ at.reads (sym (same_limits bytes headers spans within (h, at)) ∙ passes))

pub request_within_spans : (bytes : List ℕ) (headers : List HeaderSpan) (fields : List FieldSpan) (spans : RequestSpans)
    → AreWithin bytes headers spans → length fields ≡ length headers → take spans.headers fields ≡ map field_span (take spans.headers headers) → AreRequestSpans (take spans.len bytes) fields spans
request_within_spans bytes headers fields spans within same is =
    let text = take spans.len bytes in
    let long : spans.len ≤ length text = omega (arith, within.section.len_fits, length-take spans.len bytes) in
    record {
      method = within_len spans.len (length text) spans.method.start spans.method.end long within.method;
      target = within_len spans.len (length text) spans.path.start spans.path.end long within.path;
      section = fields_within bytes text headers fields spans.len spans.headers within.section long same is;
    }

-- no head of so few fields stands there
pub request_limited : (bytes : List ℕ) → is_limit_reached bytes ≡ true → ((h : Head) (rest : List ℕ) → ReadsRequest bytes h rest → length h.fields ≤ 100 → ⊥)
    → TooLong ≡ request_at bytes
request_limited bytes is none =
    request_only bytes TooLong ((λ h begins. none h begins.rest begins.reads begins.limits.few), limit_reached bytes is)

open_of : (bytes : List ℕ) → is_limit_reached bytes ≡ false → IsLimitReached bytes → ⊥
open_of bytes is reached = both_ways _ is (is_limit_reached-true bytes reached)

pub request_more : (bytes : List ℕ) → is_limit_reached bytes ≡ false → HasNoRequest bytes → MayBecomeRequest bytes → More ≡ request_at bytes
request_more bytes is none may = request_only bytes More (open_of bytes is, none, may)

pub request_more_in_target : (bytes : List ℕ) → is_limit_reached bytes ≡ false → NeverHasRequest bytes → EndsInTarget bytes → More ≡ request_at bytes
request_more_in_target bytes is never ends = request_more bytes is (never_has bytes never) (inr ends)

pub request_bad : (bytes : List ℕ) → is_limit_reached bytes ≡ false → NeverHasRequest bytes → (EndsInTarget bytes → ⊥) → Bad ≡ request_at bytes
request_bad bytes is never outside = request_only bytes Bad (open_of bytes is, never, outside)

-- the head that is shown
pub shown_within : (bytes : List ℕ) (state : HeadState RequestHead) → state_of shown_request state ≡ request_at bytes → IfWhole state (λ head. IsRequestWithin bytes (shown_request head))
shown_within bytes (IsWhole head) is = request_within bytes (shown_request head) (sym is)
shown_within bytes IsTooLong is = tt
shown_within bytes IsBad is = tt
shown_within bytes IsMore is = tt

pub shown_cut : (bytes : List ℕ) (state : HeadState RequestHead) → state_of shown_request state ≡ request_at bytes
    → IfWhole state (λ head. IsCutAt request_at bytes head.length (shown_request head))
shown_cut bytes (IsWhole head) is = request_cut bytes (shown_request head) (sym is)
shown_cut bytes IsTooLong is = tt
shown_cut bytes IsBad is = tt
shown_cut bytes IsMore is = tt
