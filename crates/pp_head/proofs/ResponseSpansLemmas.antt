-- What the parser answers of a response is the grammar's answer.
use Rattle.std.proofs.Common.{◌≡◌, ℕ, ◌≤◌, true, false, List, length, map, take, sym, ap, ◌∙◌}
use Rattle.std.proofs.lemmas.Bool.{both_ways}
use Rattle.httparse.specs.Grammar.{ResponseHead as Head, print_response, ReadsResponse, HasNoResponse, NeverHasResponse, MayBecomeResponse}
use Rattle.httparse.specs.Spans.{IsResponseOf, IsResponseWithin as AreWithin}
use Rattle.httparse.specs.declared.spans.HeaderSpan.{HeaderSpan}
use Rattle.httparse.specs.declared.spans.ResponseSpans.{ResponseSpans}
use Rattle.pp_text.specs.declared.fields.FieldSpan.{FieldSpan}
use Rattle.pp_head.specs.Limits.{is_within_limits, is_limit_reached, IsLimitReached}
use Rattle.pp_head.specs.Read.{Whole, TooLong, Bad, More, IsCutAt}
use Rattle.pp_head.specs.Response.{response_of, response_at}
use Rattle.pp_head.specs.Agreement.{IsResponseWithin}
use Rattle.pp_head.specs.Shown.{state_of, IfWhole, shown_response, field_span, spanned_response, AreResponseSpans}
use Rattle.pp_head.specs.declared.state.HeadState.{HeadState}
use Rattle.pp_head.specs.declared.state.HeadState.TheVariants.{Whole as IsWhole, TooLong as IsTooLong, Bad as IsBad, More as IsMore}
use Rattle.pp_head.specs.declared.response.ResponseHead.{ResponseHead}
use Rattle.pp_head.proofs.LimitLemmas.{within_limits, limit_reached, is_limit_reached-true}
use Rattle.pp_head.proofs.ResponseAgrees.{response_only, response_too_long, response_within, response_cut}
use Rattle.pp_head.proofs.SpanLemmas.{take_front, fields_count, spans_cover, fields_within, within_len}

-- the test of the limits is that of the head
same_limits : (bytes : List ℕ) (headers : List HeaderSpan) (spans : ResponseSpans) → AreWithin bytes headers spans → (of : IsResponseOf bytes headers spans)
    → is_within_limits (take spans.len bytes) spans.headers ≡ is_within_limits (print_response of.0) (length of.0.fields)
same_limits bytes headers spans within (h, at) =
    let text = take_front bytes (print_response h) _ spans.len at.reads.1 at.len in
    let count = fields_count bytes headers spans.headers h.fields within.section.count_fits at.fields in
    ap (λ (t : List ℕ). is_within_limits t spans.headers) text ∙ ap (λ (n : ℕ). is_within_limits (print_response h) n) count

pub response_whole : (bytes : List ℕ) (headers : List HeaderSpan) (fields : List FieldSpan) (spans : ResponseSpans)
    → AreWithin bytes headers spans → IsResponseOf bytes headers spans → is_within_limits (take spans.len bytes) spans.headers ≡ true
    → take spans.headers fields ≡ map field_span (take spans.headers headers)
    → Whole (spanned_response bytes fields spans) ≡ response_at bytes
response_whole bytes headers fields spans within (h, at) fits is =
    let limits = within_limits (print_response h) (length h.fields) (sym (same_limits bytes headers spans within (h, at)) ∙ fits) in
    let covered = spans_cover bytes (take spans.headers headers) (take spans.headers fields) is ∙ at.fields in
    let shown : spanned_response bytes fields spans ≡ response_of h = cc (at.len, at.version, at.code, at.reason, covered) in
    response_only bytes (Whole (spanned_response bytes fields spans)) (h, record { rest = _; reads = at.reads; limits = limits }, shown)

pub response_passes : (bytes : List ℕ) (headers : List HeaderSpan) (spans : ResponseSpans)
    → AreWithin bytes headers spans → IsResponseOf bytes headers spans → is_within_limits (take spans.len bytes) spans.headers ≡ false → TooLong ≡ response_at bytes
response_passes bytes headers spans within (h, at) passes =
    response_only bytes TooLong (response_too_long bytes h _ at.reads (sym (same_limits bytes headers spans within (h, at)) ∙ passes))

pub response_within_spans : (bytes : List ℕ) (headers : List HeaderSpan) (fields : List FieldSpan) (spans : ResponseSpans)
    → AreWithin bytes headers spans → length fields ≡ length headers → take spans.headers fields ≡ map field_span (take spans.headers headers) → AreResponseSpans bytes fields spans
response_within_spans bytes headers fields spans within same is = record {
  reason = within_len spans.len (length bytes) spans.reason.start spans.reason.end within.section.len_fits within.reason;
  section = fields_within bytes bytes headers fields spans.len spans.headers within.section within.section.len_fits same is;
}

-- no head of so few fields stands there
pub response_limited : (bytes : List ℕ) → is_limit_reached bytes ≡ true → ((h : Head) (rest : List ℕ) → ReadsResponse bytes h rest → length h.fields ≤ 100 → ⊥)
    → TooLong ≡ response_at bytes
response_limited bytes is none =
    response_only bytes TooLong ((λ h begins. none h begins.rest begins.reads begins.limits.few), limit_reached bytes is)

open_of : (bytes : List ℕ) → is_limit_reached bytes ≡ false → IsLimitReached bytes → ⊥
open_of bytes is reached = both_ways _ is (is_limit_reached-true bytes reached)

pub response_more : (bytes : List ℕ) → is_limit_reached bytes ≡ false → HasNoResponse bytes → MayBecomeResponse bytes → More ≡ response_at bytes
response_more bytes is none may = response_only bytes More (open_of bytes is, none, may)

pub response_bad : (bytes : List ℕ) → is_limit_reached bytes ≡ false → NeverHasResponse bytes → Bad ≡ response_at bytes
response_bad bytes is never = response_only bytes Bad (open_of bytes is, never)

-- the head that is shown
pub shown_within : (bytes : List ℕ) (state : HeadState ResponseHead) → state_of shown_response state ≡ response_at bytes → IfWhole state (λ head. IsResponseWithin bytes (shown_response head))
shown_within bytes (IsWhole head) is = response_within bytes (shown_response head) (sym is)
shown_within bytes IsTooLong is = tt
shown_within bytes IsBad is = tt
shown_within bytes IsMore is = tt

pub shown_cut : (bytes : List ℕ) (state : HeadState ResponseHead) → state_of shown_response state ≡ response_at bytes
    → IfWhole state (λ head. IsCutAt response_at bytes head.length (shown_response head))
shown_cut bytes (IsWhole head) is = response_cut bytes (shown_response head) (sym is)
shown_cut bytes IsTooLong is = tt
shown_cut bytes IsBad is = tt
shown_cut bytes IsMore is = tt
