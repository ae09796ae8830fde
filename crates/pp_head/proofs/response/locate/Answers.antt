use Rattle.std.proofs.Common.{◌≡◌, ℕ, length, sym, ◌∙◌, subst, arith}
use Rattle.httparse.specs.Spans.{ResponseExceeds}
use Rattle.pp_head.proofs.ErrorLemmas.{invalid_of}
use Rattle.pp_head.proofs.LimitLemmas.{response_exceeds}
use Rattle.pp_head.proofs.ResponseSpansLemmas.{response_whole, response_passes, response_within_spans, response_limited, response_more, response_bad}
use Rattle.pp_head.proofs.SpanLemmas.{fields_taken}
use Rattle.pp_head.proofs.response.locate.Goals as goal

pub returns-then-fits-clause-value : goal.returns-then-fits-clause-value
returns-then-fits-clause-value c =
    let within = rw c.in-Ok-Complete.field-0-is at c.in-Ok-Complete.ensures.within in
    response_whole c.args.bytes.now c.parse_response.new.headers c.write_fields.new.fields c.in-Ok-Complete.head
    within (rw c.in-Ok-Complete.field-0-is at c.in-Ok-Complete.ensures.complete) (sym c.fits.ensures ∙ c.if-fits.true)
    (fields_taken c.parse_response.new.headers c.write_fields.new.fields c.in-Ok-Complete.head.headers within.section.count_fits c.write_fields.ensures)

pub returns-then-fits-clause-within : goal.returns-then-fits-clause-within
returns-then-fits-clause-within c =
    let within = rw c.in-Ok-Complete.field-0-is at c.in-Ok-Complete.ensures.within in
    response_within_spans c.args.bytes.now c.parse_response.new.headers c.write_fields.new.fields c.in-Ok-Complete.head
    within (omega (arith, c.parse_response.auto.headers, c.write_fields.auto.fields))
    (fields_taken c.parse_response.new.headers c.write_fields.new.fields c.in-Ok-Complete.head.headers within.section.count_fits c.write_fields.ensures)

pub returns-else-fits-clause-value : goal.returns-else-fits-clause-value
returns-else-fits-clause-value c =
    response_passes c.args.bytes.now c.parse_response.new.headers c.in-Ok-Complete.head
    (rw c.in-Ok-Complete.field-0-is at c.in-Ok-Complete.ensures.within) (rw c.in-Ok-Complete.field-0-is at c.in-Ok-Complete.ensures.complete) (sym c.fits.ensures ∙ c.if-fits.false)

pub returns-then-reaches_limit-clause-value : goal.returns-then-reaches_limit-clause-value
returns-then-reaches_limit-clause-value c =
    response_limited c.args.bytes.now (sym c.reaches_limit.ensures ∙ c.if-reaches_limit.true)
    (λ h rest reads few. rw c.in-Ok-Partial.field-0-is at (c.in-Ok-Partial.ensures.found h rest reads (omega arith)))

pub returns-else-reaches_limit-clause-value : goal.returns-else-reaches_limit-clause-value
returns-else-reaches_limit-clause-value c =
    response_more c.args.bytes.now (sym c.reaches_limit.ensures ∙ c.if-reaches_limit.false)
    (rw c.in-Ok-Partial.field-0-is at c.in-Ok-Partial.ensures.partial) (rw c.in-Ok-Partial.field-0-is at c.in-Ok-Partial.ensures.unfinished)

pub returns-then-reaches_limit-2-clause-value : goal.returns-then-reaches_limit-2-clause-value
returns-then-reaches_limit-2-clause-value c =
    let found = c.in-Err.ensures.found in
    response_limited c.args.bytes.now (sym c.reaches_limit-in-Err.ensures ∙ c.if-reaches_limit-2.true) (λ h rest reads few. found h rest reads (omega arith))

pub returns-else-reaches_limit-2-clause-value : goal.returns-else-reaches_limit-2-clause-value
returns-else-reaches_limit-2-clause-value c =
    let bytes = c.args.bytes.now in
    let room : length c.args.scratch.now.headers ≡ 100 = omega arith in
    let below = sym c.reaches_limit-in-Err.ensures ∙ c.if-reaches_limit-2.false in
    let never = invalid_of bytes c.parse_response.result c.in-Err.field-0 c.in-Err.is c.parse_response.ensures.invalid c.parse_response.ensures.too_many
    (λ more. response_exceeds bytes (subst (λ (n : ℕ). ResponseExceeds n bytes) room more)) below in
    response_bad bytes below never
