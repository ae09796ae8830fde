use Rattle.std.proofs.Common.{◌≡◌, ℕ, length, sym, ◌∙◌, subst, arith}
use Rattle.std.proofs.lemmas.Bool.{both_ways}
use Rattle.httparse.specs.Spans.{RequestExceeds}
use Rattle.pp_head.proofs.ErrorLemmas.{invalid_of}
use Rattle.pp_head.proofs.LimitLemmas.{request_exceeds}
use Rattle.pp_head.proofs.PartLemmas.{target_ends, ends_target}
use Rattle.pp_head.proofs.RequestSpansLemmas.{request_whole, request_passes, request_within_spans, request_limited, request_more, request_more_in_target, request_bad}
use Rattle.pp_head.proofs.SpanLemmas.{fields_taken}
use Rattle.pp_head.proofs.request.locate.Goals as goal

pub returns-then-fits-clause-value : goal.returns-then-fits-clause-value
returns-then-fits-clause-value c =
    let within = rw c.in-Ok-Complete.field-0-is at c.in-Ok-Complete.ensures.within in
    request_whole c.args.bytes.now c.parse_request.new.headers c.write_fields.new.fields c.in-Ok-Complete.head
    within (rw c.in-Ok-Complete.field-0-is at c.in-Ok-Complete.ensures.complete) (sym c.fits.ensures ∙ c.if-fits.true)
    (fields_taken c.parse_request.new.headers c.write_fields.new.fields c.in-Ok-Complete.head.headers within.section.count_fits c.write_fields.ensures)

pub returns-then-fits-clause-within : goal.returns-then-fits-clause-within
returns-then-fits-clause-within c =
    let within = rw c.in-Ok-Complete.field-0-is at c.in-Ok-Complete.ensures.within in
    request_within_spans c.args.bytes.now c.parse_request.new.headers c.write_fields.new.fields c.in-Ok-Complete.head
    within (omega (arith, c.parse_request.auto.headers, c.write_fields.auto.fields))
    (fields_taken c.parse_request.new.headers c.write_fields.new.fields c.in-Ok-Complete.head.headers within.section.count_fits c.write_fields.ensures)

pub returns-else-fits-clause-value : goal.returns-else-fits-clause-value
returns-else-fits-clause-value c =
    request_passes c.args.bytes.now c.parse_request.new.headers c.in-Ok-Complete.head
    (rw c.in-Ok-Complete.field-0-is at c.in-Ok-Complete.ensures.within) (rw c.in-Ok-Complete.field-0-is at c.in-Ok-Complete.ensures.complete) (sym c.fits.ensures ∙ c.if-fits.false)

pub returns-then-reaches_limit-clause-value : goal.returns-then-reaches_limit-clause-value
returns-then-reaches_limit-clause-value c =
    request_limited c.args.bytes.now (sym c.reaches_limit.ensures ∙ c.if-reaches_limit.true)
    (λ h rest reads few. rw c.in-Ok-Partial.field-0-is at (c.in-Ok-Partial.ensures.found h rest reads (omega arith)))

pub returns-else-reaches_limit-clause-value : goal.returns-else-reaches_limit-clause-value
returns-else-reaches_limit-clause-value c =
    request_more c.args.bytes.now (sym c.reaches_limit.ensures ∙ c.if-reaches_limit.false)
    (rw c.in-Ok-Partial.field-0-is at c.in-Ok-Partial.ensures.partial) (rw c.in-Ok-Partial.field-0-is at c.in-Ok-Partial.ensures.unfinished)

pub returns-then-reaches_limit-2-clause-value : goal.returns-then-reaches_limit-2-clause-value
returns-then-reaches_limit-2-clause-value c =
    let found = c.in-Err.ensures.found in
    request_limited c.args.bytes.now (sym c.reaches_limit-in-Err.ensures ∙ c.if-reaches_limit-2.true) (λ h rest reads few. found h rest reads (omega arith))

pub returns-then-ends_in_target-clause-value : goal.returns-then-ends_in_target-clause-value
returns-then-ends_in_target-clause-value c =
    let bytes = c.args.bytes.now in
    let room : length c.args.scratch.now.headers ≡ 100 = omega arith in
    let below = sym c.reaches_limit-in-Err.ensures ∙ c.if-reaches_limit-2.false in
    let never = invalid_of bytes c.parse_request.result c.in-Err.field-0 c.in-Err.is c.parse_request.ensures.invalid c.parse_request.ensures.too_many
    (λ more. request_exceeds bytes (subst (λ (n : ℕ). RequestExceeds n bytes) room more)) below in
    request_more_in_target bytes below never (target_ends bytes (sym c.ends_in_target.ensures ∙ c.if-ends_in_target.true))

pub returns-else-ends_in_target-clause-value : goal.returns-else-ends_in_target-clause-value
returns-else-ends_in_target-clause-value c =
    let bytes = c.args.bytes.now in
    let room : length c.args.scratch.now.headers ≡ 100 = omega arith in
    let below = sym c.reaches_limit-in-Err.ensures ∙ c.if-reaches_limit-2.false in
    let never = invalid_of bytes c.parse_request.result c.in-Err.field-0 c.in-Err.is c.parse_request.ensures.invalid c.parse_request.ensures.too_many
    (λ more. request_exceeds bytes (subst (λ (n : ℕ). RequestExceeds n bytes) room more)) below in
    request_bad bytes below never (λ ends. both_ways _ (sym c.ends_in_target.ensures ∙ c.if-ends_in_target.false) (ends_target bytes ends))
