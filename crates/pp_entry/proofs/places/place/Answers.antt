use Rattle.std.proofs.Common.{◌≡◌, ◌<◌, ◌∙◌, ap, ℕ, List, arith, length}
use Rattle.pp_text.specs.Fields.{field_at}
use Rattle.pp_entry.specs.Places.{span_at}
use Rattle.pp_entry.proofs.LineLemmas.{length-line, line-within}
use Rattle.pp_entry.proofs.PlaceLemmas.{next_end, next_span}
use Rattle.pp_entry.proofs.places.place.Goals as goal

pub span_at-span-requires : goal.span_at-span-requires
span_at-span-requires c =
    omega (
      arith,
      line-within c.args.fields.now c.loop-index.index c.args.count c.loop-index-test.true c.requires.within,
      length-line (field_at c.args.fields.now c.loop-index.index),
      ap length c.name.ensures,
      ap length c.value.ensures,
    )

pub loop-index-preserved : goal.loop-index-preserved
loop-index-preserved c =
    let within : c.loop-index.index < length c.args.fields.now = omega arith in
    let room : c.loop-index.index < length c.loop-index.spans = omega arith in
    let is : c.span_at-span.result ≡ span_at c.loop-index.at (field_at c.args.fields.now c.loop-index.index) =
    c.span_at-span.ensures
    ∙ ap (λ (n : List ℕ). span_at c.loop-index.at (n, c.value.result.now)) c.name.ensures
    ∙ ap (λ (v : List ℕ). span_at c.loop-index.at ((field_at c.args.fields.now c.loop-index.index).0, v)) c.value.ensures in
    record {
      at_line = next_end c.args.fields.now c.loop-index.index c.loop-index.at c.span_at-span.result within c.loop-index.invariant.at_line is;
      placed = next_span c.args.fields.now c.loop-index.index c.loop-index.at c.loop-index.spans c.span_at-span.result within room c.loop-index.invariant.at_line c.loop-index.invariant.placed is;
    }
