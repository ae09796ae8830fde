use Rattle.pp_laws_spans.proofs.Laws.{bodies_fill, spans_within}
use Rattle.pp_laws_spans.proofs.spans.bodies_stay_within.Goals as goal

pub returns : goal.returns
returns c = record { spans = spans_within; bodies = bodies_fill }
