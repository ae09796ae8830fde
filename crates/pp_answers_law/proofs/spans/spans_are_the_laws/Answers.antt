use Rattle.pp_answers_law.proofs.ToCome.{spans_same}
use Rattle.pp_answers_law.proofs.spans.spans_are_the_laws.Goals as goal

pub returns : goal.returns
returns c = record { spans = spans_same }
