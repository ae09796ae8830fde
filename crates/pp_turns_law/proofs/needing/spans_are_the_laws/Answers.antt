use Rattle.pp_turns_law.proofs.HeldSpans.{held_spans}
use Rattle.pp_turns_law.proofs.needing.spans_are_the_laws.Goals as goal

pub returns : goal.returns
returns c = record { spans = held_spans }
