use Rattle.std.proofs.Common.{refl}
use Rattle.pp_keeping.specs.Kept.{outside}
use Rattle.pp_shelf.proofs.SteadyLemmas.{steady_then_quiet}
use Rattle.pp_keeping.proofs.run.seal_row.Goals as goal

pub returns-clause-steady : goal.returns-clause-steady
returns-clause-steady g c = steady_then_quiet c.seal-answer.ensures.steady c.note_sealed.ensures.quiet

pub returns-clause-is : goal.returns-clause-is
returns-clause-is g c = record {
  answer = c.seal-answer.result;
  between = outside c.seal-answer.new.shelf (g.W.Logged.log c.seal-answer.new.world) (g.W.Logged.faults c.seal-answer.new.world);
  seals = c.seal-answer.ensures.is;
  notes = record { shelf = refl; told = c.note_sealed.ensures.told; count = c.note_sealed.ensures.faults };
  is = c.sealed_to.ensures;
}
