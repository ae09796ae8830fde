use Rattle.std.proofs.Common.{refl}
use Rattle.pp_keeping.specs.Kept.{outside}
use Rattle.pp_shelf.proofs.SteadyLemmas.{quiet_then_steady}
use Rattle.pp_keeping.proofs.keeping.take_key_away.Goals as goal

pub returns-clause-steady : goal.returns-clause-steady
returns-clause-steady g c = quiet_then_steady c.note.ensures.quiet c.withdraw.ensures.steady

pub returns-clause-is : goal.returns-clause-is
returns-clause-is g c = record {
  noted = outside c.args.shelf.now (g.W.Logged.log c.note.new.world) (g.W.Logged.faults c.note.new.world);
  answer = c.withdraw.result;
  notes = record { shelf = refl; told = c.note.ensures.told; count = c.note.ensures.faults };
  withdraws = c.withdraw.ensures.is;
}
