use Rattle.std.proofs.Common.{◌∙◌, ap, None}
use Rattle.pp_world.specs.declared.note.Decision.TheVariants.{Relay}
use Rattle.pp_take.specs.Deciding.{answered_at}
use Rattle.pp_take.proofs.deciding.relay.Goals as goal

pub returns-clause-is : goal.returns-clause-is
returns-clause-is c = c.answer.ensures.is ∙ ap (answered_at c.args.i Relay None (0, 0)) c.begin_interim.ensures.is
