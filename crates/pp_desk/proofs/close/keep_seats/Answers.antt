use Rattle.std.proofs.Common.{rules}
use Rattle.std.proofs.lemmas.Fn.{filter_same}
use Rattle.pp_desk.specs.Shutting.{stays}
use Rattle.pp_desk.proofs.close.keep_seats.Goals as goal

pub returns-clause-items : goal.returns-clause-items
returns-clause-items c = filter_same _ (stays c.args.is_end) _ (λ x b f' k. search rules) _ _ c.retain.ensures.filtered
