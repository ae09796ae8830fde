use Rattle.std.proofs.Common.{rules}
use Rattle.std.proofs.lemmas.Fn.{filter_same}
use Rattle.pp_due.specs.Waits.{is_loud}
use Rattle.pp_due.proofs.wants.keep_loud.Goals as goal

pub returns-clause-is : goal.returns-clause-is
returns-clause-is c = filter_same _ (is_loud c.args.seats.now) _ (λ x b f' k. search rules) _ _ c.retain.ensures.filtered
