use Rattle.std.proofs.Common.{rules}
use Rattle.std.proofs.lemmas.Fn.{filter_same}
use Rattle.pp_pool.specs.Chunks.{is_not}
use Rattle.pp_objects.proofs.objects.leave_order.Goals as goal

pub returns-clause-items : goal.returns-clause-items
returns-clause-items c = filter_same _ (is_not c.args.slot) _ (λ x b f' k. search rules) _ _ c.retain.ensures.filtered
