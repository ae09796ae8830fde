use Rattle.std.proofs.Common.{rules}
use Rattle.std.proofs.lemmas.Fn.{filter_same}
use Rattle.pp_links.specs.Links.{is_other}
use Rattle.pp_links.proofs.links.take_out.Goals as goal

pub returns-clause-items : goal.returns-clause-items
returns-clause-items c = filter_same _ (is_other c.args.id) _ (λ x b f' k. search rules) _ _ c.retain.ensures.filtered
