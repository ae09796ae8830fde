use Rattle.std.proofs.Common.{◌∙◌}
use Rattle.pp_fresh.specs.Joining.{no_directives}
use Rattle.pp_fresh.proofs.JoiningLemmas.{fold-joined}
use Rattle.pp_fresh.proofs.directives.Directives.listed.Goals as goal

pub returns : goal.returns
returns c = c.join.ensures ∙ fold-joined no_directives c.args.items
