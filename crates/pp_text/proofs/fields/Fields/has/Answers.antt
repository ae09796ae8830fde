use Rattle.std.proofs.Common.{◌∙◌}
use Rattle.pp_text.proofs.FieldLemmas.{has_by_first}
use Rattle.pp_text.proofs.fields.Fields.has.Goals as goal

pub returns : goal.returns
returns c = c.is_some.ensures ∙ has_by_first c.args.name.now c.args.self.now c.first.result c.first.ensures
