use Rattle.std.proofs.Common.{ap, ◌∙◌}
use Rattle.pp_world.proofs.FileLemmas.{is_eq-name_order}
use Rattle.pp_world.specs.Files.{file_of}
use Rattle.pp_world.proofs.image.Image.put.Goals as goal

pub returns-in-Ok-clause-map : goal.returns-in-Ok-clause-map
returns-in-Ok-clause-map c = record {
  this = c.in-Ok.ensures.updates.1;
  others = λ other differs. c.in-Ok.ensures.updates.2 other (is_eq-name_order c.args.name other differs) ∙ ap (file_of other) c.self.view_is;
}
