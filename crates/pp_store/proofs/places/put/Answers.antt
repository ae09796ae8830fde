use Rattle.std.proofs.Common.{Bool, Some, cond, ◌∙◌, ap}
use Rattle.std.specs.BTreeMap.{get}
use Rattle.std.proofs.lemmas.Map.Text.{is_eq-slice_cmp}
use Rattle.pp_world.specs.Files.{name_order}
use Rattle.pp_store.proofs.places.put.Goals as goal

pub returns-in-Ok-clause-ok : goal.returns-in-Ok-clause-ok
returns-in-Ok-clause-ok c = λ other.
    c.in-Ok.ensures.updates.0 other ∙ ap (λ (b : Bool). cond b (Some c.args.place) (get name_order c.args.places.now other)) (is_eq-slice_cmp c.args.name.now other)
