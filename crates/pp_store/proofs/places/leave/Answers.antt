use Rattle.std.proofs.Common.{sym, ◌∙◌}
use Rattle.pp_store.proofs.TableLemmas.{left_is}
use Rattle.pp_store.proofs.places.leave.Goals as goal

pub returns-in-Some : goal.returns-in-Some
returns-in-Some c =
    left_is c.args.places.now c.remove.new.self c.move_up.new.places c.args.name.now c.in-Some.gone (sym c.remove.ensures.value ∙ c.in-Some.is) c.remove.ensures.updates.0 c.move_up.ensures
