use Rattle.std.proofs.Common.{Some, cond, ◌∙◌, ap}
use Rattle.std.specs.Prelude.{bytes_eq}
use Rattle.pp_objects.specs.ByKey.{slot_for}
use Rattle.pp_objects.proofs.Indexing.{updated}
use Rattle.pp_objects.proofs.index.put.Goals.{in-Ok, in-Err}
use Rattle.pp_objects.proofs.index.put.Goals as goal

pub returns-clause-ok : goal.returns-clause-ok
returns-clause-ok c =
    elim c.match-insert.branch [
      | in-Ok w ↦ rw w.result-is (λ other.
          updated c.args.index.now c.insert.new.self c.in_ok-name.name.items (Some c.args.slot) w.in-Ok.ensures.updates other
          ∙ ap (λ bs. cond (bytes_eq bs other) (Some c.args.slot) (slot_for other c.args.index.now)) c.in_ok-name.ensures.items)
      | in-Err w ↦ rw w.result-is tt
    ]
