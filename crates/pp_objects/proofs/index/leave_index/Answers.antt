use Rattle.std.proofs.Common.{None, cond, ◌&&◌, not, sym, ◌∙◌, ap}
use Rattle.std.specs.Prelude.{bytes_eq}
use Rattle.pp_objects.specs.ByKey.{slot_for}
use Rattle.pp_objects.proofs.Indexing.{updated}
use Rattle.pp_objects.proofs.index.leave_index.Goals as goal

pub returns-then-not-row : goal.returns-then-not-row
returns-then-not-row c = λ key.
    updated c.args.index.now c.remove.new.self c.as_slice.result.now None c.remove.ensures.updates key
    ∙ ap (λ bs. cond (bytes_eq bs key) None (slot_for key c.args.index.now)) c.as_slice.ensures
    ∙ sym (ap (λ b. cond (not b && bytes_eq c.args.row.now.key key) None (slot_for key c.args.index.now)) c.if-not-row.true)
