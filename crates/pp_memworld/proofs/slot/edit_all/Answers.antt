use Rattle.std.proofs.Common.{rules, ap, sym, ◌∙◌}
use Rattle.pp_world.specs.Disk.{on_file}
use Rattle.pp_memworld.proofs.Edits.{one_more}
use Rattle.pp_memworld.specs.Edit.{edited}
use Rattle.pp_memworld.proofs.slot.edit_all.Goals as goal

pub loop-index-preserved : goal.loop-index-preserved
loop-index-preserved c =
    one_more (on_file (edited c.args.edit)) c.args.files.now c.loop-index.files c.loop-index.index c.index-files-index.result c.edit_if_there.new.file
    (search rules) c.loop-index.invariant c.index-files-index.is (c.in_ok-edit_if_there.ensures ∙ ap (on_file (edited c.args.edit)) (sym c.index-files-index.is))
