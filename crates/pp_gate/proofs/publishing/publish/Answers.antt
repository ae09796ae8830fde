use Rattle.std.proofs.Common.{drop, length-drop}
use Rattle.pp_entry.specs.Texts.{body_at}
use Rattle.pp_gate.proofs.WholeLemmas.{front_fits, laid_honest, laid_keeps, laid_kept, laid_whole}
use Rattle.pp_gate.proofs.publishing.publish.Goals as goal

pub lay-requires-clause-gates : goal.lay-requires-clause-gates
lay-requires-clause-gates g c = front_fits g.sent c.args.block.now c.args.n c.body_at.result c.args.room.now c.requires.1.1.1.0 c.body_at.ensures

pub returns-clause-laid : goal.returns-clause-laid
returns-clause-laid g c = laid_whole c.args.block.now c.args.n c.body_at.result c.args.room.now c.lay.new.room c.body_at.ensures c.lay.ensures

pub returns-clause-kept : goal.returns-clause-kept
returns-clause-kept g c =
    laid_kept g.sent c.args.block.now c.args.n _ (drop (body_at c.args.n) c.args.room.now) c.lay.new.room c.told-block c.requires.1.1.1.0
    (laid_whole c.args.block.now c.args.n c.body_at.result c.args.room.now c.lay.new.room c.body_at.ensures c.lay.ensures) (length-drop (body_at c.args.n) c.args.room.now)

pub returns-clause-any_moment : goal.returns-clause-any_moment
returns-clause-any_moment g c =
    laid_honest _ _ g.sent c.args.name.now c.args.block.now c.args.n _ (drop (body_at c.args.n) c.args.room.now) c.lay.new.room c.told-block c.requires.1.1.1.0
    (laid_whole c.args.block.now c.args.n c.body_at.result c.args.room.now c.lay.new.room c.body_at.ensures c.lay.ensures) (length-drop (body_at c.args.n) c.args.room.now)
    c.publish_file.ensures.old_or_new

pub returns-clause-done : goal.returns-clause-done
returns-clause-done g c =
    laid_keeps _ _ g.sent c.args.name.now c.args.block.now c.args.n _ (drop (body_at c.args.n) c.args.room.now) c.lay.new.room c.publish_file.result c.told-block c.requires.1.1.1.0
    (laid_whole c.args.block.now c.args.n c.body_at.result c.args.room.now c.lay.new.room c.body_at.ensures c.lay.ensures) (length-drop (body_at c.args.n) c.args.room.now)
    c.requires.1.1.1.1 c.publish_file.ensures.ops c.publish_file.ensures.done
