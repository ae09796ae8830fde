use Rattle.pp_keeping.proofs.CallLemmas.{drafts_from, still_then}
use Rattle.pp_keeping.specs.Kept.{outside}
use Rattle.pp_keeping.specs.Runs.{entry_in}
use Rattle.pp_shelf.proofs.SteadyLemmas.{disk_is_steady, linked_on_disk}
use Rattle.pp_keeping.proofs.disk.draft.Goals as goal

pub returns-clause-linked : goal.returns-clause-linked
returns-clause-linked g c = linked_on_disk _ _ _ c.requires.linked c.draft.ensures.grows c.draft.ensures.top

pub returns-clause-steady : goal.returns-clause-steady
returns-clause-steady g c = disk_is_steady c.draft.ensures.grows

pub returns-clause-is : goal.returns-clause-is
returns-clause-is g c =
    let log = g.W.Logged.log in
    let faults = g.W.Logged.faults in
    let new = c.draft.new in
    let x = outside c.args.shelf.now (log c.args.world.now) (faults c.args.world.now) in
    let y = outside new.self (log new.disk) (faults new.disk) in
    let call = c.draft.ensures in
    drafts_from (entry_in c.args.row.now) c.args.room.now c.draft.result x y c.requires.long call.answered (still_then c.draft.result x y call.none call.still call.faults) call.answer call.map call.ops call.cause call.faults
