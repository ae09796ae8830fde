use Rattle.pp_keeping.proofs.CallLemmas.{still_then}
use Rattle.pp_keeping.specs.Kept.{outside}
use Rattle.pp_shelf.proofs.SteadyLemmas.{disk_is_steady, linked_on_disk}
use Rattle.pp_keeping.proofs.disk.withdraw.Goals as goal

pub returns-clause-linked : goal.returns-clause-linked
returns-clause-linked g c = linked_on_disk _ _ _ c.requires.linked c.withdraw.ensures.grows c.withdraw.ensures.top

pub returns-clause-steady : goal.returns-clause-steady
returns-clause-steady g c = disk_is_steady c.withdraw.ensures.grows

pub returns-clause-is : goal.returns-clause-is
returns-clause-is g c =
    let log = g.W.Logged.log in
    let faults = g.W.Logged.faults in
    let new = c.withdraw.new in
    let x = outside c.args.shelf.now (log c.args.world.now) (faults c.args.world.now) in
    let y = outside new.self (log new.disk) (faults new.disk) in
    let call = c.withdraw.ensures in
    record {
      answered = call.answered;
      still = still_then c.withdraw.result x y call.none call.still call.faults;
      map = call.map;
      ops = call.ops;
      cause = call.cause;
      count = call.faults;
    }
