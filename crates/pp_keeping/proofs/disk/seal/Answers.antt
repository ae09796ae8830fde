use Rattle.pp_keeping.proofs.CallLemmas.{still_then}
use Rattle.pp_keeping.specs.Kept.{outside}
use Rattle.pp_shelf.proofs.SteadyLemmas.{disk_is_steady, linked_on_disk}
use Rattle.pp_keeping.proofs.disk.seal.Goals as goal

pub returns-clause-linked : goal.returns-clause-linked
returns-clause-linked g c = linked_on_disk _ _ _ c.requires.linked c.seal.ensures.grows c.seal.ensures.top

pub returns-clause-steady : goal.returns-clause-steady
returns-clause-steady g c = disk_is_steady c.seal.ensures.grows

pub returns-clause-is : goal.returns-clause-is
returns-clause-is g c =
    let log = g.W.Logged.log in
    let faults = g.W.Logged.faults in
    let new = c.seal.new in
    let x = outside c.args.shelf.now (log c.args.world.now) (faults c.args.world.now) in
    let y = outside new.self (log new.disk) (faults new.disk) in
    let call = c.seal.ensures in
    record {
      answered = call.answered;
      still = still_then c.seal.result x y call.none call.still call.faults;
      extent = call.extent;
      map = call.map;
      ops = call.ops;
      cause = call.cause;
      count = call.faults;
    }
