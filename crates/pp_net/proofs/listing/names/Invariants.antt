use Rattle.std.proofs.Common.{◌≤◌, IsTrue, length}
use Rattle.std.specs.List.{list_all}
use Rattle.pp_world.specs.Disk.{is_name}
use Rattle.pp_net.proofs.listing.names.Given as goal

abbrev pub invariant-loop-entry : goal.invariant-loop-entry
invariant-loop-entry g l = record {
  next : (goal.iterator-loop-entry g).can_next l.entry-iterator;
  ends : (goal.iterator-loop-entry g).is_finite l.entry-iterator;
  form : IsTrue (list_all is_name l.least.keys);
  few : length l.least.keys ≤ 65536;
}
