use Rattle.std.proofs.Common.{◌≡◌, take}
use Rattle.std.specs.List.{fold}
use Rattle.pp_state.specs.Ends.{AreInOrder}
use Rattle.pp_due.specs.Waits.{with_read, with_written}
use Rattle.pp_due.proofs.wants.note_awake.Given as goal

-- those before
abbrev pub invariant-loop-i : goal.invariant-loop-i
invariant-loop-i l = record {
  read : AreInOrder l.fn.wants.read.items → l.wants.read.items ≡ fold (with_read l.state.seats.items) l.fn.wants.read.items (take l.i-index l.state.awake.items);
  order : AreInOrder l.fn.wants.read.items → AreInOrder l.wants.read.items;
  write : l.wants.write.items ≡ fold (with_written l.state) l.fn.wants.write.items (take l.i-index l.state.awake.items);
  accept : l.wants.accept ≡ l.fn.wants.accept;
}
