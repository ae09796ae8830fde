use Rattle.pp_memworld.proofs.Leaving.{LeavesBut}
use Rattle.pp_memworld.proofs.folder.Folder.left.Given as goal

abbrev pub invariant-loop-name : goal.invariant-loop-name
invariant-loop-name l = LeavesBut l.name-iterator l.self.slots l.image
