use Rattle.pp_memworld.proofs.Listing.{IsListedTo}
use Rattle.pp_memworld.proofs.folder.Folder.names.Given as goal

abbrev pub invariant-loop-name : goal.invariant-loop-name
invariant-loop-name l = IsListedTo l.names.items l.name-iterator l.self.slots.entries
