-- What the log says of a draft in memory.
use Rattle.std.specs.Prelude.{cond}
use Rattle.pp_world.specs.Disk.{Stored, settled, unsynced}
use Rattle.pp_memworld.specs.declared.draft.Draft.TheInside.{Inside}

abbrev pub drafted : Inside → Stored
drafted d = cond d.is_synced (settled d.bytes.items) (unsynced d.bytes.items)
