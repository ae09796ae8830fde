-- What an operation does to each file that may stand under its name, and the range of a write.
use Rattle.std.specs.Prelude.{ℕ, ◌+◌, length}
use Rattle.pp_world.specs.Disk.{Stored, loosened, written, synced}
use Rattle.pp_memworld.specs.declared.file.Edit.{Edit}
use Rattle.pp_memworld.specs.declared.file.Edit.TheVariants.{Loosen, Overwrite, Settle}
use Rattle.pp_memworld.specs.declared.file.Loose.{Loose}

abbrev pub edited : Edit → Stored → Stored
edited (Loosen at bytes) f = loosened at (at + length bytes.now) f
edited (Overwrite at bytes) f = written at bytes.now f
edited Settle f = synced f

abbrev pub range_of : Loose → ℕ × ℕ
range_of write = (write.from, write.to)
