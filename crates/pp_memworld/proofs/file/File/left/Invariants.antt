use Rattle.std.proofs.Common.{◌≡◌, ℕ, ◌<◌, false, length, get_or}
use Rattle.pp_world.specs.Disk.{is_loose}
use Rattle.pp_memworld.proofs.file.File.left.Given as goal

abbrev pub invariant-loop-at : goal.invariant-loop-at
invariant-loop-at l = record {
  long : length l.bytes.items ≡ l.at;
  same : (offset : ℕ) → offset < l.at → offset < l.fn.self.synced → is_loose offset l.fn.self.loose ≡ false → get_or l.bytes.items offset 0 ≡ get_or l.fn.self.bytes offset 0;
}
