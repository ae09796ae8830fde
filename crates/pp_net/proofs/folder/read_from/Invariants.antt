use Rattle.std.proofs.Common.{◌≡◌, ◌≤◌, length}
use Rattle.pp_net.proofs.folder.read_from.Given as goal

abbrev pub invariant-loop : goal.invariant-loop
invariant-loop l = record {
  within : l.taken ≤ length l.buf;
  room : length l.buf ≡ length l.initial.buf;
}
