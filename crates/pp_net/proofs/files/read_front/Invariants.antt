use Rattle.std.proofs.Common.{◌≡◌, ◌+◌, length}
use Rattle.pp_net.proofs.files.read_front.Given as goal

-- the text and the room for more make up the most that is read
abbrev pub invariant-loop : goal.invariant-loop
invariant-loop g l = length l.text + l.room ≡ 65537
