use Rattle.std.proofs.Common.{◌≡◌, ◌≤◌, length, vec_capacity}
use Rattle.pp_cache.proofs.noted.rooms.Given as goal

abbrev pub invariant-loop-key : goal.invariant-loop-key
invariant-loop-key l = record { len : length l.rooms.items ≡ l._key; room : 16 ≤ vec_capacity l.rooms }
