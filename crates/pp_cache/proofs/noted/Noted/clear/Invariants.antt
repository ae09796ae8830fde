use Rattle.std.proofs.Common.{◌≡◌, ◌≤◌, ◌+◌, length, vec_capacity}
use Rattle.pp_cache.proofs.noted.Noted.clear.Given as goal

abbrev pub invariant-loop-key : goal.invariant-loop-key
invariant-loop-key l = record {
  all : length l.self-inside.keys.items + length l.self-inside.spare.items ≡ 16;
  keys_room : 16 ≤ vec_capacity l.self-inside.keys;
  spare_room : 16 ≤ vec_capacity l.self-inside.spare;
  fewer : length l.self-inside.keys.items + l._key ≤ 16;
}
