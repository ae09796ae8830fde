use Rattle.std.proofs.Common.{◌≡◌, ◌≤◌, ◌+◌, length, filter}
use Rattle.pp_peers.specs.Peers.{goes_on}
use Rattle.pp_peers.proofs.peers.Peers.drop_closing.Given as goal

abbrev pub invariant-loop-peer : goal.invariant-loop-peer
invariant-loop-peer l = record {
  left : filter (goes_on l.is_end) l.self ≡ filter (goes_on l.is_end) l.fn.self;
  few : l._peer + length l.self ≤ length l.fn.self;
}
