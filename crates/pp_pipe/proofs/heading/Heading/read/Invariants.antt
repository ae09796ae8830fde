use Rattle.std.proofs.Common.{◌≡◌, ◌≤◌, ◌-◌, ◌++◌, length, drop}
use Rattle.pp_head.specs.Read.{More}
use Rattle.pp_head.specs.Response.{response_at}
use Rattle.pp_pipe.specs.Front.{front_of}
use Rattle.pp_pipe.proofs.heading.Heading.read.Given as goal

abbrev pub invariant-loop-n : goal.invariant-loop-n
invariant-loop-n l = record {
  within : l.used ≤ length l.bytes;
  head : response_at l.self ≡ More;
  front : front_of l.head_request (l.fn.self ++ l.bytes) ≡ front_of l.head_request (l.self ++ drop l.used l.bytes);
}

abbrev pub decreases-loop-n : goal.decreases-loop-n
decreases-loop-n l = length l.bytes - l.used
