use Rattle.std.proofs.Common.{◌≡◌}
use Rattle.pp_demo.specs.Pages.{bytes_up_to}
use Rattle.pp_demo.proofs.pages.body_of.Given as goal

abbrev pub invariant-loop-offset : goal.invariant-loop-offset
invariant-loop-offset l = l.bytes.items ≡ bytes_up_to l.number l.offset
