use Rattle.std.proofs.Common.{◌≡◌}
use Rattle.pp_demo.specs.Pages.{pages_up_to}
use Rattle.pp_demo.proofs.pages.site_of.Given as goal

abbrev pub invariant-loop-number : goal.invariant-loop-number
invariant-loop-number l = l.site.items ≡ pages_up_to l.number l.last_offsets
