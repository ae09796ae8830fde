use Rattle.std.proofs.Common.{◌≡◌, take}
use Rattle.pp_demo.specs.Generator.{state_behind}
use Rattle.pp_demo.specs.Pages.{last_offsets}
use Rattle.pp_demo.proofs.pages.draw_lengths.Given as goal

abbrev pub invariant-loop-last : goal.invariant-loop-last
invariant-loop-last l = record {
  state : l.generator.state ≡ state_behind l.last-index l.fn.generator.state;
  lengths : take l.last-index l.last-items ≡ last_offsets l.last-index l.fn.generator.state;
}
