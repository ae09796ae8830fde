use Rattle.std.proofs.Common.{◌≡◌, ◌++◌, take}
use Rattle.std.specs.Prelude.{min}
use Rattle.std.specs.List.{filter_map, reduce}
use Rattle.pp_decide.specs.Sharing.{shared_number}
use Rattle.pp_decide.proofs.share.shared_ask.Given as goal

-- of those before
abbrev pub invariant-loop-index : goal.invariant-loop-index
invariant-loop-index l = l.first ≡ reduce min (filter_map (shared_number l.key.text.items) (take l.index (l.state.flow.waiting ++ l.state.flow.placed)))
