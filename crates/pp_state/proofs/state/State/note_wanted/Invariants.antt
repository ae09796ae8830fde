use Rattle.std.proofs.Common.{◌≡◌, ◌++◌, take}
use Rattle.std.specs.List.{fold}
use Rattle.pp_flow.specs.Changes.{numbers}
use Rattle.pp_state.specs.Unseen.{rested}
use Rattle.pp_state.proofs.state.State.note_wanted.Given as goal

-- those before are noted, and no number is another
abbrev pub invariant-loop-index : goal.invariant-loop-index
invariant-loop-index l = record {
  noted : l.self ≡ record l.fn.self { flow = fold (rested l.fn.self.awake.items l.fn.self.seats.items) l.fn.self.flow (take l.index (numbers (l.fn.self.flow.waiting ++ l.fn.self.flow.placed))) };
  same : numbers (l.self.flow.waiting ++ l.self.flow.placed) ≡ numbers (l.fn.self.flow.waiting ++ l.fn.self.flow.placed);
}
