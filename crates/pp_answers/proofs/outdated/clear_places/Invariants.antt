use Rattle.std.proofs.Common.{◌≡◌, length}
use Rattle.pp_flow.specs.Changes.{Exchanges}
use Rattle.pp_state.specs.Ends.{Parts, numbers_of}
use Rattle.pp_answers.specs.ThroughHeads.{ClearsEach}
use Rattle.pp_answers.proofs.outdated.clear_places.Given as goal

abbrev pub decreases-loop-text : goal.decreases-loop-text
decreases-loop-text l = length l.texts

abbrev pub invariant-loop-text : goal.invariant-loop-text
invariant-loop-text l = record {
  is :
      (flow : Exchanges) (new : Parts) → ClearsEach l.site l.texts (record { seats = l.seats; flow = flow; cache = l.cache; refused = l.refused; is_astray = l.is_astray }) new
      → ClearsEach l.site l.initial.texts (record { seats = l.initial.seats; flow = flow; cache = l.initial.cache; refused = l.initial.refused; is_astray = l.initial.is_astray }) new;
  numbers : numbers_of l.seats ≡ numbers_of l.initial.seats;
}
