-- What the read of a chunk rests on before a write stands where the write is owed.
use Rattle.std.proofs.Common.{◌≡◌, refl, ap₂, ◌∙◌, ℕ, not, ◌&&◌, is_some, List, Option}
use Rattle.pp_turns_law.proofs.Twice.{regains_once}
use Rattle.pp_joints_law.specs.Loading.{CarriedOnesAreOnDisk, NoneLeavesAtWaits, OwedOnesAreFirst}
use Rattle.pp_law.specs.After.{event, owing}
use Rattle.pp_law.specs.Connections.{on_client, on_conn}
use Rattle.pp_law.specs.Phases.{in_phase}
use Rattle.pp_law.specs.Replies.{regained}
use Rattle.pp_law.specs.State.{State, Todo, Handling, WriteTo}
use Rattle.pp_law.specs.Turn.{rest_with, touch}
use Rattle.pp_shelf_law.proofs.Finding.{stand_alone}
use Rattle.pp_text.specs.Bytes.{is_empty}
use Rattle.pp_world.specs.declared.op.DiskOp.{DiskOp}

pub none_leaves : NoneLeavesAtWaits
unfolding rest_with
none_leaves w s = record { evicting = refl; forgotten = refl }

once : (id : ℕ) (s : State) → regained (event (owing (WriteTo id) id s)) ≡ event (owing (WriteTo id) id s)
unfolding event
once id s = regains_once (in_phase Handling (owing (WriteTo id) id s))

same_evicting : (id : ℕ) (s : State) → (event (owing (WriteTo id) id s)).is_evicting ≡ s.is_evicting
unfolding event owing regained touch on_conn on_client
same_evicting id s = refl

same_forgotten : (id : ℕ) (s : State) → (event (owing (WriteTo id) id s)).forgotten ≡ s.forgotten
unfolding event owing regained touch on_conn on_client
same_forgotten id s = refl

pub owed_first : OwedOnesAreFirst
owed_first id s none = record { anew = once id s; evicting = same_evicting id s ∙ none.evicting; forgotten = same_forgotten id s ∙ none.forgotten }

pub carried_on_disk : CarriedOnesAreOnDisk
carried_on_disk terms log shelf x s obeys carried versions whole = record {
  rests = ap₂ (λ (o : Option DiskOp) (todo : List Todo). not (is_some o) && is_empty todo) carried.disk.idle carried.disk.done;
  shows = carried.disk.shows;
  names = carried.disk.names;
  alone = stand_alone terms s log obeys;
  versions = versions;
  whole = whole;
}
