-- What was to be noted is not waited for any more: behind a decision none of it is.
use Rattle.std.proofs.Common.{refl, ℕ, false, List, [], None}
use Rattle.pp_cache_law.proofs.Framing.{frames_of, the_same}
use Rattle.pp_flow_law.proofs.Framed.{frames as flow_frames}
use Rattle.pp_flow_law.specs.Tables.{Leaving}
use Rattle.pp_law.specs.Connections.{exchange}
use Rattle.pp_law.specs.Lists.{Bytes}
use Rattle.pp_law.specs.State.{State}
use Rattle.pp_peers.specs.declared.peers.Peer.{Peer}
use Rattle.pp_states_law.proofs.Asked.{all_as, frames, itself}
use Rattle.pp_states_law.specs.States.{Parts as Whole, ShowsState}
use Rattle.pp_state.specs.Ends.{Parts}
use Rattle.pp_states_law.specs.Steps.{ShowsSteps, whole}

noted_shows : (number : ℕ → ℕ) (name : Bytes) (l : Leaving) (p : Whole) (s : State) → ShowsState number name [] l p s → ShowsState number name [] l p (record s { forgotten = []; made_room_for = None })
noted_shows number name l p s shows =
    let t : State = record s { forgotten = []; made_room_for = None } in
    record {
      clients = shows.clients;
      exchanges = flow_frames number l p.flow s shows.exchanges l t (record { exchanges = refl; next = refl; lines = λ k. refl });
      table =
          frames_of number p.memory s shows.table p.memory t (record { instances = refl; lives = refl; chunks = refl; extents = refl })
          (record { instances = refl; made = the_same s.next_instance; chunks = refl; followers = λ k. refl; kept = λ x. refl });
      conns = frames s t p.peers s.conns (all_as s t (λ k. itself (exchange s k)) s.conns) shows.conns;
    }

pub noted : (number : ℕ → ℕ) (name : Bytes) (l : Leaving) (peers : List Peer) (p : Parts) (s : State) → ShowsSteps number name l peers p s → ShowsSteps number name l peers p (record s { forgotten = []; made_room_for = None })
noted number name l peers p s steps = record { shows = noted_shows number name l (whole p peers) s steps.shows; order = steps.order; told = steps.told; refused = steps.refused }
