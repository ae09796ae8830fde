-- What each decision rests on is there (RFC 2616, sections 6, 8.1.4 and 13; the order is ours).
use Rattle.std.specs.Prelude.{ℕ, List}
use Rattle.pp_deciding_law.specs.Stands.{StandsToDecide}
use Rattle.pp_deciding_law.specs.Takes.{IsNext, RestsOn}
use Rattle.pp_law.specs.State.{State, Term, Client}
use Rattle.pp_peers.specs.declared.peers.Peer.{Peer}
use Rattle.pp_seats.specs.declared.seat.Seat.{Seat}
use Rattle.pp_state.specs.declared.state.State.{State as Turn}
use Rattle.pp_store.specs.Kept.{KeptMap}
use Rattle.pp_world.specs.Log.{Log}
use Rattle.pp_world.specs.declared.note.Decision.{Decision}
use Rattle.pp_rests_law.specs.Moment.{IsMoment}

-- of each that is found where the turn stands so
abbrev pub DecisionsRest : Type 0
DecisionsRest = (number : ℕ → ℕ) (peers : List Peer) (shelf : KeptMap) (terms : List Term) (before : Log) (i : ℕ) (due : Decision) (p q : Turn) (s : State) (seat : Seat) (c : Client) → StandsToDecide number peers shelf p s → IsMoment terms before s → IsNext shelf i due p q s seat c
    → RestsOn i due p q s seat c
