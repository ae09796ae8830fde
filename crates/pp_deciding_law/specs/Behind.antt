-- Behind a decision the turn stands as before it, for the next one (RFC 2616, section 8.1; the order is ours).
use Rattle.std.specs.Prelude.{◌≡◌, ℕ, List}
use Rattle.pp_cache.specs.Bounds.{IsBounded}
use Rattle.pp_law.specs.State.{State, Client}
use Rattle.pp_laws_turn.specs.SoundTurn.{IsSoundTurn}
use Rattle.pp_peers.specs.declared.peers.Peer.{Peer}
use Rattle.pp_seats.specs.declared.seat.Seat.{Seat}
use Rattle.pp_state.specs.Ends.{KeepsRest, Parts, all_regained, parts}
use Rattle.pp_state.specs.declared.state.State.{State as Turn}
use Rattle.pp_steps.specs.Evicting.{given_way}
use Rattle.pp_store.specs.Kept.{KeptMap}
use Rattle.pp_take.specs.Deciding.{Takes}
use Rattle.pp_world.specs.declared.note.Decision.{Decision}
use Rattle.pp_deciding_law.specs.Stands.{StandsBehind, StandsToDecide}
use Rattle.pp_deciding_law.specs.Takes.{IsNext, RestsOn, behind_taken}

-- attempts count anew of those who are looked at, and all else stays: as `take_due` says of it
pub record IsBehind (q r : Turn) (between : Parts) : Type 0 where
  pub is : parts r ≡ record between { seats = all_regained between.cache q.awake.items between.seats }
  pub rest : KeepsRest q r

-- the cache is bounded, as each is; and the law's state behind it is sound, as each that a lawful log leads to
abbrev pub DecisionsStand : Type 0
DecisionsStand = (number : ℕ → ℕ) (peers : List Peer) (shelf : KeptMap) (i : ℕ) (due : Decision) (p q r : Turn) (s : State) (seat : Seat) (c : Client) (between : Parts) → StandsToDecide number peers shelf p s → IsSoundTurn s → IsNext shelf i due p q s seat c → RestsOn i due p q s seat c
    → Takes q.name.items i due (parts (given_way due i q)) between → IsBehind q r between → IsBounded r.cache → IsSoundTurn (behind_taken seat.client.id due s) → StandsBehind peers shelf r (behind_taken seat.client.id due s)
