-- A cut that is found is permitted, and leads where the law leads (RFC 2616, sections 8.1 and 8.1.4; the order is ours).
use Rattle.std.specs.Prelude.{◌≡◌, ℕ, true, List, [], ◌∷◌, slice_get, Some}
use Rattle.pp_cache.specs.Bounds.{IsBounded}
use Rattle.pp_turns_law.specs.Sides.{MayClose, ShowsSides}
use Rattle.pp_desk.specs.Closings.{Sides, closed_client}
use Rattle.pp_law.specs.Closing.{close_client}
use Rattle.pp_law.specs.Connections.{client}
use Rattle.pp_law.specs.Phases.{in_phase}
use Rattle.pp_law.specs.State.{State, Client, Deciding}
use Rattle.pp_laws_turn.specs.SoundTurn.{IsSoundTurn}
use Rattle.pp_obeys.specs.Moves.{Leads}
use Rattle.pp_peers.specs.declared.peers.Peer.{Peer}
use Rattle.pp_seats.specs.declared.due.Due.TheVariants.{CutOff as IsCut}
use Rattle.pp_seats.specs.declared.seat.Seat.{Seat}
use Rattle.pp_state.specs.Ends.{KeepsRest, parts}
use Rattle.pp_state.specs.declared.state.State.{State as Turn}
use Rattle.pp_store.specs.Kept.{KeptMap}
use Rattle.pp_turns_law.specs.Firsts.{FirstDueInMemory}
use Rattle.pp_world.specs.declared.happening.Happening.TheVariants.{Noted}
use Rattle.pp_world.specs.declared.note.Cause.{Cause}
use Rattle.pp_world.specs.declared.note.Remark.TheVariants.{Cut}
use Rattle.pp_deciding_law.specs.Stands.{StandsBehind, StandsToDecide}

abbrev pub behind_cut : ℕ → State → State
behind_cut n s = close_client n true (in_phase Deciding s)

-- it is found for the client at this place, which the law has, too: as IsNext has it of a decision
pub record IsCutNext (shelf : KeptMap) (i : ℕ) (cause : Cause) (p q : Turn) (s : State) (seat : Seat) (c : Client) : Type 0 where
  pub first : FirstDueInMemory shelf p.awake.items p q (Some (i, IsCut cause))
  pub here : slice_get q.seats.items i ≡ Some seat
  pub there : client s seat.client.id ≡ Some c

-- its note leads there, and what is left of clients, exchanges and connections shows the law's state
pub record CutsAsTheLaw (i : ℕ) (cause : Cause) (peers : List Peer) (q : Turn) (s : State) (seat : Seat) : Type 0 where
  pub leads : Leads (Noted (Cut seat.client.id cause) ∷ []) s (behind_cut seat.client.id s)
  pub number : ℕ → ℕ
  pub shows : ShowsSides number q.name.items (closed_client i (record { parts = parts q; peers = peers })) (behind_cut seat.client.id s)

-- IsSoundTurn has what MayClose has, but that more of a response that is passed is to come as long as its exchange is there: `pp_rests_law` has
-- all of it
abbrev pub CutsLead : Type 0
CutsLead = (number : ℕ → ℕ) (peers : List Peer) (shelf : KeptMap) (i : ℕ) (cause : Cause) (p q : Turn) (s : State) (seat : Seat) (c : Client) → StandsToDecide number peers shelf p s → IsSoundTurn s → MayClose s → IsCutNext shelf i cause p q s seat c → CutsAsTheLaw i cause peers q s seat

-- ---- and behind it

-- so the clients, the exchanges, what is in memory and the connections are left, and all else stays: as `take_due` says of it
pub record IsBehindCut (i : ℕ) (peers later : List Peer) (q r : Turn) : Type 0 where
  pub is : (let x : Sides = record { parts = parts r; peers = later } in x) ≡ closed_client i (record { parts = parts q; peers = peers })
  pub rest : KeepsRest q r

-- the turn stands as before it; the cache is bounded, as each is; and the law's state behind it is sound, as each that a lawful log leads to
abbrev pub CutsStand : Type 0
CutsStand = (number : ℕ → ℕ) (peers later : List Peer) (shelf : KeptMap) (i : ℕ) (cause : Cause) (p q r : Turn) (s : State) (seat : Seat) (c : Client) → StandsToDecide number peers shelf p s → IsSoundTurn s → MayClose s → IsCutNext shelf i cause p q s seat c
    → IsBehindCut i peers later q r → IsBounded r.cache → IsSoundTurn (behind_cut seat.client.id s) → StandsBehind later shelf r (behind_cut seat.client.id s)
