-- A read or a write of a connection is owed to an event: attempts count anew before it, and the connection is not idle (ours).
use Rattle.std.specs.Prelude.{◌≡◌, ℕ, [], ◌∷◌, Some}
use Rattle.std.specs.List.{find}
use Rattle.pp_desk.specs.declared.desk.Desk.{Desk}
use Rattle.pp_law.specs.After.{event, owing}
use Rattle.pp_law.specs.State.{State, Awaiting, Handling, Owed, Free, ReadOf, WriteTo}
use Rattle.pp_obeys.specs.Moves.{Leads}
use Rattle.pp_peers.specs.Peers.{is_number}
use Rattle.pp_peers.specs.declared.peers.Peer.{Peer}
use Rattle.pp_proxy.specs.Handling.{Wakes}
use Rattle.pp_proxy.specs.Moving.{Moving, with_desk}
use Rattle.pp_state.specs.Ends.{numbers_of, place_of}
use Rattle.pp_world.specs.declared.happening.Happening.{Happening}
use Rattle.pp_world.specs.declared.happening.Happening.TheVariants.{CanRead, CanWrite}
use Rattle.pp_events_law.specs.Stands.{AreReadyAt, StandsAtEvent}

-- the event leads there, where it is owed a read or a write; the turn stands there, and each client that goes on can be decided
pub record IsOwed (number : ℕ → ℕ) (owed : Owed) (h : Happening) (y : Moving) (s t : State) : Type 0 where
  pub leads : Leads (h ∷ []) s t
  pub stands : StandsAtEvent number Handling owed y t
  pub ready : AreReadyAt number y t

abbrev pub OfWaking : ((ℕ → ℕ) → ℕ → Moving → State → Moving → Type 0) → Type 0
OfWaking P = (number : ℕ → ℕ) (id : ℕ) (x : Moving) (woken : Desk) (s : State) → StandsAtEvent number Awaiting Free x s → AreReadyAt number x s → Wakes id x.desk woken → P number id x s (with_desk woken x)

-- of a client
abbrev pub ClientReadsAreOwed : Type 0
ClientReadsAreOwed = OfWaking (λ number id x s y. (i : ℕ) → place_of id (numbers_of x.desk.state.seats.items) ≡ Some i → IsOwed number (ReadOf id) (CanRead id) y s (event (owing (ReadOf id) id s)))

abbrev pub ClientWritesAreOwed : Type 0
ClientWritesAreOwed = OfWaking (λ number id x s y. (i : ℕ) → place_of id (numbers_of x.desk.state.seats.items) ≡ Some i → IsOwed number (WriteTo id) (CanWrite id) y s (event (owing (WriteTo id) id s)))

-- and of an origin
abbrev pub OriginReadsAreOwed : Type 0
OriginReadsAreOwed = OfWaking (λ number id x s y. (peer : Peer) → find (is_number id) x.desk.peers ≡ Some peer → IsOwed number (ReadOf id) (CanRead id) y s (event (owing (ReadOf id) id s)))

abbrev pub OriginWritesAreOwed : Type 0
OriginWritesAreOwed = OfWaking (λ number id x s y. (peer : Peer) → find (is_number id) x.desk.peers ≡ Some peer → IsOwed number (WriteTo id) (CanWrite id) y s (event (owing (WriteTo id) id s)))
