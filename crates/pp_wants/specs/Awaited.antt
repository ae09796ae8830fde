-- What is waited for of the connections to origins (ours).
use Rattle.std.specs.Prelude.{ℕ, Bool, true, ◌&&◌, not, nat_lt, List, Option, Some, None}
use Rattle.std.specs.List.{fold}
use Rattle.pp_flow.specs.declared.entry.Exchange.{Exchange}
use Rattle.pp_peers.specs.declared.peers.Peer.{Peer}
use Rattle.pp_state.specs.Asking.{asking, is_there_to_ask}
use Rattle.pp_state.specs.Bodies.{room_for}
use Rattle.pp_state.specs.Ends.{Parts, exchange_at}
use Rattle.pp_steps.specs.Lines.{first_on}
use Rattle.pp_state.specs.Readers.{is_far_ahead}
use Rattle.pp_due.specs.Waits.{with_written_by}

-- something is there to be asked
abbrev pub is_asked : Parts → Peer → Bool
is_asked p peer = peer.is_reached && is_there_to_ask p.seats (asking peer.number p.seats p.flow)

-- reading stops where the pipe of the first exchange has no room, or far ahead of all its readers, who are among these clients
abbrev pub has_room : List ℕ → Parts → Exchange → Bool
has_room awake p e = nat_lt 0 (room_for e 1 p.seats) && not (is_far_ahead e.bound p.cache awake p.seats)

abbrev pub has_room_for : List ℕ → Parts → Option Exchange → Bool
has_room_for awake p None = true
has_room_for awake p (Some e) = has_room awake p e

abbrev pub has_room_on : List ℕ → Parts → Option ℕ → Bool
has_room_on awake p None = true
has_room_on awake p (Some number) = has_room_for awake p (exchange_at number p.flow)

abbrev pub is_read : List ℕ → Parts → Peer → Bool
is_read awake p peer = peer.is_reached && has_room_on awake p (first_on peer.number p)

-- of one that is not reached nothing but that is waited for
abbrev pub with_asked : Parts → List ℕ → Peer → List ℕ
with_asked p ms peer = with_written_by (is_asked p peer) peer.number ms

abbrev pub with_got : List ℕ → Parts → List ℕ → Peer → List ℕ
with_got awake p ms peer = with_written_by (is_read awake p peer) peer.number ms

abbrev pub all_asked : Parts → List Peer → List ℕ → List ℕ
all_asked p peers ms = fold (with_asked p) ms peers

abbrev pub all_got : List ℕ → Parts → List Peer → List ℕ → List ℕ
all_got awake p peers ms = fold (with_got awake p) ms peers
