-- What a wait changes (ours).
use Rattle.std.specs.Prelude.{ℕ, Bool, ◌&&◌, ◌||◌, not, cond, drop, List}
use Rattle.std.specs.List.{fold}
use Rattle.pp_peers.specs.declared.peers.Peer.{Peer}
use Rattle.pp_seats.specs.declared.seat.Seat.{Seat}
use Rattle.pp_state.specs.Ends.{changed_at}
use Rattle.pp_due.specs.Waits.{rested_seat}
use Rattle.pp_state.specs.declared.state.State.{State}
use Rattle.pp_world.specs.Wire.{has_number}
use Rattle.pp_world.specs.declared.event.Wants.{Wants}

-- ---- clients: of those that are looked at each waits for the exchange that it shares

abbrev pub rested_at : State → List Seat → ℕ → List Seat
rested_at s seats i = changed_at i (rested_seat s) seats

abbrev pub all_waiting : State → List Seat
all_waiting s = fold (rested_at s) s.seats.items s.awake.items

-- ---- connections to origins

-- of those that are read, so many are clients: they come first
abbrev pub is_waited_for : ℕ → Wants → Peer → Bool
is_waited_for clients wants peer = not peer.is_reached || has_number peer.number (drop clients wants.read.items) || has_number peer.number wants.write.items

-- it waits from then on where it did not before
abbrev pub rested_by : Bool → ℕ → Peer → Peer
rested_by waited now peer = record peer { has_waited = waited; mark = cond (waited && peer.has_waited) peer.mark now }

abbrev pub rested_peer : ℕ → Wants → ℕ → Peer → Peer
rested_peer clients wants now peer = rested_by (is_waited_for clients wants peer) now peer
