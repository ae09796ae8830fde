-- Connections that are over are closed, each once, and nothing but that happens.
use Rattle.std.specs.Prelude.{ℕ, Bool, ◌||◌, not, cond, filter, List, [], ◌∷◌, ◌++◌, length, slice_get, Option, Some, None}
use Rattle.std.specs.List.{filter_map, find, fold, list_any}
use Rattle.pp_links.specs.Links.{Link, is_link, without}
use Rattle.pp_peers.specs.declared.peers.Peer.{Peer}
use Rattle.pp_desk.specs.declared.desk.Desk.{Desk}
use Rattle.pp_seats.specs.declared.seat.Seat.{Seat}
use Rattle.pp_state.specs.Ends.{is_over_at}
use Rattle.pp_state.specs.Numbers.{places}
use Rattle.pp_state.specs.declared.state.State.{State}
use Rattle.pp_world.specs.Log.{Log}
use Rattle.pp_world.specs.Wire.{by_side}
use Rattle.pp_world.specs.declared.happening.Happening.TheVariants.{Dropped, Shut}

-- ---- one behind the other, where it is open

abbrev pub closed_as : Option Link → Log
closed_as None = []
closed_as (Some link) = by_side (Some link.1) (Shut link.0) (Dropped link.0) ∷ []

abbrev pub closings : List ℕ → List Link → Log
closings [] links = []
closings (id ∷ ids) links = closed_as (find (is_link id) links) ++ closings ids (without id links)

abbrev pub without_all : List ℕ → List Link → List Link
without_all ids links = fold (λ left id. without id left) links ids

-- ---- those that are over: whose cause to be closed has come, and at the end all

abbrev pub over_client : Bool → Option Seat → Option ℕ
over_client is_end None = None
over_client is_end (Some seat) = cond (is_end || seat.is_closing) (Some seat.client.id) None

abbrev pub over_at : State → ℕ → Option ℕ
over_at s i = over_client s.is_stopped (slice_get s.seats.items i)

abbrev pub over_peer : Bool → Peer → Option ℕ
over_peer is_end peer = cond (is_end || peer.is_closing) (Some peer.number) None

abbrev pub over_clients : State → List ℕ
over_clients s = filter_map (over_at s) s.awake.items

abbrev pub over_peers : Bool → List Peer → List ℕ
over_peers is_end peers = filter_map (over_peer is_end) peers

-- clients, and then origins
abbrev pub all_over : Desk → List ℕ
all_over d = over_clients d.state ++ over_peers d.state.is_stopped d.peers

-- ---- those that are left

abbrev pub stays : Bool → Seat → Bool
stays is_end seat = not (is_end || seat.is_closing)

-- of those that are looked at
abbrev pub is_any_over : State → Bool
is_any_over s = list_any (λ i. is_over_at i s) s.awake.items

-- where one of them is, all that are go, and the others are looked at: they have other places
abbrev pub seats_left : State → List Seat
seats_left s = cond (is_any_over s) (filter (stays s.is_stopped) s.seats.items) s.seats.items

abbrev pub awake_left : State → List ℕ
awake_left s = cond (is_any_over s) (places (length (seats_left s))) s.awake.items
