-- Each exchange without a place gets one where there is one, in the order of their beginnings, behind all closings (RFC 2616, sections
-- 8.1 and 8.1.2.2).
use Rattle.std.specs.Prelude.{◌≡◌, ℕ, zero, suc, ◌≤◌, Bool, true, false, ◌==◌, ◌&&◌, ◌||◌, not, cond, nat_le, nat_lt, IfOk, IsErr, List, [], ◌∷◌, ◌++◌, length, map, slice_range, is_some, Option, Some, None, option_map, Result, Ok, Err}
use Rattle.std.specs.List.{find, list_any}
use Rattle.std.specs.Result.{result_unwrap_or}
use Rattle.pp_flow.specs.Changes.{Exchanges, entry_of, is_after, placed_on}
use Rattle.pp_flow.specs.Entries.{is_number as is_exchange}
use Rattle.pp_flow.specs.declared.entry.Entry.{Entry}
use Rattle.pp_flow.specs.declared.entry.Exchange.{Exchange}
use Rattle.pp_links.specs.Links.{links_with, max_links, without}
use Rattle.pp_peers.specs.Peers.{is_number, unused, with_load, with_pipe, without as without_peer}
use Rattle.pp_peers.specs.Placing.{place}
use Rattle.pp_peers.specs.declared.peers.Peer.{Peer}
use Rattle.pp_peers.specs.declared.placing.Limits.{Limits}
use Rattle.pp_peers.specs.declared.placing.Placed.{Placed}
use Rattle.pp_peers.specs.declared.placing.Placed.TheVariants.{On, Dial, CloseThenDial, Wait}
use Rattle.pp_pipe.specs.Asks.{max_asks}
use Rattle.pp_pipe.specs.Line.{Line, pushed_where, room_of}
use Rattle.pp_places.specs.Around.{Around, Moment, with_sides}
use Rattle.pp_desk.specs.Closings.{Sides, with_parts}
use Rattle.pp_desk.specs.Shutting.{closings}
use Rattle.pp_state.specs.Astray.{astray_where}
use Rattle.pp_state.specs.Ends.{asked_anew, ended}
use Rattle.pp_take.specs.Unplaced.{refused_dial}
use Rattle.pp_world.specs.Log.{Log}
use Rattle.pp_world.specs.Wire.{IsNewNumber, dial_happening}
use Rattle.pp_world.specs.declared.wire.WireFault.{WireFault}

-- ---- where it would be asked now

-- the host that its key names
abbrev pub host_in : ℕ × ℕ → List ℕ → Option (List ℕ)
host_in span key = cond (nat_le span.0 span.1 && nat_le span.1 (length key)) (Some (slice_range key span.0 span.1)) None

abbrev pub host_of : Entry → Option (List ℕ)
host_of e = host_in e.errand.place.host e.key.items

-- "Clients SHOULD NOT pipeline requests using non-idempotent methods"; nor one that authenticates its connection
abbrev pub goes_alone : Entry → Bool
goes_alone e = e.errand.is_asked_once || e.errand.binds_connection

abbrev pub place_at : Limits → Entry → Option (List ℕ) → List Peer → Placed
place_at limits e None peers = Wait
place_at limits e (Some host) peers = place limits host e.errand.place.port (goes_alone e) (map with_load peers)

abbrev pub place_of : Limits → Option Entry → List Peer → Placed
place_of limits None peers = Wait
place_of limits (Some e) peers = place_at limits e (host_of e) peers

abbrev pub place_for : Limits → ℕ → Sides → Placed
place_for limits number x = place_of limits (entry_of number x.parts.flow) x.peers

-- ---- it is the last of that line

-- there is room for its text, and for one ask more
abbrev pub takes : ℕ → Line → Bool
takes len line = nat_le len (room_of line) && not (length line.asks == max_asks)

abbrev pub takes_on : ℕ → Option Peer → Bool
takes_on len None = false
takes_on len (Some peer) = takes len peer.pipe

abbrev pub text_on : ℕ → List ℕ → Bool → Option Peer → List Peer → List Peer
text_on k text asks_head None peers = peers
text_on k text asks_head (Some peer) peers = with_pipe k (pushed_where (takes (length text) peer.pipe) text asks_head peer.pipe) peers

-- where it has no place yet
abbrev pub is_put : ℕ → ℕ → Option Entry → Exchanges → List Peer → Bool
is_put number k None f peers = false
is_put number k (Some e) f peers = is_some (find (is_exchange number) f.waiting) && takes_on (length e.text.items) (find (is_number k) peers)

abbrev pub put_text_where : Bool → ℕ → Entry → List Peer → List Peer
put_text_where true k e peers = text_on k e.text.items e.errand.asks_head (find (is_number k) peers) peers
put_text_where false k e peers = peers

abbrev pub put_text : ℕ → ℕ → Option Entry → Exchanges → List Peer → List Peer
put_text number k None f peers = peers
put_text number k (Some e) f peers = put_text_where (is_some (find (is_exchange number) f.waiting)) k e peers

abbrev pub put_last : Bool → ℕ → ℕ → Exchanges → Exchanges
put_last true number k f = asked_anew number (placed_on k number f)
put_last false number k f = f

abbrev pub put_on : ℕ → ℕ → Sides → Sides
put_on number k x = record {
  parts = record x.parts { flow = put_last (is_put number k (entry_of number x.parts.flow) x.parts.flow x.peers) number k x.parts.flow };
  peers = put_text number k (entry_of number x.parts.flow) x.parts.flow x.peers;
}

-- ---- it needs a new connection

-- the name of its host is not too long, and there is room for one connection more
abbrev pub dials_where : List ℕ → List Peer → Option (List ℕ)
dials_where host peers = cond (nat_le (length host) 255 && nat_lt (length peers) 64) (Some host) None

abbrev pub dials_to : Option (List ℕ) → List Peer → Option (List ℕ)
dials_to None peers = None
dials_to (Some host) peers = dials_where host peers

-- where so many are open that there is no room, no call is made
abbrev pub dial_log : ℕ → List ℕ → ℕ → Result ℕ WireFault → Log
dial_log open_links host port answer = cond (nat_lt open_links max_links) (dial_happening host port answer ∷ []) []

-- the connection that is there then, and was not before
abbrev pub new_one : Result ℕ WireFault → List Peer → Option ℕ
new_one (Ok k) peers = cond (list_any (is_number k) peers) None (Some k)
new_one (Err fault) peers = None

abbrev pub with_new : Option ℕ → List ℕ → ℕ → ℕ → List Peer → List Peer
with_new None host port now peers = peers
with_new (Some k) host port now peers = peers ++ unused k host port now ∷ []

-- it is the first of the line there; or its dial was refused
abbrev pub met_by : Moment → ℕ → Exchange → Option ℕ → Sides → Sides
met_by m number e None x = with_parts (refused_dial m.is_stopped m.name m.awake e) x
met_by m number e (Some k) x = put_on number k x

abbrev pub met_at : Moment → ℕ → Entry → List ℕ → Option ℕ → Sides → Sides
met_at m number e host connection x = met_by m number e.exchange connection (record x { peers = with_new connection host e.errand.place.port m.now x.peers })

-- the world answers
pub record IsDialled (m : Moment) (number : ℕ) (e : Entry) (host : List ℕ) (x : Around) (log : Log) (y : Around) : Type 0 where
  pub answer : Result ℕ WireFault
  pub log_is : log ≡ dial_log (length x.links) host e.errand.place.port answer
  pub number_is : IfOk answer (IsNewNumber x.top)
  pub full : max_links ≤ length x.links → IsErr answer
  pub sides : y.sides ≡ met_at m number e host (new_one answer x.sides.peers) x.sides
  pub links : y.links ≡ links_with answer x.links
  pub top : y.top ≡ result_unwrap_or answer x.top

-- what cannot be dialled is over
abbrev pub IsDialledTo : Moment → ℕ → Entry → Option (List ℕ) → Around → Log → Around → Type 0
IsDialledTo m number e None x log y = (log ≡ []) × (y ≡ with_sides (with_parts (ended number)) x)
IsDialledTo m number e (Some host) x log y = IsDialled m number e host x log y

abbrev pub IsDialledFor : Moment → ℕ → Option Entry → Around → Log → Around → Type 0
IsDialledFor m number None x log y = (log ≡ []) × (y ≡ x)
IsDialledFor m number (Some e) x log y = IsDialledTo m number e (dials_to (host_of e) x.sides.peers) x log y

-- ---- one exchange gets its place

-- an idle connection gives way
abbrev pub given_way : ℕ → Around → Around
given_way k x = record x { sides = record x.sides { peers = without_peer k x.sides.peers }; links = without k x.links }

abbrev pub IsPlacedAs : Placed → Moment → ℕ → Around → Log → Around → Type 0
IsPlacedAs (On k) m number x log y = (log ≡ []) × (y ≡ with_sides (put_on number k) x)
IsPlacedAs Dial m number x log y = IsDialledFor m number (entry_of number x.sides.parts.flow) x log y
IsPlacedAs (CloseThenDial k) m number x log y = (log ≡ closings (k ∷ []) x.links) × (y ≡ given_way k x)
IsPlacedAs Wait m number x log y = (log ≡ []) × (y ≡ x)

abbrev pub IsPlaced : Moment → ℕ → Around → Log → Around → Type 0
IsPlaced m number x log y = IsPlacedAs (place_for m.limits number x.sides) m number x log y

-- the one behind which it goes on: behind a new connection, and behind one that gave way, from the first
abbrev pub goes_on_behind : Placed → ℕ → Option ℕ
goes_on_behind (On k) number = Some number
goes_on_behind Dial number = None
goes_on_behind (CloseThenDial k) number = None
goes_on_behind Wait number = Some number

-- ---- one behind the other

abbrev pub next_waiting : Option ℕ → Sides → Option ℕ
next_waiting after x = option_map (λ e. e.exchange.number) (find (is_after after) x.parts.flow.waiting)

-- this life goes astray where one is left
abbrev pub astray_behind : Option ℕ → Around → Around
astray_behind after x = with_sides (with_parts (astray_where (is_some (next_waiting after x.sides)))) x

-- so many at most
unfoldable pub ArePlaced : ℕ → Moment → Option ℕ → Around → Log → Around → Type 0
ArePlaced zero m after x log y = (log ≡ []) × (y ≡ astray_behind after x)
ArePlaced (suc more) m after x log y = elim (next_waiting after x.sides) [
  | None ↦ (log ≡ []) × (y ≡ x)
  | Some number ↦ (next : Around) × (first : Log) × (rest : Log) × (log ≡ first ++ rest) × IsPlaced m number x first next × ArePlaced more m (goes_on_behind (place_for m.limits number x.sides) number) next rest y
]
