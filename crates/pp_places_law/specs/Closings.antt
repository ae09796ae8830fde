-- All that are closing leave the log's connections before exchanges get their places: clients, in the order of their numbers, and then
-- connections to origins (RFC 2616, section 8.1).
use Rattle.std.specs.Prelude.{◌≡◌, ℕ, true, false, List, [], ◌∷◌, ◌++◌, filter, find, Some, None, ⊤}
use Rattle.pp_turns_law.specs.Log.{AreLinked, IsConnecting}
use Rattle.pp_turns_law.specs.Sides.{ShowsSides}
use Rattle.pp_desk.specs.Closings.{Sides, peer_numbers}
use Rattle.pp_desk.specs.Shutting.{closings, over_clients, over_peers, seats_left, without_all}
use Rattle.pp_law.specs.Closing.{is_of}
use Rattle.pp_law.specs.Connections.{client}
use Rattle.pp_law.specs.Phases.{has_closings}
use Rattle.pp_law.specs.State.{State, Client}
use Rattle.pp_links.specs.Links.{Link, is_link}
use Rattle.pp_obeys.specs.Moves.{Leads}
use Rattle.pp_peers.specs.Peers.{goes_on}
use Rattle.pp_peers.specs.declared.peers.Peer.{Peer}
use Rattle.pp_state.specs.Ends.{parts}
use Rattle.pp_state.specs.declared.state.State.{State as Turn}
use Rattle.pp_turns_law.specs.Firsts.{AreAwake}
use Rattle.pp_world.specs.Log.{Log}
use Rattle.pp_world.specs.declared.event.Side.TheVariants.{Client as OfClient}

-- connections are closed, and a client that is closing asks nothing
pub record MayShut (s : State) : Type 0 where
  -- the phase that is come to, behind the last decision
  pub connecting : IsConnecting s
  -- SoundTurn.`IsSoundTurn` of `pp_laws_turn`, `alone`
  pub alone : (n : ℕ) (c : Client) → client s n ≡ Some c → c.is_closing ≡ true → find (is_of n) s.exchanges ≡ None

-- each of these connections is open, as a client's
abbrev pub AreOpen : List ℕ → List Link → Type 0
AreOpen [] links = ⊤
AreOpen (n ∷ ns) links = (find (is_link n) links ≡ Some (n, OfClient)) × AreOpen ns links

abbrev pub sides_of : Turn → List Peer → Sides
sides_of p peers = record { parts = parts p; peers = peers }

-- clients, and then origins, as `Desk::close_over` of `pp_desk` finds them
abbrev pub over_in : Turn → List Peer → List ℕ
over_in p peers = over_clients p ++ over_peers p.is_stopped peers

-- and what it leaves
abbrev pub sides_left : Turn → List Peer → Sides
sides_left p peers = record { parts = record (parts p) { seats = seats_left p }; peers = filter (goes_on p.is_stopped) peers }

-- connections are closed still, neither settings nor clock changed, and no number was given
pub record StaysOn (s t : State) : Type 0 where
  pub connecting : IsConnecting t
  pub settings : t.settings ≡ s.settings
  pub clock : t.clock ≡ s.clock
  pub ticked : t.is_ticked ≡ s.is_ticked
  pub stopped : t.is_stopped ≡ s.is_stopped
  pub top : t.top ≡ s.top

-- the happenings may come, and lead to a state in which nobody is left to be closed
pub record AreShut (number : ℕ → ℕ) (p : Turn) (peers : List Peer) (log : Log) (s : State) : Type 0 where
  pub state : State
  pub leads : Leads log s state
  pub shows : ShowsSides number p.name.items (sides_left p peers) state
  pub closed : has_closings state ≡ false
  pub stays : StaysOn s state

-- before Stop. Those who are looked at are known from wait to wait (Firsts.`AreAwake` of `pp_turns_law`); each client and each connection that
-- is there is open, from one opening, dial and closing to the next
abbrev pub ClosingsAreTheLaws : Type 0
ClosingsAreTheLaws = (number : ℕ → ℕ) (p : Turn) (peers : List Peer) (s : State) (links : List Link) → ShowsSides number p.name.items (sides_of p peers) s → AreAwake p → p.is_stopped ≡ false → MayShut s
    → AreOpen (over_clients p) links → AreLinked (over_peers false peers) links → AreShut number p peers (closings (over_in p peers) links) s

-- and whoever is left of connections to origins is open still
abbrev pub LinksAreLeft : Type 0
LinksAreLeft = (number : ℕ → ℕ) (p : Turn) (peers : List Peer) (s : State) (links : List Link) → ShowsSides number p.name.items (sides_of p peers) s → p.is_stopped ≡ false → AreOpen (over_clients p) links → AreLinked (peer_numbers peers) links
    → AreLinked (peer_numbers (filter (goes_on p.is_stopped) peers)) (without_all (over_in p peers) links)
