-- Connections to origins that are closing are dropped, one behind the other: each may be, and the state behind them is shown
-- (RFC 2616, section 8.1).
use Rattle.std.specs.Prelude.{◌≡◌, ℕ, false, List, [], ◌∷◌, filter, find, Some, None, ⊤}
use Rattle.std.specs.List.{fold}
use Rattle.pp_law.specs.After.{after}
use Rattle.pp_law.specs.Lists.{Bytes}
use Rattle.pp_law.specs.Permits.{IsPermitted}
use Rattle.pp_law.specs.State.{State, Connecting}
use Rattle.pp_links.specs.Links.{Link, is_link}
use Rattle.pp_peers.specs.Peers.{goes_on}
use Rattle.pp_desk.specs.Closings.{Sides}
use Rattle.pp_desk.specs.Shutting.{closings, over_peers}
use Rattle.pp_world.specs.Log.{Log}
use Rattle.pp_world.specs.declared.event.Side.TheVariants.{Client as OfClient, Origin}
use Rattle.pp_turns_law.specs.Sides.{OfSides, ShowsSides}

-- connections are closed, and no row left memory for a decision that is next
pub record IsConnecting (s : State) : Type 0 where
  pub at : s.phase ≡ Connecting
  pub none : s.made_room_for ≡ None

-- each may happen where it comes
abbrev pub MayCome : Log → State → Type 0
MayCome [] s = ⊤
MayCome (h ∷ hs) s = IsPermitted s h × MayCome hs (after s h)

-- each of these connections is open, as an origin's
abbrev pub AreLinked : List ℕ → List Link → Type 0
AreLinked [] links = ⊤
AreLinked (n ∷ ns) links = (find (is_link n) links ≡ Some (n, Origin)) × AreLinked ns links

-- and each of these as a client's
abbrev pub AreClientsIn : List ℕ → List Link → Type 0
AreClientsIn [] links = ⊤
AreClientsIn (n ∷ ns) links = (find (is_link n) links ≡ Some (n, OfClient)) × AreClientsIn ns links

-- of those to origins, which the log gets behind those of clients
pub record AreDropped (number : ℕ → ℕ) (name : Bytes) (links : List Link) (x : Sides) (s : State) : Type 0 where
  pub permitted : MayCome (closings (over_peers false x.peers) links) s
  pub behind : ShowsSides number name (record x { peers = filter (goes_on false) x.peers }) (fold after s (closings (over_peers false x.peers) links))

-- before Stop
abbrev pub ClosingOnesAreDroppedAsTheLaws : Type 0
ClosingOnesAreDroppedAsTheLaws = OfSides (λ number name x s. (links : List Link) → IsConnecting s → AreLinked (over_peers false x.peers) links → AreDropped number name links x s)
