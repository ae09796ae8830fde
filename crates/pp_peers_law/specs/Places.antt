-- Where an ask goes (RFC 2616, sections 8.1.2.2 and 8.1.4).
use Rattle.std.specs.Prelude.{◌≡◌, Bool, false, List, map}
use Rattle.std.specs.List.{list_any}
use Rattle.pp_law.specs.Connections.{limits, place_for, with_load}
use Rattle.pp_law.specs.Requests.{goes_alone}
use Rattle.pp_law.specs.State.{State, Exchange, Conn}
use Rattle.pp_peers.specs.Peers.{with_load as with_load_in}
use Rattle.pp_peers.specs.Placing.{place}
use Rattle.pp_peers.specs.declared.peers.Peer.{Peer}
use Rattle.pp_peers_law.specs.Peers.{ShowsConn, ShowConns}

-- what a connection carries, as far as places depend on it
abbrev pub LoadsAreTheLaws : Type 0
LoadsAreTheLaws = (s : State) (p : Peer) (k : Conn) → ShowsConn s p k → k.is_closing ≡ false → with_load_in p ≡ with_load s k

abbrev pub is_closing : Conn → Bool
is_closing k = k.is_closing

-- behind all closings each exchange is asked where the law asks it
abbrev pub PlacesAreTheLaws : Type 0
PlacesAreTheLaws = (s : State) (ps : List Peer) (e : Exchange) → ShowConns s ps s.conns → list_any is_closing s.conns ≡ false
    → place (limits s) e.key.host e.key.port (goes_alone e.head) (map with_load_in ps) ≡ place_for s e
