-- A connection shows that of the law as long as the exchanges of its line are asked as before.
use Rattle.std.specs.Prelude.{◌≡◌, ℕ, false, List, [], ◌∷◌, ⊤}
use Rattle.pp_cache_law.specs.Pairs.{AreBoth}
use Rattle.pp_law.specs.Connections.{exchange}
use Rattle.pp_law.specs.Requests.{goes_alone}
use Rattle.pp_law.specs.Responses.{asks_head}
use Rattle.pp_law.specs.State.{State, Conn, Exchange}
use Rattle.pp_peers.specs.declared.peers.Peer.{Peer}
use Rattle.pp_peers_law.specs.Peers.{ShowConns}

-- the same text, of which as much was asked, to the same end
pub record IsAskedAs (e d : Exchange) : Type 0 where
  pub to_head : asks_head d ≡ asks_head e
  pub asked : d.asked ≡ e.asked
  pub text : d.text ≡ e.text
  pub alone : goes_alone d.head ≡ goes_alone e.head

abbrev pub AreAskedAs : State → State → List ℕ → Type 0
AreAskedAs s t [] = ⊤
AreAskedAs s t (n ∷ line) = AreBoth IsAskedAs (exchange s n) (exchange t n) × AreAskedAs s t line

-- of each connection that is not closing
abbrev pub AllAreAskedAs : State → State → List Conn → Type 0
AllAreAskedAs s t [] = ⊤
AllAreAskedAs s t (k ∷ ks) = (k.is_closing ≡ false → AreAskedAs s t k.line) × AllAreAskedAs s t ks

abbrev pub FramesAreTheLaws : Type 0
FramesAreTheLaws = (s t : State) (ps : List Peer) (ks : List Conn) → AllAreAskedAs s t ks → ShowConns s ps ks → ShowConns t ps ks
