-- The connections to origins (RFC 2616, section 8.1).
use Rattle.std.specs.Prelude.{ℕ, ◌+◌, Bool, false, ◌==◌, ◌||◌, not, if◌then◌else◌, List, [], ◌∷◌, length, count_by}
use Rattle.pp_pipe.specs.Asks.{is_outstanding}
use Rattle.pp_pipe.specs.Line.{Line, started}
use Rattle.pp_peers.specs.declared.peers.Load.{Load}
use Rattle.pp_peers.specs.declared.peers.Peer.{Peer}

abbrev pub is_number : ℕ → Peer → Bool
is_number number peer = peer.number == number

-- to a new connection nothing was asked
abbrev pub unused : ℕ → List ℕ → ℕ → ℕ → Peer
unused number host port now = record {
  number = number;
  host = record { items = host };
  port = port;
  pipe = started number;
  is_reached = false;
  has_brought = false;
  stays = false;
  is_closing = false;
  mark = now;
  has_waited = false;
}

-- what a connection carries
abbrev pub load_of : Peer → Load
load_of peer = record {
  asks = length peer.pipe.asks;
  outstanding = count_by is_outstanding peer.pipe.asks;
  may_pipeline = peer.pipe.may_pipeline;
}

-- a connection as far as places depend on it: where it goes to, and what it carries
pub record Loaded : Type 0 where
  pub number : ℕ
  pub host : List ℕ
  pub port : ℕ
  pub load : Load

abbrev pub with_load : Peer → Loaded
with_load peer = record { number = peer.number; host = peer.host.items; port = peer.port; load = load_of peer }

-- where the connection with this number stands, behind the last where it is not there
abbrev pub place_in : ℕ → List Peer → ℕ
place_in number [] = 0
place_in number (peer ∷ peers) = if is_number number peer then 0 else place_in number peers + 1

-- without the connection with this number
abbrev pub without : ℕ → List Peer → List Peer
without number [] = []
without number (peer ∷ peers) = if is_number number peer then peers else peer ∷ without number peers

-- the pipe of the connection with this number is such
abbrev pub with_pipe : ℕ → Line → List Peer → List Peer
with_pipe number line [] = []
with_pipe number line (peer ∷ peers) = if is_number number peer then (record peer { pipe = line }) ∷ peers else peer ∷ with_pipe number line peers

-- the connection with this number is such
abbrev pub with_peer : ℕ → Peer → List Peer → List Peer
with_peer number changed [] = []
with_peer number changed (peer ∷ peers) = if is_number number peer then changed ∷ peers else peer ∷ with_peer number changed peers

-- it is not closing; at the end none goes on
abbrev pub goes_on : Bool → Peer → Bool
goes_on is_end peer = not (is_end || peer.is_closing)

-- where the first stands that does not, behind the last where all do
abbrev pub first_over : Bool → List Peer → ℕ
first_over is_end [] = 0
first_over is_end (peer ∷ peers) = if goes_on is_end peer then first_over is_end peers + 1 else 0
