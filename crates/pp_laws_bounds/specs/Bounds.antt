-- How much there is at most, behind each front of each lawful log. All of it is ours.
use Rattle.std.specs.Prelude.{◌≡◌, ℕ, ◌≤◌, Bool, false, ◌==◌, ◌&&◌, List, ◌++◌, length, filter, bytes_eq, is_some}
use Rattle.pp_world.specs.Log.{Log}
use Rattle.pp_law.specs.Lawful.{Lawful}
use Rattle.pp_law.specs.Lists.{Bytes}
use Rattle.pp_law.specs.Stages.{bound_of}
use Rattle.pp_law.specs.State.{State, Term, Conn, Exchange}
use Rattle.pp_law.specs.Table.{pins, rows}
use Rattle.pp_laws.specs.Runs.{state_after, IsIn}

-- it holds at each moment of each lawful log
abbrev pub Always : (State → Type 0) → Type 0
Always Holds = (terms : List Term) (front rest : Log) → Lawful terms (front ++ rest) → Holds (state_after terms front)

-- ---- connections

-- at most 64 connections to origins are there
abbrev pub HasFewConnections : State → Type 0
HasFewConnections s = length s.conns ≤ 64

abbrev pub goes_to : Bytes → ℕ → Conn → Bool
goes_to host port k = bytes_eq k.host host && (k.port == port)

-- to each host and port at most as many as the setting says
abbrev pub KeepsToHosts : State → Type 0
KeepsToHosts s = (host : Bytes) (port : ℕ) → length (filter (goes_to host port) s.conns) ≤ s.settings.host_connections

-- at most 8 asks stand in the line of a connection
abbrev pub HasShortLines : State → Type 0
HasShortLines s = (k : Conn) → IsIn k s.conns → length k.line ≤ 8

-- ---- exchanges

-- until Stop at most 512 exchanges have a place
abbrev pub has_place : Exchange → Bool
has_place e = is_some e.place

abbrev pub HasFewPlaced : State → Type 0
HasFewPlaced s = s.is_stopped ≡ false → length (filter has_place s.exchanges) ≤ 512

-- ---- rows

-- at most 1,024 rows are in memory
abbrev pub HasFewRows : State → Type 0
HasFewRows s = rows s ≤ 1024

-- the body of its response belongs to a row, or to a version that was retired
abbrev pub belongs_to_row : Exchange → Bool
belongs_to_row e = is_some (bound_of e)

-- at most 64 exchanges bring such bodies
abbrev pub HasFewBodies : State → Type 0
HasFewBodies s = length (filter belongs_to_row s.exchanges) ≤ 64

-- at most 320 chunks are pinned: the next of each client that follows, and of each such exchange
abbrev pub HasFewPins : State → Type 0
HasFewPins s = length (pins s) ≤ 320

-- ---- clients

-- at most 256 clients are there
abbrev pub HasFewClients : State → Type 0
HasFewClients s = length s.clients ≤ 256
