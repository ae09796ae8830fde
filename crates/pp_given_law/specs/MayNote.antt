-- Where an event is awaited there is room to note the name of each row that is in memory (ours): so whatever attempts are lost by it, each name
-- is noted.
--
-- Behind the disk no name is noted. Decisions and rounds note that of the key of an exchange whose row is cleared, and no step of theirs brings
-- another key in: so no more names are noted than clients and exchanges have as they begin. Those of 256 clients are some, and those of exchanges
-- with a place, which are 512 at most; one without a place is a client's, and has the key of its request. The cache may note 2,048 names; with
-- these there may be 1,024 rows.
--
-- Where the premises come from: where decisions begin is HasBeenKept of `pp_joints_law`; that nothing is noted there is NothingIsNoted of
-- `pp_grown_law`. As replies begin nothing is noted (Begun of `pp_rounds_law`). Behind the wait the turn shows the law's state (HasRested of
-- `pp_waits_law`), beside a log that obeys the law.
use Rattle.std.specs.Prelude.{◌≡◌, ◌<◌, ◌≤◌, ◌+◌, ℕ, false, List, [], count_by, length, slice_get, Some}
use Rattle.pp_desk.specs.declared.desk.Desk.{Desk}
use Rattle.pp_flow_law.specs.Tables.{Leaving, none_leaves}
use Rattle.pp_law.specs.State.{State, Deciding, Term}
use Rattle.pp_objects.specs.Instances.{is_row}
use Rattle.pp_obeys.specs.Obeys.{Obeys}
use Rattle.pp_peers.specs.declared.peers.Peer.{Peer}
use Rattle.pp_proxy.specs.Awaiting.{Awaits, Rests}
use Rattle.pp_seats.specs.declared.seat.Seat.{Seat}
use Rattle.pp_state.specs.Ends.{Parts, parts}
use Rattle.pp_state.specs.declared.state.State.{State as Turn}
use Rattle.pp_stays_law.specs.Names.{AllAskAmong, AsksAmong, HasRoomToNote, is_unnoted}
use Rattle.pp_stays_law.specs.Steps.{StaysInATurn}
use Rattle.pp_store.specs.Kept.{KeptMap}
use Rattle.pp_turns_law.specs.Rows.{AreReady}
use Rattle.pp_turns_law.specs.Turns.{ShowsTurn}
use Rattle.pp_world.specs.Log.{Log}
use Rattle.pp_world.specs.declared.event.Wants.{Wants}

-- ---- names

-- what is noted, and what is not noted yet of the names of all keys that clients and exchanges have, is at most so many
pub record NamesAreFew (most : ℕ) (p : Parts) : Type 0 where
  pub names : List (List ℕ)
  pub seats : (i : ℕ) (seat : Seat) → slice_get p.seats i ≡ Some seat → AsksAmong names seat
  pub waiting : AllAskAmong names p.flow.waiting
  pub placed : AllAskAmong names p.flow.placed
  pub few : length p.cache.outdated + count_by (is_unnoted p.cache.outdated) names ≤ most

-- 256 clients, and 512 exchanges that have a place
abbrev pub most_names : ℕ
most_names = 768

-- ---- where decisions begin, and what follows

-- before Stop
abbrev pub NamesAreFewAtFirst : Type 0
NamesAreFewAtFirst = (terms : List Term) (log : Log) (number : ℕ → ℕ) (peers : List Peer) (p : Turn) (s : State) → Obeys terms s log → s.phase ≡ Deciding → s.is_stopped ≡ false → ShowsTurn number none_leaves peers p s → AreReady number p.cache s.next_instance p.seats.items → p.cache.outdated ≡ []
    → NamesAreFew most_names (parts p)

-- as a life begins nobody is there, and nothing is noted
abbrev pub NobodyHasNames : Type 0
NobodyHasNames = (most : ℕ) (p : Parts) → p.seats ≡ [] → p.flow.waiting ≡ [] → p.flow.placed ≡ [] → p.cache.outdated ≡ [] → NamesAreFew most p

-- behind each step of decisions and rounds
abbrev pub NamesStayFew : Type 0
NamesStayFew = (terms : List Term) (shelf : KeptMap) (most : ℕ) → StaysInATurn terms shelf (λ p s. NamesAreFew most (parts p))

-- so there is room for all of them (HasRoomToNote of `pp_stays_law`)
abbrev pub FewNamesHaveRoom : Type 0
FewNamesHaveRoom = (most : ℕ) (p : Parts) → most < 2048 → NamesAreFew most p → HasRoomToNote p

-- ---- behind the wait

-- where so few are noted before it: MayNote of `pp_joints_law`
abbrev pub RowsMayBeNoted : Type 0
RowsMayBeNoted = (terms : List Term) (log : Log) (number : ℕ → ℕ) (l : Leaving) (before : List ℕ) (w : Wants) (clients : ℕ) (d e f : Desk) (s : State) → length d.state.cache.outdated ≤ most_names → Awaits before w clients d e → Rests w clients e f → Obeys terms s log → ShowsTurn number l f.peers f.state s
    → length f.state.cache.outdated + count_by is_row f.state.cache.instances < 2048
