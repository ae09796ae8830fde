-- How the turn and the disk stand where a client is written to (ours): the shelf shows the law's entries, and nothing was begun.
use Rattle.std.specs.Prelude.{◌≡◌, ◌<◌, ◌≤◌, ◌⊎◌, ◌+◌, ◌-◌, ◌*◌, ℕ, false, true, List, length, min, slice_get, Option, Some, None}
use Rattle.std.specs.List.{list_any}
use Rattle.pp_desk.specs.Anything.{anything}
use Rattle.pp_due.specs.OnDisk.{next_on_disk}
use Rattle.pp_flow_law.specs.Tables.{none_leaves}
use Rattle.pp_law.specs.Chunks.{chunk_len, filled}
use Rattle.pp_law.specs.State.{State, Entry, Instance, Owed, Handling}
use Rattle.pp_law.specs.Store.{is_at_rest, is_closed}
use Rattle.pp_law.specs.Table.{extent_of, instance, kept_row}
use Rattle.pp_peers.specs.declared.peers.Peer.{Peer}
use Rattle.pp_seats.specs.declared.seat.Next.{Next}
use Rattle.pp_seats.specs.declared.seat.Seat.{Seat}
use Rattle.pp_shelf_law.specs.Folder.{disk_of}
use Rattle.pp_shelf_law.specs.Kept.{HasOneRow}
use Rattle.pp_shelf_law.specs.Shelf.{ShowsShelf}
use Rattle.pp_state.specs.Ends.{numbers_of, place_of}
use Rattle.pp_state.specs.declared.state.State.{State as Turn}
use Rattle.pp_store.specs.Held.{Holds}
use Rattle.pp_store.specs.Kept.{KeptMap}
use Rattle.pp_turns_law.specs.Turns.{IsFollowing, ShowsTurn}
use Rattle.pp_world.specs.Log.{Log, Told}

-- ---- what stands of the disk

-- a row in memory, and the entry that stands for it, are of one version
abbrev pub HaveOneVersion : State → Type 0
HaveOneVersion s = (id : ℕ) (x : Instance) (e : Entry) → instance s id ≡ Some x → x.is_retired ≡ false → kept_row s x.key ≡ Some e → e.version ≡ x.version

-- of a chunk that is kept all is in memory, or nothing
abbrev pub AreWhole : State → Type 0
AreWhole s = (id i : ℕ) (x : Instance) → instance s id ≡ Some x → i * chunk_len < extent_of s x → (filled id i s.chunks ≡ 0) ⊎ (filled id i s.chunks ≡ min chunk_len (x.version.length - i * chunk_len))

-- all of it is carried on
pub record StandsOnDisk (shelf : KeptMap) (s : State) : Type 0 where
  -- `is_done_on_disk` of pp_law, as Keeping is left; an event begins nothing
  pub rests : is_at_rest s ≡ true
  -- `rests`, `names` and `alone` of StandsToKeep of pp_keeps_law
  pub shows : ShowsShelf shelf s
  pub names : list_any (λ e. is_closed s e.name) s.entries ≡ false
  pub alone : HasOneRow s
  -- where another version comes the key is cleared, and its entry stale (`pp_laws_versions`)
  pub versions : HaveOneVersion s
  -- a run is sealed of whole chunks, chunks leave memory whole, and below the extent none joins (`join_run`): `pp_laws_versions`
  pub whole : AreWhole s

-- ---- where an event is handled

-- this is still owed to it; the turn shows the law's state
pub record StandsInEvent (number : ℕ → ℕ) (owed : Owed) (peers : List Peer) (p : Turn) (shelf : KeptMap) (s : State) : Type 0 where
  -- IsAt of Stands
  pub none : s.made_room_for ≡ None
  pub at : s.phase ≡ Handling
  pub owes : s.owed ≡ owed
  -- ShowsDesk of pp_endings_law, `turn`
  pub turn : ShowsTurn number none_leaves peers p s
  pub disk : StandsOnDisk shelf s

-- the client at this place is written to, and its next byte is on the disk alone
pub record IsToLoad (id i : ℕ) (p : Turn) (seat : Seat) (next : Next) : Type 0 where
  pub place : place_of id (numbers_of p.seats.items) ≡ Some i
  pub here : slice_get p.seats.items i ≡ Some seat
  pub going : seat.is_closing ≡ false
  -- AreReady of pp_turns_law, `follows`
  pub follows : IsFollowing p.cache seat
  pub alone : next_on_disk p seat ≡ Some next
  -- no instance is longer than 1 GiB (`can_keep` of pp_valid, at its making)
  pub near : next.at ≤ 1073741824
  -- where an event is awaited there is room for 32 more (`waits` of HasRoom of `pp_laws_room`)
  pub room : length p.cache.chunks + 3 ≤ p.cache.size

-- ---- the log

-- it is told behind the read; before it the shelf holds in it, and it tells the law's disk
pub record IsOnLog (shelf : KeptMap) (old new : Option Log) (s : State) : Type 0 where
  pub log : Log
  pub told : new ≡ Some log
  -- of `load_and_say` of pp_talk, `holds`
  pub holds : Told old (Holds anything shelf)
  -- DisksAreTheLogs of pp_shelf_law
  pub disk : Told old (λ l. s.disk ≡ disk_of l)
