-- The chunk of a client's next byte is read back (ours): that is noted where the law lets it, the bytes are those that the law puts into
-- memory, and the turn shows the law's state behind it. What is said then is said with nothing to be read before.
use Rattle.std.specs.Prelude.{◌≡◌, ◌<◌, ◌⊎◌, ℕ, [], ◌∷◌, List, length, Option, None}
use Rattle.pp_cache.specs.Bounds.{IsBounded}
use Rattle.pp_due.specs.OnDisk.{next_on_disk}
use Rattle.pp_law.specs.Lists.{Bytes}
use Rattle.pp_law.specs.State.{State, WriteTo}
use Rattle.pp_law.specs.Store.{load}
use Rattle.pp_obeys.specs.Moves.{Leads}
use Rattle.pp_peers.specs.declared.peers.Peer.{Peer}
use Rattle.pp_seats.specs.declared.seat.Next.{Next}
use Rattle.pp_seats.specs.declared.seat.Seat.{Seat}
use Rattle.pp_state.specs.declared.state.State.{State as Turn}
use Rattle.pp_store.specs.Kept.{KeptMap}
use Rattle.pp_talk.specs.Loading.{LoadsNext}
use Rattle.pp_talk.specs.Talking.{offered}
use Rattle.pp_turns_law.specs.Rows.{AreReady}
use Rattle.pp_valid.specs.declared.version.Version.{Version}
use Rattle.pp_world.specs.Log.{AppendsAll, Log}
use Rattle.pp_world.specs.declared.happening.Happening.TheVariants.{Noted}
use Rattle.pp_world.specs.declared.note.Remark.TheVariants.{Loaded}
use Rattle.pp_events_law.specs.Losses.{HasLost, IsFirstOwed}
use Rattle.pp_events_law.specs.ToLoad.{IsOnLog, IsToLoad, StandsInEvent}

abbrev pub loaded_note : Bytes → Version → ℕ → Log
loaded_note key version index = Noted (Loaded key version.tag version.length index) ∷ []

-- chunks alone change, and whether some have to go
abbrev pub IsLoaded : State → State → Type 0
IsLoaded s t = t ≡ record s { chunks = t.chunks; is_evicting = t.is_evicting }

-- the write is still owed; some of what is next is at hand now, and nothing has to be read before it is said
pub record HasRead (number : ℕ → ℕ) (id : ℕ) (peers : List Peer) (p q : Turn) (shelf behind : KeptMap) (seat : Seat) (old new : Option Log) (s : State) : Type 0 where
  pub key : Bytes
  pub version : Version
  pub index : ℕ
  pub told : AppendsAll old new (λ l. loaded_note key version index)
  pub leads : Leads (loaded_note key version index) s (load key index s)
  pub stands : StandsInEvent number (WriteTo id) peers q behind (load key index s)
  pub held : next_on_disk q seat ≡ None
  pub some : 0 < length (offered seat.client.reply q.cache)
  -- all else is as it was, of the turn and of the law's state
  pub rest : record q { cache = p.cache; is_evicting = p.is_evicting } ≡ p
  pub law : IsLoaded s (load key index s)
  pub ready : AreReady number p.cache s.next_instance p.seats.items → AreReady number q.cache (load key index s).next_instance q.seats.items

-- or it could not be read. The cache is bounded behind it, as each is
abbrev pub ChunksAreReadBack : Type 0
ChunksAreReadBack = (number : ℕ → ℕ) (id i : ℕ) (peers : List Peer) (p q : Turn) (shelf behind : KeptMap) (seat : Seat) (next : Next) (old new : Option Log) (before now : ℕ) (s : State) → StandsInEvent number (WriteTo id) peers p shelf s → IsToLoad id i p seat next → IsOnLog shelf old new s → IsFirstOwed s → IsBounded q.cache
    → LoadsNext i shelf p behind q old new before now → HasRead number id peers p q shelf behind seat old new s ⊎ HasLost number peers p q shelf behind seat old new s
