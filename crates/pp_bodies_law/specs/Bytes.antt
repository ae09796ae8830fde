-- Where the bytes of a response go (RFC 2616, sections 3.6.1 and 13.5.4; RFC 7233, section 4.3): what they leave of the program shows
-- what they leave of the law.
use Rattle.std.specs.Prelude.{◌≡◌, ◌≤◌, ◌+◌, ℕ, false, List, length, Option, Some, None, ⊤}
use Rattle.std.specs.List.{find}
use Rattle.pp_cache.specs.Memory.{Memory}
use Rattle.pp_cache_law.specs.Joins.{EndsWhole, added_behind}
use Rattle.pp_flow.specs.Entries.{is_number}
use Rattle.pp_flow.specs.declared.entry.Entry.{Entry}
use Rattle.pp_flow.specs.declared.entry.Exchange.{Exchange as Asking}
use Rattle.pp_law.specs.Connections.{exchange}
use Rattle.pp_law.specs.Lists.{Bytes}
use Rattle.pp_law.specs.OwnHeads.{join_bound}
use Rattle.pp_law.specs.Passing.{pour, poured}
use Rattle.pp_law.specs.Stages.{bound_of, passed_of}
use Rattle.pp_law.specs.State.{State, Bound, Client, Exchange, Instance as Known, Passed}
use Rattle.pp_law.specs.Table.{extent_of, instance}
use Rattle.pp_objects.specs.declared.id.ObjectId.{ObjectId}
use Rattle.pp_pass.specs.Pipe.{room_of}
use Rattle.pp_seats_law.specs.Exchanges.{Binding}
use Rattle.pp_state.specs.Bodies.{IsButForCells, delivered, joined, on_asker, poured_for, poured_into}
use Rattle.pp_state.specs.Ends.{exchange_at, parts}
use Rattle.pp_state.specs.declared.state.State.{State as Core}
use Rattle.pp_states_law.specs.Charges.{IsFor}
use Rattle.pp_states_law.specs.Steps.{OfSteps, ShowsSteps}
use Rattle.pp_flow_law.specs.Tables.{Leaving}
use Rattle.pp_peers.specs.declared.peers.Peer.{Peer}

-- ---- bytes that are passed

-- the pipe of the response that is passed has room for these data
abbrev pub FitsIn : Bytes → Option Passed → Type 0
FitsIn bytes None = ⊤
FitsIn bytes (Some p) = (p.pipe.is_finished ≡ false) × (length bytes ≤ room_of p.pipe)

abbrev pub FindsPipe : Bytes → Client → Type 0
FindsPipe bytes c = FitsIn bytes (passed_of c)

-- data go into the pipe of the client that the response is passed to
abbrev pub PoursAreTheLaws : Type 0
PoursAreTheLaws = OfSteps (λ number name l peers p s. (e : Asking) (d : Exchange) (bytes : Bytes) → e.asker ≡ d.asker → IsFor s d (FindsPipe bytes)
    → ShowsSteps number name l peers (record p { seats = on_asker e (poured_into bytes) p.seats }) (pour d (poured bytes) s))

-- ---- bytes that join an instance

-- where what is kept ends with a chunk, they reach no further than its end, and a chunk is found for them
pub record FindsRoom (m : Memory) (s : State) (id : ObjectId) (b : Bound) (bytes : Bytes) (y : Known) : Type 0 where
  pub kept : EndsWhole (extent_of s y) y.version.length
  pub within : b.next + length bytes ≤ y.version.length
  pub room : (added_behind (extent_of s y) m.size id.slot b.next bytes m.chunks).need_chunk ≡ false

-- no more come than are still to come, and find room where the instance is there
abbrev pub IsToJoin : Option Binding → Option Bound → Memory → State → Bytes → Type 0
IsToJoin None bound m s bytes = ⊤
IsToJoin (Some x) None m s bytes = ⊤
IsToJoin (Some x) (Some b) m s bytes = (b.next + length bytes ≤ b.to) × ((y : Known) → instance s b.instance ≡ Some y → FindsRoom m s x.0 b bytes y)

-- of an exchange that has a place, and bytes that may join what it is bound to
pub record IsFed (p : Core) (s : State) (x : Entry) (d : Exchange) (bytes : Bytes) : Type 0 where
  pub placed : find (is_number x.exchange.number) p.flow.placed ≡ Some x
  pub known : exchange s x.exchange.number ≡ Some d
  pub joins : IsToJoin x.exchange.bound (bound_of d) p.cache s bytes

-- of all states of the program that show one of the law
abbrev pub OfCores : ((ℕ → ℕ) → Bytes → Leaving → List Peer → Core → State → Type 0) → Type 0
OfCores P = (number : ℕ → ℕ) (name : Bytes) (l : Leaving) (peers : List Peer) (p : Core) (s : State) → ShowsSteps number name l peers (parts p) s → P number name l peers p s

-- they join the instance that their exchange is bound to
abbrev pub JoinsAreTheLaws : Type 0
JoinsAreTheLaws = OfCores (λ number name l peers p s. (new : Core) (x : Entry) (d : Exchange) (bytes : Bytes) → IsFed p s x d bytes → IsButForCells (joined x.exchange bytes p) new
    → ShowsSteps number name l peers (parts new) (join_bound d bytes s))

-- data of a response came: they join, and are passed. What is put on record as sent, the log alone tells
abbrev pub DeliversAreTheLaws : Type 0
DeliversAreTheLaws = OfCores (λ number name l peers p s. (new : Core) (x : Entry) (d : Exchange) (bytes : Bytes) → IsFed p s x d bytes → IsFor s d (FindsPipe bytes)
    → new.seats.items ≡ poured_for (exchange_at x.exchange.number p.flow) bytes p.seats.items → IsButForCells (delivered x.exchange.number bytes p) (record new { seats = p.seats })
    → ShowsSteps number name l peers (parts new) (pour d (poured bytes) (join_bound d bytes s)))
