-- What a world in memory is to its callers: its log, which of its calls fail, and its configuration.
use Rattle.std.specs.Prelude.{◌≡◌, ◌<◌, ℕ, ◌+◌, ◌-◌, ◌^◌, Bool, true, false, ◌||◌, ◌&&◌, nat_le, if◌then◌else◌, ⊤, List, Option, Some, None, IsSome, Result, Ok, Err}
use Rattle.pp_world.specs.declared.event.Event.{Event}
use Rattle.pp_world.specs.declared.event.Event.TheVariants.{Stop, Tick, Accepted, Readable, Writable, Reached, Broken}
use Rattle.pp_world.specs.declared.event.Got.{Got}
use Rattle.pp_world.specs.declared.event.Side.TheVariants.{Origin}
use Rattle.pp_world.specs.declared.event.Wants.{Wants}
use Rattle.pp_world.specs.declared.wire.ConfigFault.{ConfigFault}
use Rattle.pp_world.specs.declared.wire.ConfigFault.TheVariants.{Unreadable, OutOfMemory}
use Rattle.pp_world.specs.declared.wire.WireFault.{WireFault}
use Rattle.pp_world.specs.Log.{Log, Told}
use Rattle.pp_world.specs.Wire.{has_number}
use Rattle.pp_memworld.specs.declared.memworld.MemWorld.{MemWorld}
use Rattle.pp_memworld.specs.declared.peer.Peer.{Peer}
use Rattle.pp_memworld.specs.declared.record.Record.{Record}
use Rattle.pp_memworld.specs.Calls.{call_number, is_failing}
use Rattle.pp_memworld.specs.Peer.{count_of}
use Rattle.pp_memworld.specs.Record.{one_more, record_log}
use Rattle.pp_memworld.specs.Sides.{side_at}
use Rattle.pp_memworld.specs.Traffic.{NoneLeaves, OthersStay, is_broken_at, peer_at}

abbrev pub told_log : MemWorld → Option Log
told_log w = record_log w.record

abbrev pub faults_of : MemWorld → ℕ
faults_of w = w.record.faults

abbrev pub top_number : MemWorld → ℕ
top_number w = w.record.top

abbrev pub configuration : MemWorld → List ℕ
configuration w = w.config

-- the next call that can fail does, by its number
abbrev pub fails : MemWorld → Bool
fails w = is_failing w.calls.made w.calls.failing.items

-- what came on this connection, and what it takes
abbrev pub end_at : ℕ → MemWorld → Option Peer
end_at id w = peer_at w.traffic.peers id

-- a cue broke this connection, and no read or write found that yet
abbrev pub is_broken : ℕ → MemWorld → Bool
is_broken id w = is_broken_at w.traffic.peers id

-- a read or write of this connection fails, by its number or since a cue broke the connection
abbrev pub loses : ℕ → MemWorld → Bool
loses id w = fails w || is_broken id w

-- a failure by its number does not find that a cue broke the connection
abbrev pub IsFound : ℕ → MemWorld → MemWorld → Type 0
IsFound id old new = is_broken id new ≡ (is_broken id old && fails old)

-- so many bytes a read put into the buffer
abbrev pub read_count : Result Got WireFault → ℕ
read_count (Ok got) = count_of got
read_count (Err fault) = 0

-- no connection has another end yet
abbrev pub HasNoEnds : MemWorld → Type 0
HasNoEnds w = (id : ℕ) → end_at id w ≡ None

-- a call on no connection
abbrev pub EndsStay : MemWorld → MemWorld → Type 0
EndsStay old new = new.traffic ≡ old.traffic

-- every connection that had another end has one, and so has one that is accepted now, while the log is told
abbrev pub HasEnd : Event → MemWorld → Type 0
HasEnd (Accepted n) w = Told (told_log w) (λ l. IsSome (end_at n w))
HasEnd event w = ⊤

abbrev pub NoEndLeaves : MemWorld → MemWorld → Type 0
NoEndLeaves old new = NoneLeaves old.traffic.peers new.traffic.peers

-- a call on this connection changes no other
abbrev pub ChangesOnly : ℕ → MemWorld → MemWorld → Type 0
ChangesOnly id old new = OthersStay id old.traffic.peers new.traffic.peers

-- a dial fails, by its number or since all numbers were given
abbrev pub cannot_dial : MemWorld → Bool
cannot_dial w = fails w || nat_le (2 ^ 64 - 1) w.record.top

abbrev pub is_unreadable : Result (List ℕ) ConfigFault → Bool
is_unreadable (Ok text) = false
is_unreadable (Err Unreadable) = true
is_unreadable (Err OutOfMemory) = false

abbrev pub is_refused : Result (List ℕ) ConfigFault → Bool
is_refused (Ok text) = false
is_refused (Err Unreadable) = false
is_refused (Err OutOfMemory) = true

-- the count rises by one with a failure, and stands else
abbrev pub faults_after : ℕ → Bool → ℕ
faults_after faults failed = if failed then one_more faults else faults

-- so many calls that can fail were made, which of them fail is as before, and so is the configuration
pub record Made (made : ℕ) (old new : MemWorld) : Type 0 where
  pub calls : new.calls.made ≡ made
  pub failing : new.calls.failing.items ≡ old.calls.failing.items
  pub configuration_stays : new.config ≡ old.config

abbrev pub SameCalls : MemWorld → MemWorld → Type 0
SameCalls old new = Made old.calls.made old new

abbrev pub OneMoreCall : MemWorld → MemWorld → Type 0
OneMoreCall old new = Made (call_number old.calls.made) old new

-- an event that may be reported: what is wanted, a client with the next number, what was dialled
abbrev pub IsChosen : Wants → Record → Event → Type 0
IsChosen wants r Stop = ⊤
IsChosen wants r (Tick seconds) = ⊤
IsChosen wants r (Accepted n) = (wants.accept ≡ true) × (r.top < 2 ^ 64 - 1) × (n ≡ r.top + 1)
IsChosen wants r (Readable id) = has_number id wants.read.items ≡ true
IsChosen wants r (Writable id) = has_number id wants.write.items ≡ true
IsChosen wants r (Reached k) = side_at r.sides k ≡ Some Origin
IsChosen wants r (Broken k) = side_at r.sides k ≡ Some Origin
