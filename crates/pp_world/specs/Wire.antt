-- What each call of a Wire appends to the log, by its arguments and its answer, and what it may answer.
use Rattle.std.specs.Prelude.{◌≡◌, ◌<◌, ◌≤◌, ◌^◌, ◌-◌, ℕ, Bool, true, false, IsTrue, ◌==◌, ⊤, List, [], ◌∷◌, length, take, Option, Some, None, Result, Ok, Err}
use Rattle.std.specs.List.{list_any}
use Rattle.pp_world.specs.declared.event.Event.{Event}
use Rattle.pp_world.specs.declared.event.Event.TheVariants.{Stop, Tick, Accepted, Readable, Writable, Reached as NowReached, Broken}
use Rattle.pp_world.specs.declared.event.Got.{Got as Found}
use Rattle.pp_world.specs.declared.event.Got.TheVariants.{Bytes, End, NotYet}
use Rattle.pp_world.specs.declared.event.Side.{Side}
use Rattle.pp_world.specs.declared.event.Side.TheVariants.{Client, Origin}
use Rattle.pp_world.specs.declared.event.Wants.{Wants}
use Rattle.pp_world.specs.declared.happening.Happening.{Happening}
use Rattle.pp_world.specs.declared.happening.Happening.TheVariants.{Waits, Clock, Opened, CanRead, CanWrite, Heard, HungUp, Said, Shut, Dialled, Undialled, Reached, Ended, Broke, Asked, Got, Dropped, NoneYet, Noted, Listens, Configured, Printed, Stopped}
use Rattle.pp_world.specs.declared.note.Note.{Note}
use Rattle.pp_world.specs.declared.note.Note.TheVariants.{Taken, Cut, Kept, Gone, Forgotten, Evicted, Loaded}
use Rattle.pp_world.specs.declared.note.Remark.{Remark}
use Rattle.pp_world.specs.declared.note.Remark.TheVariants.{Taken as WasTaken, Cut as WasCut, Kept as WasKept, Gone as WasGone, Forgotten as WasForgotten, Evicted as WasEvicted, Loaded as WasLoaded}
use Rattle.pp_world.specs.declared.wire.ConfigFault.{ConfigFault}
use Rattle.pp_world.specs.declared.wire.ConfigFault.TheVariants.{Unreadable, OutOfMemory}
use Rattle.pp_world.specs.declared.wire.WireFault.{WireFault}
use Rattle.pp_world.specs.Connections.{side_of, is_dialled}
use Rattle.pp_world.specs.Log.{Log, Rises}

-- by whose connection it is; a call is made on open ones alone
abbrev pub by_side : Option Side → Happening → Happening → Happening
by_side (Some Client) client origin = client
by_side (Some Origin) client origin = origin
by_side None client origin = origin

-- next

abbrev pub event_happening : Event → Happening
event_happening Stop = Stopped
event_happening (Tick seconds) = Clock seconds
event_happening (Accepted c) = Opened c
event_happening (Readable id) = CanRead id
event_happening (Writable id) = CanWrite id
event_happening (NowReached k) = Reached k
event_happening (Broken k) = Broke k

abbrev pub wait_happenings : Wants → Event → Log
wait_happenings wants event = Waits wants ∷ event_happening event ∷ []

abbrev pub has_number : ℕ → List ℕ → Bool
has_number id numbers = list_any (λ n. n == id) numbers

-- accepts only where that is wanted, and names only wanted connections as readable or writable
abbrev pub is_wanted : Wants → Event → Bool
is_wanted wants (Accepted c) = wants.accept
is_wanted wants (Readable id) = has_number id wants.read.items
is_wanted wants (Writable id) = has_number id wants.write.items
is_wanted wants event = true

-- names as reached or broken only one that was dialled in this life and is not closed
abbrev pub is_on_dialled : Event → Log → Bool
is_on_dialled (NowReached k) log = is_dialled k log
is_on_dialled (Broken k) log = is_dialled k log
is_on_dialled event log = true

abbrev pub IsOnDialled : Event → Log → Type 0
IsOnDialled event log = IsTrue (is_on_dialled event log)

-- a number above all that were given; so none is given once the greatest number was
pub record IsNewNumber (top number : ℕ) : Type 0 where
  pub above : top < number
  pub fits : number ≤ 2 ^ 64 - 1

abbrev pub IsNumbered : ℕ → Event → Type 0
IsNumbered top (Accepted c) = IsNewNumber top c
IsNumbered top event = ⊤

abbrev pub top_after : ℕ → Event → ℕ
top_after top (Accepted c) = c
top_after top event = top

-- read

abbrev pub IsWithin : ℕ → Found → Type 0
IsWithin room (Bytes n) = (0 < n) × (n ≤ room)
IsWithin room End = ⊤
IsWithin room NotYet = ⊤

abbrev pub read_happening : ℕ → Result Found WireFault → List ℕ → Log → Happening
read_happening id (Ok (Bytes n)) buffer log = by_side (side_of id log) (Heard id (take n buffer)) (Got id (take n buffer))
read_happening id (Ok End) buffer log = by_side (side_of id log) (HungUp id) (Ended id)
read_happening id (Ok NotYet) buffer log = NoneYet id
read_happening id (Err fault) buffer log = by_side (side_of id log) (HungUp id) (Broke id)

-- write

abbrev pub write_happening : ℕ → List ℕ → Result ℕ WireFault → Log → Happening
write_happening id bytes (Ok n) log = by_side (side_of id log) (Said id (length bytes) (take n bytes)) (Asked id (take n bytes))
write_happening id bytes (Err fault) log = by_side (side_of id log) (HungUp id) (Broke id)

-- listen, dial, close

abbrev pub listen_happening : ℕ → Result (Unit {0}) WireFault → Happening
listen_happening port (Ok done) = Listens port true
listen_happening port (Err fault) = Listens port false

abbrev pub dial_happening : List ℕ → ℕ → Result ℕ WireFault → Happening
dial_happening host port (Ok k) = Dialled k host port
dial_happening host port (Err fault) = Undialled host port

abbrev pub close_happening : ℕ → Log → Happening
close_happening id log = by_side (side_of id log) (Shut id) (Dropped id)

-- note, print

abbrev pub remark_of : Note → Remark
remark_of (Taken c i decision) = WasTaken c i decision
remark_of (Cut c cause) = WasCut c cause
remark_of (Kept key tag length extent) = WasKept key.now tag.now length extent
remark_of (Gone key) = WasGone key.now
remark_of (Forgotten key) = WasForgotten key.now
remark_of (Evicted key tag length chunk) = WasEvicted key.now tag.now length chunk
remark_of (Loaded key tag length chunk) = WasLoaded key.now tag.now length chunk

abbrev pub note_happening : Note → Happening
note_happening note = Noted (remark_of note)

abbrev pub print_happening : List ℕ → Happening
print_happening bytes = Printed bytes

-- config

abbrev pub config_happenings : List ℕ → Result (List ℕ) ConfigFault → Log
config_happenings name (Ok text) = Configured name (Some text) ∷ []
config_happenings name (Err Unreadable) = Configured name None ∷ []
config_happenings name (Err OutOfMemory) = []

-- unreadable only where the count rose; where memory was refused, it is as before
abbrev pub ConfigCause : Option Log → ℕ → ℕ → Result (List ℕ) ConfigFault → Type 0
ConfigCause log before now (Ok text) = ⊤
ConfigCause log before now (Err Unreadable) = Rises log before now
ConfigCause log before now (Err OutOfMemory) = now ≡ before
