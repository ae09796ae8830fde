-- A read of an origin, and so each event: a life that went astray stays so; and where it did not, memory was given for the key of each head
-- that was read (RFC 2616, section 5; ours). Of the program alone.
--
-- Where the premise comes from: room for the data of all that one read may bring is there from the opening on (`HasBuffers` of pp_desk).
use Rattle.std.specs.Prelude.{◌≤◌, ℕ, length, vec_capacity}
use Rattle.pp_proxy.specs.Handling.{Handles, ReceivesOn}
use Rattle.pp_proxy.specs.Moving.{Turning}
use Rattle.pp_world.specs.declared.event.Event.{Event}
use Rattle.pp_events_law.specs.Keys.{GivesKeys}

abbrev pub HasRoomForData : Turning → Type 0
HasRoomForData x = length x.moving.desk.buffer.items ≤ vec_capacity x.moving.desk.«data»

abbrev pub OriginReadsGiveKeys : Type 0
OriginReadsGiveKeys = (k : ℕ) (x y : Turning) → HasRoomForData x → ReceivesOn k x y → GivesKeys x y

abbrev pub EventsGiveKeys : Type 0
EventsGiveKeys = (event : Event) (x y : Turning) → HasRoomForData x → Handles event x y → GivesKeys x y
