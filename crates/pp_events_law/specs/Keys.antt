-- Over an event a life that went astray stays so; and where it did not, memory was given for the key of each head that was read (RFC 2616,
-- section 5; ours).
--
-- Each is of the program alone, of what `Handles` of pp_proxy says of the event, and has no premise. A read of an origin is in
-- `pp_reads_law`: it is a premise of the last.
use Rattle.std.specs.Prelude.{◌≡◌, ℕ, true, false, List}
use Rattle.pp_desk.specs.Closings.{Sides}
use Rattle.pp_desk.specs.Replies.{EndsReplies}
use Rattle.pp_desk.specs.declared.desk.Desk.{Desk}
use Rattle.pp_proxy.specs.Handling.{AsksOn, Handles, HearsAt, ReceivesOn, SaysAt, Wakes}
use Rattle.pp_proxy.specs.Moving.{Turning, at_desk}
use Rattle.pp_state.specs.Ends.{Parts, parts}
use Rattle.pp_world.specs.declared.event.Event.{Event}
use Rattle.pp_events_law.specs.Ready.{KeysAreGiven}

pub record KeepsKeys (p q : Parts) : Type 0 where
  pub astray : p.is_astray ≡ true → q.is_astray ≡ true
  -- the premise of `StaysReady`
  pub given : q.is_astray ≡ false → KeysAreGiven p.seats q.seats

abbrev pub GivesKeys : Turning → Turning → Type 0
GivesKeys x y = KeepsKeys (parts x.moving.desk.state) (parts y.moving.desk.state)

-- ---- with a read or a write

abbrev pub ClientReadsGiveKeys : Type 0
ClientReadsGiveKeys = (i : ℕ) (x y : Turning) → HearsAt i x y → GivesKeys x y

-- behind any write, and where a connection is gone: the next request of who was answered is read
abbrev pub EndedRepliesGiveKeys : Type 0
EndedRepliesGiveKeys = (places : List ℕ) (x y : Sides) → EndsReplies places x y → KeepsKeys x.parts y.parts

abbrev pub ClientWritesGiveKeys : Type 0
ClientWritesGiveKeys = (i : ℕ) (x y : Turning) → SaysAt i x y → GivesKeys x y

abbrev pub OriginWritesGiveKeys : Type 0
OriginWritesGiveKeys = (k : ℕ) (x y : Turning) → AsksOn k x y → GivesKeys x y

-- ---- each event

-- where it is the read of an origin, that gives them
abbrev pub OriginReadGives : Turning → Turning → Type 0
OriginReadGives x y = (k : ℕ) (woken : Desk) → Wakes k x.moving.desk woken → ReceivesOn k (at_desk woken x) y → GivesKeys x y

abbrev pub HandlesGiveKeys : Type 0
HandlesGiveKeys = (event : Event) (x y : Turning) → OriginReadGives x y → Handles event x y → GivesKeys x y
