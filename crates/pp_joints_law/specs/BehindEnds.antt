-- What is carried stands behind the read of an origin that brings nothing of a response: its connection ended, or broke, or nothing came yet
-- (ours). A clean end may end a body.
--
-- Where the premises come from: as in BehindReads. There is room for the data of all that one read may bring from the opening on
-- (Opening.`HasBuffers` of `pp_desk`; at each wait `next_waits_stand_beside` of `pp_turn_law` has it). OriginReadsLead of `pp_reads_law` leads there, by numbers that may be others.
use Rattle.std.specs.Prelude.{◌≡◌, ◌≤◌, ℕ, List, [], ◌∷◌, length, vec_capacity, Some}
use Rattle.pp_events_law.specs.Stands.{HasLedBehind, come}
use Rattle.pp_joints_law.specs.Behind.{CarriesOn, HasFew, MayNote, StandsBefore}
use Rattle.pp_joints_law.specs.BehindReads.{IsTold}
use Rattle.pp_law.specs.Connections.{conn}
use Rattle.pp_law.specs.Lists.{Bytes}
use Rattle.pp_law.specs.State.{State, Conn, Term}
use Rattle.pp_links.specs.Links.{IsLinked}
use Rattle.pp_proxy.specs.Handling.{Handles}
use Rattle.pp_proxy.specs.Moving.{Turning}
use Rattle.pp_store.specs.Kept.{KeptMap}
use Rattle.pp_world.specs.Log.{Log}
use Rattle.pp_world.specs.declared.event.Event.TheVariants.{Readable}
use Rattle.pp_world.specs.declared.happening.Happening.TheVariants.{CanRead, Got}

-- no bytes came
abbrev pub BringsNoBytes : ℕ → Log → Type 0
BringsNoBytes k hs = (bytes : Bytes) → hs ≡ Got k bytes ∷ [] → ⊥

abbrev pub OriginEndsCarry : Type 0
OriginEndsCarry = (terms : List Term) (log : Log) (number other : ℕ → ℕ) (shelf : KeptMap) (k : ℕ) (x y : Turning) (s : State) (j : Conn) → StandsBefore terms log number shelf x.moving s → conn s k ≡ Some j → IsLinked x.log x.moving.top x.moving.links → IsTold y
    → length x.moving.desk.buffer.items ≤ vec_capacity x.moving.desk.«data» → Handles (Readable k) (come (Readable k) x) y → HasFew y.moving → MayNote x.moving → (it : HasLedBehind other (CanRead k) x y s) → BringsNoBytes k it.log → CarriesOn shelf y.moving it.handled.handled
