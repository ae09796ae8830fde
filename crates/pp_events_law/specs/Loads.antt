-- A client is written to whose next byte is on the disk alone, whole, from where the write is owed (RFC 2616, section 6; ours): its chunk is
-- read back, and what is there is said; or it cannot be read, and nothing is said.
--
-- Where the premises come from: those of a write as in Says, but that the byte is on the disk alone; those of the disk as in ToLoad. The log is told behind it, and obeys the law up to where the write is owed. Each cache is bounded, also the one between.
use Rattle.std.specs.Prelude.{◌≡◌, ◌<◌, ◌≤◌, ◌⊎◌, ℕ, true, false, [], ◌∷◌, List, length, vec_capacity, Some}
use Rattle.pp_cache.specs.Bounds.{IsBounded}
use Rattle.pp_clients_obey.specs.Ending.{GoesOn}
use Rattle.pp_desk.specs.Anything.{anything}
use Rattle.pp_events_law.specs.Hears.{AreSettled}
use Rattle.pp_events_law.specs.Ready.{HasLedReady, StaysReady}
use Rattle.pp_events_law.specs.Stands.{AreReadyAt, IsHandled, StandsAtEvent}
use Rattle.pp_law.specs.Lists.{Bytes}
use Rattle.pp_law.specs.State.{State, Term, Handling, WriteTo}
use Rattle.pp_links.specs.Links.{IsLinked}
use Rattle.pp_obeys.specs.Obeys.{Obeys}
use Rattle.pp_proxy.specs.Handling.{SaysAt}
use Rattle.pp_proxy.specs.Moving.{Turning}
use Rattle.pp_seats.specs.Courses.{has_begun}
use Rattle.pp_seats.specs.Follows.{next_of}
use Rattle.pp_seats.specs.declared.seat.Next.{Next}
use Rattle.pp_seats.specs.declared.seat.Seat.{Seat}
use Rattle.pp_store.specs.Changes.{lost}
use Rattle.pp_store.specs.Held.{Holds}
use Rattle.pp_target.specs.Name.{name_of}
use Rattle.pp_world.specs.Log.{AppendsAll, Log, Told}
use Rattle.pp_world.specs.declared.happening.Happening.TheVariants.{Noted, Unread}
use Rattle.pp_world.specs.declared.note.Remark.TheVariants.{Gone}
use Rattle.pp_events_law.specs.Losses.{IsFirstOwed, LeadsOut, at_disk, without_entry}
use Rattle.pp_events_law.specs.ToLoad.{IsToLoad, StandsOnDisk}

pub record MayLoad (id i : ℕ) (x y : Turning) (seat : Seat) (next : Next) (s : State) : Type 0 where
  pub to : IsToLoad id i x.moving.desk.state seat next
  pub disk : StandsOnDisk x.shelf s
  pub first : IsFirstOwed s
  pub holds : Told x.log (Holds anything x.shelf)
  -- behind it the log is told
  pub log : Log
  pub told : y.log ≡ Some log
  pub within : (n : Next) → next_of seat ≡ Some n → n.to ≤ 1073741824
  pub looks : length x.moving.desk.state.awake.items < vec_capacity x.moving.desk.state.awake
  pub still : x.moving.desk.state.is_ticked ≡ false
  pub linked : IsLinked x.log x.moving.top x.moving.links
  pub settled : AreSettled x.moving.desk.state.seats.items
  pub goes : has_begun seat ≡ true → seat.closes ≡ false → GoesOn seat

-- the chunk could not be read, and nothing is said: the event is handled, and the turn stands behind it at the law's state without the entry,
-- from which the phases up to the disk lead to the law's
pub record HasLostChunk (number : ℕ → ℕ) (x y : Turning) (s : State) : Type 0 where
  pub key : Bytes
  pub told : AppendsAll x.log y.log (λ l. Unread (name_of key) ∷ Noted (Gone key) ∷ [])
  pub leads : LeadsOut key s (at_disk (without_entry key s))
  pub map : y.shelf ≡ lost key x.shelf
  pub disk : StandsOnDisk y.shelf (without_entry key s)
  pub handled : IsHandled number y.moving (without_entry key s)
  pub ready : StaysReady number x y (without_entry key s)

-- from where the write is owed
abbrev pub LoadsLead : Type 0
LoadsLead = (terms : List Term) (before : Log) (number : ℕ → ℕ) (id i : ℕ) (x y : Turning) (seat : Seat) (next : Next) (s : State) → x.log ≡ Some before → Obeys terms s before → StandsAtEvent number Handling (WriteTo id) x.moving s → AreReadyAt number x.moving s → MayLoad id i x y seat next s
    → (says : SaysAt i x y) → IsBounded says.says.loaded.state.cache → IsBounded y.moving.desk.state.cache → HasLedReady number x y s ⊎ HasLostChunk number x y s
