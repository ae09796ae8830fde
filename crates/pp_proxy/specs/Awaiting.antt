-- A turn from one wait to the next: what is waited for, what the wait changes, and the event, if one came (ours).
use Rattle.std.specs.Prelude.{◌≡◌, ◌≤◌, ℕ, IsTrue, nat_lt, false, map, length, take, vec_capacity, List, [], Option, Some, None}
use Rattle.std.specs.List.{filter}
use Rattle.pp_desk.specs.Anything.{anything}
use Rattle.pp_desk.specs.declared.desk.Desk.{Desk}
use Rattle.pp_due.specs.Waits.{all_read, all_written, is_loud}
use Rattle.pp_links.specs.Links.{IsLinked}
use Rattle.pp_links.specs.Waits.{TurnsAway, links_after}
use Rattle.pp_proxy.specs.Events.{TakesEvent}
use Rattle.pp_proxy.specs.Moving.{Turning, at_desk, turning}
use Rattle.pp_proxy.specs.Turns.{max_clients, turn_by}
use Rattle.pp_proxy.specs.declared.proxy.Proxy.{Proxy}
use Rattle.pp_proxy.specs.declared.proxy.Turn.{Turn}
use Rattle.pp_proxy.specs.declared.proxy.Turn.TheVariants.{Went}
use Rattle.pp_state.specs.Ends.{AreInOrder, AreSeated, parts}
use Rattle.pp_state.specs.Unseen.{all_rested}
use Rattle.pp_store.specs.Held.{Holds}
use Rattle.pp_store.specs.Kept.{KeptMap}
use Rattle.pp_wants.specs.Awaited.{all_asked, all_got}
use Rattle.pp_wants.specs.Rests.{all_waiting, rested_peer}
use Rattle.pp_world.specs.declared.event.Event.{Event}
use Rattle.pp_world.specs.declared.event.Wants.{Wants}
use Rattle.pp_world.specs.Log.{AppendsAll, Log, Told}
use Rattle.pp_world.specs.Wire.{IsNumbered, IsOnDialled, is_wanted, top_after, wait_happenings}

-- ---- what a proxy has between two turns

-- with it, the clients that were read at the last wait
pub record Standing : Type 0 where
  pub turning : Turning
  pub read : List ℕ

abbrev pub standing : KeptMap → Proxy → ℕ → Option Log → ℕ → Standing
standing shelf p top log faults = record { turning = turning shelf p.desk p.links top log faults; read = p.wants.read.items }

-- ---- the wait

-- who is looked at from here on
abbrev pub loud_of : Desk → List ℕ
loud_of d = filter (is_loud d.state.seats.items) d.state.awake.items

-- behind a wait at which these clients were read. Of those that are read now, so many are clients: they stand first
pub record Awaits (before : List ℕ) (wants : Wants) (clients : ℕ) (old new : Desk) : Type 0 where
  pub accept : wants.accept ≡ nat_lt (length old.state.seats.items) max_clients
  pub first : AreInOrder before → clients ≡ length (all_read old.state before)
  pub read : AreSeated old.state → AreInOrder before → wants.read.items ≡ all_got (loud_of old) (parts old.state) old.peers (all_read old.state before)
  pub write : AreSeated old.state → wants.write.items ≡ all_asked (parts old.state) old.peers (all_written old.state [])
  pub awake : new.state.awake.items ≡ loud_of old
  pub room : vec_capacity new.state.awake ≡ vec_capacity old.state.awake
  pub seats : new.state.seats.items ≡ old.state.seats.items
  pub rest : record new { state = record new.state { seats = old.state.seats; awake = old.state.awake } } ≡ old

-- what it changes
pub record Rests (wants : Wants) (clients : ℕ) (old new : Desk) : Type 0 where
  pub seats : new.state.seats.items ≡ all_waiting old.state
  pub flow : new.state.flow ≡ all_rested old.state.awake.items (all_waiting old.state) old.state.flow
  pub peers : new.peers ≡ map (rested_peer clients wants old.state.now) old.peers
  pub rest : record new { state = record new.state { seats = old.state.seats; flow = old.state.flow }; peers = old.peers } ≡ record old { state = record old.state { is_ticked = false; is_evicting = false } }

-- ---- what came

-- nothing but a client for whom there is no connection left
pub record HasNoRoom (wants : Wants) (x y : Turning) : Type 0 where
  pub away : TurnsAway (length x.moving.links) wants x.log y.log x.moving.top y.moving.top
  pub desk : y.moving.desk ≡ x.moving.desk
  pub links : y.moving.links ≡ x.moving.links
  pub shelf : y.shelf ≡ x.shelf
  pub count : x.faults ≤ y.faults

abbrev pub behind : Event → Option Log → ℕ → Turning → Turning
behind event log faults x = turning x.shelf x.moving.desk (links_after (Some event) x.moving.links) (top_after x.moving.top event) log faults

-- an event that was waited for
pub record HasCome (wants : Wants) (event : Event) (x y : Turning) : Type 0 where
  pub wanted : IsTrue (is_wanted wants event)
  pub dialled : Told x.log (IsOnDialled event)
  pub number : IsNumbered x.moving.top event
  pub log : Option Log
  pub faults : ℕ
  pub told : AppendsAll x.log log (λ l. wait_happenings wants event)
  pub count : x.faults ≤ faults
  pub takes : TakesEvent event (behind event log faults x) y

abbrev pub ComesTo : Wants → Option Event → Turning → Turning → Type 0
ComesTo wants None x y = HasNoRoom wants x y
ComesTo wants (Some event) x y = HasCome wants event x y

abbrev pub turn_behind : Option Event → Turn
turn_behind None = Went
turn_behind (Some event) = turn_by event

-- ---- all of it

pub record TurnsOn (result : Turn) (x y : Standing) : Type 0 where
  -- as the turn before it left them
  pub linked : IsLinked x.turning.log x.turning.moving.top x.turning.moving.links
  pub holds : Told x.turning.log (Holds anything x.turning.shelf)
  pub wants : Wants
  pub clients : ℕ
  pub awaiting : Desk
  pub rested : Desk
  pub event : Option Event
  pub awaits : Awaits x.read wants clients x.turning.moving.desk awaiting
  pub rests : Rests wants clients awaiting rested
  pub comes : ComesTo wants event (at_desk rested x.turning) y.turning
  pub read : y.read ≡ take clients wants.read.items
  pub result_is : result ≡ turn_behind event
