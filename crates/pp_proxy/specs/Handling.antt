-- An event, with at most one read or one write (ours).
use Rattle.std.specs.Prelude.{◌≡◌, ◌<◌, ◌≤◌, ℕ, true, false, max, length, vec_capacity, List, Option, Some, None}
use Rattle.std.specs.List.{find}
use Rattle.pp_desk.specs.Closings.{KeepsDesk, Sides, sides}
use Rattle.pp_desk.specs.Marks.{touched}
use Rattle.pp_desk.specs.Replies.{EndsReplies}
use Rattle.pp_desk.specs.declared.desk.Desk.{Desk}
use Rattle.pp_origins.specs.Asked.{Asks}
use Rattle.pp_origins.specs.Gots.{Receives, both}
use Rattle.pp_origins.specs.Responses.{origin_gone}
use Rattle.pp_peers.specs.Peers.{is_number, with_peer}
use Rattle.pp_peers.specs.declared.peers.Peer.{Peer}
use Rattle.pp_proxy.specs.Accepting.{IsAccepted}
use Rattle.pp_proxy.specs.Leaving.{Regains}
use Rattle.pp_proxy.specs.Moving.{Turning, at_desk}
use Rattle.pp_proxy.specs.Rounds.{Becomes}
use Rattle.pp_proxy.specs.Ticks.{ticked}
use Rattle.pp_state.specs.Ends.{AreInOrder, numbers_of, place_of}
use Rattle.pp_state.specs.Numbers.{places, with_number}
use Rattle.pp_talk.specs.Loading.{LoadsAndSays}
use Rattle.pp_talk.specs.Talking.{Hears}
use Rattle.pp_world.specs.declared.event.Event.{Event}
use Rattle.pp_world.specs.declared.event.Event.TheVariants.{Stop, Tick, Accepted, Readable, Writable, Reached, Broken}

-- ---- of the desk alone

-- all are looked at
pub record Stops (old new : Desk) : Type 0 where
  pub awake : length old.state.seats.items ≤ vec_capacity old.state.awake → new.state.awake.items ≡ places (length old.state.seats.items)
  pub room : vec_capacity old.state.awake ≤ vec_capacity new.state.awake
  pub rest : record new { state = record new.state { awake = old.state.awake } } ≡ record old { state = record old.state { is_stopped = true } }

pub record TicksOn (seconds : ℕ) (old new : Desk) : Type 0 where
  pub is : sides new ≡ ticked (max old.state.now seconds) old.state (sides old)
  pub awake : length old.state.seats.items ≤ vec_capacity old.state.awake → new.state.awake.items ≡ places (length old.state.seats.items)
  pub room : vec_capacity old.state.awake ≤ vec_capacity new.state.awake
  pub rest : record new { state = record new.state { seats = old.state.seats; flow = old.state.flow; cache = old.state.cache; refused = old.state.refused; is_astray = old.state.is_astray; awake = old.state.awake }; peers = old.peers } ≡ record old { state = record old.state { now = max old.state.now seconds; has_ticked = true; is_ticked = true; has_lost_draft = false } }

-- this one is looked at too
pub record Rouses (i : ℕ) (old new : Desk) : Type 0 where
  pub awake : AreInOrder old.state.awake.items → length old.state.awake.items < vec_capacity old.state.awake → new.state.awake.items ≡ with_number i old.state.awake.items
  pub room : vec_capacity old.state.awake ≤ vec_capacity new.state.awake
  pub rest : record new { state = record new.state { awake = old.state.awake } } ≡ old

-- attempts count anew, and the connection is not idle
pub record Wakes (id : ℕ) (old new : Desk) : Type 0 where
  pub anew : Desk
  pub regains : Regains old anew
  pub touches : Becomes (touched anew.state.now id) anew new

-- the connection was reached
abbrev pub reached_in : Option Peer → ℕ → List Peer → List Peer
reached_in None k peers = peers
reached_in (Some peer) k peers = with_peer k (record peer { is_reached = true }) peers

abbrev pub reached_at : ℕ → Sides → Sides
reached_at k x = record x { peers = reached_in (find (is_number k) x.peers) k x.peers }

pub record Reaches (k : ℕ) (old new : Desk) : Type 0 where
  pub woken : Desk
  pub touches : Becomes (touched old.state.now k) old woken
  pub reaches : Becomes (reached_at k) woken new

-- the connection is gone
pub record Breaks (k : ℕ) (old new : Desk) : Type 0 where
  pub anew : Desk
  pub regains : Regains old anew
  pub ends : EndsReplies anew.state.awake.items (origin_gone false k (sides anew)) (sides new)
  pub numbers : numbers_of new.state.seats.items ≡ numbers_of anew.state.seats.items
  pub rest : KeepsDesk anew (record new { «data» = anew.«data» })
  pub room : vec_capacity anew.«data» ≤ vec_capacity new.«data»

-- ---- what stays of all else

-- no word, and no call of the disk
pub record IsSilent (x y : Turning) : Type 0 where
  pub shelf : y.shelf ≡ x.shelf
  pub links : y.moving.links ≡ x.moving.links
  pub top : y.moving.top ≡ x.moving.top
  pub told : y.log ≡ x.log
  pub count : x.faults ≤ y.faults

-- one read, or one write, of a connection. Where it fails, that is no failure of the outside
pub record IsOfOne (x y : Turning) : Type 0 where
  pub shelf : y.shelf ≡ x.shelf
  pub links : y.moving.links ≡ x.moving.links
  pub top : y.moving.top ≡ x.moving.top
  pub count : x.faults ≤ y.faults

-- ---- with a read or a write

-- a client is read
pub record HearsAt (i : ℕ) (x y : Turning) : Type 0 where
  pub roused : Desk
  pub rouses : Rouses i x.moving.desk roused
  pub hears : Hears (length roused.buffer.items) i roused.state.awake.items x.moving.links (sides roused) (sides y.moving.desk) x.log y.log
  pub numbers : numbers_of y.moving.desk.state.seats.items ≡ numbers_of x.moving.desk.state.seats.items
  pub rest : KeepsDesk roused (record y.moving.desk { buffer = roused.buffer })
  pub long : length y.moving.desk.buffer.items ≡ length roused.buffer.items
  pub one : IsOfOne x y

-- a client is said what is there for it, behind the read of its next chunk where that is on the disk alone
pub record SaysAt (i : ℕ) (x y : Turning) : Type 0 where
  pub roused : Desk
  pub rouses : Rouses i x.moving.desk roused
  pub says : LoadsAndSays i x.moving.links x.shelf roused y.shelf y.moving.desk x.log y.log x.faults y.faults
  pub numbers : numbers_of y.moving.desk.state.seats.items ≡ numbers_of x.moving.desk.state.seats.items
  pub links : y.moving.links ≡ x.moving.links
  pub top : y.moving.top ≡ x.moving.top

-- an origin is offered what is left to ask
pub record AsksOn (k : ℕ) (x y : Turning) : Type 0 where
  pub asks : Asks k x.moving.desk.state.now x.moving.desk.state.awake.items x.moving.links (sides x.moving.desk) (sides y.moving.desk) x.log y.log
  pub numbers : numbers_of y.moving.desk.state.seats.items ≡ numbers_of x.moving.desk.state.seats.items
  pub rest : KeepsDesk x.moving.desk (record y.moving.desk { «data» = x.moving.desk.«data» })
  pub room : vec_capacity x.moving.desk.«data» ≤ vec_capacity y.moving.desk.«data»
  pub one : IsOfOne x y

-- an origin is read, where there is room for the data of all that one read may bring
pub record ReceivesOn (k : ℕ) (x y : Turning) : Type 0 where
  pub receives : length x.moving.desk.buffer.items ≤ vec_capacity x.moving.desk.«data» → Receives (length x.moving.desk.buffer.items) x.shelf k x.moving.links (both x.moving.desk) (both y.moving.desk) x.log y.log
  pub numbers : numbers_of y.moving.desk.state.seats.items ≡ numbers_of x.moving.desk.state.seats.items
  pub long : length y.moving.desk.buffer.items ≡ length x.moving.desk.buffer.items
  pub room : vec_capacity x.moving.desk.«data» ≤ vec_capacity y.moving.desk.«data»
  pub rest : record y.moving.desk { state = x.moving.desk.state; peers = x.moving.desk.peers; buffer = x.moving.desk.buffer; «data» = x.moving.desk.«data» } ≡ x.moving.desk
  pub one : IsOfOne x y

abbrev pub ReadsBy : Option ℕ → ℕ → Turning → Turning → Type 0
ReadsBy (Some i) id x y = HearsAt i x y
ReadsBy None id x y = ReceivesOn id x y

abbrev pub WritesBy : Option ℕ → ℕ → Turning → Turning → Type 0
WritesBy (Some i) id x y = SaysAt i x y
WritesBy None id x y = AsksOn id x y

pub record ReadsAt (id : ℕ) (x y : Turning) : Type 0 where
  pub woken : Desk
  pub wakes : Wakes id x.moving.desk woken
  pub reads : ReadsBy (place_of id (numbers_of woken.state.seats.items)) id (at_desk woken x) y

pub record WritesAt (id : ℕ) (x y : Turning) : Type 0 where
  pub woken : Desk
  pub wakes : Wakes id x.moving.desk woken
  pub writes : WritesBy (place_of id (numbers_of woken.state.seats.items)) id (at_desk woken x) y

-- ---- each

abbrev pub Handles : Event → Turning → Turning → Type 0
Handles Stop x y = Stops x.moving.desk y.moving.desk × IsSilent x y
Handles (Tick seconds) x y = TicksOn seconds x.moving.desk y.moving.desk × IsSilent x y
Handles (Accepted c) x y = IsAccepted c x.moving.desk y.moving.desk × IsSilent x y
Handles (Readable id) x y = ReadsAt id x y
Handles (Writable id) x y = WritesAt id x y
Handles (Reached k) x y = Reaches k x.moving.desk y.moving.desk × IsSilent x y
Handles (Broken k) x y = Breaks k x.moving.desk y.moving.desk × IsSilent x y
