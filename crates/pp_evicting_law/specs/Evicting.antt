-- Behind an event: attempts count anew, rows and chunks leave memory, and asks that bring nothing are given up (RFC 7233, section 4.3, for
-- what those ask; the order is ours).
use Rattle.std.specs.Prelude.{◌≡◌, ◌⊎◌, ◌<◌, ◌/◌, ◌^◌, ℕ, true, false, [], is_some, slice_get, IfSome, Some, None}
use Rattle.std.specs.List.{list_any}
use Rattle.pp_cache.specs.Bounds.{IsBounded}
use Rattle.pp_flow.specs.Changes.{entry_of}
use Rattle.pp_flow.specs.declared.entry.Entry.{Entry}
use Rattle.pp_flow_law.specs.Tables.{none_leaves}
use Rattle.pp_law.specs.Chunks.{floor}
use Rattle.pp_law.specs.Closing.{is_over}
use Rattle.pp_law.specs.Followers.{give_up_asks}
use Rattle.pp_law.specs.Phases.{in_phase}
use Rattle.pp_law.specs.Replies.{regained}
use Rattle.pp_law.specs.Stages.{filled_of}
use Rattle.pp_law.specs.State.{State, Exchange, Evicting, Free, Handling, Keeping}
use Rattle.pp_laws.specs.Runs.{IsIn}
use Rattle.pp_laws_bounds.specs.Bounds.{HasFewBodies, HasFewClients}
use Rattle.pp_leaves_law.specs.Leaves.{left_by}
use Rattle.pp_objects.specs.Changes.{faces}
use Rattle.pp_obeys.specs.Moves.{AreCalm, Leaves as GoesOn, MovesAll}
use Rattle.pp_proxy.specs.Leaving.{Leaves}
use Rattle.pp_proxy.specs.Moving.{Moving}
use Rattle.pp_seats.specs.Follows.{next_of}
use Rattle.pp_seats.specs.declared.seat.Seat.{Seat}
use Rattle.pp_state.specs.Ends.{numbers_of}
use Rattle.pp_state.specs.Pins.{pins}
use Rattle.pp_states_law.specs.Decisions.{AreApart}
use Rattle.pp_steps.specs.Evicting.{next_victim}
use Rattle.pp_turns_law.specs.Firsts.{AreAwake}
use Rattle.pp_turns_law.specs.Rows.{AreReady}
use Rattle.pp_turns_law.specs.Turns.{ShowsTurn}
use Rattle.pp_world.specs.Log.{Log}

-- ---- where an event is handled

-- nothing is owed any more, and the turn shows the law's state, but that attempts count anew in the law alone
pub record IsDoneWithEvent (number : ℕ → ℕ) (x : Moving) (handled : State) : Type 0 where
  -- as the event leaves it (IsHandled of `pp_events_law`, `stands`)
  pub at : handled.phase ≡ Handling
  pub owes : handled.owed ≡ Free
  pub none : handled.made_room_for ≡ None
  pub turn : ShowsTurn number none_leaves x.desk.peers x.desk.state handled
  pub apart : AreApart handled
  pub awake : AreAwake x.desk.state
  -- what each client follows is there (`follows` there); the rest is from step to step
  pub ready : AreReady number x.desk.state.cache handled.next_instance x.desk.state.seats.items

-- what leaves memory is the law's
pub record MayLeave (x : Moving) (handled : State) : Type 0 where
  -- each row that leaves for another is noted in both: where a response makes a row one is taken out, and here all are noted (ReadsCome of `pp_joints_law`)
  pub forgotten : x.desk.state.forgotten ≡ handled.forgotten
  -- the trigger was reached in both, or no chunk would have to go. The program looks for it also where bytes come for an instance that is gone, and
  -- the law does not: there no more than the floor are used (DataTies of `pp_joints_law`)
  pub evicting : (x.desk.state.is_evicting ≡ handled.is_evicting) ⊎ (next_victim (pins x.desk.state) x.desk.state.floor x.desk.state.cache.chunks ≡ None)
  -- from the opening on (Opening.`IsSet` of `pp_desk`)
  pub floor_is : x.desk.state.floor ≡ floor handled
  -- the pool can number each chunk in which a next byte lies: a version that is held has no more than 1 GiB
  pub near : (i : ℕ) (seat : Seat) → slice_get x.desk.state.seats.items i ≡ Some seat → IfSome (next_of seat) (λ n. n.at / 4096 < 2 ^ 32)
  pub exchanges : (n : ℕ) (e : Entry) → entry_of n x.desk.state.flow ≡ Some e → IfSome e.exchange.bound (λ b. b.1 / 4096 < 2 ^ 32)
  -- 256 clients, and 64 exchanges that belong to a row: `bounded` of IsSoundTurn
  pub clients : HasFewClients handled
  pub bodies : HasFewBodies handled
  -- one that is nobody's and has no place is one of a follower (IsToldOn of `pp_laws_coming`, `placeless`)
  pub placeless : (e : Exchange) → IsIn e handled.exchanges → e.asker ≡ None → e.place ≡ None → is_some (filled_of e) ≡ true

-- ---- where the disk is next

-- as the law has it
abbrev pub left_behind : State → State
left_behind s = give_up_asks (in_phase Keeping (left_by (in_phase Evicting s)))

-- the turn shows the law's state; nothing is left to note, and no exchange is nobody's and nowhere
pub record StandsBehind (number : ℕ → ℕ) (y : Moving) (s : State) : Type 0 where
  pub at : s.phase ≡ Keeping
  pub owes : s.owed ≡ Free
  pub none : s.made_room_for ≡ None
  pub turn : ShowsTurn number none_leaves y.desk.peers y.desk.state s
  pub apart : AreApart s
  pub awake : AreAwake y.desk.state
  pub ready : AreReady number y.desk.state.cache s.next_instance y.desk.state.seats.items
  pub noted : y.desk.state.forgotten ≡ []
  pub forgotten : s.forgotten ≡ []
  pub going : list_any is_over s.exchanges ≡ false

-- all else of the law's state is as it was: what is on the disk, the rows, the settings and the clock
abbrev pub IsElse : State → State → Type 0
IsElse s t = record t { phase = s.phase; forgotten = s.forgotten; chunks = s.chunks; exchanges = s.exchanges } ≡ s

-- and all else of the turn: of the cache the chunks, and the cells of its rows
pub record KeepsElse (x y : Moving) : Type 0 where
  pub desk : record y.desk { state = record y.desk.state { seats = x.desk.state.seats; flow = x.desk.state.flow; cache = x.desk.state.cache; refused = x.desk.state.refused; is_astray = x.desk.state.is_astray; forgotten = x.desk.state.forgotten } } ≡ x.desk
  pub cache : record y.desk.state.cache { chunks = x.desk.state.cache.chunks; instances = x.desk.state.cache.instances } ≡ x.desk.state.cache
  pub faces_are : faces y.desk.state.cache.instances ≡ faces x.desk.state.cache.instances
  pub numbers : numbers_of y.desk.state.seats.items ≡ numbers_of x.desk.state.seats.items
  pub links : y.links ≡ x.links
  pub top : y.top ≡ x.top

-- the event is left without a happening, the notes may come then, one behind the other, and Evicting is left without one too; in none of
-- the notes the outside failed
pub record HasLeft (number : ℕ → ℕ) (x y : Moving) (log : Log) (s t : State) : Type 0 where
  pub leads : GoesOn (MovesAll (GoesOn (λ u. u ≡ t)) log) s
  pub calm : AreCalm log
  pub stands : StandsBehind number y t
  pub law : IsElse s t
  pub turn : KeepsElse x y

-- from the law's state, in which attempts count anew already; the cache is bounded behind it, as each is
abbrev pub LeavingIsTheLaws : Type 0
LeavingIsTheLaws = (number : ℕ → ℕ) (x y : Moving) (log : Log) (handled : State) → IsDoneWithEvent number x handled → MayLeave x handled → Leaves x log y → IsBounded y.desk.state.cache → HasLeft number x y log (regained handled) (left_behind (regained handled))
