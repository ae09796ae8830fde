-- A client that can be written to, as it was waited for.
use Rattle.std.proofs.Common.{◌≡◌, ◌≤◌, ◌<◌, ◌⊎◌, inl, inr, refl, sym, subst, ap, ◌∙◌, ℕ, ◌+◌, ◌||◌, Bool, true, false, [], ◌∷◌, ◌++◌, length, List, Option, Some, None, arith}
use Rattle.std.specs.Option.{option_and_then}
use Rattle.pp_cache.specs.Bounds.{IsBounded}
use Rattle.pp_cache.specs.Memory.{Memory}
use Rattle.pp_cache_law.proofs.Alike.{used_of_all}
use Rattle.pp_turns_law.proofs.Twice.{regains_once}
use Rattle.pp_desk.specs.declared.desk.Desk.{Desk}
use Rattle.pp_due.specs.OnDisk.{if_on_disk, is_on_disk, next_on_disk}
use Rattle.pp_events_law.proofs.ReadyBehind.{given_on}
use Rattle.pp_events_law.proofs.Sayings.{sayings_lead}
use Rattle.pp_events_law.proofs.Written.{loads_lead}
use Rattle.pp_events_law.specs.Loads.{HasLostChunk, MayLoad}
use Rattle.pp_events_law.specs.Losses.{IsFirstOwed}
use Rattle.pp_events_law.specs.Ready.{HasLedReady, HasLedReadyBehind, KeysAreGiven}
use Rattle.pp_events_law.specs.Says.{MaySay}
use Rattle.pp_events_law.specs.Stands.{come}
use Rattle.pp_events_law.specs.ToLoad.{StandsOnDisk}
use Rattle.pp_law.specs.After.{event, owing}
use Rattle.pp_law.specs.Connections.{on_client, on_conn}
use Rattle.pp_law.specs.Opening.{is_at, is_same_phase}
use Rattle.pp_law.specs.Phases.{in_phase}
use Rattle.pp_law.specs.Replies.{regained}
use Rattle.pp_law.specs.State.{State, Evicting, Handling, Phase, Term, WriteTo}
use Rattle.pp_law.specs.Turn.{rest_with, touch}
use Rattle.pp_laws_room.proofs.RoomLaws.{turns_have_room}
use Rattle.pp_laws_turn.proofs.Laws.{sound_turns}
use Rattle.pp_laws_turn.specs.SoundTurn.{IsSoundTurn}
use Rattle.pp_obeys.proofs.Moving.{lead_joined}
use Rattle.pp_proxy.specs.Handling.{SaysAt, WritesAt, WritesBy}
use Rattle.pp_proxy.specs.Moving.{Turning, at_desk}
use Rattle.pp_reads_law.proofs.KeysGiven.{events_give}
use Rattle.pp_seats.specs.Follows.{next_of}
use Rattle.pp_seats.specs.Seats.{is_at_body}
use Rattle.pp_seats.specs.declared.seat.Next.{Next}
use Rattle.pp_seats.specs.declared.seat.Seat.{Seat}
use Rattle.pp_store.specs.Kept.{KeptMap}
use Rattle.pp_world.specs.Log.{Log}
use Rattle.pp_world.specs.declared.event.Event.TheVariants.{Writable}
use Rattle.pp_world.specs.declared.event.Wants.{Wants}
use Rattle.pp_world.specs.declared.happening.Happening.TheVariants.{CanWrite}
use Rattle.pp_comes_law.specs.Awaited.{IsAwaited, IsHandledBehind}
use Rattle.pp_comes_law.specs.ClientWrites.{CanBeLoaded, CanBeWritten, ClientLoadsCome, ClientWritesCome, IsLostBehind, at_write}
use Rattle.pp_comes_law.proofs.CanWrite.{alike, follows, goes, going, looks, now, obeys, owed, place, same_cache, same_next, settled, some, still, within}

-- ---- of the disk alone

-- a byte that is there alone is the next one
next_there : (m : Memory) (b : Bool) (o : Option Next) (n : Next) → (elim b as (λ t. Option Next) [ true ↦ option_and_then (if_on_disk m) o | false ↦ None ]) ≡ Some n → o ≡ Some n
next_there m false o n is = absurd (cc is)
next_there m true None n is = absurd (cc is)
next_there m true (Some k) n is = by (is_on_disk k m) is
  where
    by : (b : Bool) → (elim b as (λ t. Option Next) [ true ↦ Some k | false ↦ None ]) ≡ Some n → (let o : Option Next = Some k in o ≡ Some n)
    by true same = same
    by false none = absurd (cc none)

disk_owed : (shelf : KeptMap) (id : ℕ) (s : State) → StandsOnDisk shelf s → StandsOnDisk shelf (at_write id s)
unfolding event owing regained touch on_conn on_client
disk_owed shelf id s disk = record { rests = disk.rests; shows = disk.shows; names = disk.names; alone = disk.alone; versions = disk.versions; whole = disk.whole }

first_owed : (w : Wants) (u : State) (id : ℕ) → IsFirstOwed (at_write id (rest_with w u))
unfolding event owing touch on_conn on_client regained rest_with
first_owed w u id = record { anew = once; evicting = refl; forgotten = refl }
  where
    once : regained (at_write id (rest_with w u)) ≡ at_write id (rest_with w u)
    once = regains_once (in_phase Handling (owing (WriteTo id) id (rest_with w u)))

-- ---- from the wait on

module _ (id i : ℕ) (seat : Seat) (terms : List Term) (log : Log) (number : ℕ → ℕ) (w : Wants) (x y : Turning) (u : State) (it : IsAwaited terms log number w x u) (can : CanBeWritten id i seat log w x) (writes : WritesAt id (come (Writable id) x) y) (bounded : IsBounded y.moving.desk.state.cache) where
  abbrev s : State
  s = rest_with w u

  abbrev v : State
  v = at_write id s

  abbrev woken : Desk
  woken = writes.woken

  abbrev next : Turning
  next = at_desk woken x

  abbrev pub its : Seat
  its = (now id i seat terms log number w x u it can woken writes.wakes).seat

  pub says : SaysAt i next y
  says = subst (λ (o : Option ℕ). WritesBy o id next y) (place id i seat terms log number w x u it can woken writes.wakes) writes.writes

  may_say : next_on_disk x.moving.desk.state seat ≡ None → MaySay id i next its
  may_say held = record {
    place = place id i seat terms log number w x u it can woken writes.wakes;
    here = (now id i seat terms log number w x u it can woken writes.wakes).there;
    going = going id i seat terms log number w x u it can woken writes.wakes;
    held = same_next id i seat terms log number w x u it can woken writes.wakes ∙ held;
    some = some id i seat terms log number w x u it can woken writes.wakes (same_next id i seat terms log number w x u it can woken writes.wakes ∙ held);
    within = λ n is. (within id i seat terms log number w x u it can woken writes.wakes n is).1;
    looks = looks id i seat terms log number w x u it can woken writes.wakes;
    still = still id i seat terms log number w x u it can woken writes.wakes;
    linked = can.came.linked;
    settled = settled id i seat terms log number w x u it can woken writes.wakes;
    goes = goes id i seat terms log number w x u it can woken writes.wakes;
  }

  sound : IsSoundTurn v
  sound = sound_turns terms v (log ++ CanWrite id ∷ []) (obeys id i seat terms log number w x u it can woken writes.wakes)

  behind : HasLedReady number next y v → HasLedReadyBehind number (CanWrite id) x y s
  behind said = record {
    led = record { log = said.led.log; then = said.led.then; told = said.led.handled.told; leads = lead_joined (CanWrite id ∷ []) said.led.log s v said.led.then (owed id i seat terms log number w x u it can woken writes.wakes).leads said.led.handled.leads; handled = said.led.handled.handled };
    ready = λ given. said.ready (given_on x next y (alike id i seat terms log number w x u it can woken writes.wakes) given);
  }

  given : y.moving.desk.state.is_astray ≡ false → KeysAreGiven x.moving.desk.state.seats.items y.moving.desk.state.seats.items
  given straight = (events_give (Writable id) (come (Writable id) x) y (omega (arith, it.buffer, it.holds)) writes).given straight

  -- ---- its next byte is on the disk alone

  waits : (is_at Handling s || is_at Evicting s) ≡ false
  waits = ap (λ (p : Phase). is_same_phase Handling p || is_same_phase Evicting p) it.stands.law.at

  room : CanBeLoaded x y s → length x.moving.desk.state.cache.chunks + 3 ≤ x.moving.desk.state.cache.size
  room load =
      let free : length s.chunks + 32 ≤ s.settings.critical = (turns_have_room terms s log it.obeys).waits waits in
      let long : length x.moving.desk.state.cache.chunks ≡ length s.chunks = used_of_all number x.moving.desk.state.cache s it.stands.desk.turn.steps.shows.table.table in
      omega (arith, free, long, load.size)

  pub may_load : (n : Next) → next_on_disk x.moving.desk.state seat ≡ Some n → CanBeLoaded x y s → MayLoad id i next y its n v
  may_load n alone load =
      let alone_now : next_on_disk woken.state its ≡ Some n = same_next id i seat terms log number w x u it can woken writes.wakes ∙ alone in
      let short : (n.at < n.to) × (n.to ≤ 1073741824) = within id i seat terms log number w x u it can woken writes.wakes n (next_there woken.state.cache (is_at_body its) (next_of its) n alone_now) in
      record {
        to = record {
          place = place id i seat terms log number w x u it can woken writes.wakes;
          here = (now id i seat terms log number w x u it can woken writes.wakes).there;
          going = going id i seat terms log number w x u it can woken writes.wakes;
          follows = follows id i seat terms log number w x u it can woken writes.wakes;
          alone = alone_now;
          near = omega (arith, short.0, short.1);
          room = subst (λ (m : Memory). length m.chunks + 3 ≤ m.size) (sym (same_cache id i seat terms log number w x u it can woken writes.wakes)) (room load);
        };
        disk = disk_owed x.shelf id s load.disk;
        first = first_owed w u id;
        holds = load.holds;
        log = load.log;
        told = load.told;
        within = λ k is. (within id i seat terms log number w x u it can woken writes.wakes k is).1;
        looks = looks id i seat terms log number w x u it can woken writes.wakes;
        still = still id i seat terms log number w x u it can woken writes.wakes;
        linked = can.came.linked;
        settled = settled id i seat terms log number w x u it can woken writes.wakes;
        goes = goes id i seat terms log number w x u it can woken writes.wakes;
      }

  pub loaded : (n : Next) → next_on_disk x.moving.desk.state seat ≡ Some n → CanBeLoaded x y s → HasLedReady number next y v ⊎ HasLostChunk number next y v
  loaded n alone load =
      loads_lead terms (log ++ CanWrite id ∷ []) number id i next y its n v can.came.told (obeys id i seat terms log number w x u it can woken writes.wakes) (owed id i seat terms log number w x u it can woken writes.wakes).stands (owed id i seat terms log number w x u it can woken writes.wakes).ready
      (may_load n alone load) says says.says.bounded bounded

  handled : HasLedReadyBehind number (CanWrite id) x y s → y.moving.desk.state.is_astray ≡ false → IsHandledBehind number (Writable id) x y s
  handled led straight = record { led = led.led; ready = led.ready (given straight) }

  lost_behind : HasLostChunk number next y v → y.moving.desk.state.is_astray ≡ false → IsLostBehind number id x y s
  lost_behind lost straight = record {
    leads = (owed id i seat terms log number w x u it can woken writes.wakes).leads;
    lost = record {
      key = lost.key;
      told = lost.told;
      leads = lost.leads;
      map = lost.map;
      disk = lost.disk;
      handled = lost.handled;
      ready = λ keys. lost.ready (given_on x next y (alike id i seat terms log number w x u it can woken writes.wakes) keys);
    };
    ready = lost.ready (given_on x next y (alike id i seat terms log number w x u it can woken writes.wakes) (given straight));
  }

pub client_writes_come : ClientWritesCome
client_writes_come id i seat terms log number w x y u it can held writes bounded straight =
    handled id i seat terms log number w x y u it can writes bounded
    (behind id i seat terms log number w x y u it can writes bounded
    (sayings_lead number id i (at_desk writes.woken x) y (its id i seat terms log number w x y u it can writes bounded) (at_write id (rest_with w u)) (owed id i seat terms log number w x u it can writes.woken writes.wakes).stands (owed id i seat terms log number w x u it can writes.woken writes.wakes).ready
    (sound id i seat terms log number w x y u it can writes bounded) (may_say id i seat terms log number w x y u it can writes bounded held) bounded (says id i seat terms log number w x y u it can writes bounded))) straight

pub client_loads_come : ClientLoadsCome
client_loads_come id i seat n terms log number w x y u it can alone load writes bounded straight = by (loaded id i seat terms log number w x y u it can writes bounded n alone load)
  where
    by : HasLedReady number (at_desk writes.woken x) y (at_write id (rest_with w u)) ⊎ HasLostChunk number (at_desk writes.woken x) y (at_write id (rest_with w u)) → IsHandledBehind number (Writable id) x y (rest_with w u) ⊎ IsLostBehind number id x y (rest_with w u)
    by (inl led) = inl (handled id i seat terms log number w x y u it can writes bounded (behind id i seat terms log number w x y u it can writes bounded led) straight)
    by (inr lost) = inr (lost_behind id i seat terms log number w x y u it can writes bounded lost straight)
