-- Behind the read of an origin that brings bytes what is carried stands, where what is noted and what has to leave memory are the same in both.
use Rattle.std.proofs.Common.{◌≡◌, ◌≤◌, refl, sym, subst, ap, ◌∙◌, ℕ, true, false, length, take, List, [], ◌∷◌, ◌++◌, Option, Some, None, Ok, Err, append-nil, append_assoc, le_trans}
use Rattle.std.specs.Prelude.{vec_capacity}
use Rattle.pp_cache_law.specs.Outdated.{AreNoted}
use Rattle.pp_turns_law.proofs.Peers.{HasPeer, linked}
use Rattle.pp_desk.specs.Calls.{Found}
use Rattle.pp_desk.specs.declared.desk.Desk.{Desk}
use Rattle.pp_events_law.proofs.Touched.{no_seat}
use Rattle.pp_events_law.specs.Stands.{AreOpen as AreOpenAt, HasLedBehind, come}
use Rattle.pp_law.specs.After.{after}
use Rattle.pp_law.specs.Connections.{conn}
use Rattle.pp_law.specs.Lists.{Bytes}
use Rattle.pp_law.specs.Replies.{regained}
use Rattle.pp_law.specs.State.{State, Agenda, Conn, Entry, Term}
use Rattle.pp_laws_quiet.proofs.Left.{left}
use Rattle.pp_laws_quiet.proofs.Unticked.{unticked}
use Rattle.pp_laws_quiet.specs.Quiet.{IsLeftOnDisk}
use Rattle.pp_laws_quiet.specs.Steady.{HasNotTicked}
use Rattle.pp_links.specs.Failures.{fails}
use Rattle.pp_obeys.proofs.Happenings.{obeys_by}
use Rattle.pp_obeys.specs.Moves.{Leads}
use Rattle.pp_obeys.specs.Obeys.{Obeys}
use Rattle.pp_origins.specs.Gots.{Both, IsReceived, Receives, both}
use Rattle.pp_origins.specs.Responses.{origin_gone}
use Rattle.pp_proxy.specs.Handling.{Handles, ReadsBy, ReceivesOn}
use Rattle.pp_proxy.specs.Moving.{Turning, at_desk}
use Rattle.pp_shelf_law.specs.Shelf.{AreKept, ShowsShelf}
use Rattle.pp_keeps_law.specs.Stands.{HasOpenNames}
use Rattle.pp_state.specs.Ends.{numbers_of, place_of}
use Rattle.pp_state.specs.declared.state.State.{State as Turn}
use Rattle.pp_store.specs.Kept.{KeptMap}
use Rattle.pp_world.specs.Log.{Log}
use Rattle.pp_world.specs.declared.event.Event.TheVariants.{Readable}
use Rattle.pp_world.specs.declared.event.Got.TheVariants.{Bytes as CameBytes, End, NotYet}
use Rattle.pp_world.specs.declared.happening.Happening.TheVariants.{CanRead, Got}
use Rattle.pp_joints_law.proofs.Asks.{Can}
use Rattle.pp_joints_law.proofs.BytesSteps.{GoesOn, begins_on, bytes_on, ends_on, on_as, on_same, on_then}
use Rattle.pp_joints_law.proofs.CarriedOn.{IsBehind, Set, awaited_from, opens}
use Rattle.pp_joints_law.proofs.ClearedWire.{clears_gone}
use Rattle.pp_joints_law.proofs.DeskBehind.{wakes_behind, wakes_lost, wakes_stay}
use Rattle.pp_joints_law.proofs.Same.{IsSameDisk, IsSetAlike, disk_as, set_from}
use Rattle.pp_joints_law.proofs.Stale.{kept_as_before, open_as_before}
use Rattle.pp_joints_law.specs.Behind.{CarriesOn, HasFew, StandsBefore}
use Rattle.pp_joints_law.specs.BehindBytes.{ComesSo, OriginBytesCarry}
use Rattle.pp_joints_law.specs.Carried.{StandsOnDisk}

-- ---- the log goes on, as nothing failed

abbrev NeverFail : Log → Type 0
NeverFail [] = Unit {0}
NeverFail (h ∷ hs) = (fails h ≡ false) × NeverFail hs

obeys_on : (terms : List Term) (hs before : Log) (s t : State) → NeverFail hs → Obeys terms s before → Leads hs s t → Obeys terms t (before ++ hs)
obeys_on terms [] before s t never obeys is = subst (λ (log : Log). Obeys terms t log) (sym (append-nil before)) (subst (λ (u : State). Obeys terms u before) is obeys)
obeys_on terms (h ∷ hs) before s t never obeys moves =
    subst (λ (log : Log). Obeys terms t log) (append_assoc before (h ∷ []) hs)
    (obeys_on terms hs (before ++ h ∷ []) (after s h) t never.1
    (obeys_by h obeys (record { may = moves.may; leads = refl }) (λ failed. absurd (let both : true ≡ false = sym failed ∙ never.0 in cc both))) moves.holds)

-- ---- what a read changes

received_on : (found : Found) (shelf : KeptMap) (k : ℕ) (front : List ℕ) (x y : Both) → IsReceived found shelf k front x y → GoesOn x.state y.state
received_on None shelf k front x y it = on_as x.state x.state y.state (ap (λ (b : Both). b.state) it) (on_same x.state)
received_on (Some (Ok (CameBytes n))) shelf k front x y it = on_then x.state it.0.state y.state (bytes_on shelf k (take n front) x it.0 it.1) (ends_on (λ z. z) (λ z can. can) it.0 y it.2)
received_on (Some (Ok End)) shelf k front x y it = ends_on (origin_gone true k) (λ z. (clears_gone true k z).can) x y it
received_on (Some (Ok NotYet)) shelf k front x y it = on_as x.state x.state y.state (ap (λ (b : Both). b.state) it) (on_same x.state)
received_on (Some (Err fault)) shelf k front x y it = ends_on (origin_gone false k) (λ z. (clears_gone false k z).can) x y it

-- ---- it is handled but for how attempts count

same_disk : (t h : State) → t ≡ regained h → IsSameDisk t h
unfolding regained
same_disk t h anew = record {
  idle = sym (ap (λ (u : State). u.under_way) anew);
  agenda = sym (ap (λ (u : State). u.agenda) anew);
  entries = sym (ap (λ (u : State). u.entries) anew);
  closed = sym (ap (λ (u : State). u.closed_names) anew);
  displaced = sym (ap (λ (u : State). u.displaced) anew);
  lost = sym (ap (λ (u : State). u.has_lost_draft) anew);
}

same_settings : (t h : State) → t ≡ regained h → h.settings ≡ t.settings
unfolding regained
same_settings t h anew = sym (ap (λ (u : State). u.settings) anew)

same_ticked : (t h : State) → t ≡ regained h → h.has_ticked ≡ t.has_ticked
unfolding regained
same_ticked t h anew = sym (ap (λ (u : State). u.has_ticked) anew)

-- ---- all of it

module _ (terms : List Term) (log : Log) (number other : ℕ → ℕ) (shelf : KeptMap) (k : ℕ) (bytes : Bytes) (x y : Turning) (s : State) (j : Conn) (before : StandsBefore terms log number shelf x.moving s) (there : conn s k ≡ Some j) (long : length x.moving.desk.buffer.items ≤ vec_capacity x.moving.desk.«data»)
    (handles : Handles (Readable k) (come (Readable k) x) y) (few : HasFew y.moving) (it : HasLedBehind other (CanRead k) x y s) (log_is : it.log ≡ Got k bytes ∷ []) (so : ComesSo y.moving it.handled.handled) where
  abbrev woken : Desk
  woken = handles.woken

  abbrev next : Turning
  next = at_desk woken x

  abbrev t : State
  t = it.then

  abbrev h : State
  h = it.handled.handled

  abbrev e : Turn
  e = y.moving.desk.state

  -- ---- the program

  its : HasPeer s k x.moving.desk.peers j
  its = linked s k x.moving.desk.peers s.conns j there before.stands.desk.turn.steps.shows.conns

  nobody : place_of k (numbers_of woken.state.seats.items) ≡ None
  nobody =
      ap (λ (ns : List ℕ). place_of k ns) (handles.wakes.touches.numbers ∙ handles.wakes.regains.numbers)
      ∙ no_seat k (numbers_of x.moving.desk.state.seats.items) x.moving.desk.peers x.moving.links its.peer its.there before.stands.opened.clients before.stands.opened.origins

  reads : ReceivesOn k next y
  reads = subst (λ (o : Option ℕ). ReadsBy o k next y) nobody handles.reads

  has_room : length woken.buffer.items ≤ vec_capacity woken.«data»
  has_room =
      subst (λ (d : Desk). length d.buffer.items ≤ vec_capacity d.«data») (sym handles.wakes.touches.rest) (subst (λ (d : Desk). length d.buffer.items ≤ vec_capacity d.«data») (sym handles.wakes.regains.rest) long)

  receives : Receives (length woken.buffer.items) x.shelf k x.moving.links (both woken) (both y.moving.desk) x.log y.log
  receives = reads.receives has_room

  on : GoesOn woken.state e
  on =
      on_then woken.state receives.begins.state e (begins_on (both woken) receives.begins receives.same)
      (received_on receives.found x.shelf k receives.front receives.begins (both y.moving.desk) receives.is)

  first : IsBehind x.moving.desk woken
  first = wakes_behind k x.moving.desk woken handles.wakes

  can : Can e.flow
  can = on.can ((wakes_stay k x.moving.desk woken handles.wakes).can (before.carried.waiting, before.carried.placed))

  alike : IsSetAlike x.moving.desk y.moving.desk
  alike = record {
    name = ap (λ (p : Turn). p.name.items) on.set ∙ ap (λ (z : Set). z.name) first.set;
    trigger = ap (λ (p : Turn). p.trigger) on.set ∙ ap (λ (z : Set). z.trigger) first.set;
    floor = ap (λ (p : Turn). p.floor) on.set ∙ ap (λ (z : Set). z.floor) first.set;
    shares = ap (λ (p : Turn). p.shares_fetches) on.set ∙ ap (λ (z : Set). z.shares) first.set;
    limits = ap (λ (p : Turn). p.limits) on.set ∙ ap (λ (z : Set). z.limits) first.set;
    run = ap (λ (p : Turn). p.run) on.set ∙ ap (λ (z : Set). z.run) first.set;
    file = ap (λ (d : Desk). length d.file.items) reads.rest ∙ ap (λ (z : Set). z.file) first.set;
    ticked = ap (λ (p : Turn). p.has_ticked) on.set ∙ ap (λ (d : Desk). d.state.has_ticked) handles.wakes.touches.rest ∙ ap (λ (d : Desk). d.state.has_ticked) handles.wakes.regains.rest;
  }

  room : 257 ≤ vec_capacity e.awake
  room = subst (λ (n : ℕ). 257 ≤ n) (sym (ap (λ (p : Turn). vec_capacity p.awake) on.set)) (le_trans before.carried.set.room first.room)

  -- ---- the law

  abbrev hs : Log
  hs = CanRead k ∷ Got k bytes ∷ []

  leads : Leads hs s t
  leads = subst (λ (l : Log). Leads (CanRead k ∷ l) s t) log_is it.leads

  goes_on : Obeys terms t (log ++ hs)
  goes_on = obeys_on terms hs log s t (refl, (refl, tt)) before.obeys leads

  kept : IsLeftOnDisk s t
  kept = left terms log hs s t before.obeys goes_on (awaited_from terms log number shelf x.moving s before).turns refl

  still : HasNotTicked s t
  still = unticked terms log hs s t before.obeys goes_on refl

  same : IsSameDisk t h
  same = same_disk t h it.handled.anew

  noted : AreNoted e.cache.outdated t.displaced t.entries
  noted = subst (λ (es : List Entry). AreNoted e.cache.outdated t.displaced es) same.entries (subst (λ (ks : List Bytes). AreNoted e.cache.outdated ks h.entries) same.displaced so.noted)

  shows : ShowsShelf shelf t
  shows = subst (λ (ns : List Bytes). AreKept shelf t.entries ns) (sym kept.closed) (kept_as_before shelf s.entries t.entries s.closed_names kept.entries before.carried.disk.shows)

  names : HasOpenNames t
  names = subst (λ (ns : List Bytes). HasOpenNames (record t { closed_names = ns })) (sym kept.closed) (open_as_before s.entries t.entries s.closed_names kept.entries before.carried.disk.names)

  lost : e.has_lost_draft ≡ t.has_lost_draft
  lost = ap (λ (p : Turn). p.has_lost_draft) on.set ∙ wakes_lost k x.moving.desk woken handles.wakes ∙ before.carried.disk.lost ∙ sym still.lost

  on_disk : StandsOnDisk shelf e h
  on_disk = disk_as shelf e e t h same refl refl (record {
    idle = kept.under_way ∙ before.carried.disk.idle;
    done = ap (λ (a : Agenda). a.todo) kept.agenda ∙ before.carried.disk.done;
    shows = shows;
    noted = noted;
    names = names;
    short = before.carried.disk.short;
    lost = lost;
    displaced = kept.displaced before.carried.disk.displaced;
    kept = before.carried.disk.kept;
  })

  opened : AreOpenAt y.moving h.top
  opened = it.handled.stands.opened

  bytes_carry : CarriesOn shelf y.moving h
  bytes_carry = record {
    carried = record {
      disk = on_disk;
      set = set_from x.moving.desk y.moving.desk s h alike room (same_settings t h it.handled.anew ∙ kept.settings) (same_ticked t h it.handled.anew ∙ still.ticked) before.carried.set;
      links = record { clients = opens _ y.moving.links opened.clients; origins = opened.origins; given = opened.given; few = few; top = opened.top };
      waiting = can.0;
      placed = can.1;
      away = ap (λ (d : Desk). d.turned_away) reads.rest ∙ ap (λ (z : Set). z.away) first.set ∙ before.carried.away;
    };
    leaves = so.leaves;
  }

pub origin_bytes_carry : OriginBytesCarry
origin_bytes_carry terms log number other shelf k bytes x y s j before there long handles few it log_is so = bytes_carry terms log number other shelf k bytes x y s j before there long handles few it log_is so
