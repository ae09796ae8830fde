-- Behind a write before which a chunk could not be read back what is carried stands, by the shelf without its entry.
use Rattle.std.proofs.Common.{Bool, ◌≡◌, ◌≤◌, refl, sym, subst, ap, ◌∙◌, ℕ, true, not, is_some, List, [], ◌∷◌, ◌++◌, Option, Some, None, Err, append_assoc, append-nil, le_trans, ◌&&◌, nat_lt, length, false}
use Rattle.std.proofs.lemmas.List.Elements.{All-filter}
use Rattle.std.specs.List.{All}
use Rattle.std.specs.Prelude.{slice_get}
use Rattle.pp_cache_law.proofs.Numbers.{some_is}
use Rattle.pp_cache_law.specs.Outdated.{AreNoted}
use Rattle.pp_conf.specs.Conf.{Settings}
use Rattle.pp_desk.specs.Calls.{Took, write_log}
use Rattle.pp_desk.specs.Closings.{Sides, sides}
use Rattle.pp_events_law.specs.Loads.{HasLostChunk}
use Rattle.pp_events_law.specs.Losses.{without_entry}
use Rattle.pp_events_law.specs.Stands.{StandsAtEvent}
use Rattle.pp_joints_law.proofs.Asks.{Can}
use Rattle.pp_joints_law.proofs.CallsBehind.{AreSilent, drop_front, none_silent, some_same, write_silent}
use Rattle.pp_joints_law.proofs.CarriedOn.{IsBehind, Set, leaves_behind, opens}
use Rattle.pp_joints_law.proofs.DeskLosses.{NeverLoaded, loads_behind, loads_lost, loads_stay}
use Rattle.pp_joints_law.proofs.ClearedParts.{Stays}
use Rattle.pp_joints_law.proofs.LawLosses.{IsLessOne, entry_less, entry_noted, entry_there}
use Rattle.pp_joints_law.proofs.Same.{IsSameDisk, disk_as}
use Rattle.pp_joints_law.specs.Behind.{CarriesOn, HasFew}
use Rattle.pp_joints_law.specs.BehindLosses.{LossesCarry, StandsOwed}
use Rattle.pp_joints_law.specs.BehindReads.{IsTold}
use Rattle.pp_joints_law.specs.Carried.{StandsAsSet, StandsOnDisk}
use Rattle.pp_keeps_law.specs.Stands.{IsShort}
use Rattle.pp_law.specs.Chunks.{floor, trigger}
use Rattle.pp_law.specs.Connections.{limits}
use Rattle.pp_law.specs.Replies.{regained}
use Rattle.pp_law.specs.State.{State, Todo, Handling, WriteTo}
use Rattle.pp_law.specs.Store.{run_len}
use Rattle.pp_laws.proofs.Tests.{first_holds, second_holds}
use Rattle.pp_links.specs.Links.{Link, has_link}
use Rattle.pp_proxy.specs.Handling.{SaysAt}
use Rattle.pp_proxy.specs.Moving.{Turning}
use Rattle.pp_seats.specs.declared.seat.Seat.{Seat}
use Rattle.pp_shelf_law.proofs.KeptEntries.{loads_kept}
use Rattle.pp_shelf_law.specs.AsKept.{EachIsAsKept}
use Rattle.pp_state.specs.Ends.{parts}
use Rattle.pp_state.specs.declared.state.State.{State as Turn}
use Rattle.pp_store.specs.Changes.{is_other}
use Rattle.pp_store.specs.Kept.{KeptMap}
use Rattle.pp_store.specs.declared.faults.LoadFault.TheVariants.{DiskFault}
use Rattle.pp_talk.specs.Talking.{IsWrittenAt, offered}
use Rattle.pp_target.specs.Name.{name_of}
use Rattle.pp_text.specs.Bytes.{is_empty}
use Rattle.pp_world.specs.Log.{AppendsAll, Log}
use Rattle.pp_world.specs.declared.happening.Happening.TheVariants.{Noted, Unread}
use Rattle.pp_world.specs.declared.note.Remark.TheVariants.{Gone, Loaded}

-- ---- no chunk was read

-- what the write adds comes behind what the read does
pub record WroteThen (between new : Option Log) (now : Log) : Type 0 where
  pub log : Log
  pub told : between ≡ Some log
  pub wrote : Log
  pub is : now ≡ log ++ wrote
  pub silent : AreSilent wrote

pub wrote_then : (o : Option Seat) (i : ℕ) (links : List Link) (x z : Sides) (between new : Option Log) (now : Log) → new ≡ Some now → IsWrittenAt o i links x z between new → WroteThen between new now
wrote_then None i links x z between new now told is = record { log = now; told = sym is.1 ∙ told; wrote = []; is = sym (append-nil now); silent = none_silent }
wrote_then (Some seat) i links x z between new now told is =
    let w : (before : Log) × (between ≡ Some before) × (now ≡ before ++ write_log seat.client.id (offered seat.client.reply x.parts.cache) is.took before) = is.told.was now told in
    record { log = w.0; told = w.1; wrote = write_log seat.client.id (offered seat.client.reply x.parts.cache) is.took w.0; is = w.2; silent = write_silent seat.client.id (offered seat.client.reply x.parts.cache) is.took w.0 }

-- where nothing is at hand nothing is said
pub none_wrote : (o : Option Seat) (seat : Seat) (i : ℕ) (links : List Link) (x z : Sides) (between new : Option Log) (now : Log) (told : new ≡ Some now) (is : IsWrittenAt o i links x z between new) → o ≡ Some seat → offered seat.client.reply x.parts.cache ≡ []
    → (wrote_then o i links x z between new now told is).wrote ≡ []
unfolding wrote_then
none_wrote None seat i links x z between new now told is here none = absurd (cc here)
none_wrote (Some other) seat i links x z between new now told is here none = by is.took refl
  where
    offers : offered other.client.reply x.parts.cache ≡ []
    offers = ap (λ (o : Seat). offered o.client.reply x.parts.cache) (some_is other seat here) ∙ none

    and_false : (b : Bool) → (b && false) ≡ false
    and_false true = refl
    and_false false = refl

    called : is_some is.took ≡ false
    called = is.called ∙ ap (λ (bytes : List ℕ). has_link other.client.id links && nat_lt 0 (length bytes)) offers ∙ and_false (has_link other.client.id links)

    by : (o : Took) → is.took ≡ o → write_log other.client.id (offered other.client.reply x.parts.cache) is.took (is.told.was now told).0 ≡ []
    by None at = ap (λ (o : Took). write_log other.client.id (offered other.client.reply x.parts.cache) o (is.told.was now told).0) at
    by (Some n) at = absurd (let both : true ≡ false = sym (ap (λ (o : Took). is_some o) at) ∙ called in cc both)

never_loaded : (old between new : Option Log) (now : Log) (name : List ℕ) (rest : Log) → new ≡ Some now → AppendsAll old new (λ l. Unread name ∷ rest) → WroteThen between new now → NeverLoaded old between
never_loaded old between new now name rest told added wrote key tag n index loaded =
    let a : (before : Log) × (old ≡ Some before) × (now ≡ before ++ (Unread name ∷ rest)) = added.was now told in
    let b : (before : Log) × (old ≡ Some before) × (wrote.log ≡ before ++ (Noted (Loaded key tag n index) ∷ [])) = loaded.was wrote.log wrote.told in
    let same : b.0 ≡ a.0 = some_same b.0 a.0 (sym b.1 ∙ a.1) in
    let one : now ≡ a.0 ++ (Noted (Loaded key tag n index) ∷ wrote.wrote) =
    wrote.is ∙ ap (λ (l : Log). l ++ wrote.wrote) b.2 ∙ append_assoc b.0 (Noted (Loaded key tag n index) ∷ []) wrote.wrote ∙ ap (λ (l : Log). l ++ (Noted (Loaded key tag n index) ∷ wrote.wrote)) same in
    let both : Noted (Loaded key tag n index) ∷ wrote.wrote ≡ Unread name ∷ rest = drop_front a.0 (Noted (Loaded key tag n index) ∷ wrote.wrote) (Unread name ∷ rest) (sym one ∙ a.2) in
    absurd (cc both)

-- ---- at rest

idle_so : {A : Type 0} (o : Option A) → not (is_some o) ≡ true → o ≡ None
idle_so None is = refl
idle_so (Some a) is = absurd (cc is)

nothing_so : (todo : List Todo) → is_empty todo ≡ true → todo ≡ []
nothing_so [] is = refl
nothing_so (t ∷ ts) is = absurd (cc is)

-- ---- all of it

module _ (number : ℕ → ℕ) (id i : ℕ) (x y : Turning) (s : State) (stands : StandsAtEvent number Handling (WriteTo id) x.moving s) (owed : StandsOwed x.shelf x.moving s) (told : IsTold y) (says : SaysAt i x y) (few : HasFew y.moving) (it : HasLostChunk number x y s) where
  abbrev u : State
  u = without_entry it.key s

  abbrev h : State
  h = it.handled.handled

  abbrev e : Turn
  e = y.moving.desk.state

  behind : IsBehind x.moving.desk y.moving.desk
  behind =
      loads_behind i x y says
      (never_loaded x.log says.says.between y.log told.log (name_of it.key) (Noted (Gone it.key) ∷ []) told.told it.told
      (wrote_then (slice_get says.says.loaded.state.seats.items i) i x.moving.links (sides says.says.loaded) says.says.says.0 says.says.between y.log told.log told.told says.says.says.1))

  stays : Stays (parts x.moving.desk.state) (parts e)
  stays = loads_stay i x y says

  less : IsLessOne s u
  less = entry_less it.key s stands.law.at

  same_disk : IsSameDisk u h
  unfolding regained
  same_disk = record {
    idle = sym (ap (λ (t : State). t.under_way) it.handled.anew);
    agenda = sym (ap (λ (t : State). t.agenda) it.handled.anew);
    entries = sym (ap (λ (t : State). t.entries) it.handled.anew);
    closed = sym (ap (λ (t : State). t.closed_names) it.handled.anew);
    displaced = sym (ap (λ (t : State). t.displaced) it.handled.anew);
    lost = sym (ap (λ (t : State). t.has_lost_draft) it.handled.anew);
  }

  same_settings : h.settings ≡ s.settings
  unfolding regained
  same_settings = sym (ap (λ (t : State). t.settings) it.handled.anew) ∙ less.settings

  same_forgotten : h.forgotten ≡ s.forgotten
  unfolding regained
  same_forgotten = sym (ap (λ (t : State). t.forgotten) it.handled.anew) ∙ less.forgotten

  same_evicting : h.is_evicting ≡ s.is_evicting
  unfolding regained
  same_evicting = sym (ap (λ (t : State). t.is_evicting) it.handled.anew) ∙ less.evicting

  -- ---- the shelf without its row

  still_short : All IsShort y.shelf.rows
  still_short = subst (λ (m : KeptMap). All IsShort m.rows) (sym it.map) (All-filter (is_other it.key) IsShort x.shelf.rows owed.carried.disk.short)

  still_kept : EachIsAsKept y.shelf
  still_kept = subst (λ (m : KeptMap). EachIsAsKept m) (sym it.map) (loads_kept x.shelf it.key (Err DiskFault) owed.carried.disk.kept)

  noted : AreNoted e.cache.outdated u.displaced u.entries
  noted = subst (λ (ns : List (List ℕ)). AreNoted ns u.displaced u.entries) (sym stays.same) (entry_noted it.key x.moving.desk.state.cache.outdated s stands.law.at owed.carried.disk.noted)

  on_disk : StandsOnDisk y.shelf e h
  on_disk = disk_as y.shelf e e u h same_disk refl refl (record {
    idle = idle_so u.under_way (first_holds (not (is_some u.under_way)) _ it.disk.rests);
    done = nothing_so u.agenda.todo (second_holds (not (is_some u.under_way)) _ it.disk.rests);
    shows = it.disk.shows;
    noted = noted;
    names = it.disk.names;
    short = still_short;
    lost = loads_lost i x y says ∙ owed.carried.disk.lost ∙ sym less.lost;
    displaced = entry_there it.key s stands.law.at owed.carried.disk.displaced;
    kept = still_kept;
  })

  as_set : StandsAsSet y.moving.desk h
  as_set = record {
    force = record {
      name = ap (λ (z : Set). z.name) behind.set ∙ owed.carried.set.force.name ∙ ap (λ (c : Settings). c.name) (sym same_settings);
      trigger = ap (λ (z : Set). z.trigger) behind.set ∙ owed.carried.set.force.trigger ∙ ap (λ (c : Settings). trigger (record s { settings = c })) (sym same_settings);
      floor = ap (λ (z : Set). z.floor) behind.set ∙ owed.carried.set.force.floor ∙ ap (λ (c : Settings). floor (record s { settings = c })) (sym same_settings);
      shares = ap (λ (z : Set). z.shares) behind.set ∙ owed.carried.set.force.shares ∙ ap (λ (c : Settings). c.shares_fetches) (sym same_settings);
      limits = ap (λ (z : Set). z.limits) behind.set ∙ owed.carried.set.force.limits ∙ ap (λ (c : Settings). limits (record s { settings = c })) (sym same_settings);
      run = ap (λ (z : Set). z.run) behind.set ∙ owed.carried.set.force.run ∙ ap (λ (c : Settings). run_len (record s { settings = c })) (sym same_settings);
    };
    few = subst (λ (c : Settings). run_len (record s { settings = c }) ≤ 64) (sym same_settings) owed.carried.set.few;
    room = le_trans owed.carried.set.room behind.room;
    file = ap (λ (z : Set). z.file) behind.set ∙ owed.carried.set.file;
    ticked = it.handled.stands.ticked;
  }

  can : Can e.flow
  can = stays.can (owed.carried.waiting, owed.carried.placed)

  losses_so : CarriesOn y.shelf y.moving h
  losses_so = leaves_behind y.shelf y.moving h (record {
    carried = record {
      disk = on_disk;
      set = as_set;
      links = record { clients = opens _ y.moving.links it.handled.stands.opened.clients; origins = it.handled.stands.opened.origins; given = it.handled.stands.opened.given; few = few; top = it.handled.stands.opened.top };
      waiting = can.0;
      placed = can.1;
      away = ap (λ (z : Set). z.away) behind.set ∙ owed.carried.away;
    };
    forgotten = ap (λ (z : Set). z.forgotten) behind.set ∙ owed.forgotten ∙ sym same_forgotten;
    evicting = ap (λ (z : Set). z.evicting) behind.set ∙ owed.evicting ∙ sym same_evicting;
  })

pub losses_carry : LossesCarry
losses_carry number id i x y s stands owed told says few it = losses_so number id i x y s stands owed told says few it
