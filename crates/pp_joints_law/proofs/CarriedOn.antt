-- Behind an event what is carried stands: by what it leaves of the law's state, and of the desk.
use Rattle.std.proofs.Common.{◌≡◌, ◌≤◌, refl, sym, subst, ap, ◌∙◌, inl, ℕ, Bool, true, length, List, [], ◌∷◌, Option, le_trans, ◌+◌, ◌<◌, arith}
use Rattle.std.specs.Prelude.{count_by, vec_capacity}
use Rattle.pp_cache_law.specs.Outdated.{AreNoted}
use Rattle.pp_conf.specs.Conf.{Settings}
use Rattle.pp_desk.specs.declared.desk.Desk.{Desk}
use Rattle.pp_cache_law.specs.Tables.{ShowsTable}
use Rattle.pp_events_law.specs.Stands.{AreClients, AreOpen as AreOpenAt, IsHandled}
use Rattle.pp_joints_law.proofs.Asks.{Can}
use Rattle.pp_joints_law.proofs.ClearedAll.{BringNone, event_clears}
use Rattle.pp_joints_law.proofs.ClearedLaw.{Cleared, Clears, facts_of, rowed}
use Rattle.pp_joints_law.proofs.ClearedParts.{ClearsIn, Stays}
use Rattle.pp_joints_law.proofs.LawBehind.{left_on_disk}
use Rattle.pp_joints_law.proofs.NotedBehind.{noted_behind, noted_still, rows_show, tidy_shown}
use Rattle.pp_joints_law.proofs.RowsCleared.{rowed_in}
use Rattle.pp_joints_law.proofs.Same.{IsSameDisk, disk_as}
use Rattle.pp_joints_law.proofs.Stale.{kept_as_before, open_as_before}
use Rattle.pp_joints_law.specs.Behind.{CarriesOn, HasFew, MayNote, StandsBefore}
use Rattle.pp_joints_law.specs.BehindLosses.{StandsOwed}
use Rattle.pp_joints_law.specs.Carried.{IsCarried, StandsAsSet, StandsOnDisk}
use Rattle.pp_keeps_law.specs.Stands.{HasOpenNames}
use Rattle.pp_law.specs.Chunks.{floor, trigger}
use Rattle.pp_law.specs.Connections.{limits}
use Rattle.pp_law.specs.Lists.{Bytes}
use Rattle.pp_law.specs.Replies.{regained}
use Rattle.pp_law.specs.State.{State, Agenda, Instance, Phase, Term}
use Rattle.pp_law.specs.Store.{run_len}
use Rattle.pp_laws_quiet.specs.Quiet.{IsLeftOnDisk, takes_turns}
use Rattle.pp_links.specs.Links.{Link}
use Rattle.pp_objects.specs.Instances.{is_row}
use Rattle.pp_obeys.specs.Moves.{Leads}
use Rattle.pp_obeys.specs.Obeys.{Obeys}
use Rattle.pp_peers.specs.declared.placing.Limits.{Limits}
use Rattle.pp_places_law.specs.Closings.{AreOpen}
use Rattle.pp_proxy.specs.Moving.{Moving}
use Rattle.pp_shelf_law.specs.Shelf.{AreKept, ShowsShelf}
use Rattle.pp_state.specs.Ends.{parts}
use Rattle.pp_state.specs.declared.state.State.{State as Turn}
use Rattle.pp_store.specs.Kept.{KeptMap}
use Rattle.pp_world.specs.Log.{Log}

-- ---- of the desk

-- what no event changes but for the read of an origin, and of the disk
pub record Set : Type 0 where
  pub name : List ℕ
  pub trigger : ℕ
  pub floor : ℕ
  pub shares : Bool
  pub limits : Limits
  pub run : ℕ
  pub file : ℕ
  pub forgotten : List (List ℕ)
  pub evicting : Bool
  pub away : Option ℕ

abbrev pub set_of : Desk → Set
set_of d = record {
  name = d.state.name.items;
  trigger = d.state.trigger;
  floor = d.state.floor;
  shares = d.state.shares_fetches;
  limits = d.state.limits;
  run = d.state.run;
  file = length d.file.items;
  forgotten = d.state.forgotten;
  evicting = d.state.is_evicting;
  away = d.turned_away;
}

pub record IsBehind (d e : Desk) : Type 0 where
  pub set : set_of e ≡ set_of d
  pub room : vec_capacity d.state.awake ≤ vec_capacity e.state.awake

-- ---- all of it

few_behind : (a b m n : ℕ) → b + n ≤ a + m → a + m < 2048 → b < 2048
few_behind a b m n one two = omega (arith, one, two)

-- both say that each is open, as a client's
pub opens : (ns : List ℕ) (links : List Link) → AreClients ns links → AreOpen ns links
opens [] links are = tt
opens (n ∷ ns) links are = (are.0, opens ns links are.1)

-- from where that is, amid a turn
pub record StandsFrom (terms : List Term) (log : Log) (number : ℕ → ℕ) (shelf : KeptMap) (x : Moving) (s : State) : Type 0 where
  pub obeys : Obeys terms s log
  pub turns : takes_turns s ≡ true
  pub table : ShowsTable number x.desk.state.cache s
  pub carried : IsCarried shelf x s
  pub forgotten : x.desk.state.forgotten ≡ s.forgotten
  pub evicting : x.desk.state.is_evicting ≡ s.is_evicting

-- to where this stands, but for how attempts count. Rows may be told by other numbers there
pub record StandsTo (number : ℕ → ℕ) (y : Moving) (t : State) : Type 0 where
  pub here : State
  pub anew : t ≡ regained here
  pub table : ShowsTable number y.desk.state.cache here
  pub ticked : y.desk.state.has_ticked ≡ here.has_ticked
  pub opened : AreOpenAt y here.top

module _ (terms : List Term) (log : Log) (number other : ℕ → ℕ) (shelf : KeptMap) (x y : Moving) (s t : State) (hs : Log) (before : StandsFrom terms log number shelf x s) (none : BringNone hs) (leads : Leads hs s t) (it : StandsTo other y t) (few : HasFew y) (behind : IsBehind x.desk y.desk)
    (lost : y.desk.state.has_lost_draft ≡ t.has_lost_draft) where
  abbrev h : State
  h = it.here

  abbrev d : Turn
  d = x.desk.state

  abbrev e : Turn
  e = y.desk.state

  -- ---- of the law

  left : IsLeftOnDisk s t
  left = left_on_disk terms hs log s t none before.obeys before.turns leads

  law : Clears s t
  law = event_clears hs s t none leads

  cleared : Cleared s t.entries t.displaced t.instances t.forgotten t.is_evicting
  cleared = facts_of law

  -- it is handled but for how attempts count
  same_disk : IsSameDisk t h
  unfolding regained
  same_disk = record {
    idle = sym (ap (λ (u : State). u.under_way) it.anew);
    agenda = sym (ap (λ (u : State). u.agenda) it.anew);
    entries = sym (ap (λ (u : State). u.entries) it.anew);
    closed = sym (ap (λ (u : State). u.closed_names) it.anew);
    displaced = sym (ap (λ (u : State). u.displaced) it.anew);
    lost = sym (ap (λ (u : State). u.has_lost_draft) it.anew);
  }

  same_settings : h.settings ≡ s.settings
  unfolding regained
  same_settings = sym (ap (λ (u : State). u.settings) it.anew) ∙ left.settings

  same_instances : h.instances ≡ t.instances
  unfolding regained
  same_instances = sym (ap (λ (u : State). u.instances) it.anew)

  same_forgotten : h.forgotten ≡ t.forgotten
  unfolding regained
  same_forgotten = sym (ap (λ (u : State). u.forgotten) it.anew)

  same_evicting : h.is_evicting ≡ t.is_evicting
  unfolding regained
  same_evicting = sym (ap (λ (u : State). u.is_evicting) it.anew)

  -- ---- which entries stand no more

  rows_before : (key : Bytes) → rowed_in key d.cache.instances ≡ rowed key s.instances
  rows_before = rows_show number d.cache s before.table

  rows_behind : (key : Bytes) → rowed_in key e.cache.instances ≡ rowed key t.instances
  rows_behind key = rows_show other e.cache h it.table key ∙ ap (λ (xs : List Instance). rowed key xs) same_instances

  noted_cleared : ClearsIn (parts d) (parts e) → MayNote x → AreNoted e.cache.outdated t.displaced t.entries
  noted_cleared turn room =
      noted_behind (parts d) (parts e) s t rows_before rows_behind (tidy_shown number d.cache s before.table) law turn (few_behind (length d.cache.outdated) (length e.cache.outdated) (count_by is_row d.cache.instances) (count_by is_row e.cache.instances) turn.few room) before.carried.disk.shows.named before.carried.disk.noted

  noted_stays : Stays (parts d) (parts e) → AreNoted e.cache.outdated t.displaced t.entries
  noted_stays turn =
      noted_still (parts d) (parts e) s t rows_before rows_behind (tidy_shown number d.cache s before.table) law turn before.carried.disk.shows.named before.carried.disk.noted

  -- ---- what is carried

  shows : ShowsShelf shelf t
  shows = subst (λ (ns : List Bytes). AreKept shelf t.entries ns) (sym left.closed) (kept_as_before shelf s.entries t.entries s.closed_names left.entries before.carried.disk.shows)

  names : HasOpenNames t
  names = subst (λ (ns : List Bytes). HasOpenNames (record t { closed_names = ns })) (sym left.closed) (open_as_before s.entries t.entries s.closed_names left.entries before.carried.disk.names)

  on_disk : AreNoted e.cache.outdated t.displaced t.entries → StandsOnDisk shelf e h
  on_disk noted = disk_as shelf e e t h same_disk refl refl (record {
    idle = left.under_way ∙ before.carried.disk.idle;
    done = ap (λ (a : Agenda). a.todo) left.agenda ∙ before.carried.disk.done;
    shows = shows;
    noted = noted;
    names = names;
    short = before.carried.disk.short;
    lost = lost;
    displaced = left.displaced before.carried.disk.displaced;
    kept = before.carried.disk.kept;
  })

  as_set : StandsAsSet y.desk h
  as_set = record {
    force = record {
      name = ap (λ (z : Set). z.name) behind.set ∙ before.carried.set.force.name ∙ ap (λ (c : Settings). c.name) (sym same_settings);
      trigger = ap (λ (z : Set). z.trigger) behind.set ∙ before.carried.set.force.trigger ∙ ap (λ (c : Settings). trigger (record s { settings = c })) (sym same_settings);
      floor = ap (λ (z : Set). z.floor) behind.set ∙ before.carried.set.force.floor ∙ ap (λ (c : Settings). floor (record s { settings = c })) (sym same_settings);
      shares = ap (λ (z : Set). z.shares) behind.set ∙ before.carried.set.force.shares ∙ ap (λ (c : Settings). c.shares_fetches) (sym same_settings);
      limits = ap (λ (z : Set). z.limits) behind.set ∙ before.carried.set.force.limits ∙ ap (λ (c : Settings). limits (record s { settings = c })) (sym same_settings);
      run = ap (λ (z : Set). z.run) behind.set ∙ before.carried.set.force.run ∙ ap (λ (c : Settings). run_len (record s { settings = c })) (sym same_settings);
    };
    few = subst (λ (c : Settings). run_len (record s { settings = c }) ≤ 64) (sym same_settings) before.carried.set.few;
    room = le_trans before.carried.set.room behind.room;
    file = ap (λ (z : Set). z.file) behind.set ∙ before.carried.set.file;
    ticked = it.ticked;
  }

  carries_on : AreNoted e.cache.outdated t.displaced t.entries → Can e.flow → StandsOwed shelf y h
  carries_on noted can = record {
    carried = record {
      disk = on_disk noted;
      set = as_set;
      links = record { clients = opens _ y.links it.opened.clients; origins = it.opened.origins; given = it.opened.given; few = few; top = it.opened.top };
      waiting = can.0;
      placed = can.1;
      away = ap (λ (z : Set). z.away) behind.set ∙ before.carried.away;
    };
    forgotten = ap (λ (z : Set). z.forgotten) behind.set ∙ before.forgotten ∙ sym cleared.forgotten_is ∙ sym same_forgotten;
    evicting = ap (λ (z : Set). z.evicting) behind.set ∙ before.evicting ∙ sym cleared.evicting_is ∙ sym same_evicting;
  }

  -- where rows may be cleared, and where none is
  pub cleared_on : ClearsIn (parts d) (parts e) → MayNote x → StandsOwed shelf y h
  cleared_on turn room = carries_on (noted_cleared turn room) (turn.can (before.carried.waiting, before.carried.placed))

  pub still_on : Stays (parts d) (parts e) → StandsOwed shelf y h
  still_on turn = carries_on (noted_stays turn) (turn.can (before.carried.waiting, before.carried.placed))

-- ---- from the wait to where an event is handled

-- what both know alike of what has to leave memory
pub leaves_behind : (shelf : KeptMap) (y : Moving) (h : State) → StandsOwed shelf y h → CarriesOn shelf y h
leaves_behind shelf y h so = record { carried = so.carried; leaves = record { forgotten = so.forgotten; evicting = inl so.evicting } }

pub awaited_from : (terms : List Term) (log : Log) (number : ℕ → ℕ) (shelf : KeptMap) (x : Moving) (s : State) → StandsBefore terms log number shelf x s → StandsFrom terms log number shelf x s
awaited_from terms log number shelf x s before = record {
  obeys = before.obeys;
  turns = ap (λ (p : Phase). takes_turns (record s { phase = p })) before.stands.law.at;
  table = before.stands.desk.turn.steps.shows.table.table;
  carried = before.carried;
  forgotten = before.forgotten;
  evicting = before.evicting;
}

abbrev pub handled_to : (number : ℕ → ℕ) (y : Moving) (t : State) → IsHandled number y t → StandsTo number y t
handled_to number y t it = record { here = it.handled; anew = it.anew; table = it.stands.desk.turn.steps.shows.table.table; ticked = it.stands.ticked; opened = it.stands.opened }

pub carries_cleared : (terms : List Term) (log : Log) (number other : ℕ → ℕ) (shelf : KeptMap) (x y : Moving) (s t : State) (hs : Log) → StandsBefore terms log number shelf x s → BringNone hs → Leads hs s t → (it : IsHandled other y t) → HasFew y → IsBehind x.desk y.desk
    → y.desk.state.has_lost_draft ≡ t.has_lost_draft → ClearsIn (parts x.desk.state) (parts y.desk.state) → MayNote x → CarriesOn shelf y it.handled
carries_cleared terms log number other shelf x y s t hs before none leads it few behind lost turn room =
    leaves_behind shelf y it.handled (cleared_on terms log number other shelf x y s t hs (awaited_from terms log number shelf x s before) none leads (handled_to other y t it) few behind lost turn room)

pub carries_still : (terms : List Term) (log : Log) (number : ℕ → ℕ) (shelf : KeptMap) (x y : Moving) (s t : State) (hs : Log) → StandsBefore terms log number shelf x s → BringNone hs → Leads hs s t → (it : IsHandled number y t) → HasFew y → IsBehind x.desk y.desk
    → y.desk.state.has_lost_draft ≡ t.has_lost_draft → Stays (parts x.desk.state) (parts y.desk.state) → CarriesOn shelf y it.handled
carries_still terms log number shelf x y s t hs before none leads it few behind lost turn =
    leaves_behind shelf y it.handled (still_on terms log number number shelf x y s t hs (awaited_from terms log number shelf x s before) none leads (handled_to number y t it) few behind lost turn)
