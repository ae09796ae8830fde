-- What of the law's state the disk and the settings rest on: where that is the same, they stand as before.
use Rattle.std.proofs.Common.{◌≡◌, ◌≤◌, sym, subst, ap, ap₂, ◌∙◌, ℕ, find, is_some, length, List}
use Rattle.std.specs.List.{list_any}
use Rattle.std.specs.Prelude.{vec_capacity}
use Rattle.pp_cache_law.specs.Outdated.{AreNoted}
use Rattle.pp_conf.specs.Conf.{Settings}
use Rattle.pp_desk.specs.declared.desk.Desk.{Desk}
use Rattle.pp_joints_law.specs.Carried.{StandsAsSet, StandsOnDisk}
use Rattle.pp_keeps_law.specs.Stands.{DisplacedOnesAreThere, HasOpenNames}
use Rattle.pp_law.specs.Chunks.{floor, trigger}
use Rattle.pp_law.specs.Connections.{limits}
use Rattle.pp_law.specs.Lists.{Bytes, has_text}
use Rattle.pp_law.specs.State.{State, Agenda, Entry}
use Rattle.pp_law.specs.Store.{run_len}
use Rattle.pp_law.specs.Table.{is_entry_of}
use Rattle.pp_shelf_law.specs.Shelf.{AreKept, ShowsShelf}
use Rattle.pp_state.specs.declared.state.State.{State as Turn}
use Rattle.pp_store.specs.Kept.{KeptMap}

-- ---- the disk

pub record IsSameDisk (s t : State) : Type 0 where
  pub idle : t.under_way ≡ s.under_way
  pub agenda : t.agenda ≡ s.agenda
  pub entries : t.entries ≡ s.entries
  pub closed : t.closed_names ≡ s.closed_names
  pub displaced : t.displaced ≡ s.displaced
  pub lost : t.has_lost_draft ≡ s.has_lost_draft

shelf_as : (shelf : KeptMap) (s t : State) → IsSameDisk s t → ShowsShelf shelf s → ShowsShelf shelf t
shelf_as shelf s t same shows = subst (λ (es : List Entry). AreKept shelf es t.closed_names) (sym same.entries) (subst (λ (ns : List Bytes). AreKept shelf s.entries ns) (sym same.closed) shows)

noted_as : (names : List Bytes) (s t : State) → IsSameDisk s t → AreNoted names s.displaced s.entries → AreNoted names t.displaced t.entries
noted_as names s t same noted = subst (λ (es : List Entry). AreNoted names t.displaced es) (sym same.entries) (subst (λ (ks : List Bytes). AreNoted names ks s.entries) (sym same.displaced) noted)

open_as : (s t : State) → IsSameDisk s t → HasOpenNames s → HasOpenNames t
open_as s t same unshut = ap₂ (λ (es : List Entry) (ns : List Bytes). list_any (λ e. has_text e.name ns) es) same.entries same.closed ∙ unshut

displaced_as : (s t : State) → IsSameDisk s t → DisplacedOnesAreThere s → DisplacedOnesAreThere t
displaced_as s t same there key has =
    ap (λ (es : List Entry). is_some (find (is_entry_of key) es)) same.entries ∙ there key (ap (λ (ks : List Bytes). has_text key ks) (sym same.displaced) ∙ has)

pub disk_as : (shelf : KeptMap) (p q : Turn) (s t : State) → IsSameDisk s t → q.cache.outdated ≡ p.cache.outdated → q.has_lost_draft ≡ p.has_lost_draft → StandsOnDisk shelf p s → StandsOnDisk shelf q t
disk_as shelf p q s t same outdated lost disk = record {
  idle = same.idle ∙ disk.idle;
  done = ap (λ (a : Agenda). a.todo) same.agenda ∙ disk.done;
  shows = shelf_as shelf s t same disk.shows;
  noted = subst (λ (ns : List Bytes). AreNoted ns t.displaced t.entries) (sym outdated) (noted_as p.cache.outdated s t same disk.noted);
  names = open_as s t same disk.names;
  short = disk.short;
  lost = lost ∙ disk.lost ∙ sym same.lost;
  displaced = displaced_as s t same disk.displaced;
  kept = disk.kept;
}

-- ---- what is set

-- but for the room to look at clients
pub record IsSetAlike (d e : Desk) : Type 0 where
  pub name : e.state.name.items ≡ d.state.name.items
  pub trigger : e.state.trigger ≡ d.state.trigger
  pub floor : e.state.floor ≡ d.state.floor
  pub shares : e.state.shares_fetches ≡ d.state.shares_fetches
  pub limits : e.state.limits ≡ d.state.limits
  pub run : e.state.run ≡ d.state.run
  pub file : length e.file.items ≡ length d.file.items
  pub ticked : e.state.has_ticked ≡ d.state.has_ticked

pub set_from : (d e : Desk) (s t : State) → IsSetAlike d e → 257 ≤ vec_capacity e.state.awake → t.settings ≡ s.settings → t.has_ticked ≡ s.has_ticked → StandsAsSet d s → StandsAsSet e t
set_from d e s t same room settings ticked set = record {
  force = record {
    name = same.name ∙ set.force.name ∙ ap (λ (c : Settings). c.name) (sym settings);
    trigger = same.trigger ∙ set.force.trigger ∙ ap (λ (c : Settings). trigger (record s { settings = c })) (sym settings);
    floor = same.floor ∙ set.force.floor ∙ ap (λ (c : Settings). floor (record s { settings = c })) (sym settings);
    shares = same.shares ∙ set.force.shares ∙ ap (λ (c : Settings). c.shares_fetches) (sym settings);
    limits = same.limits ∙ set.force.limits ∙ ap (λ (c : Settings). limits (record s { settings = c })) (sym settings);
    run = same.run ∙ set.force.run ∙ ap (λ (c : Settings). run_len (record s { settings = c })) (sym settings);
  };
  few = subst (λ (c : Settings). run_len (record s { settings = c }) ≤ 64) (sym settings) set.few;
  room = room;
  file = same.file ∙ set.file;
  ticked = same.ticked ∙ set.ticked ∙ sym ticked;
}

pub record IsSameDesk (d e : Desk) : Type 0 where
  pub name : e.state.name.items ≡ d.state.name.items
  pub trigger : e.state.trigger ≡ d.state.trigger
  pub floor : e.state.floor ≡ d.state.floor
  pub shares : e.state.shares_fetches ≡ d.state.shares_fetches
  pub limits : e.state.limits ≡ d.state.limits
  pub run : e.state.run ≡ d.state.run
  pub room : vec_capacity e.state.awake ≡ vec_capacity d.state.awake
  pub file : length e.file.items ≡ length d.file.items
  pub ticked : e.state.has_ticked ≡ d.state.has_ticked

pub set_as : (d e : Desk) (s t : State) → IsSameDesk d e → t.settings ≡ s.settings → t.has_ticked ≡ s.has_ticked → StandsAsSet d s → StandsAsSet e t
set_as d e s t same settings ticked set =
    set_from d e s t (record { name = same.name; trigger = same.trigger; floor = same.floor; shares = same.shares; limits = same.limits; run = same.run; file = same.file; ticked = same.ticked }) (subst (λ (n : ℕ). 257 ≤ n) (sym same.room) set.room) settings ticked set
