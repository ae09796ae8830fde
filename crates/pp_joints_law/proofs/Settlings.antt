-- Behind decisions and rounds what is carried stands.
use Rattle.std.proofs.Common.{◌≡◌, sym, subst, ap, ◌∙◌, true, List, le_trans, map}
use Rattle.std.specs.Prelude.{length}
use Rattle.pp_desk.specs.declared.desk.Desk.{Desk}
use Rattle.pp_joints_law.proofs.Roomier.{settles_room}
use Rattle.pp_joints_law.proofs.Same.{set_from}
use Rattle.pp_joints_law.proofs.Settled.{settles_work}
use Rattle.pp_joints_law.proofs.Stale.{kept_as_before, open_as_before}
use Rattle.pp_joints_law.proofs.Steady.{settles_steady, steady_quiet}
use Rattle.pp_joints_law.specs.Carried.{IsCarried}
use Rattle.pp_joints_law.specs.Serving.{IsButForWork}
use Rattle.pp_joints_law.specs.Settling.{SettlingsCarry}
use Rattle.pp_keeps_law.specs.Stands.{HasOpenNames}
use Rattle.pp_kept_law.proofs.Noted.{are_noted}
use Rattle.pp_law.specs.Lists.{Bytes}
use Rattle.pp_law.specs.Phases.{ending}
use Rattle.pp_law.specs.State.{State, Phase, Term, Deciding, Free}
use Rattle.pp_laws_crash.proofs.Frames.{Kept, kept_self, parts_of}
use Rattle.pp_laws_crash.proofs.KeptTurns.{ending-kept}
use Rattle.pp_laws_quiet.proofs.Left.{left}
use Rattle.pp_laws_quiet.proofs.Unticked.{unticked}
use Rattle.pp_laws_quiet.specs.Quiet.{IsLeftOnDisk, but_for_stale, takes_turns}
use Rattle.pp_laws_quiet.specs.Steady.{AreSteady, HasNotTicked}
use Rattle.pp_obeys.proofs.Frames.{Frame}
use Rattle.pp_obeys.proofs.StaysTurns.{ending-frame}
use Rattle.pp_obeys.specs.Obeys.{Obeys}
use Rattle.pp_proxy.specs.Moving.{Moving}
use Rattle.pp_proxy.specs.Settling.{Settles}
use Rattle.pp_rounds_law.specs.Serves.{HasServed}
use Rattle.pp_shelf_law.specs.Shelf.{AreKept, ShowsShelf}
use Rattle.pp_store.specs.Kept.{KeptMap}
use Rattle.pp_world.specs.Log.{Log}

module _ (terms : List Term) (before : Log) (shelf : KeptMap) (x y : Moving) (log : Log) (s : State) (it : HasServed terms before shelf y log s) (obeys : Obeys terms s before) (at : s.phase ≡ Deciding) (carried : IsCarried shelf x s) (settles : Settles shelf x log y) where
  abbrev t : State
  t = ending it.then

  -- ---- of the law

  steady : AreSteady log
  steady = settles_steady shelf x y log settles

  turns : takes_turns s ≡ true
  turns = ap (λ (p : Phase). takes_turns (record s { phase = p })) at

  on_disk : IsLeftOnDisk s it.then
  on_disk = left terms before log s it.then obeys it.comes.obeys turns (steady_quiet log steady)

  on_clock : HasNotTicked s it.then
  on_clock = unticked terms before log s it.then obeys it.comes.obeys steady

  free : it.then.owed ≡ Free
  free = sym (ap (λ (f : Frame). f.owed) (ending-frame true it.then)) ∙ it.ended.free

  at_end : Kept it.then t
  at_end = ending-kept it.then (kept_self it.then (λ out. free))

  entries : map but_for_stale t.entries ≡ map but_for_stale s.entries
  entries = (parts_of at_end).same ∙ on_disk.entries

  closed : t.closed_names ≡ s.closed_names
  closed = (parts_of at_end).closed_is ∙ on_disk.closed

  shows : ShowsShelf shelf t
  shows = subst (λ (ns : List Bytes). AreKept shelf t.entries ns) (sym closed) (kept_as_before shelf s.entries t.entries s.closed_names entries carried.disk.shows)

  names : HasOpenNames t
  names = subst (λ (ns : List Bytes). HasOpenNames (record t { closed_names = ns })) (sym closed) (open_as_before s.entries t.entries s.closed_names entries carried.disk.names)

  -- ---- of the program

  work : IsButForWork x.desk y.desk
  work = settles_work shelf x y log settles

  pub carried_on : IsCarried shelf y t
  carried_on = record {
    disk = record {
      idle = it.ended.idle;
      done = it.ended.nothing;
      shows = shows;
      noted = are_noted shelf y.desk.state.cache t shows names it.ended.disk;
      names = names;
      short = carried.disk.short;
      lost = ap (λ (d : Desk). d.state.has_lost_draft) work ∙ carried.disk.lost ∙ sym (ap (λ (f : Frame). f.has_lost_draft) (ending-frame true it.then) ∙ on_clock.lost);
      displaced = (parts_of at_end).there (on_disk.displaced carried.disk.displaced);
      kept = carried.disk.kept;
    };
    set = set_from x.desk y.desk s t
        (record {
          name = ap (λ (d : Desk). d.state.name.items) work;
          trigger = ap (λ (d : Desk). d.state.trigger) work;
          floor = ap (λ (d : Desk). d.state.floor) work;
          shares = ap (λ (d : Desk). d.state.shares_fetches) work;
          limits = ap (λ (d : Desk). d.state.limits) work;
          run = ap (λ (d : Desk). d.state.run) work;
          file = ap (λ (d : Desk). length d.file.items) work;
          ticked = ap (λ (d : Desk). d.state.has_ticked) work;
        })
        (le_trans carried.set.room (settles_room shelf x y log settles)) ((parts_of at_end).settings_is ∙ on_disk.settings) (ap (λ (f : Frame). f.has_ticked) (ending-frame true it.then) ∙ on_clock.ticked) carried.set;
    links = record { clients = it.set.seated; origins = it.set.linked; given = it.set.given; few = it.set.few; top = it.set.top };
    waiting = it.set.waiting;
    placed = it.set.placed;
    away = it.set.away;
  }

pub settlings : SettlingsCarry
settlings terms before shelf x y log s it obeys at carried settles = carried_on terms before shelf x y log s it obeys at carried settles
