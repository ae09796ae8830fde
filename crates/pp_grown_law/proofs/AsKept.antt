-- Each entry of the shelf has the fields that are kept of them, behind each step.
use Rattle.std.proofs.Common.{sym, subst, ap, ◌∙◌, ℕ, Bool, true, false, List, [], ◌∷◌, length, Option, Some, None, Result}
use Rattle.pp_cache_law.specs.Kept.{AreKept}
use Rattle.pp_fresh.specs.declared.aging.Times.{Times}
use Rattle.pp_keeping.specs.Keeping.{GrownNext, KeepsRun, Keeping as Kept, TakesNext, ends_astray, ends_there, without_name}
use Rattle.pp_keeping.specs.Kept.{Notes, Outside, TakesAway, Withdraws, key_under}
use Rattle.pp_keeps_law.proofs.Due.{unkept_of_same}
use Rattle.pp_keeps_law.proofs.Found.{IsKnown, known_of}
use Rattle.pp_keeps_law.specs.Stands.{StandsToKeep}
use Rattle.pp_law.specs.Lists.{Bytes}
use Rattle.pp_law.specs.State.{State}
use Rattle.pp_objects.specs.declared.id.ObjectId.{ObjectId}
use Rattle.pp_shelf_law.proofs.KeptEntries.{takings_kept}
use Rattle.pp_shelf_law.specs.AsKept.{EachIsAsKept}
use Rattle.pp_state.specs.declared.state.State.{State as Turn}
use Rattle.pp_store.specs.Kept.{KeptMap}
use Rattle.pp_text.specs.Fields.{Field}
use Rattle.pp_world.specs.declared.disk.DiskFault.{DiskFault}
use Rattle.pp_world.specs.declared.happening.Happening.TheVariants.{Noted}
use Rattle.pp_world.specs.declared.note.Remark.TheVariants.{Gone}
use Rattle.pp_grown_law.proofs.Repeats.{all_so}
use Rattle.pp_grown_law.proofs.Staying.{RunStays, run_stays}
use Rattle.pp_grown_law.specs.Kept.{KeptStaysAsKept, RowsAreKept}

rows_kept : (number : ℕ → ℕ) (p : Turn) (shelf : KeptMap) (s : State) → StandsToKeep number p shelf s → RowsAreKept p.cache.instances
rows_kept number p shelf s stands id i found =
    let k : IsKnown number p s id i = known_of number p shelf s id i stands found in
    subst (λ (fs : List Field). AreKept fs i.times) (sym k.shows.fields) (subst (λ (ts : Times). AreKept k.known.fields ts) (sym k.shows.times) (stands.fields k.known k.in_law))

-- what is carried from step to step: the instances are those that were
record IsCarried (x : Kept) : Type 0 where
  rows : RowsAreKept x.state.cache.instances
  shelf : EachIsAsKept x.outside.shelf

away_kept : (o : Option Bytes) (x y : Outside) → TakesAway o x y → EachIsAsKept x.shelf → EachIsAsKept y.shelf
away_kept None x y still all = subst EachIsAsKept (sym still.shelf) all
away_kept (Some gone) x y takes all = by takes.noted takes.answer takes.notes takes.withdraws
  where
    by : (noted : Outside) (answer : Option (Result (Unit {0}) DiskFault)) → Notes (Noted (Gone gone) ∷ []) x noted → Withdraws gone answer noted y → EachIsAsKept y.shelf
    by noted None notes w = subst EachIsAsKept (sym (w.still.shelf ∙ notes.shelf)) all
    by noted (Some r) notes w = subst EachIsAsKept (sym w.map) (takings_kept noted.shelf gone r (subst EachIsAsKept (sym notes.shelf) all))

name_carried : (x y : Kept) (goes : Bool) → TakesNext x y goes → IsCarried x → IsCarried y
name_carried x y false step c = subst IsCarried (sym step.1) c
name_carried x y true step c = record {
  rows = subst RowsAreKept (sym (ap (λ (p : Turn). p.cache.instances) step.state ∙ (unkept_of_same (key_under step.name x.outside.shelf) (without_name x.state.cache)).instances)) c.rows;
  shelf = away_kept (key_under step.name x.outside.shelf) x.outside y.outside step.takes c.shelf;
}

there_carried : (goes : Bool) (x : Kept) → IsCarried x → IsCarried (ends_there goes x)
there_carried goes x c = c

astray_carried : (goes : Bool) (x : Kept) → IsCarried x → IsCarried (ends_astray goes x)
astray_carried true x c = record { rows = c.rows; shelf = c.shelf }
astray_carried false x c = c

module _ (room : ℕ) where
  run_carried : (id : ObjectId) (x y : Kept) (goes : Bool) → KeepsRun id room x y goes → IsCarried x → IsCarried y
  run_carried id x y goes kr c =
      let stays : RunStays x y = run_stays id room x y goes kr in
      record { rows = subst RowsAreKept (sym stays.rows) c.rows; shelf = stays.shelf c.rows c.shelf }

  grown_carried : (x y : Kept) (goes : Bool) → GrownNext room x y goes → IsCarried x → IsCarried y
  grown_carried x y false step c = subst IsCarried (sym step.1) c
  grown_carried x y true step c = all_so IsCarried ends_astray (KeepsRun step.id room) astray_carried (run_carried step.id) 16386 true _ y step.runs (record { rows = c.rows; shelf = c.shelf })

pub kept_stays : KeptStaysAsKept
kept_stays number room x y s stands each all =
    let first : IsCarried x = record { rows = rows_kept number x.state x.outside.shelf s stands; shelf = each } in
    let between : IsCarried all.between = all_so IsCarried ends_there TakesNext there_carried name_carried (length x.state.cache.outdated) true x all.between all.takes first in
    (all_so IsCarried ends_astray (GrownNext room) astray_carried (grown_carried room) 17 true all.between y all.keeps between).shelf
