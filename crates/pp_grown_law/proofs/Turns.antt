-- What is kept and what grew, over a turn.
use Rattle.std.proofs.Common.{sym, subst, length}
use Rattle.pp_shelf_law.specs.AsKept.{EachIsAsKept}
use Rattle.pp_store.specs.Kept.{KeptMap}
use Rattle.pp_grown_law.proofs.AsKept.{kept_stays}
use Rattle.pp_grown_law.proofs.Fields.{events_keep}
use Rattle.pp_grown_law.proofs.Grown.{keepings_leave, leavings_note, noted_grown, settlings_leave, waits_leave}
use Rattle.pp_grown_law.proofs.Reading.{handlings_note}
use Rattle.pp_grown_law.specs.Grown.{HasNothingToKeep, NotesGrown}
use Rattle.pp_grown_law.specs.Turns.{TurnsCarryKept, TurnsMayKeep, WaitsCarryKept}

pub turns_may_keep : TurnsMayKeep
turns_may_keep event x y it seated handled order stands has = record {
  grown = noted_grown it.left.moving.desk.state it.left.shelf it.left.log it.left.faults left;
  fields = subst EachIsAsKept (sym it.leaves_shelf) (events_keep event x it.handled (it.handles seated) has.fields);
}
  where
    noted : NotesGrown it.handled.moving.desk.state it.handled.shelf
    noted = handlings_note event x it.handled stands (it.handles seated) has.nothing

    left : NotesGrown it.left.moving.desk.state it.left.shelf
    left =
        subst (λ (s : KeptMap). NotesGrown it.left.moving.desk.state s) (sym it.leaves_shelf)
        (leavings_note it.handled.shelf it.handled.moving it.left.moving (it.leaves handled).added order (it.leaves handled).is noted)

pub turns_carry : TurnsCarryKept
turns_carry number event x y it may has seated are = record { nothing = subst (λ (s : KeptMap). HasNothingToKeep y.moving.desk.state s) (sym it.settles_shelf) settled; fields = subst EachIsAsKept (sym it.settles_shelf) fields }
  where
    nothing : HasNothingToKeep it.kept.moving.desk.state it.kept.shelf
    nothing = keepings_leave number (length it.left.moving.desk.file.items) _ _ has.before has.after it.keeps.is has.done has.straight

    fields : EachIsAsKept it.kept.shelf
    fields = kept_stays number (length it.left.moving.desk.file.items) _ _ has.before has.stands may.fields it.keeps.is

    settled : HasNothingToKeep y.moving.desk.state it.kept.shelf
    settled = settlings_leave it.kept.shelf it.kept.moving y.moving (it.settles seated).added it.kept_bounded are (it.settles seated).is nothing

pub waits_carry : WaitsCarryKept
waits_carry before w clients x e f awaits rests has = record { nothing = waits_leave x.shelf before w clients x.moving.desk e f awaits rests has.nothing; fields = has.fields }
