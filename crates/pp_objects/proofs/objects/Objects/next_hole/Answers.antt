use Rattle.std.proofs.Common.{sym, subst}
use Rattle.pp_holes.specs.Cells.{Table}
use Rattle.pp_holes.specs.Holes.{IsFirstHole}
use Rattle.pp_objects.proofs.Slots.{none_there, table_seen}
use Rattle.pp_objects.proofs.objects.Objects.next_hole.Goals as goal

pub returns-in-Some : goal.returns-in-Some
returns-in-Some c =
    let P : Table → Type 0 = λ t. IsFirstHole t c.args.at c.next_hole.result in
    subst P (sym (table_seen c.self.inside c.args.self.now c.args.id.slot c.in-Some.row.now c.self.invariant.sound c.self.view_is c.in-Some.ensures)) c.next_hole.ensures

pub returns-in-None : goal.returns-in-None
returns-in-None c = absurd (none_there c.self.inside c.args.self.now c.args.id c.self.invariant.sound c.self.view_is c.requires c.in-None.ensures)
