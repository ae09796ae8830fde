use Rattle.std.proofs.Common.{List, Some, sym, ◌∙◌, ap}
use Rattle.pp_text.specs.Fields.{Field}
use Rattle.pp_objects.specs.Instances.{fields_of}
use Rattle.pp_objects.specs.Kept.{has_room}
use Rattle.pp_objects.proofs.Slots.{none_there, seen_row}
use Rattle.pp_objects.proofs.objects.Objects.has_room.Goals as goal

pub returns-in-Some : goal.returns-in-Some
returns-in-Some c =
    c.has_room.ensures
    ∙ ap (λ (fs : List Field). has_room fs c.args.fields.now c.args.times)
    (c.fields.ensures ∙ sym (ap fields_of (seen_row c.self.inside c.args.self.now c.args.id.slot (Some c.in-Some.row.now) c.self.invariant.sound c.self.view_is c.in-Some.ensures)))

pub returns-in-None : goal.returns-in-None
returns-in-None c = absurd (none_there c.self.inside c.args.self.now c.args.id c.self.invariant.sound c.self.view_is c.requires c.in-None.ensures)
