use Rattle.std.proofs.Common.{Some, sym, ◌∙◌, ap}
use Rattle.std.specs.Prelude.{option_map}
use Rattle.pp_objects.specs.declared.id.ObjectId.{ObjectId}
use Rattle.pp_objects.specs.Instances.{id_of, in_slot}
use Rattle.pp_objects.proofs.Slots.{slot_shown}
use Rattle.pp_objects.proofs.Indexing.{row_missing, row_in_slot, id_shown}
use Rattle.pp_objects.proofs.objects.Objects.current.Goals as goal

pub returns-in_err-slot-clause-current : goal.returns-in_err-slot-clause-current
returns-in_err-slot-clause-current c =
    c.from_residual.ensures
    ∙ sym (ap (option_map id_of) (row_missing c.self.inside.index c.self.inside c.args.self.now c.args.key.now c.self.invariant.indexed c.self.view_is (sym c.in_err-slot.ensures)))

pub returns-clause-current : goal.returns-clause-current
returns-clause-current c =
    ap Some c.id_in.ensures
    ∙ id_shown c.self.inside.index c.self.inside c.args.self.now c.args.key.now c.in_ok-slot.slot c.self.invariant.sound c.self.invariant.indexed c.self.view_is (sym c.in_ok-slot.ensures)

pub returns-clause-there : goal.returns-clause-there
returns-clause-there c =
    ap (λ (d : ObjectId). in_slot d.slot c.args.self.now.instances) c.id_in.ensures
    ∙ ap (λ n. in_slot n c.args.self.now.instances) (slot_shown c.self.inside.rows.slots c.in_ok-slot.slot)
    ∙ sym (row_in_slot c.self.inside.index c.self.inside c.args.self.now c.args.key.now c.in_ok-slot.slot c.self.invariant.indexed c.self.view_is (sym c.in_ok-slot.ensures))
