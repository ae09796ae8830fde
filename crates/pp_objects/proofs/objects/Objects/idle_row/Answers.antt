use Rattle.std.proofs.Common.{◌≡◌, ◌<◌, length, get_or, true, sym, ◌∙◌, ap}
use Rattle.std.specs.List.{find}
use Rattle.pp_objects.specs.declared.id.ObjectId.{ObjectId}
use Rattle.pp_objects.specs.Instances.{Rows, in_slot, is_idle}
use Rattle.pp_objects.specs.Inside.{instance_at}
use Rattle.pp_objects.proofs.Slots.{found_at}
use Rattle.pp_objects.proofs.Search.{found}
use Rattle.pp_objects.proofs.objects.Objects.idle_row.Goals as goal

pub returns-then-is_idle_in-clause-there : goal.returns-then-is_idle_in-clause-there
returns-then-is_idle_in-clause-there c =
    let lt : c.loop-slot.slot-index < length c.self.inside.order.items = rw (← c.deref-slot-items.ensures.value) c.loop-slot-test.true in
    let is : (is_idle c.args.busy.now.items (instance_at c.self.inside.rows.slots (get_or c.self.inside.order.items c.loop-slot.slot-index 0))) ≡ true = rw (← c.deref-slot-items.ensures.value) (sym c.is_idle_in.ensures ∙ c.if-is_idle_in.true) in
    ap (λ (d : ObjectId). in_slot d.slot c.args.self.now.instances) (c.id_in.ensures)
    ∙ (rw c.deref-slot-items.ensures.value (found_at c.self.inside c.args.self.now c.loop-slot.slot-index c.self.view_is lt
    ∙ found (is_idle c.args.busy.now.items) (instance_at c.self.inside.rows.slots) c.self.inside.order.items c.loop-slot.slot-index _ lt is (c.loop-slot.invariant ∙ ap (λ (w : Rows). find (is_idle c.args.busy.now.items) w.instances) c.self.view_is)))
