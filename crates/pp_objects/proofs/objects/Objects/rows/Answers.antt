use Rattle.std.proofs.Common.{arith, length, ◌∙◌, ap}
use Rattle.std.specs.Prelude.{count_by}
use Rattle.pp_objects.specs.Instances.{Rows, is_row}
use Rattle.pp_objects.specs.Inside.{instance_at}
use Rattle.pp_objects.proofs.Sound.{count_seen}
use Rattle.pp_objects.proofs.objects.Objects.rows.Goals as goal

pub overflow_cast-result : goal.overflow_cast-result
overflow_cast-result c = omega (arith, c.count_rows.ensures.within, ap length c.deref.ensures.value, c.self.invariant.sound.few)

pub returns : goal.returns
returns c =
    c.count_rows.ensures.count ∙ ap (count_by (λ n. is_row (instance_at c.self.inside.rows.slots n))) c.deref.ensures.value
    ∙ count_seen (instance_at c.self.inside.rows.slots) c.self.inside.order.items ∙ ap (λ (w : Rows). count_by is_row w.instances) c.self.view_is
