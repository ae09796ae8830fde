use Rattle.std.proofs.Common.{◌≡◌, map, drop}
use Rattle.std.specs.List.{find}
use Rattle.pp_objects.specs.Instances.{is_idle}
use Rattle.pp_objects.specs.Inside.{instance_at}
use Rattle.pp_objects.proofs.objects.Objects.idle_row.Given as goal

abbrev pub invariant-loop-slot : goal.invariant-loop-slot
invariant-loop-slot l =
    find (is_idle l.busy.items) (map (instance_at l.self-inside.rows.slots) (drop l.slot-index l.self-inside.order.items))
    ≡ find (is_idle l.busy.items) (map (instance_at l.self-inside.rows.slots) l.self-inside.order.items)
