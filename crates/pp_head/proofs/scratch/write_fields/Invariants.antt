use Rattle.std.proofs.Common.{◌≡◌, take, map}
use Rattle.pp_head.specs.Shown.{field_span}
use Rattle.pp_head.proofs.scratch.write_fields.Given as goal

abbrev pub invariant-loop-i : goal.invariant-loop-i
invariant-loop-i l = take l.i l.fields ≡ map field_span (take l.i l.headers)
