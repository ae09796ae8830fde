use Rattle.std.proofs.Common.{◌≤◌, ◌<◌, ◌^◌, ◌+◌, ℕ, arith}
use Rattle.pp_entry.specs.Texts.{body_at}
use Rattle.pp_shelf.proofs.drafting.has_body.Goals as goal

fits : (n : ℕ) → n ≤ 2 ^ 26 → body_at n + n < 2 ^ 64
unfolding body_at
fits n few = omega (arith, few)

pub overflow_add-result : goal.overflow_add-result
overflow_add-result c = omega (arith, c.body_at-front.ensures, fits c.args.n c.requires)
