-- The size fits, since it has at most sixteen digits.
use Rattle.std.proofs.Common.{◌+◌, ◌*◌, ◌^◌, ◌<◌, arith}
use Rattle.pp_framing.proofs.SizeLemmas.{size_fits}
use Rattle.pp_framing.proofs.place.next_digit.Goals as goal

pub overflow_mul-result : goal.overflow_mul-result
overflow_mul-result c =
    let fits : c.args.size * 16 + 0 < 2 ^ 64 = size_fits c.args.digits c.args.size 0 c.if-digits-lt-SIZE_DIGITS.true c.requires.1 (omega arith) in
    omega arith

pub overflow_add-result-in-Some : goal.overflow_add-result-in-Some
overflow_add-result-in-Some c =
    let small : c.from.result < 16 = omega (arith, c.in-Some.ensures.small, c.from.ensures) in
    let fits : c.args.size * 16 + c.from.result < 2 ^ 64 = size_fits c.args.digits c.args.size c.from.result c.if-digits-lt-SIZE_DIGITS.true c.requires.1 small in
    omega arith
