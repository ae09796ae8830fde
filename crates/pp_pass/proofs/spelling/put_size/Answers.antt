-- The digits are those of the size.
use Rattle.pp_pass.proofs.HexLemmas.{one_digit, two_digits, three_digits, four_digits}
use Rattle.pp_pass.proofs.spelling.put_size.Goals as goal

pub returns-then-size-lt16-clause-size : goal.returns-then-size-lt16-clause-size
returns-then-size-lt16-clause-size c = rw (← one_digit c.args.size c.if-size-lt16.true) (cc)

pub returns-then-size-lt256-clause-size : goal.returns-then-size-lt256-clause-size
returns-then-size-lt256-clause-size c = rw (← two_digits c.args.size c.if-size-lt16.false c.if-size-lt256.true) (cc)

pub returns-then-size-lt4096-clause-size : goal.returns-then-size-lt4096-clause-size
returns-then-size-lt4096-clause-size c = rw (← three_digits c.args.size c.if-size-lt256.false c.if-size-lt4096.true) (cc)

pub returns-else-size-lt4096-clause-size : goal.returns-else-size-lt4096-clause-size
returns-else-size-lt4096-clause-size c = rw (← four_digits c.args.size c.if-size-lt4096.false c.requires.small) (cc)
