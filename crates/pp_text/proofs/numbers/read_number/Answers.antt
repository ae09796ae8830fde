use Rattle.std.proofs.Common.{arith}
use Rattle.std.proofs.lemmas.Grind.{common_steps}
use Rattle.pp_text.proofs.Digits.{number_in-is}
use Rattle.pp_text.proofs.numbers.read_number.Goals as goal

pub loop-byte-init : goal.loop-byte-init
loop-byte-init c = grind (arith, common_steps, number_in-is)
