use Rattle.std.proofs.Common.{arith}
use Rattle.std.proofs.lemmas.Grind.{common_steps}
use Rattle.httparse.specs.Grammar.{is_token_byte}
use Rattle.pp_head.proofs.part.is_token.Goals as goal

pub returns-then-is_ascii_alphanumeric : goal.returns-then-is_ascii_alphanumeric
unfolding is_token_byte
returns-then-is_ascii_alphanumeric c = grind (arith, common_steps)

pub returns-else-is_ascii_alphanumeric : goal.returns-else-is_ascii_alphanumeric
unfolding is_token_byte
returns-else-is_ascii_alphanumeric c = grind (arith, common_steps)
