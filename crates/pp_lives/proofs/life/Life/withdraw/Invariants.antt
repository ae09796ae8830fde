use Rattle.pp_lives.specs.Lives.{any_byte}
use Rattle.pp_lives.proofs.life.Life.withdraw.Given as goal

abbrev pub ghost-withdraw : goal.ghost-withdraw
ghost-withdraw a = any_byte
