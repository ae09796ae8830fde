use Rattle.pp_lives.specs.Lives.{any_byte}
use Rattle.pp_lives.proofs.life.Life.extend.Given as goal

abbrev pub ghost-extend : goal.ghost-extend
ghost-extend a = any_byte
