use Rattle.pp_lives.specs.Lives.{any_byte}
use Rattle.pp_lives.proofs.short.load.Given as goal

abbrev pub ghost-load : goal.ghost-load
ghost-load a = any_byte
