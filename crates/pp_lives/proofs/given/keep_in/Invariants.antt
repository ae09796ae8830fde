use Rattle.pp_lives.specs.Lives.{any_byte}
use Rattle.pp_lives.proofs.given.keep_in.Given as goal

abbrev pub ghost-keep : goal.ghost-keep
ghost-keep g a = any_byte
