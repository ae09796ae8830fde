use Rattle.pp_laws_crash.proofs.CrashLaws.{each_image_backed}
use Rattle.pp_laws_crash.proofs.crash.each_image_is_backed.Goals as goal

pub returns : goal.returns
returns c = record { backed = each_image_backed }
