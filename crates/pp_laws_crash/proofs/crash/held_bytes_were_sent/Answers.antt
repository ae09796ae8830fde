use Rattle.pp_laws_crash.proofs.CrashLaws.{all_held_was_sent}
use Rattle.pp_laws_crash.proofs.crash.held_bytes_were_sent.Goals as goal

pub returns : goal.returns
returns c = record { held = all_held_was_sent }
