use Rattle.pp_laws_crash.proofs.CrashLaws.{all_said_was_sent}
use Rattle.pp_laws_crash.proofs.crash.said_bytes_were_sent.Goals as goal

pub returns : goal.returns
returns c = record { said = all_said_was_sent }
