use Rattle.pp_laws.proofs.Laws.{said_was_sent}
use Rattle.pp_laws.proofs.origin.said_bytes_were_sent.Goals as goal

pub returns : goal.returns
returns c = record { said = said_was_sent }
