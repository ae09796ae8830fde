use Rattle.pp_laws.proofs.Laws.{held_was_sent}
use Rattle.pp_laws.proofs.origin.held_bytes_were_sent.Goals as goal

pub returns : goal.returns
returns c = record { held = held_was_sent }
