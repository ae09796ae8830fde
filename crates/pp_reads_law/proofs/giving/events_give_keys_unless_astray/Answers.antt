use Rattle.pp_reads_law.proofs.KeysGiven.{events_give, origin_reads_give}
use Rattle.pp_reads_law.proofs.giving.events_give_keys_unless_astray.Goals as goal

pub returns : goal.returns
returns c = record { reads = origin_reads_give; each = events_give }
