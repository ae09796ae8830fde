use Rattle.pp_events_law.proofs.KeysGiven.{client_writes_give, handles_give, origin_writes_give}
use Rattle.pp_events_law.proofs.KeysHeard.{client_reads_give, ended_replies_give}
use Rattle.pp_events_law.proofs.giving.keys_are_given_unless_astray.Goals as goal

pub returns : goal.returns
returns c = record { reads = client_reads_give; replies = ended_replies_give; writes = client_writes_give; asks = origin_writes_give; each = handles_give }
