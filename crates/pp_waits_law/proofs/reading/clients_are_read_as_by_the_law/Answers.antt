use Rattle.pp_waits_law.proofs.Read.{clients_read, no_more_read, origins_read, written}
use Rattle.pp_waits_law.proofs.reading.clients_are_read_as_by_the_law.Goals as goal

pub returns : goal.returns
returns c = record { written = written; clients = clients_read; origins = origins_read; no_more = no_more_read }
