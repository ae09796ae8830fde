use Rattle.pp_events_law.proofs.Woken.{client_reads, client_writes}
use Rattle.pp_events_law.proofs.owing.clients_are_owed_as_by_the_law.Goals as goal

pub returns : goal.returns
returns c = record { reads = client_reads; writes = client_writes }
