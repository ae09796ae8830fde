use Rattle.pp_comes_law.proofs.ClientReads.{client_reads_come}
use Rattle.pp_comes_law.proofs.clients.clients_are_read_as_by_the_law.Goals as goal

pub returns : goal.returns
returns c = client_reads_come
