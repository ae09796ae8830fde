use Rattle.pp_reads_law.proofs.StayReads.{reads_stay}
use Rattle.pp_reads_law.proofs.staying.reads_leave_clients_at_their_requests.Goals as goal

pub returns : goal.returns
returns c = record { stays = reads_stay }
