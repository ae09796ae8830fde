use Rattle.pp_joints_law.proofs.Carries.{client_reads_carry, client_writes_carry}
use Rattle.pp_joints_law.proofs.behind.calls_of_clients_carry.Goals as goal

pub returns : goal.returns
returns c = record { reads = client_reads_carry; writes = client_writes_carry }
