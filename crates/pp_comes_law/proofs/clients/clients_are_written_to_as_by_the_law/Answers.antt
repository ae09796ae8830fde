use Rattle.pp_comes_law.proofs.ClientWrites.{client_loads_come, client_writes_come}
use Rattle.pp_comes_law.proofs.WokenOnes.{written_ones_wake}
use Rattle.pp_comes_law.proofs.clients.clients_are_written_to_as_by_the_law.Goals as goal

pub returns : goal.returns
returns c = record { says = client_writes_come; loads = client_loads_come; wakes = written_ones_wake }
