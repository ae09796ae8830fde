use Rattle.pp_turn_law.proofs.CallsHandled.{client_reads_handled, client_writes_handled, origin_writes_handled}
use Rattle.pp_turn_law.proofs.handling.calls_are_handled.Goals as goal

pub returns : goal.returns
returns c = record { reads = client_reads_handled; writes = client_writes_handled; asks = origin_writes_handled }
