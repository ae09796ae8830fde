use Rattle.pp_turn_law.proofs.Order.{handled, kept, left, settled, waited}
use Rattle.pp_turn_law.proofs.OrderTurns.{turns_ordered}
use Rattle.pp_turn_law.proofs.straight.clients_stay_ordered.Goals as goal

pub returns : goal.returns
returns c = record { waits = waited; events = handled; leavings = left; keepings = kept; settlings = settled; turns = turns_ordered }
