use Rattle.pp_turns_law.proofs.Shutting.{shuts}
use Rattle.pp_turns_law.proofs.clients.closing_ones_are_shut_as_the_laws.Goals as goal

pub returns : goal.returns
returns c = record { shut = shuts }
