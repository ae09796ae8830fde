use Rattle.pp_turns_law.proofs.GivenUp.{gives_up, waiting_in_order}
use Rattle.pp_turns_law.proofs.Twice.{gives_up_beside}
use Rattle.pp_turns_law.proofs.NotWanted.{useless}
use Rattle.pp_turns_law.proofs.filling.useless_asks_are_the_laws.Goals as goal

pub returns : goal.returns
returns c = record { useless = useless; order = waiting_in_order; given_up = gives_up; beside = gives_up_beside }
