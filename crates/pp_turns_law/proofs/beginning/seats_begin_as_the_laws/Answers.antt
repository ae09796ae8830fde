use Rattle.pp_turns_law.proofs.Seats.{begins_at}
use Rattle.pp_turns_law.proofs.beginning.seats_begin_as_the_laws.Goals as goal

pub returns : goal.returns
returns c = record { seats = begins_at }
