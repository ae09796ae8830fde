use Rattle.pp_turns_law.proofs.RowComes.{comes, notes}
use Rattle.pp_turns_law.proofs.Stays.{stays_due}
use Rattle.pp_turns_law.proofs.Ways.{ways}
use Rattle.pp_turns_law.proofs.yielding.rows_yield_as_the_laws.Goals as goal

pub returns : goal.returns
returns c = record { ways = ways; notes = notes; stays = stays_due; comes = comes }
