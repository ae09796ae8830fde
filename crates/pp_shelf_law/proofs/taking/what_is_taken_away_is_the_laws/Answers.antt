use Rattle.pp_shelf_law.proofs.Takings.{losses, withdrawals}
use Rattle.pp_shelf_law.proofs.taking.what_is_taken_away_is_the_laws.Goals as goal

pub returns : goal.returns
returns c = record { withdrawn = withdrawals; lost = losses }
