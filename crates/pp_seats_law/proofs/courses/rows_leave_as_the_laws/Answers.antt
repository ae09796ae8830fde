use Rattle.pp_seats_law.proofs.Fates.{rows_leave, shared_rows_leave, unfilled}
use Rattle.pp_seats_law.proofs.courses.rows_leave_as_the_laws.Goals as goal

pub returns : goal.returns
returns c = record { rows = rows_leave; shared = shared_rows_leave; unfilled = unfilled }
