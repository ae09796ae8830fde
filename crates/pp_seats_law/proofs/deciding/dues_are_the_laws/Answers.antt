use Rattle.pp_seats_law.proofs.Dues.{cuts, decisions, dues, finished, lost, sharing, waiting}
use Rattle.pp_seats_law.proofs.ReadDues.{dues_as_read, first_dues}
use Rattle.pp_seats_law.proofs.deciding.dues_are_the_laws.Goals as goal

pub returns : goal.returns
returns c = record { waits = waiting; lost = lost; sharing = sharing; decision = decisions; cut = cuts; due = dues; read = dues_as_read; first = first_dues; finished = finished }
