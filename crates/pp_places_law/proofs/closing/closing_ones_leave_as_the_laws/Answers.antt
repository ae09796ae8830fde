use Rattle.pp_places_law.proofs.Left.{links_left}
use Rattle.pp_places_law.proofs.Shuts.{closes}
use Rattle.pp_places_law.proofs.closing.closing_ones_leave_as_the_laws.Goals as goal

pub returns : goal.returns
returns c = record { closes = closes; links = links_left }
