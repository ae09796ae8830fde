use Rattle.pp_seats_law.proofs.Fates.{attempts, counts_anew, ends, long_asks}
use Rattle.pp_seats_law.proofs.courses.courses_are_the_laws.Goals as goal

pub returns : goal.returns
returns c = record { attempts = attempts; counts_anew = counts_anew; ends = ends; long_asks = long_asks }
