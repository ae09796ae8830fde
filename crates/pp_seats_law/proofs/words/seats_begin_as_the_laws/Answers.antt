use Rattle.pp_seats_law.proofs.Begins.{may_begin, new_seats}
use Rattle.pp_seats_law.proofs.words.seats_begin_as_the_laws.Goals as goal

pub returns : goal.returns
returns c = record { accepted = new_seats; may_begin = may_begin }
