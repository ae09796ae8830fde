use Rattle.pp_laws_ends.proofs.Served.{askers_served, speakers_served}
use Rattle.pp_laws_ends.proofs.Undecided.{undecided_served}
use Rattle.pp_laws_ends.proofs.ends.clients_are_served.Goals as goal

pub returns : goal.returns
returns c = record { speakers = speakers_served; askers = askers_served; undecided = undecided_served }
