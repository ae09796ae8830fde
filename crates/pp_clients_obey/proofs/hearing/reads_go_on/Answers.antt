use Rattle.pp_clients_obey.proofs.Hears.{hang_ups_lead, nones_lead, reads_lead}
use Rattle.pp_clients_obey.proofs.hearing.reads_go_on.Goals as goal

pub returns : goal.returns
returns c = record { heard = reads_lead; hung_up = hang_ups_lead; none = nones_lead }
