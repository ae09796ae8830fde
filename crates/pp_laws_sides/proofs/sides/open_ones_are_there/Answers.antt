use Rattle.pp_laws_sides.proofs.Linked.{clients_there, origins_there, own_open}
use Rattle.pp_laws_sides.proofs.sides.open_ones_are_there.Goals as goal

pub returns : goal.returns
returns c = record { origins = origins_there; clients = clients_there; own = own_open }
