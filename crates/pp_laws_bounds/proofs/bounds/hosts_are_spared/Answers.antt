use Rattle.pp_laws_bounds.proofs.Laws.{spared_hosts}
use Rattle.pp_laws_bounds.proofs.bounds.hosts_are_spared.Goals as goal

pub returns : goal.returns
returns c = record { spared = spared_hosts }
