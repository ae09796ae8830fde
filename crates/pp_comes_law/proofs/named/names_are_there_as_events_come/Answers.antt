use Rattle.pp_comes_law.proofs.NamesThere.{awaited_names, woken_names}
use Rattle.pp_comes_law.proofs.named.names_are_there_as_events_come.Goals as goal

pub returns : goal.returns
returns c = record { awaited = awaited_names; woken = woken_names }
