use Rattle.pp_waits_law.proofs.Awake.{nobody_read, read_stay, then_awake}
use Rattle.pp_waits_law.proofs.keeping.those_who_were_read_stay.Goals as goal

pub returns : goal.returns
returns c = record { opening = nobody_read; steps = then_awake; stay = read_stay }
