use Rattle.pp_grown_law.proofs.Fields.{events_keep}
use Rattle.pp_grown_law.proofs.Handled.{chunks_whole, events_bring}
use Rattle.pp_grown_law.proofs.growing.events_bring_nothing.Goals as goal

pub returns : goal.returns
returns c = record { events = events_bring; whole = chunks_whole; fields = events_keep }
