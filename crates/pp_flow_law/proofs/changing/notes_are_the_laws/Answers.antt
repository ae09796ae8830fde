use Rattle.pp_flow_law.proofs.Noted.{drops_none, wants}
use Rattle.pp_flow_law.proofs.changing.notes_are_the_laws.Goals as goal

pub returns : goal.returns
returns c = record { wants = wants; drops = drops_none }
