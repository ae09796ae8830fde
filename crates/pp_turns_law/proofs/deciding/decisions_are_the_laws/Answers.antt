use Rattle.pp_turns_law.proofs.Asks.{asks}
use Rattle.pp_turns_law.proofs.Left.{leaves}
use Rattle.pp_turns_law.proofs.Marked.{marks}
use Rattle.pp_turns_law.proofs.Refused.{refusals}
use Rattle.pp_turns_law.proofs.Relayed.{relays}
use Rattle.pp_turns_law.proofs.deciding.decisions_are_the_laws.Goals as goal

pub returns : goal.returns
returns c = record { marks = marks; leaves = leaves; pages = refusals; asks = asks; relays = relays }
