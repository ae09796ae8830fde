use Rattle.pp_turns_law.proofs.Shared.{awaited, shared_asks}
use Rattle.pp_turns_law.proofs.sharing.shared_asks_are_the_laws.Goals as goal

pub returns : goal.returns
returns c = record { shared = shared_asks; awaited = awaited }
