use Rattle.pp_laws.proofs.Laws.{sent_grows}
use Rattle.pp_laws.proofs.origin.sent_only_grows.Goals as goal

pub returns : goal.returns
returns c = record { grows = sent_grows }
