use Rattle.pp_laws_sent.proofs.Laws.{sent_stands}
use Rattle.pp_laws_sent.proofs.stands.sent_stands_in_the_log.Goals as goal

pub returns : goal.returns
returns c = record { stands = sent_stands }
