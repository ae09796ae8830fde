-- The law: of nobody all is answered, as it is looked at behind each read and each reply.
use Rattle.std.proofs.Common.{refl}
use Rattle.pp_laws_served.proofs.Asks.{tended_at}
use Rattle.pp_laws_served.proofs.Tended.{facts_of}
use Rattle.pp_laws_answers.specs.Finished.{NobodyIsFinished}

pub nobody_is_finished : NobodyIsFinished
nobody_is_finished terms s log obeys c i = (facts_of (tended_at terms s log obeys)).over refl c i
