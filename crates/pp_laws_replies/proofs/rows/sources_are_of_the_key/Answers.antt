use Rattle.pp_laws_replies.proofs.Usable.{sources_of_key}
use Rattle.pp_laws_replies.proofs.rows.sources_are_of_the_key.Goals as goal

pub returns : goal.returns
returns c = record { of_the_key = sources_of_key }
