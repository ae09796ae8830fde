use Rattle.pp_cache_law.proofs.Entering.{enterings_of}
use Rattle.pp_cache_law.proofs.Making.{settlings_of}
use Rattle.pp_cache_law.proofs.settling.rows_are_made_as_the_laws.Goals as goal

pub returns : goal.returns
returns c = record { settlings = settlings_of; enterings = enterings_of }
