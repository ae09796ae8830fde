use Rattle.pp_reads_law.proofs.BadOnes.{bad_bodies, bad_heads, early_ones}
use Rattle.pp_reads_law.proofs.bads.bad_responses_are_the_laws.Goals as goal

pub returns : goal.returns
returns c = record { early = early_ones; heads = bad_heads; bodies = bad_bodies }
