use Rattle.pp_laws_pool.proofs.PoolLaws.{within_mark}
use Rattle.pp_laws_pool.proofs.pool.chunks_are_within_the_mark.Goals as goal

pub returns : goal.returns
returns c = record { within = within_mark }
