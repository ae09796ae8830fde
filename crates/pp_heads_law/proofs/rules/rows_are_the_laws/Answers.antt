use Rattle.pp_heads_law.proofs.Ruled.{full, ignores, joins, names}
use Rattle.pp_heads_law.proofs.rules.rows_are_the_laws.Goals as goal

pub returns : goal.returns
returns c = record { names = names; full = full; joins = joins; ignores = ignores }
