use Rattle.pp_cache_law.proofs.Alike.{extents_of, instances_of, retired_of, rows_of, versions_of}
use Rattle.pp_cache_law.proofs.reading.instances_are_the_laws.Goals as goal

pub returns : goal.returns
returns c = record { rows = rows_of; versions = versions_of; instances = instances_of; retired = retired_of; extents = extents_of }
