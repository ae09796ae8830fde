use Rattle.pp_cache_law.proofs.Noted.{clearings_of, kept_rows_of, takings_of}
use Rattle.pp_cache_law.proofs.noting.outdated_ones_are_the_laws.Goals as goal

pub returns : goal.returns
returns c = record { kept = kept_rows_of; clearings = clearings_of; takings = takings_of }
