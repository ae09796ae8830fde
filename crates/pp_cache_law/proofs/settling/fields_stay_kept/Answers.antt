use Rattle.pp_cache_law.proofs.KeptTwice.{kept_are_kept, refreshed_are_kept}
use Rattle.pp_cache_law.proofs.settling.fields_stay_kept.Goals as goal

pub returns : goal.returns
returns c = record { kept = kept_are_kept; refreshed = refreshed_are_kept }
