use Rattle.pp_shelf_law.proofs.Finding.{kept_ones, others, stand_alone}
use Rattle.pp_shelf_law.proofs.Free.{free_names}
use Rattle.pp_shelf_law.proofs.keeping.what_is_kept_is_the_laws.Goals as goal

pub returns : goal.returns
returns c = record { kept = kept_ones; others = others; free = free_names; alone = stand_alone }
