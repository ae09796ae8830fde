use Rattle.pp_laws_ends.proofs.Nowhere.{no_place}
use Rattle.pp_laws_ends.proofs.ends.asks_without_a_place_have_none.Goals as goal

pub returns : goal.returns
returns c = record { nowhere = no_place }
