use Rattle.std.proofs.Common.{refl}
use Rattle.pp_head.proofs.KeptLemmas.{kept_none}
use Rattle.pp_head.proofs.kept.KeptHead.new.Goals as goal

pub returns : goal.returns
returns c = kept_none _ refl
