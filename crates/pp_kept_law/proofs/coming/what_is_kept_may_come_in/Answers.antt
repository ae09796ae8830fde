use Rattle.pp_kept_law.proofs.MayComeIn.{alone_comes_in, may_come_in}
use Rattle.pp_kept_law.proofs.coming.what_is_kept_may_come_in.Goals as goal

pub returns : goal.returns
returns c = record { all = may_come_in; alone = alone_comes_in }
