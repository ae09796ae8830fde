use Rattle.pp_waits_law.proofs.Others.{no_more_written}
use Rattle.pp_waits_law.proofs.Says.{says_wanted}
use Rattle.pp_waits_law.proofs.wanting.says_are_wanted.Goals as goal

pub returns : goal.returns
returns c = record { says = says_wanted; no_more = no_more_written }
