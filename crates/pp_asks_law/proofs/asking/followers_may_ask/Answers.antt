use Rattle.pp_asks_law.proofs.AskMore.{followers_may}
use Rattle.pp_asks_law.proofs.asking.followers_may_ask.Goals as goal

pub returns : goal.returns
returns c = record { asks = followers_may }
