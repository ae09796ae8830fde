use Rattle.pp_heads_law.proofs.Ruled.{invalidated, times, versions, widened, wrong}
use Rattle.pp_heads_law.proofs.rules.asks_are_the_laws.Goals as goal

pub returns : goal.returns
returns c = record { wrong = wrong; versions = versions; times = times; widened = widened; invalidates = invalidated }
