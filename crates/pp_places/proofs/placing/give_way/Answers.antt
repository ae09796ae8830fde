use Rattle.std.proofs.Common.{ap}
use Rattle.pp_desk.proofs.ShuttingLemmas.{closed_one}
use Rattle.pp_places.proofs.placing.give_way.Goals as goal

pub returns-clause-told : goal.returns-clause-told
returns-clause-told g c = closed_one c.args.links.now c.args.k c.requires c.close.ensures.told (λ none. ap g.W.Logged.log (c.close.ensures.none none))
