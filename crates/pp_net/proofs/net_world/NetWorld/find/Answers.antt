use Rattle.pp_net.proofs.net_world.NetWorld.find.Goals as goal

pub returns-in-Some-clause-found : goal.returns-in-Some-clause-found
returns-in-Some-clause-found g c = c.in-Some.ensures.found c.args.wants.now
