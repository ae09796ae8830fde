use Rattle.pp_memworld.proofs.memworld.MemWorld.choose.Goals as goal

pub returns-in-Some-play-clause-chosen : goal.returns-in-Some-play-clause-chosen
returns-in-Some-play-clause-chosen c = c.in-Some-play.ensures.chosen c.args.wants.now c.args.self.now.record
