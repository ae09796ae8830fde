use Rattle.pp_keeping.proofs.plan.+copy.Given as goal

abbrev pub decreases-copy : goal.decreases-copy
decreases-copy l = l.chunks
