use Rattle.pp_gate.proofs.sealing.seal_run.Given as goal

abbrev pub ghost-seal_steps : goal.ghost-seal_steps
ghost-seal_steps g a = g.claim'
