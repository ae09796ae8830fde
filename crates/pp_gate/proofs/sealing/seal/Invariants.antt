use Rattle.pp_gate.proofs.sealing.seal.Given as goal

abbrev pub ghost-seal_run : goal.ghost-seal_run
ghost-seal_run g a = g.claim'
