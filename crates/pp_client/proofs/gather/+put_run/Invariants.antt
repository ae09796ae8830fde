use Rattle.pp_client.proofs.gather.+put_run.Given as goal

abbrev pub decreases-put_run : goal.decreases-put_run
decreases-put_run l = l.chunks
