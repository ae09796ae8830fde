use Rattle.std.proofs.Common.{arith, ◌∙◌, ap, ℕ, replicate}
use Rattle.pp_recover.proofs.StrayLemmas.{rests_reaches, close_runs, close_rests}
use Rattle.pp_recover.proofs.strays.close_from.Goals as goal

pub write-requires : goal.write-requires
write-requires g c = record { reaches = rests_reaches _ c.args.name.now _ _ (omega arith) c.requires.stands }

pub returns-clause-ops : goal.returns-clause-ops
returns-clause-ops g c = close_runs _ _ c.args.name.now _ _ _ c.write.result (c.closed.ensures ∙ ap (λ (k : ℕ). replicate k 0) c.open_from.ensures.count) c.write.ensures.told

pub returns-clause-stands : goal.returns-clause-stands
returns-clause-stands g c = close_rests _ _ c.args.name.now c.args.gates.now c.args.i c.write.result c.requires.within c.requires.stands
    (close_runs _ _ c.args.name.now _ _ _ c.write.result (c.closed.ensures ∙ ap (λ (k : ℕ). replicate k 0) c.open_from.ensures.count) c.write.ensures.told)
