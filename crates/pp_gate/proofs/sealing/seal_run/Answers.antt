use Rattle.std.proofs.Common.{refl}
use Rattle.pp_gate.proofs.Views.{on_ok}
use Rattle.pp_gate.proofs.Ops.{others_moments}
use Rattle.pp_gate.proofs.SealLemmas.{seal_moments, seal_keeps}
use Rattle.pp_gate.proofs.sealing.seal_run.Goals as goal

pub returns-clause-any_moment : goal.returns-clause-any_moment
returns-clause-any_moment g c =
    seal_moments _ _ _ g.claim'.sent c.args.name.now g.claim'.block c.args.n c.args.first c.args.count c.args.bytes.now c.requires.1.1.0 c.requires.1.1.1 c.seal_steps.ensures.ops

pub returns-clause-others : goal.returns-clause-others
returns-clause-others g c = others_moments _ _ _ _ c.args.name.now (refl, (refl, (refl, (refl, tt)))) c.seal_steps.ensures.ops

pub returns-clause-done : goal.returns-clause-done
returns-clause-done g c = on_ok _ _ _ c.seal_steps.result _ c.seal_steps.ensures.ops
    (λ runs. seal_keeps _ _ g.claim'.sent c.args.name.now g.claim'.block c.args.n c.args.first c.args.count c.args.bytes.now c.requires.1.1.0 c.requires.1.1.1 runs)
