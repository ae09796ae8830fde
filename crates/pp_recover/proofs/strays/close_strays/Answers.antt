use Rattle.std.proofs.Common.{sym, ◌∙◌}
use Rattle.pp_recover.proofs.StrayLemmas.{closing_cut, closing_none, closing_synced}
use Rattle.pp_recover.proofs.strays.close_strays.Goals as goal

pub returns-then-not-has_strays-clause-ops : goal.returns-then-not-has_strays-clause-ops
returns-then-not-has_strays-clause-ops g c = closing_none _ c.args.name.now c.args.gates.now (sym c.has_strays.ensures ∙ c.if-not-has_strays.true)

pub returns-in_err-close_each-clause-ops : goal.returns-in_err-close_each-clause-ops
returns-in_err-close_each-clause-ops g c =
    closing_cut _ _ c.args.name.now c.args.gates.now c.from_residual.result (sym c.has_strays.ensures ∙ c.if-not-has_strays.false) c.from_residual.ensures.0 c.in_err-close_each.ensures.ops

pub returns-clause-ops : goal.returns-clause-ops
returns-clause-ops g c =
    closing_synced _ _ _ c.args.name.now c.args.gates.now c.sync.result (sym c.has_strays.ensures ∙ c.if-not-has_strays.false) c.in_ok-close_each.ensures.ops c.sync.ensures.told
