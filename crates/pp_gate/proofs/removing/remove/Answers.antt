use Rattle.std.proofs.Common.{[], ◌∷◌, None, refl}
use Rattle.pp_world.specs.declared.op.DiskOp.TheVariants.{Remove}
use Rattle.pp_world.specs.Disk.{View}
use Rattle.pp_gate.proofs.Views.{runs_one, moments}
use Rattle.pp_gate.proofs.Ops.{IsOldOr, removed, others_moments}
use Rattle.pp_gate.proofs.removing.remove.Goals as goal

pub returns-clause-old_or_none : goal.returns-clause-old_or_none
returns-clause-old_or_none g c =
    moments _ _ (Remove c.args.name.now ∷ []) _ c.args.name.now (λ (v : View). Unit {0}) (IsOldOr None) (record { at = λ l is. tt })
    (runs_one _ _ (Remove c.args.name.now) c.remove.result c.remove.ensures.told) (λ v u. removed c.args.name.now v)

pub returns-clause-others : goal.returns-clause-others
returns-clause-others g c =
    others_moments _ _ (Remove c.args.name.now ∷ []) _ c.args.name.now (refl, tt) (runs_one _ _ (Remove c.args.name.now) c.remove.result c.remove.ensures.told)
