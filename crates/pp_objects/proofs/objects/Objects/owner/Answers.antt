use Rattle.std.proofs.Common.{None, Some, refl, sym, ◌∙◌, ap}
use Rattle.std.specs.Prelude.{option_map}
use Rattle.pp_objects.specs.Instances.{id_of, is_life}
use Rattle.pp_objects.proofs.Slots.{seen_row}
use Rattle.pp_objects.proofs.Agreeing.{same_test}
use Rattle.pp_objects.proofs.objects.Objects.owner.Goals as goal

pub returns-in_err-row-clause-owner : goal.returns-in_err-row-clause-owner
returns-in_err-row-clause-owner c = c.from_residual.ensures ∙ sym (ap (option_map id_of) (seen_row c.self.inside c.args.self.now c.args.slot None c.self.invariant.sound c.self.view_is c.in_err-row.ensures))

pub returns-clause-owner : goal.returns-clause-owner
returns-clause-owner c = sym (ap (option_map id_of) (seen_row c.self.inside c.args.self.now c.args.slot (Some c.in_ok-row.row.now) c.self.invariant.sound c.self.view_is c.in_ok-row.ensures))

pub returns-clause-there : goal.returns-clause-there
returns-clause-there c =
    ap (is_life c.in_ok-row.row.now.life) (seen_row c.self.inside c.args.self.now c.args.slot (Some c.in_ok-row.row.now) c.self.invariant.sound c.self.view_is c.in_ok-row.ensures)
    ∙ same_test c.in_ok-row.row.now.life c.in_ok-row.row.now.life refl
