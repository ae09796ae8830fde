use Rattle.std.proofs.Common.{None, Some, refl, sym, ◌∙◌, ap}
use Rattle.std.specs.Prelude.{is_some}
use Rattle.pp_objects.specs.Instances.{is_life}
use Rattle.pp_objects.proofs.Slots.{seen_row}
use Rattle.pp_objects.proofs.Agreeing.{other_test, same_test, true_false, shown_in}
use Rattle.pp_objects.proofs.objects.Objects.row.Goals as goal

pub returns-in_err-row-clause-none : goal.returns-in_err-row-clause-none
returns-in_err-row-clause-none c =
    (λ _. ap (is_life c.args.id.life) (seen_row c.self.inside c.args.self.now c.args.id.slot None c.self.invariant.sound c.self.view_is c.in_err-row.ensures), λ _. ap is_some c.from_residual.ensures)

pub returns-then-row-id-clause-none : goal.returns-then-row-id-clause-none
returns-then-row-id-clause-none c =
    (λ _. ap (is_life c.args.id.life) (seen_row c.self.inside c.args.self.now c.args.id.slot (Some c.in_ok-row.row.now) c.self.invariant.sound c.self.view_is c.in_ok-row.ensures) ∙ other_test c.in_ok-row.row.now.life c.args.id.life c.if-row-id.true, λ _. refl)

pub returns-clause-none : goal.returns-clause-none
returns-clause-none c = (
  λ h. absurd (true_false h),
  λ h. absurd (true_false (sym (ap (is_life c.args.id.life) (seen_row c.self.inside c.args.self.now c.args.id.slot (Some c.in_ok-row.row.now) c.self.invariant.sound c.self.view_is c.in_ok-row.ensures) ∙ same_test c.in_ok-row.row.now.life c.args.id.life c.if-row-id.false) ∙ h)),
)

pub returns-clause-shows : goal.returns-clause-shows
returns-clause-shows c =
    shown_in _ _ _ (seen_row c.self.inside c.args.self.now c.args.id.slot (Some c.in_ok-row.row.now) c.self.invariant.sound c.self.view_is c.in_ok-row.ensures)
    (record { key = c.as_slice.ensures; version = refl; fields = c.fields.ensures; times = refl; retired = refl; followers = refl })
