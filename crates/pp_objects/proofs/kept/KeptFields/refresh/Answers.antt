use Rattle.std.proofs.Common.{List, sym, ◌∙◌, subst}
use Rattle.pp_text.specs.Fields.{Field}
use Rattle.pp_objects.specs.Texts.{FieldText, HoldsRefresh}
use Rattle.pp_objects.proofs.Refreshing.{never_fails, refreshed_holds}
use Rattle.pp_objects.proofs.kept.KeptFields.refresh.Goals as goal

pub invariant_of-self : goal.invariant_of-self
invariant_of-self c =
    let P : List Field → Type 0 = λ fs. HoldsRefresh fs c.self.inside.spare in
    absurd (never_fails c.put_refreshed.result c.fields.result c.args.self.now c.args.fields.now c.args.times c.self.inside.spare c.clear.new.self
    (sym c.is_err.ensures.value ∙ c.if-is_err.true) c.put_refreshed.ensures.full (c.fields.ensures ∙ c.self.view_is) c.clear.ensures c.requires (subst P c.self.view_is c.self.invariant.1))

pub returns-then-is_err : goal.returns-then-is_err
returns-then-is_err c =
    let P : List Field → Type 0 = λ fs. HoldsRefresh fs c.self.inside.spare in
    absurd (never_fails c.put_refreshed.result c.fields.result c.args.self.now c.args.fields.now c.args.times c.self.inside.spare c.clear.new.self
    (sym c.is_err.ensures.value ∙ c.if-is_err.true) c.put_refreshed.ensures.full (c.fields.ensures ∙ c.self.view_is) c.clear.ensures c.requires (subst P c.self.view_is c.self.invariant.1))

pub invariant_of-self-2 : goal.invariant_of-self-2
invariant_of-self-2 c =
    let P : List Field → Type 0 = λ fs. HoldsRefresh fs c.self.inside.spare in
    let Q : List Field → Type 0 = λ fs. HoldsRefresh fs c.self.inside.shown in
    let X : FieldText → Type 0 = λ t. HoldsRefresh t.fields t in
    let Y : FieldText → Type 0 = λ t. HoldsRefresh c.swap.new.x.fields t in
    let Z : FieldText → Type 0 = λ t. HoldsRefresh t.fields c.self.inside.shown in
    let both = refreshed_holds c.put_refreshed.result c.fields.result c.args.self.now c.args.fields.now c.args.times c.self.inside.spare c.clear.new.self c.put_refreshed.new.text
    (sym c.is_err.ensures.value ∙ c.if-is_err.false) c.put_refreshed.ensures.ok (c.fields.ensures ∙ c.self.view_is) c.clear.ensures (subst P c.self.view_is c.self.invariant.1) in
    (subst X (sym c.swap.ensures.x_after) both.1, subst Y (sym c.swap.ensures.y_after) (subst Z (sym c.swap.ensures.x_after) (both.2 c.self.inside.shown (subst Q c.self.view_is c.self.invariant.0))))
