use Rattle.std.proofs.Common.{List, ◌++◌, ◌∷◌, [], refl, sym, ◌∙◌, ap, subst}
use Rattle.pp_holes.specs.Places.{shown}
use Rattle.pp_holes.specs.Cells.{chunks_of}
use Rattle.pp_objects.specs.Instances.{Instance, Rows, in_slot, is_there, row_of}
use Rattle.pp_objects.specs.Changes.{new_row, set_aside, retired_from, given_back_by}
use Rattle.pp_objects.specs.Kept.{kept_of}
use Rattle.pp_objects.specs.Agreement.{AllAgree}
use Rattle.pp_objects.proofs.Staying.{there_settled}
use Rattle.pp_objects.proofs.Settling.{aside_still, settled_aside, given_as_aside, no_former, agree_made}
use Rattle.pp_objects.proofs.objects.Objects.settle.Goals as goal

pub returns-in_err-id-clause-agrees : goal.returns-in_err-id-clause-agrees
returns-in_err-id-clause-agrees c =
    let P : Rows → Type 0 = λ w. AllAgree w.instances c.args.pool.now.used in
    subst P (sym c.in_err-id.ensures.refused) c.requires.agrees

pub retire_id-requires-clause-there : goal.retire_id-requires-clause-there
retire_id-requires-clause-there c =
    ap (is_there c.in-Some.former) c.in_ok-id.ensures.made
    ∙ aside_still c.args.self.now.instances (new_row c.in_ok-id.id c.args.key.now c.args.version.now (kept_of c.args.fields.now c.args.times) c.args.times ∷ []) (row_of c.args.key.now c.args.self.now.instances) c.in-Some.former c.in-Some.ensures.current c.in-Some.ensures.there

pub retire_id-requires-clause-agrees : goal.retire_id-requires-clause-agrees
retire_id-requires-clause-agrees c =
    let P : List Instance → Type 0 = λ is. AllAgree is c.args.pool.now.used in
    subst P (sym c.in_ok-id.ensures.made) (agree_made c.args.self.now.instances (new_row c.in_ok-id.id c.args.key.now c.args.version.now (kept_of c.args.fields.now c.args.times) c.args.times) (row_of c.args.key.now c.args.self.now.instances) c.args.pool.now.used (chunks_of c.args.version.now.length) refl c.in_ok-id.ensures.vacant c.requires.agrees)

pub returns-in_default-clause-agrees : goal.returns-in_default-clause-agrees
returns-in_default-clause-agrees c =
    let P : List Instance → Type 0 = λ is. AllAgree is c.args.pool.now.used in
    subst P (sym c.in_ok-id.ensures.made) (agree_made c.args.self.now.instances (new_row c.in_ok-id.id c.args.key.now c.args.version.now (kept_of c.args.fields.now c.args.times) c.args.times) (row_of c.args.key.now c.args.self.now.instances) c.args.pool.now.used (chunks_of c.args.version.now.length) refl c.in_ok-id.ensures.vacant c.requires.agrees)

pub returns-in-Some-clause-settled : goal.returns-in-Some-clause-settled
returns-in-Some-clause-settled c =
    c.retire_id.ensures.retired
    ∙ ap (λ is. retired_from (in_slot c.in-Some.former.slot is) is) c.in_ok-id.ensures.made
    ∙ settled_aside c.args.self.now.instances (new_row c.in_ok-id.id c.args.key.now c.args.version.now (kept_of c.args.fields.now c.args.times) c.args.times ∷ []) (row_of c.args.key.now c.args.self.now.instances) c.in-Some.former c.in-Some.ensures.current c.in-Some.ensures.there

pub returns-in-Some-clause-given : goal.returns-in-Some-clause-given
returns-in-Some-clause-given c =
    c.retire_id.ensures.given
    ∙ ap (λ is. given_back_by (in_slot c.in-Some.former.slot is) (shown c.args.pool.now.used)) c.in_ok-id.ensures.made
    ∙ given_as_aside c.args.self.now.instances (new_row c.in_ok-id.id c.args.key.now c.args.version.now (kept_of c.args.fields.now c.args.times) c.args.times ∷ []) (row_of c.args.key.now c.args.self.now.instances) c.in-Some.former (shown c.args.pool.now.used) c.in-Some.ensures.current c.in-Some.ensures.there

pub returns-in_default-clause-settled : goal.returns-in_default-clause-settled
returns-in_default-clause-settled c =
    c.in_ok-id.ensures.made
    ∙ ap (λ x. set_aside x (c.args.self.now.instances ++ new_row c.in_ok-id.id c.args.key.now c.args.version.now (kept_of c.args.fields.now c.args.times) c.args.times ∷ [])) (no_former (row_of c.args.key.now c.args.self.now.instances) (sym c.in_default.is ∙ c.current-former.ensures.current))
    ∙ sym (ap (λ x. retired_from x (c.args.self.now.instances ++ new_row c.in_ok-id.id c.args.key.now c.args.version.now (kept_of c.args.fields.now c.args.times) c.args.times ∷ [])) (no_former (row_of c.args.key.now c.args.self.now.instances) (sym c.in_default.is ∙ c.current-former.ensures.current)))

pub returns-in-Some-clause-there : goal.returns-in-Some-clause-there
returns-in-Some-clause-there c =
    ap (is_there c.in_ok-id.id) (returns-in-Some-clause-settled c)
    ∙ there_settled c.in_ok-id.id c.args.key.now c.args.version.now (kept_of c.args.fields.now c.args.times) c.args.times c.args.self.now.instances c.in_ok-id.ensures.vacant

pub returns-in_default-clause-there : goal.returns-in_default-clause-there
returns-in_default-clause-there c =
    ap (is_there c.in_ok-id.id) (returns-in_default-clause-settled c)
    ∙ there_settled c.in_ok-id.id c.args.key.now c.args.version.now (kept_of c.args.fields.now c.args.times) c.args.times c.args.self.now.instances c.in_ok-id.ensures.vacant
