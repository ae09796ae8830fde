use Rattle.std.proofs.Common.{◌≡◌, ◌∙◌, ◌≤◌, length, ap, arith, subst, sym}
use Rattle.std.proofs.lemmas.Grind.{common_steps}
use Rattle.pp_client.specs.Inside.{heard_as}
use Rattle.pp_client.specs.Requests.{Heard, body_in, body_taken, heard_in}
use Rattle.pp_client.proofs.BodyTaken.{taken_heard}
use Rattle.pp_client.proofs.heard.Heard.body_took.Goals as goal

pub returns-clause-later : goal.returns-clause-later
returns-clause-later c =
    let now : Heard = record { head = c.self.inside.head.value.items; rest = c.took.new.self; body = c.shortened-self-inside.result } in
    let old : Heard = heard_as c.self.inside in
    let taken : now ≡ body_taken c.args.n old = grind (arith, common_steps) in
    let some : c.args.n ≤ length (body_in old) = subst (λ h. c.args.n ≤ length (body_in h)) (sym c.self.view_is) c.requires in
    λ more.
    ap (heard_in more) taken
    ∙ subst (λ h. heard_in more (body_taken c.args.n old) ≡ body_taken c.args.n (heard_in more h)) c.self.view_is
    (taken_heard c.args.n old more some c.self.invariant.step.idle)
