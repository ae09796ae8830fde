use Rattle.std.proofs.Common.{◌≡◌, ◌∙◌, ap, arith}
use Rattle.std.proofs.lemmas.Grind.{common_steps}
use Rattle.pp_client.specs.Requests.{Heard, answered, body_dropped, heard_in}
use Rattle.pp_client.proofs.BodyDropped.{dropped_answered, dropped_heard}
use Rattle.pp_client.proofs.heard.Heard.drop_body.Goals as goal

pub returns-clause-next : goal.returns-clause-next
returns-clause-next c =
    let now : Heard = record { head = c.self.inside.head.value.items; rest = c.took.new.self; body = c.unwanted-self-inside.result } in
    let dropped : now ≡ body_dropped c.args.self.now = grind (arith, common_steps) in
    ap answered dropped ∙ dropped_answered c.args.self.now

pub returns-clause-later : goal.returns-clause-later
returns-clause-later c =
    let now : Heard = record { head = c.self.inside.head.value.items; rest = c.took.new.self; body = c.unwanted-self-inside.result } in
    let dropped : now ≡ body_dropped c.args.self.now = grind (arith, common_steps) in
    λ more some. ap (heard_in more) dropped ∙ dropped_heard c.args.self.now more some
