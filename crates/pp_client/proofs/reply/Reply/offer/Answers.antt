use Rattle.std.proofs.Common.{◌≡◌, ◌<◌, ◌∙◌, length, sym, ap, subst, arith}
use Rattle.pp_holes.specs.Places.{shown}
use Rattle.pp_client.specs.Replies.{Reply, interim_left}
use Rattle.pp_client.proofs.AtHandLemmas.{begun_empty}
use Rattle.pp_client.proofs.reply.Reply.offer.Goals as goal

pub returns-then-len-gt0-clause-empty : goal.returns-then-len-gt0-clause-empty
returns-then-len-gt0-clause-empty c =
    let none : interim_left c.self.inside.interim ≡ 0 = omega (arith, c.left-left.ensures, c.if-left-gt0.false) in
    let some : 0 < length c.self.inside.text = omega (arith, c.len.ensures, c.if-len-gt0.true) in
    begun_empty c.args.self.now (shown c.args.pool.now.used) c.in-Begun.reply c.as_slice.result.now
    (sym (ap (λ (r : Reply). interim_left r.interim) c.self.view_is) ∙ none)
    (sym (ap (λ (r : Reply). r.stage) c.self.view_is) ∙ c.in-Begun.is)
    (c.as_slice.ensures ∙ ap (λ (r : Reply). r.text) c.self.view_is)
    (subst (λ (r : Reply). 0 < length r.text) c.self.view_is some)
