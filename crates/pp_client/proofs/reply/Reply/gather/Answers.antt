use Rattle.std.proofs.Common.{◌≡◌, ◌≤◌, ◌++◌, ◌∙◌, sym, ap, arith, take}
use Rattle.pp_holes.specs.Places.{shown}
use Rattle.pp_client.specs.Replies.{Reply, body_at_hand, interim_left}
use Rattle.pp_client.proofs.AtHandLemmas.{begun_within, interim_all}
use Rattle.pp_client.proofs.reply.Reply.gather.Goals as goal

pub returns-then-before-gt0-clause-all : goal.returns-then-before-gt0-clause-all
returns-then-before-gt0-clause-all c =
    interim_all c.args.self.now (shown c.args.pool.now.used) c.left-before.result c.last_of_continue.result.now
    (c.left-before.ensures ∙ ap (λ (r : Reply). interim_left r.interim) c.self.view_is) c.if-before-gt0.true
    (omega (arith, c.left-before.ensures, c.self.invariant.interim)) c.last_of_continue.ensures

pub returns-in-Begun-clause-within : goal.returns-in-Begun-clause-within
returns-in-Begun-clause-within c =
    let none : interim_left c.self.inside.interim ≡ 0 = omega (arith, c.left-before.ensures, c.if-before-gt0.false) in
    begun_within c.args.self.now (shown c.args.pool.now.used) c.in-Begun.reply c.gather.result.now
    (sym (ap (λ (r : Reply). interim_left r.interim) c.self.view_is) ∙ none)
    (sym (ap (λ (r : Reply). r.stage) c.self.view_is) ∙ c.in-Begun.is)
    (c.gather.ensures
    ∙ ap (λ l. take 65536 (l ++ body_at_hand c.in-Begun.reply c.self.inside.pass (shown c.args.pool.now.used))) c.as_slice.ensures
    ∙ ap (λ (r : Reply). take 65536 (r.text ++ body_at_hand c.in-Begun.reply r.pipe (shown c.args.pool.now.used))) c.self.view_is)
