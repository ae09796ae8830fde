use Rattle.std.proofs.Common.{◌≡◌, ◌∙◌, sym, subst, ℕ, Option, Some, None, [], refl, arith}
use Rattle.std.proofs.lemmas.Grind.{common_steps}
use Rattle.pp_proxy.specs.Taking.{decision_log, due_log_for, due_log_of, who_at}
use Rattle.pp_desk.proofs.ShuttingLemmas.{none_added}
use Rattle.pp_seats.specs.declared.due.Due.{Due}
use Rattle.pp_state.specs.declared.state.State.{State}
use Rattle.pp_world.specs.Log.{AppendsAll, Log}
use Rattle.pp_world.specs.declared.note.Decision.{Decision}
use Rattle.pp_proxy.proofs.steps.take_due.Goals as goal

pub returns-in_default-clause-told : goal.returns-in_default-clause-told
returns-in_default-clause-told g c =
    let s : State = c.args.desk.now.state in
    let log : Option Log = g.W.Logged.log c.args.world.now in
    let none : who_at c.args.i s ≡ None = grind (arith, common_steps) in
    subst (λ (o : Option (ℕ × ℕ)). AppendsAll log log (λ l. due_log_of o c.args.i c.args.due s)) (sym none) (none_added [] refl refl)

pub returns-in-Decide-clause-told : goal.returns-in-Decide-clause-told
returns-in-Decide-clause-told g c =
    let s : State = c.args.desk.now.state in
    let before : Option Log = g.W.Logged.log c.args.world.now in
    let after : Option Log = g.W.Logged.log c.take_decision.new.world in
    let who : ℕ × ℕ = (c.in-Some.client, c.in-Some.index) in
    let there : who_at c.args.i s ≡ Some who = sym c.who_at.ensures ∙ c.in-Some.is in
    subst (λ (o : Option (ℕ × ℕ)). AppendsAll before after (λ l. due_log_of o c.args.i c.args.due s)) (sym there)
    (subst (λ (x : Due). AppendsAll before after (λ l. due_log_for who c.args.i x s)) (sym c.in-Decide.is)
    (subst (λ (d : Decision). AppendsAll before after (λ l. decision_log who c.args.i d s)) c.afforded-decision.ensures c.take_decision.ensures.told))

pub returns-in-CutOff-clause-told : goal.returns-in-CutOff-clause-told
returns-in-CutOff-clause-told g c =
    let s : State = c.args.desk.now.state in
    let before : Option Log = g.W.Logged.log c.args.world.now in
    let after : Option Log = g.W.Logged.log c.note.new.world in
    let who : ℕ × ℕ = (c.in-Some.client, c.in-Some.index) in
    let there : who_at c.args.i s ≡ Some who = sym c.who_at.ensures ∙ c.in-Some.is in
    subst (λ (o : Option (ℕ × ℕ)). AppendsAll before after (λ l. due_log_of o c.args.i c.args.due s)) (sym there)
    (subst (λ (x : Due). AppendsAll before after (λ l. due_log_for who c.args.i x s)) (sym c.in-CutOff.is) c.note.ensures.told)
