use Rattle.std.proofs.Common.{sym, subst, ℕ, List, refl}
use Rattle.pp_proxy.proofs.LeadingLemmas.{leads_then}
use Rattle.pp_proxy.specs.Moving.{moving}
use Rattle.pp_state.specs.Ends.{AreInOrder}
use Rattle.pp_proxy.proofs.steps.settle.Goals as goal

pub returns-clause-is : goal.returns-clause-is
returns-clause-is g c = λ seated.
    let top = g.W.Logged.top in
    let mid = c.decide.new in
    let between = moving mid.desk mid.links (top mid.world) in
    leads_then (λ one two first second. record { between = between; any = c.decide.result; first = one; rest = two; log_is = refl; decides = first; goes = second }) (c.decide.ensures.is seated)
    (c.go_on.ensures.is (subst (λ (ns : List ℕ). AreInOrder ns) (sym c.decide.ensures.numbers) seated))

pub returns-clause-seated : goal.returns-clause-seated
returns-clause-seated g c = λ seated. c.go_on.ensures.seated (subst (λ (ns : List ℕ). AreInOrder ns) (sym c.decide.ensures.numbers) seated)
