use Rattle.std.proofs.Common.{◌≡◌, ◌-◌, ◌+◌, ◌∙◌, subst, sym, ap, arith, refl, ℕ, length, List, None, Some}
use Rattle.std.proofs.lemmas.Grind.{common_steps}
use Rattle.pp_take.proofs.GivingUpLemmas.{Leads, leads_first, leads_next, leads_out, leads_over, next}
use Rattle.pp_take.proofs.filling.give_up_asks.Goals as goal
use Rattle.pp_state.specs.Ends.{AreInOrder, numbers_of, parts}
use Rattle.pp_state.specs.declared.state.State.{State}

pub loop-ask-init : goal.loop-ask-init
loop-ask-init c =
    let old : State = c.args.state.now in
    let all : ℕ = length old.flow.waiting + length old.flow.placed in
    record {
      is = λ order rises.
          let none : all ≡ all - 0 = omega (arith) in
          subst (λ (m : ℕ). Leads None m (parts old) (parts old)) none (leads_first all (parts old) rises (omega (arith)));
      numbers = refl;
      astray = refl;
      rest = refl;
    }

pub loop-ask-preserved : goal.loop-ask-preserved
loop-ask-preserved c =
    let old : State = c.args.state.now in
    let mid : State = c.loop-ask.state in
    let new : State = c.give_up_ask.new.state in
    let number : ℕ = c.in-Some.number in
    let all : ℕ = length old.flow.waiting + length old.flow.placed in
    let i : ℕ = c.loop-ask._ask in
    let found : next c.loop-ask.after mid.flow.waiting ≡ Some number = sym c.waiting.ensures ∙ c.in-Some.is in
    record {
      is = λ order rises.
          let seated : AreInOrder (numbers_of mid.seats.items) = subst (λ (ns : List ℕ). AreInOrder ns) (sym c.loop-ask.invariant.numbers) order in
          let one : all - i - 1 ≡ all - (i + 1) = omega (arith) in
          subst (λ (m : ℕ). Leads (Some number) m (parts old) (parts new)) one
          (leads_next c.loop-ask.after number (all - i) (parts old) (parts mid) (parts new) (c.loop-ask.invariant.is order rises) found (c.give_up_ask.ensures.is seated));
      numbers = c.give_up_ask.ensures.numbers ∙ c.loop-ask.invariant.numbers;
      astray = c.give_up_ask.ensures.astray ∙ c.loop-ask.invariant.astray;
      rest = ap (λ (s : State). record s { seats = old.seats; flow = old.flow; cache = old.cache; refused = old.refused; is_astray = old.is_astray }) c.give_up_ask.ensures.rest ∙ c.loop-ask.invariant.rest;
    }

pub returns-after-loop-ask-clause-is : goal.returns-after-loop-ask-clause-is
returns-after-loop-ask-clause-is c = λ order rises.
    let old : State = c.args.state.now in
    let all : ℕ = length old.flow.waiting + length old.flow.placed in
    let done : all - c.loop-ask._ask ≡ 0 = grind (arith, common_steps) in
    leads_out c.loop-ask.after (parts old) (parts c.loop-ask.state) (subst (λ (m : ℕ). Leads c.loop-ask.after m (parts old) (parts c.loop-ask.state)) done (c.loop-ask.invariant.is order rises))

pub returns-in_default-clause-is : goal.returns-in_default-clause-is
returns-in_default-clause-is c = λ order rises.
    let old : State = c.args.state.now in
    let all : ℕ = length old.flow.waiting + length old.flow.placed in
    let none : next c.loop-ask.after c.loop-ask.state.flow.waiting ≡ None = grind (arith, common_steps) in
    leads_over c.loop-ask.after (all - c.loop-ask._ask) (parts old) (parts c.loop-ask.state) (c.loop-ask.invariant.is order rises) none
