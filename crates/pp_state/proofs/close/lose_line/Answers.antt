use Rattle.std.proofs.Common.{◌≡◌, ◌-◌, ◌+◌, ◌∙◌, subst, sym, ap, ℕ, List, Some}
use Rattle.pp_state.proofs.LineLemmas.{line_next}
use Rattle.pp_state.proofs.close.lose_line.Goals as goal
use Rattle.pp_state.specs.Ends.{AreInOrder, Parts, numbers_of, parts}
use Rattle.pp_state.specs.Lines.{first_on, lost_line}
use Rattle.pp_state.specs.declared.state.State.{State}

pub loop-exchange-preserved : goal.loop-exchange-preserved
loop-exchange-preserved c =
    let old : State = c.args.state.now in
    let first : first_on c.args.k (parts c.loop-exchange.state) ≡ Some c.in-Some.number = sym c.line.ensures ∙ c.in-Some.is in
    record {
      is = λ order.
          let seated : AreInOrder (numbers_of c.loop-exchange.state.seats.items) = subst (λ (ns : List ℕ). AreInOrder ns) (sym c.loop-exchange.invariant.numbers) order in
          ap (λ (p : Parts). lost_line (1024 - (c.loop-exchange._exchange + 1)) c.args.k c.args.counts p) (c.lose_place.ensures.is seated)
          ∙ sym (line_next 1024 c.loop-exchange._exchange c.args.k c.in-Some.number c.args.counts (parts c.loop-exchange.state) c.loop-exchange-test.true first)
          ∙ c.loop-exchange.invariant.is order;
      numbers = c.lose_place.ensures.numbers ∙ c.loop-exchange.invariant.numbers;
      rest = ap (λ (s : State). record s { seats = old.seats; flow = old.flow; cache = old.cache; refused = old.refused; is_astray = old.is_astray }) c.lose_place.ensures.rest ∙ c.loop-exchange.invariant.rest;
    }
