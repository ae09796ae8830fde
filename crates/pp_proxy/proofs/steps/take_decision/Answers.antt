use Rattle.std.proofs.Common.{◌≡◌, ◌∙◌, ap, subst, List, ◌∷◌, []}
use Rattle.pp_places.proofs.PlacingLemmas.{told_then}
use Rattle.pp_proxy.proofs.TakingLemmas.{given_numbers, given_rest, regained_numbers}
use Rattle.pp_seats.specs.declared.seat.Seat.{Seat}
use Rattle.pp_take.specs.Deciding.{Takes}
use Rattle.pp_state.specs.Ends.{Parts, all_regained, numbers_of, parts}
use Rattle.pp_steps.specs.Evicting.{given_way, row_in_way, row_notes}
use Rattle.pp_state.specs.declared.state.State.{State}
use Rattle.pp_world.specs.declared.happening.Happening.TheVariants.{Noted}
use Rattle.pp_world.specs.declared.note.Remark.TheVariants.{Taken}
use Rattle.pp_proxy.proofs.steps.take_decision.Goals as goal

pub returns-clause-told : goal.returns-clause-told
returns-clause-told g c = told_then (row_notes (row_in_way c.args.decision c.args.i c.args.state.now)) (Noted (Taken c.args.client c.args.index c.args.decision) ∷ []) c.give_way.ensures.told c.note.ensures.told

pub returns-clause-is : goal.returns-clause-is
returns-clause-is g c =
    let old : State = c.args.state.now in
    let i = c.args.i in
    let d = c.args.decision in
    let given : State = c.give_way.new.state in
    let mid : State = c.take.new.state in
    let new : State = c.regain.new.self in
    let same : given ≡ given_way d i old = c.give_way.ensures.is in
    let rest_given : record given { seats = old.seats; flow = old.flow; cache = old.cache; refused = old.refused; is_astray = old.is_astray } ≡ old =
    ap (λ (s : State). record s { seats = old.seats; flow = old.flow; cache = old.cache; refused = old.refused; is_astray = old.is_astray }) same ∙ given_rest d i old in
    let rest_mid : record mid { seats = old.seats; flow = old.flow; cache = old.cache; refused = old.refused; is_astray = old.is_astray } ≡ old =
    ap (λ (s : State). record s { seats = old.seats; flow = old.flow; cache = old.cache; refused = old.refused; is_astray = old.is_astray }) c.take.ensures.rest ∙ rest_given in
    let with_seats : List Seat → State → Parts = λ seats s. record { seats = seats; flow = s.flow; cache = s.cache; refused = s.refused; is_astray = s.is_astray } in
    record {
      between = parts mid;
      takes = subst (λ (s : State). Takes s.name.items i d (parts (given_way d i old)) (parts mid)) rest_given (subst (λ (p : Parts). Takes given.name.items i d p (parts mid)) (ap parts same) c.take.ensures.is);
      is = ap (λ (seats : List Seat). with_seats seats new) c.regain.ensures.is
          ∙ ap (λ (s : State). with_seats (all_regained mid.cache mid.awake.items mid.seats.items) s) c.regain.ensures.rest
          ∙ ap (λ (s : State). with_seats (all_regained mid.cache s.awake.items mid.seats.items) mid) rest_mid;
    }

pub returns-clause-numbers : goal.returns-clause-numbers
returns-clause-numbers g c =
    ap numbers_of c.regain.ensures.is ∙ regained_numbers c.take.new.state.cache c.take.new.state.awake.items c.take.new.state.seats.items
    ∙ c.take.ensures.numbers ∙ ap (λ (s : State). numbers_of s.seats.items) c.give_way.ensures.is ∙ given_numbers c.args.decision c.args.i c.args.state.now

pub returns-clause-rest : goal.returns-clause-rest
returns-clause-rest g c =
    let old : State = c.args.state.now in
    let back : State → State = λ s. record s { seats = old.seats; flow = old.flow; cache = old.cache; refused = old.refused; is_astray = old.is_astray } in
    ap back c.regain.ensures.rest ∙ ap back c.take.ensures.rest ∙ ap back c.give_way.ensures.is ∙ given_rest c.args.decision c.args.i old
