use Rattle.std.proofs.Common.{◌<◌, ◌∙◌, length, ap, arith}
use Rattle.std.proofs.lemmas.List.{length-map}
use Rattle.pp_seats.specs.declared.seat.Seat.{Seat}
use Rattle.pp_state.proofs.SeatsLemmas.{set_numbers, without_row-number}
use Rattle.pp_state.proofs.state.State.drop_row.Goals as goal

pub returns-clause-numbers : goal.returns-clause-numbers
returns-clause-numbers c =
    let seats = c.clear_row.new.self.seats.items in
    let within : c.args.i < length seats = omega (arith, c.requires, ap length c.clear_row.ensures.numbers, length-map seats (λ (s : Seat). s.client.id), length-map c.args.self.now.seats.items (λ (s : Seat). s.client.id)) in
    set_numbers c.args.i seats c.index_mut.result.now c.lose_row.new.self within c.index_mut.ensures.value (ap (λ (s : Seat). s.client.id) c.lose_row.ensures ∙ without_row-number c.index_mut.result.now) ∙ c.clear_row.ensures.numbers
