use Rattle.std.proofs.Common.{◌≡◌, ◌∙◌, ◌++◌, length, drop, take, ap, sym, arith}
use Rattle.std.proofs.lemmas.List.{length-map}
use Rattle.pp_seats.specs.declared.seat.Seat.{Seat}
use Rattle.pp_state.specs.Ends.{all_decided_anew, numbers_of}
use Rattle.pp_state.proofs.SeatsLemmas.{anew_numbers, refilled}
use Rattle.pp_state.proofs.state.State.clear_row.Goals as goal

pub returns-in-Some-clause-numbers : goal.returns-in-Some-clause-numbers
returns-in-Some-clause-numbers c =
    let old = c.args.self.now.seats.items in
    let new = c.clear_key.new.seats in
    let anew : new ≡ all_decided_anew c.in-Some.key.now c.args.self.now.refused old = c.clear_key.ensures.seats ∙ ap (all_decided_anew c.in-Some.key.now c.args.self.now.refused) c.deref_mut.ensures.value in
    let numbers : numbers_of new ≡ numbers_of old = ap numbers_of anew ∙ anew_numbers c.in-Some.key.now c.args.self.now.refused old in
    let fits : length new ≡ c.args.self.now.seats.len = omega (arith, ap length numbers, length-map new (λ (s : Seat). s.client.id), length-map old (λ (s : Seat). s.client.id), c.deref_mut.ensures.len, ap length c.deref_mut.ensures.value) in
    ap numbers_of (ap (λ n. take n (new ++ drop (length new) old)) (sym fits) ∙ refilled new (drop (length new) old)) ∙ numbers
