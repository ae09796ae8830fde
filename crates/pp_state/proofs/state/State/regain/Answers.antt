use Rattle.std.proofs.Common.{◌≡◌, ◌∙◌, ◌++◌, length, drop, take, ap, sym, arith, ℕ, List}
use Rattle.std.proofs.lemmas.List.{length-map}
use Rattle.pp_seats.specs.declared.seat.Seat.{Seat}
use Rattle.pp_state.proofs.SeatsLemmas.{refilled, regained_numbers}
use Rattle.pp_state.specs.Ends.{all_regained, numbers_of}
use Rattle.pp_state.specs.declared.state.State.{State}
use Rattle.pp_state.proofs.state.State.regain.Goals as goal

pub returns-clause-numbers : goal.returns-clause-numbers
returns-clause-numbers c =
    let s : State = c.args.self.now in
    let old = s.seats.items in
    let new = c.regain_all.new.seats in
    let anew : new ≡ all_regained s.cache s.awake.items old =
    c.regain_all.ensures ∙ ap (λ (is : List ℕ). all_regained s.cache is c.deref_mut.result.now) c.deref.ensures.value ∙ ap (all_regained s.cache s.awake.items) c.deref_mut.ensures.value in
    let numbers : numbers_of new ≡ numbers_of old = ap numbers_of anew ∙ regained_numbers s.cache s.awake.items old in
    let fits : length new ≡ s.seats.len = omega (arith, ap length numbers, length-map new (λ (x : Seat). x.client.id), length-map old (λ (x : Seat). x.client.id), c.deref_mut.ensures.len, ap length c.deref_mut.ensures.value) in
    ap numbers_of (ap (λ n. take n (new ++ drop (length new) old)) (sym fits) ∙ refilled new (drop (length new) old)) ∙ numbers
