use Rattle.std.proofs.Common.{◌≡◌, ◌∙◌, ◌++◌, List, Option, Some, ℕ, ap, sym, subst, length, take, drop}
use Rattle.pp_cache.specs.Memory.{Memory, with_outdated, with_row}
use Rattle.pp_head.specs.Shown.{shown_response}
use Rattle.pp_seats.specs.declared.seat.Seat.{Seat}
use Rattle.pp_state.specs.Ends.{AreInOrder, Parts, all_decided_anew, numbers_of, parts}
use Rattle.pp_state.specs.Keys.{key_of}
use Rattle.pp_answers.specs.Rows.{MakesRowOf, settled_on, times_for}
use Rattle.pp_answers.proofs.OutdatedLemmas.{written_back}
use Rattle.pp_state.proofs.SeatsLemmas.{anew_numbers}
use Rattle.pp_answers.proofs.rows.make_row.Goals as goal

-- the clients that are written back are those that were decided anew
written : (c : goal.After-settle_on) → take c.args.state.now.seats.len (c.forget_refused.new.seats ++ drop (length c.forget_refused.new.seats) c.args.state.now.seats.items) ≡ all_decided_anew c.in-Some.key.now c.args.state.now.refused c.args.state.now.seats.items
written c =
    let key = c.in-Some.key.now in
    let refused = c.args.state.now.refused in
    let lent = c.deref_mut.result.now in
    let new = c.forget_refused.new.seats in
    let same : numbers_of new ≡ numbers_of lent = ap numbers_of c.forget_refused.ensures.seats ∙ anew_numbers key refused lent in
    written_back c.args.state.now.seats.len c.args.state.now.seats.items lent new c.deref_mut.ensures.value c.deref_mut.ensures.len same
    ∙ c.forget_refused.ensures.seats ∙ ap (all_decided_anew key refused) c.deref_mut.ensures.value

same_numbers : (c : goal.After-settle_on) → numbers_of (take c.args.state.now.seats.len (c.forget_refused.new.seats ++ drop (length c.forget_refused.new.seats) c.args.state.now.seats.items)) ≡ numbers_of c.args.state.now.seats.items
same_numbers c = ap numbers_of (written c) ∙ anew_numbers c.in-Some.key.now c.args.state.now.refused c.args.state.now.seats.items

pub returns-in-Ok-clause-numbers : goal.returns-in-Ok-clause-numbers
returns-in-Ok-clause-numbers c = c.settle_on.ensures.numbers ∙ same_numbers c

pub returns-in-Ok-clause-is : goal.returns-in-Ok-clause-is
returns-in-Ok-clause-is c = λ ordered.
    let s = c.args.state.now in
    let e = c.args.e.now in
    let errand = c.args.errand.now in
    let head = shown_response c.args.head.now in
    let v = c.args.version.now in
    let key = c.in-Some.key.now in
    let id = c.in-Ok.id in
    let found : Some key ≡ key_of e.number s.flow = c.in-Some.ensures in
    let made : ℕ → Memory = λ n. with_outdated key (with_row id key v head.fields (times_for errand head s.now) s.cache) in
    let seats = take s.seats.len (c.forget_refused.new.seats ++ drop (length c.forget_refused.new.seats) s.seats.items) in
    let anew = all_decided_anew key s.refused s.seats.items in
    let cache : c.settle.new.self ≡ made 0 = c.in-Ok.ensures.settled ∙ ap (λ t. with_outdated key (with_row id key v head.fields t s.cache)) c.times_for-times.ensures in
    let between =
    ap (λ (x : List Seat). let p : Parts = record { seats = x; flow = s.flow; cache = c.settle.new.self; refused = c.forget_refused.new.refused; is_astray = s.is_astray } in p) (written c)
    ∙ ap (λ (x : Memory). let p : Parts = record { seats = anew; flow = s.flow; cache = x; refused = c.forget_refused.new.refused; is_astray = s.is_astray } in p) cache
    ∙ ap (λ (x : List (List ℕ)). let p : Parts = record { seats = anew; flow = s.flow; cache = made 0; refused = x; is_astray = s.is_astray } in p) c.forget_refused.ensures.refused in
    let P : Option (List ℕ) → Type 0 = λ k. MakesRowOf e errand head v s.now k (parts s) (parts c.settle_on.new.state) in
    subst P found (record {
      made = Some id;
      is_new = (c.in-Ok.ensures.vacant, c.in-Ok.ensures.life);
      becomes = c.settle_on.ensures.is (subst AreInOrder (sym (same_numbers c)) ordered) ∙ ap (settled_on e errand head v id) between;
    })
