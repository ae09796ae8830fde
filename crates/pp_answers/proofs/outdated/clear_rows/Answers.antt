use Rattle.std.proofs.Common.{◌≡◌, ◌∙◌, ◌++◌, List, Option, Some, ℕ, ap, sym, subst, length, take, drop}
use Rattle.pp_head.specs.Shown.{shown_response}
use Rattle.pp_seats.specs.declared.seat.Seat.{Seat}
use Rattle.pp_state.specs.Ends.{Parts, cleared_key, numbers_of, parts}
use Rattle.pp_state.specs.Keys.{key_of}
use Rattle.pp_answers.specs.ThroughHeads.{ClearsEach, InvalidatesRows, places_named}
use Rattle.pp_answers.proofs.OutdatedLemmas.{written_back}
use Rattle.pp_answers.proofs.outdated.clear_rows.Goals as goal

pub returns-in-Some-clause-numbers : goal.returns-in-Some-clause-numbers
returns-in-Some-clause-numbers c =
    let s = c.args.state.now in
    let new = c.clear_all.new.seats in
    let written : take s.seats.len (new ++ drop (length new) s.seats.items) ≡ new = written_back s.seats.len s.seats.items c.deref_mut.result.now new c.deref_mut.ensures.value c.deref_mut.ensures.len c.clear_all.ensures.numbers in
    ap numbers_of written ∙ c.clear_all.ensures.numbers ∙ ap numbers_of c.deref_mut.ensures.value

pub returns-in-Some-clause-is : goal.returns-in-Some-clause-is
returns-in-Some-clause-is c =
    let s = c.args.state.now in
    let seats = c.clear_all.new.seats in
    let written : take s.seats.len (seats ++ drop (length seats) s.seats.items) ≡ seats = written_back s.seats.len s.seats.items c.deref_mut.result.now seats c.deref_mut.ensures.value c.deref_mut.ensures.len c.clear_all.ensures.numbers in
    let key = c.in-Some.key.now in
    let head = shown_response c.args.head.now in
    let found : Some key ≡ key_of c.args.number s.flow = c.in-Some.ensures in
    let site = take c.args.path key in
    let new : List Seat → Parts = λ seats. record { seats = seats; flow = s.flow; cache = c.clear_all.new.cache; refused = c.clear_all.new.refused; is_astray = c.clear_all.new.is_astray } in
    let old : List Seat → Parts = λ seats. cleared_key key (record { seats = seats; flow = s.flow; cache = s.cache; refused = s.refused; is_astray = s.is_astray }) in
    let O : List Seat → Type 0 = λ seats. ClearsEach site (places_named head) (old seats) (new c.clear_all.new.seats) in
    let N : List Seat → Type 0 = λ seats. ClearsEach site (places_named head) (old s.seats.items) (new seats) in
    let P : Option (List ℕ) → Type 0 = λ k. InvalidatesRows k c.args.path head (parts s) (new (take s.seats.len (c.clear_all.new.seats ++ drop (length c.clear_all.new.seats) s.seats.items))) in
    subst P found (subst N (sym written) (subst O c.deref_mut.ensures.value (c.clear_all.ensures.is s.flow)))
