use Rattle.std.proofs.Common.{rules}
use Rattle.std.proofs.lemmas.List.Sorted.{answers_always}
use Rattle.pp_state.proofs.SeatsLemmas.{search-finds, search-number, search-within}
use Rattle.pp_state.proofs.state.State.seat_of.Goals as goal

pub returns-clause-there : goal.returns-clause-there
returns-clause-there c =
    let found = c.binary_search_by_key.ensures.position (λ seat. seat.client.id) (answers_always _ _ _ (λ f a r g called. search rules)) in
    rw (c.ok.ensures.value, ← c.as_slice.ensures.value) (search-within c.args.client _ c.binary_search_by_key.result c.binary_search_by_key.ensures.bound found)

pub returns-clause-number : goal.returns-clause-number
returns-clause-number c =
    let found = c.binary_search_by_key.ensures.position (λ seat. seat.client.id) (answers_always _ _ _ (λ f a r g called. search rules)) in
    rw (c.ok.ensures.value, ← c.as_slice.ensures.value) (search-number c.args.client _ c.binary_search_by_key.result c.binary_search_by_key.ensures.bound found)

pub returns-clause-place : goal.returns-clause-place
returns-clause-place c =
    let found = c.binary_search_by_key.ensures.position (λ seat. seat.client.id) (answers_always _ _ _ (λ f a r g called. search rules)) in
    rw (c.ok.ensures.value, ← c.as_slice.ensures.value) (search-finds c.args.client _ c.binary_search_by_key.result c.binary_search_by_key.ensures.bound found)
