-- At a wait client after client is looked at.
use Rattle.std.proofs.Common.{◌≡◌, ◌≤◌, ◌+◌, ℕ, List, length, take, slice_get, add-one, sym, ◌∙◌, ap}
use Rattle.std.specs.List.{fold}
use Rattle.pp_desk.specs.Closings.{where_there}
use Rattle.pp_wants.specs.Rests.{all_waiting, rested_at}
use Rattle.pp_desk.proofs.OriginLemmas.{folded_next, whole}
use Rattle.pp_seats.specs.declared.seat.Seat.{Seat}
use Rattle.pp_state.specs.declared.state.State.{State}

-- the state but for its clients is as it was
pub one_more_rested : (turn : ℕ) (s t : State) (new : List Seat) → t.seats.items ≡ fold (rested_at s) s.seats.items (take turn s.awake.items) → record t { seats = s.seats } ≡ s → new ≡ where_there (rested_at t) t.seats.items (slice_get t.awake.items turn)
    → new ≡ fold (rested_at s) s.seats.items (take (turn + 1) s.awake.items)
one_more_rested turn s t new before rest is =
    is ∙ ap (λ (u : State). where_there (rested_at u) t.seats.items (slice_get u.awake.items turn)) rest
    ∙ ap (λ (xs : List Seat). where_there (rested_at s) xs (slice_get s.awake.items turn)) before
    ∙ sym (folded_next (rested_at s) s.seats.items s.awake.items turn)
    ∙ ap (λ n. fold (rested_at s) s.seats.items (take n s.awake.items)) (sym (add-one turn))

pub all_rested_clients : (turn : ℕ) (s t : State) → length s.awake.items ≤ turn → t.seats.items ≡ fold (rested_at s) s.seats.items (take turn s.awake.items) → t.seats.items ≡ all_waiting s
all_rested_clients turn s t all is = is ∙ ap (λ ns. fold (rested_at s) s.seats.items ns) (whole s.awake.items turn all)
