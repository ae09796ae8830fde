-- Lives go on where a row is cleared, and where an attempt is lost.
use Rattle.std.proofs.Common.{refl, ℕ, Bool, true, false, cond, List, Option, Some, None}
use Rattle.pp_cache.specs.Memory.{retired_at}
use Rattle.pp_flow.specs.Changes.{entry_of}
use Rattle.pp_flow.specs.Errands.{attempts_in}
use Rattle.pp_flow.specs.declared.entry.Entry.{Entry}
use Rattle.pp_flow.specs.declared.entry.Exchange.{Exchange}
use Rattle.pp_seats.specs.Courses.{lost_one, without_row}
use Rattle.pp_seats.specs.declared.seat.Course.{Course}
use Rattle.pp_seats.specs.declared.seat.Course.TheVariants.{OutOfTries}
use Rattle.pp_state.specs.Ends.{Parts, charged, charged_at, cleared_key, cleared_of, cleared_row, dropped_row, failed, given_up_row, is_unfilled_at, lost_attempt, on_seat, seat_for, with_course}
use Rattle.pp_state.specs.Keys.{key_of}
use Rattle.pp_answers_law.proofs.GivenRows.{keeps_cleared}
use Rattle.pp_answers_law.proofs.GivenSeats.{all_anew_given, on_beside, on_memory, on_none, on_seats, on_then, row_names, where_on}
use Rattle.pp_answers_law.specs.Lives.{LivesGoOn}

-- ---- a row that is cleared

pub key_on : (key : List ℕ) (p : Parts) → LivesGoOn p (cleared_key key p)
key_on key p =
    let m : Parts = record p { cache = retired_at key p.cache } in
    on_then p m (cleared_key key p) (on_memory p (retired_at key p.cache) (λ gives. keeps_cleared key p.cache gives)) (on_seats m (cleared_key key p) refl (λ given. all_anew_given m.cache.lives key p.refused p.seats given))

pub cleared_on : (o : Option (List ℕ)) (p : Parts) → LivesGoOn p (cleared_of o p)
cleared_on None p = on_none p
cleared_on (Some key) p = key_on key p

pub row_on : (n : ℕ) (p : Parts) → LivesGoOn p (cleared_row n p)
row_on n p = cleared_on (key_of n p.flow) p

gives_up : (i : ℕ) (e : Exchange) (p : Parts) → LivesGoOn p (given_up_row i e p)
unfolding given_up_row
gives_up i e p = by (is_unfilled_at i e p)
  where
    dropped : LivesGoOn p (dropped_row i e p)
    dropped =
        let q : Parts = cleared_row e.number p in
        on_beside p (on_seat i without_row q) (dropped_row i e p) refl refl (on_then p q (on_seat i without_row q) (row_on e.number p) (where_on (Some i) without_row q (λ gives. row_names q.cache.lives)))

    by : (b : Bool) → LivesGoOn p (cond b (dropped_row i e p) p)
    by true = dropped
    by false = on_none p

-- ---- attempts

costs_on : (cost : Course → Course) (e : Exchange) (p : Parts) → LivesGoOn p (charged cost e p)
unfolding charged_at
costs_on cost e p = by (seat_for e p.seats)
  where
    by : (o : Option ℕ) → LivesGoOn p (charged_at o cost e p)
    by None = on_none p
    by (Some i) =
        let q : Parts = on_seat i (with_course cost) p in
        on_then p q (given_up_row i e q) (where_on (Some i) (with_course cost) p (λ gives seat given. record { source = given.source; brought = given.brought })) (gives_up i e q)

pub failed_on : (e : Exchange) (p : Parts) → LivesGoOn p (failed e p)
failed_on e p = costs_on (λ course. OutOfTries) e p

pub attempt_on : (e : Exchange) (p : Parts) → LivesGoOn p (lost_attempt e p)
attempt_on e p = by (entry_of e.number p.flow)
  where
    by : (o : Option Entry) → LivesGoOn p (elim o as (λ t. Parts) [ None ↦ p | Some x ↦ charged (lost_one (attempts_in x.errand.is_asked_once)) e p ])
    by None = on_none p
    by (Some x) = costs_on (lost_one (attempts_in x.errand.is_asked_once)) e p
