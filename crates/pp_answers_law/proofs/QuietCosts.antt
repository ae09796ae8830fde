-- No life is given, and nothing is joined but these, where a row is cleared, and where an attempt is lost.
use Rattle.std.proofs.Common.{◌≡◌, inl, refl, sym, subst, ◌∙◌, ℕ, Bool, true, false, cond, List, Option, Some, None}
use Rattle.pp_cache.specs.Memory.{retired_at}
use Rattle.pp_flow.specs.Changes.{entry_of}
use Rattle.pp_flow.specs.Errands.{attempts_in}
use Rattle.pp_flow.specs.declared.entry.Entry.{Entry}
use Rattle.pp_flow.specs.declared.entry.Exchange.{Exchange}
use Rattle.pp_seats.specs.Courses.{lost_one, without_row}
use Rattle.pp_seats.specs.declared.seat.Course.{Course}
use Rattle.pp_seats.specs.declared.seat.Course.TheVariants.{OutOfTries}
use Rattle.pp_state.specs.Ends.{Parts, charged, charged_at, cleared_key, cleared_of, cleared_row, dropped_row, failed, given_up_row, is_unfilled_at, lost_attempt, on_seat, on_seat_where, seat_for, with_course}
use Rattle.pp_state.specs.Keys.{key_of}
use Rattle.pp_cache.specs.Memory.{Memory}
use Rattle.pp_objects.specs.declared.id.ObjectId.{ObjectId}
use Rattle.pp_seats.specs.declared.seat.Seat.{Seat}
use Rattle.pp_answers_law.proofs.Joining.{Joining, joined_anew, joined_none, joined_then, joined_where, row_joining}
use Rattle.pp_answers_law.specs.Joined.{JoinedOr}

-- what is joined was joined before, or is one of these; and no life is given
pub record IsQuiet (G : ObjectId → Type 0) (p q : Parts) : Type 0 where
  pub joined : JoinedOr G p.seats q.seats
  pub lives : q.cache.lives ≡ p.cache.lives

pub retired_lives : (key : List ℕ) (m : Memory) → (retired_at key m).lives ≡ m.lives
unfolding retired_at
retired_lives key m = refl

module _ (G : ObjectId → Type 0) where
  abbrev pub Quiet : Parts → Parts → Type 0
  Quiet p q = IsQuiet G p q

  pub q_none : (p : Parts) → Quiet p p
  q_none p = record { joined = joined_none G p.seats; lives = refl }

  pub q_then : (p q r : Parts) → Quiet p q → Quiet q r → Quiet p r
  q_then p q r one two = record { joined = joined_then G p.seats q.seats r.seats one.joined two.joined; lives = two.lives ∙ one.lives }

  pub q_is : (p r q : Parts) → q ≡ r → Quiet p r → Quiet p q
  q_is p r q is all = subst (λ (o : Parts). Quiet p o) (sym is) all

  pub q_same : (p q : Parts) → q ≡ p → Quiet p q
  q_same p q is = q_is p p q is (q_none p)

  pub q_where : (o : Option ℕ) (f : Seat → Seat) (p : Parts) → Joining G f → Quiet p (on_seat_where o f p)
  q_where None f p joins = q_none p
  q_where (Some i) f p joins = record { joined = joined_where G (Some i) f p joins; lives = refl }

  -- with exchanges that changed, and whatever is known of memory that was refused
  pub q_beside : (p q r : Parts) → r.cache.lives ≡ q.cache.lives → r.seats ≡ q.seats → Quiet p q → Quiet p r
  q_beside p q r lives seats all = record { joined = subst (λ (ss : List Seat). JoinedOr G p.seats ss) (sym seats) all.joined; lives = lives ∙ all.lives }

  -- ---- a row that is cleared

  pub q_key : (key : List ℕ) (p : Parts) → Quiet p (cleared_key key p)
  q_key key p = record { joined = joined_anew G key p.refused p.seats; lives = retired_lives key p.cache }

  pub q_cleared : (o : Option (List ℕ)) (p : Parts) → Quiet p (cleared_of o p)
  q_cleared None p = q_none p
  q_cleared (Some key) p = q_key key p

  pub q_row : (n : ℕ) (p : Parts) → Quiet p (cleared_row n p)
  q_row n p = q_cleared (key_of n p.flow) p

gives_up : (G : ObjectId → Type 0) (i : ℕ) (e : Exchange) (p : Parts) → IsQuiet G p (given_up_row i e p)
unfolding given_up_row
gives_up G i e p = by (is_unfilled_at i e p)
  where
    dropped : IsQuiet G p (dropped_row i e p)
    dropped =
        let q : Parts = cleared_row e.number p in
        q_beside G p (on_seat i without_row q) (dropped_row i e p) refl refl (q_then G p q (on_seat i without_row q) (q_row G e.number p) (q_where G (Some i) without_row q (row_joining G)))

    by : (b : Bool) → IsQuiet G p (cond b (dropped_row i e p) p)
    by true = dropped
    by false = q_none G p

-- ---- attempts

costs : (G : ObjectId → Type 0) (cost : Course → Course) (e : Exchange) (p : Parts) → IsQuiet G p (charged cost e p)
unfolding charged_at
costs G cost e p = by (seat_for e p.seats)
  where
    by : (o : Option ℕ) → IsQuiet G p (charged_at o cost e p)
    by None = q_none G p
    by (Some i) =
        let q : Parts = on_seat i (with_course cost) p in
        q_then G p q (given_up_row i e q) (q_where G (Some i) (with_course cost) p (λ seat id plain is. inl is)) (gives_up G i e q)

pub q_failed : (G : ObjectId → Type 0) (e : Exchange) (p : Parts) → IsQuiet G p (failed e p)
q_failed G e p = costs G (λ course. OutOfTries) e p

pub q_attempt : (G : ObjectId → Type 0) (e : Exchange) (p : Parts) → IsQuiet G p (lost_attempt e p)
q_attempt G e p = by (entry_of e.number p.flow)
  where
    by : (o : Option Entry) → IsQuiet G p (elim o as (λ t. Parts) [ None ↦ p | Some x ↦ charged (lost_one (attempts_in x.errand.is_asked_once)) e p ])
    by None = q_none G p
    by (Some x) = costs G (lost_one (attempts_in x.errand.is_asked_once)) e p
