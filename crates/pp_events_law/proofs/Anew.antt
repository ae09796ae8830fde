-- Attempts count anew: the turn stands behind it as before, and in the law it is no matter whether before or behind a mark.
use Rattle.std.proofs.Common.{◌≡◌, refl, ap, ap₂, ◌∙◌, ℕ, Bool, true, false, cond, map, List, [], ◌∷◌}
use Rattle.pp_cache.specs.Memory.{Memory}
use Rattle.pp_turns_law.specs.Sides.{MayClose}
use Rattle.pp_law.specs.Connections.{anew, is_client, is_conn, on_client, on_conn}
use Rattle.pp_law.specs.Lists.{change}
use Rattle.pp_law.specs.Replies.{is_regained, regained, regained_by}
use Rattle.pp_law.specs.State.{State, Client, Course, Trying, OutOfTries, AskTooLong, RowRefused}
use Rattle.pp_law.specs.Table.{next_of}
use Rattle.pp_law.specs.Turn.{marked_client, marked_conn, touch}
use Rattle.pp_seats.specs.Follows.{next_of as next_in}
use Rattle.pp_seats.specs.declared.seat.Course.TheVariants.{Trying as TryingAnew}
use Rattle.pp_seats.specs.declared.seat.Seat.{Seat}
use Rattle.pp_seats_law.specs.Fates.{is_refused}
use Rattle.pp_state.specs.Ends.{Parts, all_regained, is_regained as is_regained_seat, on_seat, regained as regained_seat}
use Rattle.pp_states_law.proofs.Kept.{GoesThrough}
use Rattle.pp_states_law.specs.Charges.{GoesOn}
use Rattle.pp_states_law.specs.Losses.{IsComing}
use Rattle.pp_events_law.proofs.Alike.{AreAlike, IsAlike, itself, none, on_one, then}
use Rattle.pp_events_law.proofs.Standing.{go_through}

-- ---- of the law

abbrev pub anew_if : Bool → Client → Client
anew_if b c = elim b as (λ t. Client) [ true ↦ record c { course = anew c.course } | false ↦ c ]

anew_given : (course : Course) → is_refused course ≡ false → is_refused (anew course) ≡ false
anew_given (Trying n) given = refl
anew_given OutOfTries given = refl
anew_given AskTooLong given = refl
anew_given RowRefused given = given

anew_through : (s : State) → GoesThrough (regained_by s)
anew_through s = record { number = λ c. number_by c (is_regained s c); goes = λ c on. goes_by c (is_regained s c) on; comes = λ c on. comes_by c (is_regained s c) on }
  where
    number_by : (c : Client) (b : Bool) → (anew_if b c).number ≡ c.number
    number_by c true = refl
    number_by c false = refl

    goes_by : (c : Client) (b : Bool) → GoesOn c → GoesOn (anew_if b c)
    goes_by c true on = record { going = on.going; given = anew_given c.course on.given }
    goes_by c false on = on

    comes_by : (c : Client) (b : Bool) → IsComing c → IsComing (anew_if b c)
    comes_by c true on = on
    comes_by c false on = on

pub anew_may : (s : State) → MayClose s → MayClose (regained s)
unfolding regained
anew_may s may = record { apart = may.apart; orderly = may.orderly; go = go_through (regained_by s) (anew_through s) s (regained s) refl refl may.go }

abbrev marked_if : Bool → ℕ → Client → Client
marked_if b now c = elim b as (λ t. Client) [ true ↦ marked_client now c | false ↦ c ]

abbrev holds : State → Client → Bool
holds s c = is_regained s c

-- of one: it is marked by its number, which it keeps
marks : (n : ℕ) (s : State) (c : Client) → marked_if (is_client n (anew_if (holds s c) c)) s.clock (anew_if (holds s c) c) ≡ anew_if (holds s c) (marked_if (is_client n c) s.clock c)
marks n s c = by (holds s c)
  where
    swap : (a e : Bool) → marked_if e s.clock (anew_if a c) ≡ anew_if a (marked_if e s.clock c)
    swap true true = refl
    swap true false = refl
    swap false true = refl
    swap false false = refl

    number : (a : Bool) → is_client n (anew_if a c) ≡ is_client n c
    number true = refl
    number false = refl

    by : (a : Bool) → marked_if (is_client n (anew_if a c)) s.clock (anew_if a c) ≡ anew_if a (marked_if (is_client n c) s.clock c)
    by a = ap (λ (d : Bool). marked_if d s.clock (anew_if a c)) (number a) ∙ swap a (is_client n c)

-- and what it follows is no matter of a mark
anews : (n : ℕ) (s : State) (c : Client) → anew_if (holds s c) (marked_if (is_client n c) s.clock c) ≡ regained_by s (marked_if (is_client n c) s.clock c)
anews n s c = by (is_client n c)
  where
    by : (e : Bool) → anew_if (holds s c) (marked_if e s.clock c) ≡ regained_by s (marked_if e s.clock c)
    by true = refl
    by false = refl

-- before a mark, or behind it
either_way : (n : ℕ) (s : State) (cs : List Client) → change (is_client n) (marked_client s.clock) (map (regained_by s) cs) ≡ map (regained_by s) (change (is_client n) (marked_client s.clock) cs)
either_way n s [] = refl
either_way n s (c ∷ cs) = ap₂ (λ (d : Client) (ds : List Client). d ∷ ds) (marks n s c ∙ anews n s c) (either_way n s cs)

pub touch_anew : (n : ℕ) (s : State) → touch n (regained s) ≡ regained (touch n s)
unfolding touch regained on_conn on_client
touch_anew n s = ap (λ (cs : List Client). record s { clients = cs; conns = change (is_conn n) (marked_conn s.clock) s.conns }) (either_way n s s.clients)

-- ---- of the program

regained_alike : (m : Memory) (seat : Seat) → IsAlike seat (regained_seat m seat)
regained_alike m seat = by (is_regained_seat m seat)
  where
    by : (b : Bool) → IsAlike seat (cond b (record seat { course = TryingAnew 0 }) seat)
    by true = record { id = refl; reply = refl; heard = refl; body_left = refl; front = refl; stage = refl; hung_up = refl; closing = refl; joins = λ id plain is. is }
    by false = itself seat

pub all_anew : (m : Memory) (places : List ℕ) (p : Parts) → AreAlike p (record p { seats = all_regained m places p.seats })
all_anew m [] p = none p p.flow
all_anew m (i ∷ places) p = then p (on_seat i (regained_seat m) p) (record p { seats = all_regained m (i ∷ places) p.seats }) (on_one i (regained_seat m) p (regained_alike m)) (all_anew m places (on_seat i (regained_seat m) p))
