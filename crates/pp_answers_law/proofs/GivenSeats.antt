-- Each life that clients name was given, where clients change one by one or all at once, and rows beside them.
use Rattle.std.proofs.Common.{◌≡◌, ◌≤◌, refl, sym, subst, ℕ, zero, suc, Bool, true, false, ◌&&◌, ◌||◌, not, cond, map, List, [], ◌∷◌, Option, Some, None, arith}
use Rattle.std.specs.Prelude.{slice_get, slice_set}
use Rattle.pp_cache.specs.Memory.{Memory}
use Rattle.pp_cache.specs.Notes.{has_noted}
use Rattle.pp_cache_law.proofs.Numbers.{some_is}
use Rattle.pp_flow.specs.declared.entry.Exchange.{Exchange}
use Rattle.pp_objects.specs.declared.id.ObjectId.{ObjectId}
use Rattle.pp_seats.specs.Courses.{has_begun, lost_one, without_row, without_shared_row}
use Rattle.pp_seats.specs.Seats.{brought_to, has_key}
use Rattle.pp_seats.specs.declared.seat.Brought.{Brought}
use Rattle.pp_seats.specs.declared.seat.Brought.TheVariants.{Awaited, Joins, Passes, Refused, TooWide, Useless}
use Rattle.pp_seats.specs.declared.seat.Course.TheVariants.{Trying}
use Rattle.pp_seats.specs.declared.seat.PassedEnd.{PassedEnd}
use Rattle.pp_seats.specs.declared.seat.Seat.{Seat}
use Rattle.pp_seats.specs.declared.seat.Stage.{Stage}
use Rattle.pp_seats.specs.declared.seat.Stage.TheVariants.{Answering, Passing, Undecided, Waiting}
use Rattle.pp_state.specs.Bodies.{on_asker, on_place}
use Rattle.pp_state.specs.Ends.{Parts, all_decided_anew, changed_at, decided_anew, on_seat_where, seat_for, useless_if_refused}
use Rattle.pp_answers_law.proofs.GivenRows.{keeps_none, keeps_then}
use Rattle.pp_answers_law.specs.Lives.{GivesLives, KeepsLives, KeepsNamedLives, LivesGoOn}
use Rattle.pp_answers_law.specs.Making.{AreGivenSeats, IsGiven, IsGivenBrought, IsGivenSeat, IsGivenSource}

-- ---- where more lives were given

id_more : (n k : ℕ) (o : Option ObjectId) → n ≤ k → IsGiven n o → IsGiven k o
id_more n k None less given = tt
id_more n k (Some id) less given = omega (arith, less, given)

source_more : (n k : ℕ) (stage : Stage) → n ≤ k → IsGivenSource n stage → IsGivenSource k stage
source_more n k Undecided less given = tt
source_more n k Waiting less given = tt
source_more n k Passing less given = tt
source_more n k (Answering a) less given = id_more n k a.source less given

brought_more : (n k : ℕ) (brought : Brought) → n ≤ k → IsGivenBrought n brought → IsGivenBrought k brought
brought_more n k Awaited less given = tt
brought_more n k Useless less given = tt
brought_more n k (Joins id plain) less given = omega (arith, less, given)
brought_more n k (Passes x) less given = tt
brought_more n k TooWide less given = tt
brought_more n k Refused less given = tt

pub seats_more : (n k : ℕ) (seats : List Seat) → n ≤ k → AreGivenSeats n seats → AreGivenSeats k seats
seats_more n k [] less given = tt
seats_more n k (seat ∷ seats) less given = (
  record { source = source_more n k seat.stage less given.0.source; brought = brought_more n k seat.brought less given.0.brought },
  seats_more n k seats less given.1,
)

-- ---- a client changes

-- it names no life that it did not name
abbrev pub Names : ℕ → (Seat → Seat) → Type 0
Names n f = (seat : Seat) → IsGivenSeat n seat → IsGivenSeat n (f seat)

pub changed_given : (n i : ℕ) (f : Seat → Seat) (seats : List Seat) → Names n f → AreGivenSeats n seats → AreGivenSeats n (changed_at i f seats)
changed_given n i f [] names given = tt
changed_given n zero f (seat ∷ seats) names given = (names seat given.0, given.1)
changed_given n (suc i) f (seat ∷ seats) names given = by (slice_get seats i) (changed_given n i f seats names given.1)
  where
    by : (o : Option Seat) → AreGivenSeats n (elim o as (λ t. List Seat) [ None ↦ seats | Some x ↦ slice_set seats i (f x) ])
        → AreGivenSeats n (elim o as (λ t. List Seat) [ None ↦ seat ∷ seats | Some x ↦ seat ∷ slice_set seats i (f x) ])
    by None rest = (given.0, rest)
    by (Some x) rest = (given.0, rest)

mapped_given : (n : ℕ) (f : Seat → Seat) (seats : List Seat) → Names n f → AreGivenSeats n seats → AreGivenSeats n (map f seats)
mapped_given n f [] names given = tt
mapped_given n f (seat ∷ seats) names given = (names seat given.0, mapped_given n f seats names given.1)

placed_given : (n : ℕ) (o : Option ℕ) (f : Seat → Seat) (seats : List Seat) → Names n f → AreGivenSeats n seats → AreGivenSeats n (on_place o f seats)
placed_given n None f seats names given = given
placed_given n (Some i) f seats names given = changed_given n i f seats names given

pub asker_given : (n : ℕ) (e : Exchange) (f : Seat → Seat) (seats : List Seat) → Names n f → AreGivenSeats n seats → AreGivenSeats n (on_asker e f seats)
asker_given n e f seats names given = placed_given n (seat_for e seats) f seats names given

-- ---- what it may become

pub end_given : (n : ℕ) (end : PassedEnd) (b : Brought) → IsGivenBrought n b → IsGivenBrought n (brought_to end b)
end_given n end Awaited given = tt
end_given n end Useless given = tt
end_given n end (Joins id plain) given = given
end_given n end (Passes x) given = tt
end_given n end TooWide given = tt
end_given n end Refused given = tt

anew_given : (n : ℕ) (b : Brought) → IsGivenBrought n b → IsGivenBrought n (useless_if_refused b)
anew_given n Awaited given = tt
anew_given n Useless given = tt
anew_given n (Joins id plain) given = given
anew_given n (Passes x) given = tt
anew_given n TooWide given = tt
anew_given n Refused given = tt

decided_names : (n : ℕ) (key : List ℕ) → Names n (decided_anew key)
decided_names n key seat given = by (has_key key seat)
  where
    by : (b : Bool) → IsGivenSeat n (cond b (record seat { brought = useless_if_refused seat.brought }) seat)
    by true = record { source = given.source; brought = anew_given n seat.brought given.brought }
    by false = given

pub all_anew_given : (n : ℕ) (key : List ℕ) (refused : List (List ℕ)) (seats : List Seat) → AreGivenSeats n seats → AreGivenSeats n (all_decided_anew key refused seats)
all_anew_given n key refused seats given = by (has_noted key refused)
  where
    by : (b : Bool) → AreGivenSeats n (cond b (map (decided_anew key) seats) seats)
    by true = mapped_given n (decided_anew key) seats (decided_names n key) given
    by false = given

pub row_names : (n : ℕ) → Names n without_row
row_names n seat given = by (has_begun seat || seat.has_given_up)
  where
    by : (b : Bool) → IsGivenSeat n (elim b as (λ t. Seat) [ true ↦ seat | false ↦ record seat { course = Trying 0; has_given_up = true } ])
    by true = given
    by false = record { source = given.source; brought = given.brought }

pub shared_names : (n most : ℕ) → Names n (without_shared_row most)
shared_names n most seat given = by (seat.has_given_up && not (has_begun seat))
  where
    by : (b : Bool) → IsGivenSeat n (elim b as (λ t. Seat) [ true ↦ record seat { course = lost_one most seat.course } | false ↦ without_row seat ])
    by true = record { source = given.source; brought = given.brought }
    by false = row_names n seat given

-- ---- of all, one behind the other

pub on_then : (p q r : Parts) → LivesGoOn p q → LivesGoOn q r → LivesGoOn p r
on_then p q r one two gives =
    let a : KeepsNamedLives p q = one gives in
    let b : KeepsNamedLives q r = two a.memory.gives in
    record { memory = keeps_then p.cache q.cache r.cache a.memory b.memory; seats = λ given. b.seats (a.seats given) }

pub on_none : (p : Parts) → LivesGoOn p p
on_none p gives = record { memory = keeps_none p.cache gives; seats = λ given. given }

pub on_is : (p r q : Parts) → q ≡ r → LivesGoOn p r → LivesGoOn p q
on_is p r q is on = subst (λ (o : Parts). LivesGoOn p o) (sym is) on

pub on_same : (p q : Parts) → q ≡ p → LivesGoOn p q
on_same p q is = on_is p p q is (on_none p)

-- where clients alone change, with what is no part of what is in memory
pub on_seats : (p q : Parts) → q.cache ≡ p.cache → (AreGivenSeats p.cache.lives p.seats → AreGivenSeats p.cache.lives q.seats) → LivesGoOn p q
on_seats p q cache seats gives = record {
  memory = subst (λ (m : Memory). KeepsLives p.cache m) (sym cache) (keeps_none p.cache gives);
  seats = λ given. subst (λ (m : Memory). AreGivenSeats m.lives q.seats) (sym cache) (seats given);
}

-- where what is in memory alone changes
pub on_memory : (p : Parts) (m : Memory) → (GivesLives p.cache → KeepsLives p.cache m) → LivesGoOn p (record p { cache = m })
on_memory p m keeps gives = let k : KeepsLives p.cache m = keeps gives in record { memory = k; seats = λ given. seats_more p.cache.lives m.lives p.seats k.more given }

pub where_on : (o : Option ℕ) (f : Seat → Seat) (p : Parts) → (GivesLives p.cache → Names p.cache.lives f) → LivesGoOn p (on_seat_where o f p)
where_on None f p names gives = on_none p gives
where_on (Some i) f p names gives = on_seats p (on_seat_where (Some i) f p) refl (λ given. changed_given p.cache.lives i f p.seats (names gives) given) gives

-- with exchanges that changed, and whatever is known of memory that was refused
pub on_beside : (p q r : Parts) → r.cache ≡ q.cache → r.seats ≡ q.seats → LivesGoOn p q → LivesGoOn p r
on_beside p q r cache seats on =
    on_then p q r on (on_seats q r cache (λ given. subst (λ (ss : List Seat). AreGivenSeats q.cache.lives ss) (sym seats) given))

-- ---- by the place of each client

pub given_at : (n : ℕ) (seats : List Seat) → AreGivenSeats n seats → (i : ℕ) (seat : Seat) → slice_get seats i ≡ Some seat → IsGivenSeat n seat
given_at n [] given i seat at = absurd (cc at)
given_at n (x ∷ seats) given zero seat at = subst (λ (y : Seat). IsGivenSeat n y) (some_is x seat at) given.0
given_at n (x ∷ seats) given (suc i) seat at = given_at n seats given.1 i seat at

pub given_all : (n : ℕ) (seats : List Seat) → ((i : ℕ) (seat : Seat) → slice_get seats i ≡ Some seat → IsGivenSeat n seat) → AreGivenSeats n seats
given_all n [] each = tt
given_all n (x ∷ seats) each = (each 0 x refl, given_all n seats (λ i seat at. each (suc i) seat at))
