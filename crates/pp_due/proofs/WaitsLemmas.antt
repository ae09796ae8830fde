-- Client after client is marked anew.
use Rattle.std.proofs.Common.{◌≡◌, ◌<◌, ◌≤◌, ◌+◌, ℕ, zero, suc, List, [], ◌∷◌, length, map, slice_get, slice_set, Option, Some, None, add-one, refl, sym, ap, ◌∙◌, arith}
use Rattle.std.proofs.lemmas.Option.{slice_get_past}
use Rattle.pp_seats.specs.declared.seat.Seat.{Seat}
use Rattle.pp_state.specs.Ends.{changed_at}
use Rattle.pp_due.specs.Waits.{woken_seat}
use Rattle.pp_state.specs.declared.state.State.{State}
use Rattle.pp_state.proofs.SeatsLemmas.{front-all, front-mapped}

-- where none stands, none is changed
pub none_changed : (i : ℕ) (f : Seat → Seat) (seats : List Seat) → length seats ≤ i → changed_at i f seats ≡ seats
none_changed i f seats past = ap (λ (x : Option Seat). elim x [ None ↦ seats | Some s ↦ slice_set seats i (f s) ]) (slice_get_past seats i past)

changed_behind : (i : ℕ) (f : Seat → Seat) (seat : Seat) (seats : List Seat) → changed_at (suc i) f (seat ∷ seats) ≡ seat ∷ changed_at i f seats
changed_behind i f seat seats = by (slice_get seats i)
  where
    by : (x : Option Seat) → elim x as (λ y. List Seat) [ None ↦ seat ∷ seats | Some s ↦ slice_set (seat ∷ seats) (suc i) (f s) ] ≡ seat ∷ (elim x as (λ y. List Seat) [ None ↦ seats | Some s ↦ slice_set seats i (f s) ])
    by None = refl
    by (Some s) = refl

front_next : (f : Seat → Seat) (i : ℕ) (seats : List Seat) → i < length seats → changed_at i f (front-mapped f i seats) ≡ front-mapped f (suc i) seats
front_next f i [] within = absurd (omega (arith, within))
front_next f zero (seat ∷ seats) within = refl
front_next f (suc i) (seat ∷ seats) within = changed_behind i f (f seat) (front-mapped f i seats) ∙ ap (λ xs. f seat ∷ xs) (front_next f i seats (omega (arith, within)))

-- the next is changed too
pub changed_next : (f : Seat → Seat) (i : ℕ) (old mid new : List Seat) → mid ≡ front-mapped f i old → i < length old → new ≡ changed_at i f mid → new ≡ front-mapped f (i + 1) old
changed_next f i old mid new before within is =
    is ∙ ap (λ (xs : List Seat). changed_at i f xs) before ∙ front_next f i old within ∙ ap (λ n. front-mapped f n old) (sym (add-one i))

-- all are
pub changed_all : (f : Seat → Seat) (i : ℕ) (old now : List Seat) → length old ≤ i → i ≤ length old → now ≡ front-mapped f i old → now ≡ map f old
changed_all f i old now least most is =
    let all : i ≡ length old = omega (arith, least, most) in
    is ∙ ap (λ n. front-mapped f n old) all ∙ front-all f old

-- the state but for its clients is as it was
pub woken_next : (now i : ℕ) (s t : State) (new : List Seat) → t.seats.items ≡ front-mapped (woken_seat now s) i s.seats.items → record t { seats = s.seats } ≡ s → i < length s.seats.items → new ≡ changed_at i (woken_seat now t) t.seats.items
    → new ≡ front-mapped (woken_seat now s) (i + 1) s.seats.items
woken_next now i s t new before rest within is =
    let same : woken_seat now t ≡ woken_seat now s = ap (λ (u : State). woken_seat now u) rest in
    changed_next (woken_seat now s) i s.seats.items t.seats.items new before within (is ∙ ap (λ (f : Seat → Seat). changed_at i f t.seats.items) same)
