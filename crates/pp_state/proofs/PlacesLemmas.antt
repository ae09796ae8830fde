-- A client that is changed keeps its place, and the others are as they were.
use Rattle.std.proofs.Common.{◌≡◌, ◌<◌, refl, sym, ap, ◌∙◌, ℕ, zero, suc, List, [], ◌∷◌, length, get_or, arith}
use Rattle.std.specs.Prelude.{slice_set, Some, None, Option}
use Rattle.std.proofs.lemmas.Option.{slice_get_read}
use Rattle.pp_seats.specs.declared.seat.Seat.{Seat}
use Rattle.pp_state.specs.Ends.{changed_at, numbers_of}

pub changed_here : (i : ℕ) (change : Seat → Seat) (seats : List Seat) (seat : Seat) → i < length seats → seat ≡ get_or seats i seat → slice_set seats i (change seat) ≡ changed_at i change seats
changed_here i change seats seat within is =
    ap (λ (x : Option Seat). elim x [ None ↦ seats | Some s ↦ slice_set seats i (change s) ]) (sym (slice_get_read seats (length seats) i seat refl within is))

-- with its number
pub same_numbers : (i : ℕ) (seats : List Seat) (seat changed : Seat) → i < length seats → seat ≡ get_or seats i seat → changed.client.id ≡ seat.client.id → numbers_of (slice_set seats i changed) ≡ numbers_of seats
same_numbers i [] seat changed within is keeps = refl
same_numbers zero (s ∷ seats) seat changed within is keeps = ap (λ n. n ∷ numbers_of seats) (keeps ∙ ap (λ (t : Seat). t.client.id) is)
same_numbers (suc i) (s ∷ seats) seat changed within is keeps =
    ap (λ ns. s.client.id ∷ ns) (same_numbers i seats seat changed (omega (arith, within)) is keeps)
