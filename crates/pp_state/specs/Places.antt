-- The client at a place.
use Rattle.std.specs.Prelude.{ℕ, ◌≡◌, List, slice_get, slice_set, Option, Some, None}
use Rattle.pp_seats.specs.declared.seat.Seat.{Seat}

-- what becomes of it is told by a relation
abbrev pub IsChangedIn : (Seat → Seat → Type 0) → Option Seat → ℕ → List Seat → List Seat → Type 0
IsChangedIn P None i old new = new ≡ old
IsChangedIn P (Some seat) i old new = (changed : Seat) × P seat changed × (new ≡ slice_set old i changed)

abbrev pub IsChangedAt : (Seat → Seat → Type 0) → ℕ → List Seat → List Seat → Type 0
IsChangedAt P i old new = IsChangedIn P (slice_get old i) i old new
