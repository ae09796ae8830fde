-- The seats of the program show the clients of the law, one each, in their order.
use Rattle.std.specs.Prelude.{◌≡◌, ℕ, zero, suc, true, false, ◌==◌, List, [], ◌∷◌, find, Some, slice_get, slice_set, ⊤}
use Rattle.pp_law.specs.Connections.{is_client}
use Rattle.pp_law.specs.Lists.{Bytes, change}
use Rattle.pp_law.specs.State.{Client}
use Rattle.pp_seats.specs.declared.seat.Seat.{Seat}
use Rattle.pp_seats_law.specs.Seats.{ShowsSeat}

abbrev pub AreShown : (ℕ → ℕ) → Bytes → List Bytes → List Seat → List Client → Type 0
AreShown number name owed [] [] = ⊤
AreShown number name owed (seat ∷ seats) (c ∷ cs) = ShowsSeat number name owed seat c × AreShown number name owed seats cs
AreShown number name owed seats cs = ⊥

-- the client of this number is at this place, and at no other
abbrev pub IsNowhere : ℕ → List Seat → Type 0
IsNowhere n [] = ⊤
IsNowhere n (seat ∷ seats) = ((seat.client.id == n) ≡ false) × IsNowhere n seats

abbrev pub IsAt : ℕ → ℕ → List Seat → Type 0
IsAt n i [] = ⊥
IsAt n zero (seat ∷ seats) = ((seat.client.id == n) ≡ true) × IsNowhere n seats
IsAt n (suc i) (seat ∷ seats) = ((seat.client.id == n) ≡ false) × IsAt n i seats

-- where one seat is changed as its client, all seats show all clients
abbrev pub ChangesAreTheLaws : Type 0
ChangesAreTheLaws = (number : ℕ → ℕ) (name : Bytes) (owed : List Bytes) (seats : List Seat) (cs : List Client) (n i : ℕ) (new : Seat) (f : Client → Client) → AreShown number name owed seats cs → IsAt n i seats
    → ((seat : Seat) (c : Client) → slice_get seats i ≡ Some seat → ShowsSeat number name owed seat c → ShowsSeat number name owed new (f c)) → AreShown number name owed (slice_set seats i new) (change (is_client n) f cs)

-- a seat, and the client of the law that it shows
pub record IsFound (number : ℕ → ℕ) (name : Bytes) (owed : List Bytes) (seat : Seat) (n : ℕ) (cs : List Client) : Type 0 where
  pub client : Client
  pub there : find (is_client n) cs ≡ Some client
  pub shows : ShowsSeat number name owed seat client

-- the client of that number is the one that the seat at its place shows
abbrev pub PlacesAreTheLaws : Type 0
PlacesAreTheLaws = (number : ℕ → ℕ) (name : Bytes) (owed : List Bytes) (seats : List Seat) (cs : List Client) (n i : ℕ) (seat : Seat) → AreShown number name owed seats cs → IsAt n i seats → slice_get seats i ≡ Some seat → IsFound number name owed seat n cs
