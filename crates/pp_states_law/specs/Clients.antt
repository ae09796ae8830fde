-- One client is changed, by its number or as that of an exchange.
use Rattle.std.specs.Prelude.{◌≡◌, ℕ, List, Some, None, slice_get, slice_set, find}
use Rattle.pp_law.specs.Connections.{is_client, on_client, on_client_of}
use Rattle.pp_law.specs.Lists.{Bytes}
use Rattle.pp_law.specs.State.{Client, Exchange}
use Rattle.pp_law.specs.Table.{follows}
use Rattle.pp_seats.specs.declared.seat.Seat.{Seat}
use Rattle.pp_seats_law.specs.Clients.{IsAt}
use Rattle.pp_seats_law.specs.Seats.{ShowsSeat}
use Rattle.pp_states_law.specs.States.{OfStates, ShowsState}

-- it follows what it followed
abbrev pub FollowsOn : (Client → Client) → Type 0
FollowsOn f = (id : ℕ) (c : Client) → follows id (f c) ≡ follows id c

-- the seat at that place shows what is made of its client
abbrev pub GoesOnAs : (ℕ → ℕ) → Bytes → List Bytes → List Seat → List Client → ℕ → ℕ → Seat → (Client → Client) → Type 0
GoesOnAs number name owed seats cs n i new f = (seat : Seat) (c : Client) → slice_get seats i ≡ Some seat → find (is_client n) cs ≡ Some c → ShowsSeat number name owed seat c → ShowsSeat number name owed new (f c)

abbrev pub ChangesAreTheLaws : Type 0
ChangesAreTheLaws = OfStates (λ number name owed l p s. (n i : ℕ) (new : Seat) (f : Client → Client) → IsAt n i p.seats → FollowsOn f → GoesOnAs number name owed p.seats s.clients n i new f
    → ShowsState number name owed l (record p { seats = slice_set p.seats i new }) (on_client n f s))

-- the client of an exchange, whose request did not leave it
abbrev pub AskersAreTheLaws : Type 0
AskersAreTheLaws = OfStates (λ number name owed l p s. (e : Exchange) (n i : ℕ) (new : Seat) (f : Client → Client) → e.asker ≡ Some n → IsAt n i p.seats → FollowsOn f → GoesOnAs number name owed p.seats s.clients n i new f
    → ShowsState number name owed l (record p { seats = slice_set p.seats i new }) (on_client_of e f s))

-- an exchange that is nobody's has none
abbrev pub NobodysAreTheLaws : Type 0
NobodysAreTheLaws = OfStates (λ number name owed l p s. (e : Exchange) (f : Client → Client) → e.asker ≡ None → ShowsState number name owed l p (on_client_of e f s))
