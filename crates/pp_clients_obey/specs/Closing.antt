-- The closing of a client is what the law permits, and leads where the law leads (RFC 2616, section 8.1).
use Rattle.std.specs.Prelude.{◌≡◌, ℕ, true, not, ◌==◌, ◌||◌, List, [], ◌∷◌, false, filter, Some, None, slice_get, slice_set}
use Rattle.pp_world.specs.declared.happening.Happening.TheVariants.{HungUp, Noted, Shut}
use Rattle.pp_world.specs.declared.note.Cause.{Cause}
use Rattle.pp_world.specs.declared.note.Remark.TheVariants.{Cut}
use Rattle.pp_law.specs.After.{paid, shut}
use Rattle.pp_law.specs.Closing.{close_client}
use Rattle.pp_law.specs.Due.{CutOff, first_due}
use Rattle.pp_law.specs.Lists.{Bytes}
use Rattle.pp_law.specs.Phases.{decides, in_phase}
use Rattle.pp_law.specs.State.{State, Connecting, Deciding, WriteTo}
use Rattle.pp_obeys.specs.Moves.{Leads}
use Rattle.pp_seats.specs.declared.seat.Seat.{Seat}
use Rattle.pp_seats_law.specs.Clients.{AreShown, IsAt}
use Rattle.pp_clients_obey.specs.Hearing.{AreSeen}

-- its cause to be closed has come: of its seat nothing else is read any more
pub record IsClosed (old new : Seat) : Type 0 where
  pub number : new.client.id ≡ old.client.id
  pub closing : new.is_closing ≡ true

-- ---- a client whose writing fails

-- a write to that client is owed, and the seats show the clients
pub record MayWrite (number : ℕ → ℕ) (owed : List Bytes) (n : ℕ) (seats : List Seat) (s : State) : Type 0 where
  pub none : s.has_made_room ≡ None
  pub writes : s.owed ≡ WriteTo n
  pub shown : AreShown number s.settings.name owed seats s.clients

abbrev pub LossesLead : Type 0
LossesLead = (number : ℕ → ℕ) (n i : ℕ) (owed : List Bytes) (seats : List Seat) (seat after : Seat) (s : State) → IsAt n i seats → slice_get seats i ≡ Some seat → IsClosed seat after → MayWrite number owed n seats s
    → Leads (HungUp n ∷ []) s (paid (close_client n false s)) × AreSeen number owed (slice_set seats i after) (close_client n false s)

-- ---- a cut

-- decisions are taken, this cut is the first that is due, and the seats show the clients
pub record IsDueToCut (number : ℕ → ℕ) (owed : List Bytes) (n : ℕ) (cause : Cause) (seats : List Seat) (s : State) : Type 0 where
  pub none : s.has_made_room ≡ None
  pub taking : decides s ≡ true
  pub due : first_due s ≡ Some (CutOff n cause)
  pub shown : AreShown number s.settings.name owed seats s.clients

-- decisions are taken, and the seats show the clients
pub record IsDeciding (number : ℕ → ℕ) (owed : List Bytes) (seats : List Seat) (s : State) : Type 0 where
  pub none : s.has_made_room ≡ None
  pub at : s.phase ≡ Deciding
  pub shown : AreShown number s.settings.name owed seats s.clients

-- for whichever cause is due
abbrev pub CutsLead : Type 0
CutsLead = (number : ℕ → ℕ) (n i : ℕ) (cause : Cause) (owed : List Bytes) (seats : List Seat) (seat after : Seat) (s : State) → IsAt n i seats → slice_get seats i ≡ Some seat → IsClosed seat after → IsDueToCut number owed n cause seats s
    → Leads (Noted (Cut n cause) ∷ []) s (close_client n true (in_phase Deciding s)) × IsDeciding number owed (slice_set seats i after) (close_client n true (in_phase Deciding s))

-- ---- its connection is closed

-- connections are closed, and the seats show the clients
pub record IsClosingDown (number : ℕ → ℕ) (owed : List Bytes) (seats : List Seat) (s : State) : Type 0 where
  pub none : s.has_made_room ≡ None
  pub at : s.phase ≡ Connecting
  pub shown : AreShown number s.settings.name owed seats s.clients

-- its cause has come, or all are closed
pub record IsToShut (number : ℕ → ℕ) (owed : List Bytes) (seat : Seat) (seats : List Seat) (s : State) : Type 0 where
  pub down : IsClosingDown number owed seats s
  pub over : (seat.is_closing || s.is_stopped) ≡ true

abbrev pub without_client : ℕ → List Seat → List Seat
without_client n seats = filter (λ seat. not (seat.client.id == n)) seats

abbrev pub ShutsLead : Type 0
ShutsLead = (number : ℕ → ℕ) (n i : ℕ) (owed : List Bytes) (seats : List Seat) (seat : Seat) (s : State) → IsAt n i seats → slice_get seats i ≡ Some seat → IsToShut number owed seat seats s → Leads (Shut n ∷ []) s (shut n s) × IsClosingDown number owed (without_client n seats) (shut n s)
