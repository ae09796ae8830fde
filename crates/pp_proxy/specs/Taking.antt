-- What is due to a client is taken: a decision, or a cut (RFC 2616, section 8.1; the order is ours).
use Rattle.std.specs.Prelude.{◌≡◌, ℕ, List, [], ◌∷◌, ◌++◌, slice_get, Option, Some, None, option_map}
use Rattle.pp_desk.specs.Closings.{closed_client, sides}
use Rattle.pp_desk.specs.declared.desk.Desk.{Desk}
use Rattle.pp_seats.specs.declared.due.Due.{Due}
use Rattle.pp_seats.specs.declared.due.Due.TheVariants.{Decide, CutOff}
use Rattle.pp_take.specs.Deciding.{Takes, afforded}
use Rattle.pp_state.specs.Ends.{Parts, all_regained, parts}
use Rattle.pp_steps.specs.Evicting.{given_way, row_in_way, row_notes}
use Rattle.pp_state.specs.declared.state.State.{State}
use Rattle.pp_world.specs.Log.{Log}
use Rattle.pp_world.specs.declared.happening.Happening.TheVariants.{Noted}
use Rattle.pp_world.specs.declared.note.Decision.{Decision}
use Rattle.pp_world.specs.declared.note.Remark.TheVariants.{Taken, Cut}

-- ---- a decision: the row in its way leaves before, and attempts count anew for those whose next byte is held then

abbrev pub all_anew : List ℕ → Parts → Parts
all_anew awake p = record p { seats = all_regained p.cache awake p.seats }

pub record IsTaken (i : ℕ) (d : Decision) (old : State) (new : Parts) : Type 0 where
  pub between : Parts
  pub takes : Takes old.name.items i d (parts (given_way d i old)) between
  pub is : new ≡ all_anew old.awake.items between

-- its number, and the number of its request
abbrev pub who_at : ℕ → State → Option (ℕ × ℕ)
who_at i s = option_map (λ seat. (seat.client.id, seat.index)) (slice_get s.seats.items i)

abbrev pub decision_log : ℕ × ℕ → ℕ → Decision → State → Log
decision_log who i d s = row_notes (row_in_way d i s) ++ Noted (Taken who.0 who.1 d) ∷ []

-- ---- or a cut

abbrev pub due_log_for : ℕ × ℕ → ℕ → Due → State → Log
due_log_for who i (Decide d) s = decision_log who i (afforded i d s) s
due_log_for who i (CutOff cause) s = Noted (Cut who.0 cause) ∷ []

abbrev pub due_log_of : Option (ℕ × ℕ) → ℕ → Due → State → Log
due_log_of None i due s = []
due_log_of (Some who) i due s = due_log_for who i due s

abbrev pub due_log : ℕ → Due → State → Log
due_log i due s = due_log_of (who_at i s) i due s

abbrev pub TakesDueFor : ℕ → Due → Desk → Desk → Type 0
TakesDueFor i (Decide d) old new = IsTaken i (afforded i d old.state) old.state (parts new.state) × (new.peers ≡ old.peers)
TakesDueFor i (CutOff cause) old new = sides new ≡ closed_client i (sides old)

abbrev pub TakesDueOf : Option (ℕ × ℕ) → ℕ → Due → Desk → Desk → Type 0
TakesDueOf None i due old new = sides new ≡ sides old
TakesDueOf (Some who) i due old new = TakesDueFor i due old new

abbrev pub TakesDue : ℕ → Due → Desk → Desk → Type 0
TakesDue i due old new = TakesDueOf (who_at i old.state) i due old new
