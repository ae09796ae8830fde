-- A client has come: it has a seat, the last, or is turned away (ours).
use Rattle.std.specs.Prelude.{◌≡◌, ◌<◌, ◌≤◌, ◌⊎◌, ℕ, Bool, cond, [], ◌∷◌, ◌++◌, length, vec_capacity, Some}
use Rattle.pp_client.specs.Clients.{new_client}
use Rattle.pp_desk.specs.declared.desk.Desk.{Desk}
use Rattle.pp_seats.specs.Seats.{new_seat}
use Rattle.pp_seats.specs.declared.account.Account.{Account}
use Rattle.pp_seats.specs.declared.account.Account.TheVariants.{Unkept, Due}
use Rattle.pp_seats.specs.declared.seat.Seat.{Seat}
use Rattle.pp_state.specs.Astray.{gone_astray}
use Rattle.pp_state.specs.Ends.{AreInOrder}
use Rattle.pp_state.specs.Numbers.{with_number}
use Rattle.pp_world.specs.declared.access.Source.TheVariants.{Hit}

-- an account is kept of its replies where the operator keeps a log of them
abbrev pub first_account : Bool → Account
first_account logs_replies = cond logs_replies (Due Hit) Unkept

abbrev pub newcomer : ℕ → Desk → Seat
newcomer c d = record (new_seat (new_client c d.state.now)) { account = first_account d.logs_replies }

-- and it is looked at
pub record IsSeated (seat : Seat) (old new : Desk) : Type 0 where
  pub seats : new.state.seats.items ≡ old.state.seats.items ++ seat ∷ []
  pub awake : AreInOrder old.state.awake.items → length old.state.awake.items < vec_capacity old.state.awake → new.state.awake.items ≡ with_number (length old.state.seats.items) old.state.awake.items
  pub room : vec_capacity old.state.awake ≤ vec_capacity new.state.awake
  pub rest : record new { state = record new.state { seats = old.state.seats; awake = old.state.awake } } ≡ old

-- where there is no memory for it, it is turned away, and this life goes astray
pub record IsTurnedAway (c : ℕ) (old new : Desk) : Type 0 where
  pub seats : new.state.seats.items ≡ old.state.seats.items
  pub rest : record new { state = record new.state { seats = old.state.seats } } ≡ record old { turned_away = Some c; state = gone_astray old.state }

abbrev pub IsAccepted : ℕ → Desk → Desk → Type 0
IsAccepted c old new = IsSeated (newcomer c old) old new ⊎ IsTurnedAway c old new
