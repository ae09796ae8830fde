-- A seat begins as its client does, and its reply may begin where that of its client may.
use Rattle.std.specs.Prelude.{◌≡◌, ℕ, true, false, []}
use Rattle.pp_client.specs.Clients.{IsAnswerable, new_client as new_side}
use Rattle.pp_law.specs.After.{new_client}
use Rattle.pp_law.specs.Lists.{Bytes}
use Rattle.pp_law.specs.Requests.{has_request}
use Rattle.pp_law.specs.Stages.{is_begun}
use Rattle.pp_seats.specs.Seats.{new_seat}
use Rattle.pp_seats_law.specs.Seats.{ShowsSeat}
use Rattle.pp_seats_law.specs.Words.{OfOpen}

-- of a client that was accepted
abbrev pub NewSeatsShow : Type 0
NewSeatsShow = (number : ℕ → ℕ) (name : Bytes) (n now : ℕ) → ShowsSeat number name [] (new_seat (new_side n now)) (new_client n now)

-- a request that has no reply yet may have one
abbrev pub RepliesMayBegin : Type 0
RepliesMayBegin = OfOpen (λ number name owed seat c. has_request c.front ≡ true → is_begun c ≡ false → IsAnswerable seat.client)
