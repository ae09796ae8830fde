-- Who is looked at is one of the clients, of which there are few enough.
use Rattle.std.proofs.Common.{◌≡◌, ◌≤◌, ℕ, ◌+◌, length, List, [], ◌∷◌, arith}
use Rattle.pp_flow_law.specs.Tables.{AreGiven}
use Rattle.pp_law.specs.State.{Client}
use Rattle.pp_seats.specs.declared.seat.Seat.{Seat}
use Rattle.pp_seats_law.specs.Clients.{AreShown}
use Rattle.pp_turns_law.proofs.Wanted.{same_length}

given_length : (low next : ℕ) (ns : List ℕ) → AreGiven low next ns → length ns + low ≤ next
given_length low next [] given = omega (arith, given)
given_length low next (n ∷ ns) given = omega (arith, given.0, given_length (n + 1) next ns given.1)

pub few_awake : (number : ℕ → ℕ) (name : List ℕ) (seats : List Seat) (cs : List Client) (awake : List ℕ) → AreShown number name [] seats cs → AreGiven 0 (length seats) awake → length cs ≤ 256 → length awake ≤ 256
few_awake number name seats cs awake shown given few = by (length awake) (length seats) (length cs) (given_length 0 (length seats) awake given) (same_length number name seats cs shown) few
  where
    by : (a b c : ℕ) → a + 0 ≤ b → b ≡ c → c ≤ 256 → a ≤ 256
    by a b c one two three = omega (arith, one, two, three)
