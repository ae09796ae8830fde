-- A connection to an origin is closed, alone or with an exchange of its line (RFC 2616, sections 8.1 and 8.1.4).
use Rattle.std.specs.Prelude.{◌≡◌, ℕ, Bool, true, false, Some}
use Rattle.pp_law.specs.Connections.{close_conn, conn, end_exchange}
use Rattle.pp_law.specs.Lists.{has_number}
use Rattle.pp_law.specs.State.{Conn}
use Rattle.pp_desk.specs.Closings.{closed_conn, dropped_with}
use Rattle.pp_turns_law.specs.Sides.{OfSides, ShowsSides}

-- its cause to be closed has come, also where it had come before
abbrev pub ClosingsAreTheLaws : Type 0
ClosingsAreTheLaws = OfSides (λ number name x s. (n : ℕ) (counts : Bool) (k : Conn) → conn s n ≡ Some k → ShowsSides number name (closed_conn n counts x) (close_conn counts k s))

-- an exchange of its line is over, and it is closed with it
abbrev pub DropsAreTheLaws : Type 0
DropsAreTheLaws = OfSides (λ number name x s. (m n : ℕ) (k : Conn) → conn s n ≡ Some k → has_number m k.line ≡ true → ShowsSides number name (dropped_with m n x) (close_conn false k (end_exchange m s)))
