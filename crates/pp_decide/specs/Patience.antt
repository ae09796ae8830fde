-- How long, and how far, exchanges and requests go on. All of it is ours, but for RFC 2616, section 8.1.2, and RFC 4559, section 6.
use Rattle.std.specs.Prelude.{ℕ, ◌-◌, Bool, ◌==◌, ◌&&◌, ◌||◌, not, nat_lt, nat_le}

-- the first tick of a life, and one that comes so many seconds behind the last, as long as a client that is amid no reply may be idle
abbrev pub is_leap : ℕ → Bool → ℕ → Bool
is_leap now has_ticked before = not has_ticked || nat_le 120 (now - before)

-- a request waits for the answer to another's ask for five seconds
abbrev pub is_patient : Bool → ℕ → ℕ → Bool
is_patient is_awaited now since = is_awaited && nat_lt (now - since) 5

-- the connection goes on behind a response: it stays open, the request's body was asked whole, and its credentials do not hold
-- for the connection
abbrev pub may_go_on : Bool → ℕ → Bool → Bool
may_go_on stays body_left binds_connection = stays && (body_left == 0) && not binds_connection
