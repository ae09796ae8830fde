-- How many exchanges are under way, and what each is for. All of it is ours.
use Rattle.std.specs.Prelude.{◌≡◌, ℕ, ◌≤◌, Bool, false, ◌||◌, not, length, filter, is_some, Some}
use Rattle.pp_law.specs.State.{State, Exchange}
use Rattle.pp_laws.specs.Runs.{IsIn}

-- a request waits for it, or it has no place yet
abbrev pub is_waiting : Exchange → Bool
is_waiting e = is_some e.asker || not (is_some e.place)

-- at most 256 exchanges are waited for, or wait for a place
abbrev pub HasFewWaiting : State → Type 0
HasFewWaiting s = length (filter is_waiting s.exchanges) ≤ 256

-- until Stop at most 768 exchanges are under way in all: those, and 512 that have a place
abbrev pub HasFewExchanges : State → Type 0
HasFewExchanges s = s.is_stopped ≡ false → length s.exchanges ≤ 768

-- each request has one exchange at most
abbrev pub HasOneEach : State → Type 0
HasOneEach s = (d e : Exchange) (c : ℕ) → IsIn d s.exchanges → IsIn e s.exchanges → d.asker ≡ Some c → e.asker ≡ Some c → d ≡ e
