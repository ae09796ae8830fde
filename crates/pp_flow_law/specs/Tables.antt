-- How the exchanges of the program stand for those of the law (RFC 2616, sections 8.1.2.2 and 8.1.4).
use Rattle.std.specs.Prelude.{◌≡◌, ◌≤◌, ◌+◌, ℕ, Bool, not, is_some, List, [], ◌∷◌, ◌++◌, map, filter, Option, Some, None, count_by}
use Rattle.pp_cache_law.specs.Pairs.{AreAll, AreBoth}
use Rattle.pp_flow.specs.Changes.{Exchanges, entry_of, line_of}
use Rattle.pp_flow.specs.Entries.{is_number}
use Rattle.pp_law.specs.Connections.{conn, exchange}
use Rattle.pp_law.specs.State.{State, Conn, Exchange}
use Rattle.pp_seats_law.specs.Exchanges.{ShowsExchange}

abbrev pub has_place : Exchange → Bool
has_place e = is_some e.place

abbrev pub has_none : Exchange → Bool
has_none e = not (has_place e)

-- from the first on, each above those before it, and below the second
abbrev pub AreGiven : ℕ → ℕ → List ℕ → Type 0
AreGiven low next [] = low ≤ next
AreGiven low next (n ∷ ns) = (low ≤ n) × AreGiven (n + 1) next ns

-- where a connection is closed or gone, the law takes its exchanges from the line at once, and the program one behind the other: these
-- still have to leave it, by its number
abbrev pub Leaving : Type 0
Leaving = ℕ → List ℕ

abbrev pub none_leaves : Leaving
none_leaves k = []

-- the line of a connection of the law; where none is, none
abbrev pub line_in : Option Conn → List ℕ
line_in None = []
line_in (Some k) = k.line

abbrev pub line_at : State → ℕ → List ℕ
line_at s n = line_in (conn s n)

-- by the law's numbers of lives. By its own number, each shows the law's; those without a place show the law's without one, in the
-- order of their beginnings; those of a connection are its line, in the order in which they came to it. No two have one number, and
-- the next gets that behind all
pub record ShowsFlow (number : ℕ → ℕ) (l : Leaving) (f : Exchanges) (s : State) : Type 0 where
  pub each : (n : ℕ) → AreBoth (ShowsExchange number) (entry_of n f) (exchange s n)
  pub waiting : AreAll (ShowsExchange number) f.waiting (filter has_none s.exchanges)
  pub lines : (n : ℕ) → line_of n f.placed ≡ l n ++ line_at s n
  pub once : (n : ℕ) → count_by (is_number n) (f.waiting ++ f.placed) ≤ 1
  pub begun : f.begun ≡ s.next_exchange
  pub given : AreGiven 0 s.next_exchange (map (λ e. e.number) s.exchanges)

-- of all that do
abbrev pub OfFlows : ((ℕ → ℕ) → Leaving → Exchanges → State → Type 0) → Type 0
OfFlows P = (number : ℕ → ℕ) (l : Leaving) (f : Exchanges) (s : State) → ShowsFlow number l f s → P number l f s
