-- What becomes of exchanges that their request leaves (RFC 2616, section 8.1.4): each is nobody's from then on. It is read to
-- its end and changes the table as any does, but it is told to no client, passed to none, and counts for none.
use Rattle.std.specs.Prelude.{ℕ, Bool, true, false, ◌==◌, ◌||◌, not, List, map, filter, is_some, None}
use Rattle.pp_law.specs.Connections.{on_client, on_exchange, each_exchange, end_exchange}
use Rattle.pp_law.specs.Lists.{change, without, is_this}
use Rattle.pp_law.specs.State.{State, Exchange}
use Rattle.pp_law.specs.Table.{swept}

abbrev pub is_of : ℕ → Exchange → Bool
is_of n e = is_this n e.asker

abbrev pub left_alone : Exchange → Exchange
left_alone e = record e { asker = None }

-- these are left
unfoldable pub forsake : (Exchange → Bool) → State → State
forsake test s = record s { exchanges = change test left_alone s.exchanges }

abbrev pub is_over : Exchange → Bool
is_over e = not (is_some e.asker || is_some e.place)

-- at a decision, also before they had a place, and then they are over
unfoldable pub leave : (Exchange → Bool) → State → State
leave test s =
    let t : State = forsake test s in
    record t { exchanges = without is_over t.exchanges }

-- ---- a client is closed

-- its exchanges: those of which nothing was asked are over, and the others are nobody's
unfoldable pub leave_one : Exchange → State → State
leave_one e s = elim (e.asked == 0) [ true ↦ end_exchange e.number s | false ↦ on_exchange e.number left_alone s ]

abbrev pub exchanges_of : ℕ → State → List ℕ
exchanges_of n s = map (λ e. e.number) (filter (is_of n) s.exchanges)

-- its cause to be closed has come
unfoldable pub close_client : ℕ → Bool → State → State
close_client n is_cut s =
    swept (each_exchange leave_one (exchanges_of n s) (on_client n (λ c. record c { is_closing = true; is_cut = c.is_cut || is_cut }) s))
