-- What is read of the exchanges is what the law reads of its own.
use Rattle.std.specs.Prelude.{◌≡◌, ◌≤◌, ◌+◌, ℕ, ◌&&◌, nat_lt, Bool, true, is_some, [], length, Option, Some, None, option_map, count_by, slice_get}
use Rattle.std.specs.List.{find}
use Rattle.pp_cache_law.specs.Pairs.{AreBoth}
use Rattle.pp_flow.specs.Changes.{entry_of, first_of, is_after, line_of}
use Rattle.pp_flow.specs.Entries.{is_asked_by, is_number}
use Rattle.pp_law.specs.Closing.{is_of}
use Rattle.pp_law.specs.Connections.{exchange}
use Rattle.pp_law.specs.Lists.{is_some_with}
use Rattle.pp_law.specs.State.{Exchange}
use Rattle.pp_seats_law.specs.Exchanges.{ShowsExchange}
use Rattle.pp_flow_law.specs.Tables.{OfFlows, has_none, has_place, line_at}

-- how many there are, and the number of the next
abbrev pub CountsAreTheLaws : Type 0
CountsAreTheLaws = OfFlows (λ number l f s. (length f.waiting + length f.placed ≡ length s.exchanges) × (f.begun ≡ s.next_exchange))

-- the exchange with a number
abbrev pub EntriesAreTheLaws : Type 0
EntriesAreTheLaws = OfFlows (λ number l f s. (n : ℕ) → AreBoth (ShowsExchange number) (entry_of n f) (exchange s n))

-- whether it is there without a place, and whether with one
abbrev pub WaitsAreTheLaws : Type 0
WaitsAreTheLaws = OfFlows (λ number l f s. (n : ℕ) → is_some (find (is_number n) f.waiting) ≡ is_some_with has_none (exchange s n))

abbrev pub PlacesAreTheLaws : Type 0
PlacesAreTheLaws = OfFlows (λ number l f s. (n : ℕ) → is_some (find (is_number n) f.placed) ≡ is_some_with has_place (exchange s n))

-- the exchange begun last is the only one of its request: the number of that of a client
abbrev pub AskersAreTheLaws : Type 0
AskersAreTheLaws = OfFlows (λ number l f s. (c : ℕ) → count_by (is_of c) s.exchanges ≤ 1
    → option_map (λ x. x.exchange.number) (first_of (find (is_asked_by c) f.waiting) (find (is_asked_by c) f.placed)) ≡ option_map (λ e. e.number) (find (is_of c) s.exchanges))

-- the first without a place that began behind that one
abbrev pub began_behind : Option ℕ → Exchange → Bool
began_behind None e = true
began_behind (Some n) e = nat_lt n e.number

abbrev pub NextsAreTheLaws : Type 0
NextsAreTheLaws = OfFlows (λ number l f s. (after : Option ℕ) → option_map (λ x. x.exchange.number) (find (is_after after) f.waiting) ≡ option_map (λ e. e.number) (find (λ e. has_none e && began_behind after e) s.exchanges))

-- what stands in a line, while none has to leave it
abbrev pub LinesAreTheLaws : Type 0
LinesAreTheLaws = OfFlows (λ number l f s. (n index : ℕ) → l n ≡ [] → slice_get (line_of n f.placed) index ≡ slice_get (line_at s n) index)
