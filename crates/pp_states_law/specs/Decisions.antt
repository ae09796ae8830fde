-- What a decision does to exchanges: the request leaves the one that it asked, and asks another (RFC 2616, section 8.1.4).
use Rattle.std.specs.Prelude.{◌≡◌, ◌≤◌, ℕ, false, count_by}
use Rattle.std.specs.List.{list_any}
use Rattle.pp_flow.specs.Entries.{begun_with}
use Rattle.pp_flow.specs.declared.entry.Aim.{Aim}
use Rattle.pp_flow.specs.declared.errand.Errand.{Errand}
use Rattle.pp_flow_law.specs.Changes.{begun_by, left_by}
use Rattle.pp_law.specs.Closing.{is_of, is_over, leave}
use Rattle.pp_law.specs.Connections.{is_conn}
use Rattle.pp_law.specs.Deciding.{add_exchange, begin_exchange}
use Rattle.pp_law.specs.Lists.{Bytes}
use Rattle.pp_law.specs.State.{State, Exchange}
use Rattle.pp_seats_law.specs.Exchanges.{ShowsExchange}
use Rattle.pp_states_law.specs.States.{OfStates, ShowsState}

-- no two connections have one number
abbrev pub AreApart : State → Type 0
AreApart s = (n : ℕ) → count_by (is_conn n) s.conns ≤ 1

-- a request has one exchange at most, and none is over
pub record AsksOnce (c : ℕ) (s : State) : Type 0 where
  pub once : count_by (is_of c) s.exchanges ≤ 1
  pub going : list_any is_over s.exchanges ≡ false
  pub apart : AreApart s

-- without a place it is over, and with one it is nobody's
abbrev pub LeavesAreTheLaws : Type 0
LeavesAreTheLaws = OfStates (λ number name owed l p s. (c : ℕ) → AsksOnce c s → ShowsState number name owed l (record p { flow = left_by c p.flow }) (leave (is_of c) s))

-- one begins, as the last of those without a place
abbrev pub BeginsAreTheLaws : Type 0
BeginsAreTheLaws = OfStates (λ number name owed l p s. (client : ℕ) (key : Bytes) (aim : Aim) (errand : Errand) (text : Bytes) (e : Exchange) → ShowsExchange number (begun_with p.flow.begun client key aim errand text) e
    → ShowsState number name owed l (record p { flow = begun_by client key aim errand text p.flow }) (add_exchange e s))

-- both: the one begun last is the only one of its request
abbrev pub AsksAreTheLaws : Type 0
AsksAreTheLaws = OfStates (λ number name owed l p s. (c : ℕ) (key : Bytes) (aim : Aim) (errand : Errand) (text : Bytes) (e : Exchange) → AsksOnce c s → ShowsExchange number (begun_with p.flow.begun c key aim errand text) e
    → ShowsState number name owed l (record p { flow = begun_by c key aim errand text (left_by c p.flow) }) (begin_exchange e s))
