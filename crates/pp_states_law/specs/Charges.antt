-- What an exchange costs its request (RFC 2616, section 8.1.4).
use Rattle.std.specs.Prelude.{◌≡◌, ℕ, false, find, Some}
use Rattle.pp_flow.specs.Changes.{entry_of}
use Rattle.pp_flow.specs.declared.entry.Entry.{Entry}
use Rattle.pp_law.specs.Connections.{exchange, fail, give_up_row, is_client, lose_attempt}
use Rattle.pp_law.specs.State.{State, Client, Exchange}
use Rattle.pp_seats_law.specs.Fates.{is_refused}
use Rattle.pp_state.specs.Ends.{Parts, failed, given_up_row, lost_attempt, seat_for}
use Rattle.pp_states_law.specs.Steps.{OfSteps, ShowsSteps}

-- an exchange that is there, and that of the law
pub record IsThere (n : ℕ) (p : Parts) (s : State) (x : Entry) (e : Exchange) : Type 0 where
  pub here : entry_of n p.flow ≡ Some x
  pub there : exchange s n ≡ Some e

-- its client goes on, and memory was refused for no row that it waits for
pub record GoesOn (c : Client) : Type 0 where
  pub going : c.is_closing ≡ false
  pub given : is_refused c.course ≡ false

abbrev pub IsFor : State → Exchange → (Client → Type 0) → Type 0
IsFor s e P = (n : ℕ) (c : Client) → e.asker ≡ Some n → find (is_client n) s.clients ≡ Some c → P c

-- a row whose hole nobody fills is cleared, and its request leaves the exchange
abbrev pub RowsAreTheLaws : Type 0
RowsAreTheLaws = OfSteps (λ number name l peers p s. (n i : ℕ) (x : Entry) (e : Exchange) → IsThere n p s x e → seat_for x.exchange p.seats ≡ Some i → IsFor s e GoesOn
    → ShowsSteps number name l peers (given_up_row i x.exchange p) (give_up_row e s))

-- an attempt is lost
abbrev pub LossesAreTheLaws : Type 0
LossesAreTheLaws = OfSteps (λ number name l peers p s. (n : ℕ) (x : Entry) (e : Exchange) → IsThere n p s x e → IsFor s e GoesOn → ShowsSteps number name l peers (lost_attempt x.exchange p) (lose_attempt e s))

-- they end at once
abbrev pub FailuresAreTheLaws : Type 0
FailuresAreTheLaws = OfSteps (λ number name l peers p s. (n : ℕ) (x : Entry) (e : Exchange) → IsThere n p s x e → IsFor s e GoesOn → ShowsSteps number name l peers (failed x.exchange p) (fail e s))
