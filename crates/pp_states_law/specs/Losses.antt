-- What becomes of an exchange whose connection is gone (RFC 2616, section 8.1.4).
use Rattle.std.specs.Prelude.{◌≡◌, ℕ, Bool, false, find, Some}
use Rattle.pp_flow.specs.Entries.{is_number}
use Rattle.pp_flow.specs.declared.entry.Entry.{Entry}
use Rattle.pp_flow_law.specs.Changes.{HasLeft, but}
use Rattle.pp_law.specs.Connections.{lose_place}
use Rattle.pp_law.specs.Lists.{is_some_with}
use Rattle.pp_law.specs.Stages.{passed_of}
use Rattle.pp_law.specs.State.{State, Client, Exchange}
use Rattle.pp_states_law.specs.Exchanges.{StandsNowhere}
use Rattle.pp_states_law.specs.Charges.{GoesOn, IsFor, IsThere}
use Rattle.pp_state.specs.Ends.{Parts, lost_place}
use Rattle.pp_states_law.specs.Steps.{OfSteps, ShowsSteps}

-- it has a place, and stands in no line of the law any more
pub record HasLost (n : ℕ) (p : Parts) (s : State) (x : Entry) : Type 0 where
  pub placed : find (is_number n) p.flow.placed ≡ Some x
  pub left : HasLeft n s
  pub nowhere : StandsNowhere n s.conns

-- more of what is passed to its client was to come
abbrev pub IsComing : Client → Type 0
IsComing c = is_some_with (λ p. p.pipe.is_finished) (passed_of c) ≡ false

-- behind its head it is over, and before that it is asked again for the request that waits for it; where that counts, an attempt is lost
abbrev pub LossesAreTheLaws : Type 0
LossesAreTheLaws = OfSteps (λ number name l peers p s. (n : ℕ) (x : Entry) (e : Exchange) (counts : Bool) → IsThere n p s x e → HasLost n p s x → IsFor s e GoesOn → IsFor s e IsComing
    → ShowsSteps number name (but n l) peers (lost_place n counts p) (lose_place counts e s))
