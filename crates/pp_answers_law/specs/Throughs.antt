-- The head of a response that is passed, whole, where it names no other place (RFC 2616, sections 9.4 and 13.10).
use Rattle.std.specs.Prelude.{◌≡◌, ℕ, true, []}
use Rattle.pp_flow.specs.declared.entry.Entry.{Entry}
use Rattle.pp_framing.specs.declared.body.BodyRule.{BodyRule}
use Rattle.pp_head.specs.Response.{Response}
use Rattle.pp_law.specs.Stages.{is_through}
use Rattle.pp_law.specs.State.{State, Exchange}
use Rattle.pp_law.specs.ThroughHeads.{places_named, through_head}
use Rattle.pp_state.specs.Ends.{Parts}
use Rattle.pp_answers.specs.FinalHeads.{PassesHead, noted_body}
use Rattle.pp_states_law.specs.Charges.{IsFor}
use Rattle.pp_states_law.specs.Steps.{OfSteps, ShowsSteps}
use Rattle.pp_answers_law.specs.Answers.{Asks, IsAnswered, Stands}
use Rattle.pp_answers_law.specs.Disproving.{GoesWithClient}

-- an exchange that is passed, whose head comes
pub record IsPassed (p : Parts) (s : State) (n : ℕ) (x : Entry) (e : Exchange) : Type 0 where
  pub answered : IsAnswered n p s x e
  pub through : is_through e ≡ true
  pub stands : IsFor s e Stands
  pub asks : IsFor s e (Asks e)
  pub client : GoesWithClient s e

abbrev pub ThroughHeadsAreTheLaws : Type 0
ThroughHeadsAreTheLaws = OfSteps (λ number name l peers p s. (n : ℕ) (x : Entry) (e : Exchange) (head : Response) (rule : BodyRule) (new : Parts) → IsPassed p s n x e → places_named head ≡ []
    → PassesHead name x.exchange x.errand head rule p new → ShowsSteps number name l peers (noted_body n new) (through_head e head rule s))
