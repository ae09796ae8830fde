-- What a response that is passed shows of the row of its key (RFC 2616, section 9.4).
use Rattle.std.specs.Prelude.{◌≡◌, ℕ, true, find, Some}
use Rattle.pp_flow.specs.declared.entry.Entry.{Entry}
use Rattle.pp_head.specs.Response.{Response}
use Rattle.pp_law.specs.Connections.{is_client}
use Rattle.pp_law.specs.Requests.{goes_alone}
use Rattle.pp_law.specs.Stages.{is_through}
use Rattle.pp_law.specs.State.{State, Client, Exchange}
use Rattle.pp_law.specs.ThroughHeads.{disproved as law_disproved}
use Rattle.pp_answers.specs.ThroughHeads.{disproved}
use Rattle.pp_states_law.specs.Charges.{IsFor}
use Rattle.pp_states_law.specs.Steps.{OfSteps, ShowsSteps}
use Rattle.pp_answers_law.specs.Answers.{Asks, IsAnswered, Stands}

pub record HasClient (s : State) (e : Exchange) : Type 0 where
  pub number : ℕ
  pub client : Client
  pub asker : e.asker ≡ Some number
  pub there : find (is_client number) s.clients ≡ Some client

-- an ask that goes alone is not there without its client
abbrev pub GoesWithClient : State → Exchange → Type 0
GoesWithClient s e = goes_alone e.head ≡ true → HasClient s e

abbrev pub DisprovedAreTheLaws : Type 0
DisprovedAreTheLaws = OfSteps (λ number name l peers p s. (n : ℕ) (x : Entry) (e : Exchange) (head : Response) → IsAnswered n p s x e → is_through e ≡ true → IsFor s e Stands → IsFor s e (Asks e) → GoesWithClient s e
    → ShowsSteps number name l peers (disproved x.exchange x.errand head p) (law_disproved e head s))
