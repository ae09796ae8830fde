-- A response without a version is passed to the client that asked for it, or dropped (RFC 2616, sections 13.5 and 13.10; RFC 7233, section 4.1).
use Rattle.std.specs.Prelude.{ℕ}
use Rattle.pp_flow.specs.declared.entry.Entry.{Entry}
use Rattle.pp_framing.specs.declared.body.BodyRule.{BodyRule}
use Rattle.pp_head.specs.Response.{Response}
use Rattle.pp_law.specs.OwnHeads.{other_head as law_other_head, other_part as law_other_part, relay_head}
use Rattle.pp_law.specs.State.{Exchange}
use Rattle.pp_answers.specs.FinalHeads.{noted_body, other_head, other_part, relayed}
use Rattle.pp_answers.specs.OwnHeads.{is_private_part}
use Rattle.pp_states_law.specs.Charges.{IsFor}
use Rattle.pp_states_law.specs.Steps.{OfSteps, ShowsSteps}
use Rattle.pp_answers_law.specs.Answers.{Asks, IsAnswered, Stands}

-- to the request that waits for it
abbrev pub RelaysAreTheLaws : Type 0
RelaysAreTheLaws = OfSteps (λ number name l peers p s. (n : ℕ) (x : Entry) (e : Exchange) (head : Response) (rule : BodyRule) → IsAnswered n p s x e → IsFor s e Stands → IsFor s e (Asks e)
    → ShowsSteps number name l peers (noted_body n (relayed name x.exchange head rule p)) (relay_head e head rule s))

-- to a Fetch or Validate
abbrev pub OthersAreTheLaws : Type 0
OthersAreTheLaws = OfSteps (λ number name l peers p s. (n : ℕ) (x : Entry) (e : Exchange) (head : Response) (rule : BodyRule) → IsAnswered n p s x e → IsFor s e Stands → IsFor s e (Asks e)
    → ShowsSteps number name l peers (noted_body n (other_head name x.exchange x.errand head rule p)) (law_other_head e head rule s))

-- to the ask of a follower
abbrev pub PartsAreTheLaws : Type 0
PartsAreTheLaws = OfSteps (λ number name l peers p s. (n : ℕ) (x : Entry) (e : Exchange) (head : Response) (rule : BodyRule) → IsAnswered n p s x e → IsFor s e Stands → IsFor s e (Asks e)
    → ShowsSteps number name l peers (noted_body n (other_part (is_private_part head) name x.exchange x.errand head rule p)) (law_other_part e head rule s))
