-- What the head of a response to a Fetch or Validate, or to the ask of a follower, does to the row of its key (RFC 2616, sections 10.3.5 and
-- 13.5; RFC 7233, section 4.1).
use Rattle.std.specs.Prelude.{◌≡◌, ℕ, Some}
use Rattle.pp_flow.specs.declared.entry.Entry.{Entry}
use Rattle.pp_head.specs.Response.{Response}
use Rattle.pp_law.specs.OwnHeads.{key_of, not_modified as law_not_modified, settle_known, settle_on}
use Rattle.pp_law.specs.State.{State, Exchange, Instance as Known}
use Rattle.pp_law.specs.Table.{row}
use Rattle.pp_objects.specs.Instances.{Instance, id_of, row_of}
use Rattle.pp_state.specs.Ends.{Parts}
use Rattle.pp_answers.specs.FinalHeads.{noted_body}
use Rattle.pp_answers.specs.Rows.{not_modified, renewed, settled_on}
use Rattle.pp_states_law.specs.Charges.{IsFor}
use Rattle.pp_states_law.specs.Steps.{OfSteps, ShowsSteps}
use Rattle.pp_valid.specs.declared.version.Version.{Version}
use Rattle.pp_answers_law.specs.Answers.{IsAnswered, Stands}

-- the row of its key, in the program and in the law
pub record HasRow (p : Parts) (s : State) (e : Exchange) (i : Instance) (y : Known) : Type 0 where
  pub here : row_of (key_of e) p.cache.instances ≡ Some i
  pub there : row s (key_of e) ≡ Some y

-- its body belongs to that row
abbrev pub JoinsAreTheLaws : Type 0
JoinsAreTheLaws = OfSteps (λ number name l peers p s. (n : ℕ) (x : Entry) (e : Exchange) (head : Response) (v : Version) (i : Instance) (y : Known) → IsAnswered n p s x e → IsFor s e Stands → HasRow p s e i y
    → ShowsSteps number name l peers (noted_body n (settled_on x.exchange x.errand head v (id_of i) p)) (settle_on e head v s))

-- and the row takes over what changes with each response, where there is room
abbrev pub RenewalsAreTheLaws : Type 0
RenewalsAreTheLaws = OfSteps (λ number name l peers p s. (n : ℕ) (x : Entry) (e : Exchange) (head : Response) (v : Version) (i : Instance) (y : Known) → IsAnswered n p s x e → IsFor s e Stands → HasRow p s e i y
    → ShowsSteps number name l peers (noted_body n (renewed x.exchange x.errand head v (id_of i) s.clock p)) (settle_known e head v s))

-- "If a 304 response indicates an entity not currently cached, then the cache MUST disregard the response"
abbrev pub NotModifiedAreTheLaws : Type 0
NotModifiedAreTheLaws = OfSteps (λ number name l peers p s. (n : ℕ) (x : Entry) (e : Exchange) (head : Response) → IsAnswered n p s x e → IsFor s e Stands
    → ShowsSteps number name l peers (noted_body n (not_modified x.exchange x.errand head s.clock p)) (law_not_modified e head s))
