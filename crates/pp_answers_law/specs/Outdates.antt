-- The head of a response that is passed, whole, with the rows of other places that it names (RFC 2616, sections 9.4 and 13.10).
use Rattle.std.specs.Prelude.{◌≡◌, ◌+◌, ◌≤◌, ℕ, Bool, true, false, length, take, List, [], ◌∷◌, Option, Some, None, Ok, ⊤}
use Rattle.pp_cache.specs.Named.{site_of}
use Rattle.pp_flow.specs.declared.entry.Entry.{Entry}
use Rattle.pp_framing.specs.declared.body.BodyRule.{BodyRule}
use Rattle.pp_head.specs.Response.{Response}
use Rattle.pp_law.specs.Lists.{Bytes}
use Rattle.pp_law.specs.State.{Exchange}
use Rattle.pp_law.specs.ThroughHeads.{invalidates as law_invalidates, places_named, through_head}
use Rattle.pp_state.specs.Ends.{Parts, cleared_key}
use Rattle.pp_answers.specs.FinalHeads.{PassesHead, noted_body}
use Rattle.pp_state.specs.Keys.{key_of}
use Rattle.pp_answers.specs.ThroughHeads.{ClearsEach, InvalidatesIf, InvalidatesRows, invalidates, places_named as places_in}
use Rattle.pp_states_law.specs.Steps.{OfSteps, ShowsSteps}
use Rattle.pp_target.specs.Key.{key_at, place_of}
use Rattle.pp_answers_law.specs.Throughs.{IsPassed}

-- memory was not refused to read each of these
abbrev pub WereRead : (site : Bytes) (texts : List Bytes) (old new : Parts) → ClearsEach site texts old new → Type 0
WereRead site [] old new cleared = ⊤
WereRead site (text ∷ texts) old new cleared = (cleared.1.is_read ≡ true) × WereRead site texts cleared.0 new cleared.2

abbrev pub WereReadOf : (key : Option Bytes) (path : ℕ) (head : Response) (old new : Parts) → InvalidatesRows key path head old new → Type 0
WereReadOf None path head old new it = ⊤
WereReadOf (Some key) path head old new it = WereRead (take path key) (places_in head) (cleared_key key old) new it

abbrev pub WereReadIf : (b : Bool) (key : Option Bytes) (path : ℕ) (head : Response) (old new : Parts) → InvalidatesIf b key path head old new → Type 0
WereReadIf false key path head old new it = ⊤
WereReadIf true key path head old new it = WereReadOf key path head old new it

-- its key is that of a target, in its place
pub record IsKeyed (x : Entry) (e : Exchange) (head : Response) : Type 0 where
  pub target : Bytes
  pub key : key_at target ≡ Ok e.key
  pub place : x.errand.place.path ≡ (place_of e.key).path

abbrev pub PassedHeadsAreTheLaws : Type 0
PassedHeadsAreTheLaws = OfSteps (λ number name l peers p s. (n : ℕ) (x : Entry) (e : Exchange) (head : Response) (rule : BodyRule) (new : Parts) → IsPassed p s n x e → (law_invalidates e head ≡ true → IsKeyed x e head) → (passes : PassesHead name x.exchange x.errand head rule p new)
    → WereReadIf (invalidates x.errand.is_safe head) (key_of x.exchange.number p.flow) x.errand.place.path head p passes.outdated.between passes.outdated.invalidated → ShowsSteps number name l peers (noted_body n new) (through_head e head rule s))
