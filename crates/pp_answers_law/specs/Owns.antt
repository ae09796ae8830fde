-- The head of a response to a Fetch or Validate, whole (RFC 2616, sections 10.3.5 and 13.5; RFC 7234, section 4.3.3).
use Rattle.std.specs.Prelude.{◌≡◌, ◌<◌, ◌≤◌, ℕ, List, [], length}
use Rattle.pp_flow.specs.declared.entry.Entry.{Entry}
use Rattle.pp_flow_law.specs.Tables.{Leaving}
use Rattle.pp_framing.specs.declared.body.BodyRule.{BodyRule}
use Rattle.pp_head.specs.Response.{Response}
use Rattle.pp_law.specs.Lists.{Bytes}
use Rattle.pp_law.specs.OwnHeads.{key_of, own_head}
use Rattle.pp_law.specs.State.{State, Exchange}
use Rattle.pp_peers.specs.declared.peers.Peer.{Peer}
use Rattle.pp_state.specs.Ends.{Parts, parts}
use Rattle.pp_answers.specs.FinalHeads.{TakesOwn, noted_body, version_in}
use Rattle.pp_state.specs.declared.state.State.{State as Turn}
use Rattle.pp_states_law.specs.Charges.{IsFor}
use Rattle.pp_states_law.specs.Steps.{ShowsSteps}
use Rattle.pp_answers_law.specs.Answers.{Asks, IsAnswered, Stands}
use Rattle.pp_answers_law.specs.Making.{MayMake}

-- the program's state shows the law's where the head comes; no key has more than 8,192 bytes
pub record IsAtHead (number : ℕ → ℕ) (name : Bytes) (l : Leaving) (peers : List Peer) (t : Turn) (s : State) (n : ℕ) (x : Entry) (e : Exchange) : Type 0 where
  pub shows : ShowsSteps number name l peers (parts t) s
  pub own_name : t.name.items ≡ name
  pub clock : t.now ≡ s.clock
  pub answered : IsAnswered n (parts t) s x e
  pub stands : IsFor s e Stands
  pub asks : IsFor s e (Asks e)
  pub may : MayMake (parts t) s
  pub key : length (key_of e) ≤ 8192

-- so many lives were given before, and so many since: each has the number that it had, and one that was given since has a number that was to come
pub record KeepsNumbers (before after : ℕ → ℕ) (lives later next : ℕ) : Type 0 where
  pub same : (life : ℕ) → life < lives → after life ≡ before life
  pub new : (life : ℕ) → lives ≤ life → life < later → next ≤ after life

-- by some map of the law's numbers: a life that is given has one more
pub record IsShown (before : ℕ → ℕ) (lives next : ℕ) (name : Bytes) (l : Leaving) (peers : List Peer) (p : Parts) (s : State) : Type 0 where
  pub number : ℕ → ℕ
  pub keeps : KeepsNumbers before number lives p.cache.lives next
  pub shows : ShowsSteps number name l peers p s

-- where memory was refused for no row
abbrev pub OwnHeadsAreTheLaws : Type 0
OwnHeadsAreTheLaws = (number : ℕ → ℕ) (name : Bytes) (l : Leaving) (peers : List Peer) (t : Turn) (s : State) (n : ℕ) (x : Entry) (e : Exchange) (head : Response) (rule : BodyRule) (new : Parts) → IsAtHead number name l peers t s n x e
    → TakesOwn x.exchange x.errand head rule (version_in x.errand head) t new → new.refused ≡ [] → IsShown number t.cache.lives s.next_instance name l peers (noted_body n new) (own_head e head rule s)
