-- The head of a response to the ask of a follower (RFC 7233, sections 3.2 and 4.1), but for what it costs where it is no use for that follower;
-- and the head of a response to a Fetch or Validate, with what becomes of the body.
use Rattle.std.specs.Prelude.{◌≡◌, ℕ, List, []}
use Rattle.pp_flow.specs.declared.entry.Entry.{Entry}
use Rattle.pp_flow_law.specs.Tables.{Leaving}
use Rattle.pp_framing.specs.declared.body.BodyRule.{BodyRule}
use Rattle.pp_head.specs.Response.{Response}
use Rattle.pp_law.specs.Lists.{Bytes}
use Rattle.pp_law.specs.OwnHeads.{part_head}
use Rattle.pp_law.specs.Responses.{by_aim}
use Rattle.pp_law.specs.State.{State, Own, Exchange}
use Rattle.pp_peers.specs.declared.peers.Peer.{Peer}
use Rattle.pp_state.specs.Ends.{Parts}
use Rattle.pp_answers.specs.FinalHeads.{TakesHead, TakesPart, noted_body, version_in}
use Rattle.pp_state.specs.declared.state.State.{State as Turn}
use Rattle.pp_answers_law.specs.Owns.{IsAtHead, IsShown}

-- of each head of a response to an exchange, and what it leaves
abbrev pub OfHeads : ((ℕ → ℕ) → Bytes → Leaving → List Peer → Turn → State → ℕ → Entry → Exchange → Response → BodyRule → Parts → Type 0) → Type 0
OfHeads P = (number : ℕ → ℕ) (name : Bytes) (l : Leaving) (peers : List Peer) (t : Turn) (s : State) (n : ℕ) (x : Entry) (e : Exchange) (head : Response) (rule : BodyRule) (new : Parts) → IsAtHead number name l peers t s n x e → new.refused ≡ []
    → P number name l peers t s n x e head rule new

abbrev pub PartHeadsAreTheLaws : Type 0
PartHeadsAreTheLaws = OfHeads (λ number name l peers t s n x e head rule new. TakesPart x.exchange x.errand head rule (version_in x.errand head) t new → IsShown number t.cache.lives s.next_instance name l peers (noted_body n new) (part_head e head rule s))

abbrev pub OwnsAreTakenAsTheLaws : Type 0
OwnsAreTakenAsTheLaws = OfHeads (λ number name l peers t s n x e head rule new. e.aim ≡ Own → TakesHead n x.exchange x.errand head rule t new → IsShown number t.cache.lives s.next_instance name l peers new (by_aim e head rule s))
