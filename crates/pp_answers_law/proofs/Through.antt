-- The head of a response that is passed, and names no other place, as the law has it.
use Rattle.std.proofs.Common.{◌≡◌, refl, sym, subst, ap, ◌∙◌, ℕ, Bool, true, false, take, List, [], ◌∷◌, Some, Option}
use Rattle.pp_flow.specs.declared.entry.Entry.{Entry}
use Rattle.pp_flow_law.specs.Tables.{Leaving}
use Rattle.pp_framing.specs.declared.body.BodyRule.{BodyRule}
use Rattle.pp_head.specs.Response.{Response}
use Rattle.pp_heads_law.proofs.Ruled.{invalidated as invalidates_same}
use Rattle.pp_law.specs.Lists.{Bytes}
use Rattle.pp_law.specs.OwnHeads.{key_of, relay_head}
use Rattle.pp_law.specs.State.{State, Exchange}
use Rattle.pp_law.specs.Table.{clear, swept}
use Rattle.pp_law.specs.ThroughHeads.{clear_each, disproved as law_disproved, invalidated as law_invalidated, invalidates as law_invalidates, places_named as law_places, through_head}
use Rattle.pp_peers.specs.declared.peers.Peer.{Peer}
use Rattle.pp_seats_law.specs.Exchanges.{ShowsExchange}
use Rattle.pp_state.specs.Ends.{Parts, cleared_key, cleared_of, cleared_row}
use Rattle.pp_answers.specs.FinalHeads.{noted_body, relayed}
use Rattle.pp_state.specs.Keys.{key_of as key_in_flow}
use Rattle.pp_answers.specs.ThroughHeads.{ClearsEach, InvalidatesIf, InvalidatesRows, disproved, is_disproved, places_named}
use Rattle.pp_states_law.proofs.Charged.{same_entry}
use Rattle.pp_states_law.specs.Steps.{ShowsSteps}
use Rattle.pp_answers_law.specs.Disproving.{GoesWithClient}
use Rattle.pp_answers_law.specs.Throughs.{IsPassed, ThroughHeadsAreTheLaws}
use Rattle.pp_answers_law.proofs.Disproved.{disproved_same, disproveds, law_is as law_disproved_is}
use Rattle.pp_answers_law.proofs.Dropped.{there_too}
use Rattle.pp_answers_law.proofs.Others.{asks_cleared}
use Rattle.pp_answers_law.proofs.Relayed.{relays}
use Rattle.pp_answers_law.proofs.Standing.{stands_cleared}
use Rattle.pp_answers_law.proofs.Useless.{answered_cleared, key_is, row_cleared}

-- ---- the row of a key is cleared

pub client_cleared : (key : Bytes) (s : State) (e : Exchange) → GoesWithClient s e → GoesWithClient (clear key s) e
unfolding clear swept
client_cleared key s e goes alone = record { number = (goes alone).number; client = (goes alone).client; asker = (goes alone).asker; there = (goes alone).there }

pub passed_cleared : (p : Parts) (s : State) (n : ℕ) (x : Entry) (e : Exchange) → IsPassed p s n x e → IsPassed (cleared_row x.exchange.number p) (clear (key_of e) s) n x e
passed_cleared p s n x e passed = record {
  answered = answered_cleared n p s x e (key_of e) passed.answered;
  through = passed.through;
  stands = stands_cleared e (key_of e) s passed.stands;
  asks = asks_cleared e (key_of e) s passed.asks;
  client = client_cleared (key_of e) s e passed.client;
}

-- ---- what an unsafe method changed

abbrev pub law_invalidated_if : Exchange → Response → State → Bool → State
law_invalidated_if e head s b = elim b as (λ t. State) [ true ↦ clear_each e.key (law_places head) (clear (key_of e) s) | false ↦ s ]

pub law_invalidated_is : (e : Exchange) (head : Response) (s : State) → law_invalidated e head s ≡ law_invalidated_if e head s (law_invalidates e head)
unfolding law_invalidated
law_invalidated_is e head s = refl

nothing_each : (e : Exchange) (s : State) → clear_each e.key [] s ≡ s
unfolding clear_each
nothing_each e s = refl

none_each : (e : Exchange) (places : List Bytes) (s : State) → places ≡ [] → clear_each e.key places s ≡ s
none_each e places s none = ap (λ (texts : List Bytes). clear_each e.key texts s) none ∙ nothing_each e s

-- what is left of it, and of the law
pub record IsLeft (number : ℕ → ℕ) (name : Bytes) (l : Leaving) (peers : List Peer) (p : Parts) (s : State) (n : ℕ) (x : Entry) (e : Exchange) : Type 0 where
  pub shows : ShowsSteps number name l peers p s
  pub passed : IsPassed p s n x e

left_same : (number : ℕ → ℕ) (name : Bytes) (l : Leaving) (peers : List Peer) (p q : Parts) (s t : State) (n : ℕ) (x : Entry) (e : Exchange) → IsLeft number name l peers p s n x e → q ≡ p → t ≡ s → IsLeft number name l peers q t n x e
left_same number name l peers p q s t n x e left one two = subst (λ (r : Parts). IsLeft number name l peers r t n x e) (sym one) (subst (λ (u : State). IsLeft number name l peers p u n x e) (sym two) left)

invalidated_left : (number : ℕ → ℕ) (name : Bytes) (l : Leaving) (peers : List Peer) (p between : Parts) (s : State) (n : ℕ) (x : Entry) (e : Exchange) (head : Response) (b : Bool) → IsLeft number name l peers p s n x e → law_places head ≡ []
    → InvalidatesIf b (key_in_flow x.exchange.number p.flow) x.errand.place.path head p between → IsLeft number name l peers between (law_invalidated_if e head s b) n x e
invalidated_left number name l peers p between s n x e head false left none it = left_same number name l peers p between s s n x e left it refl
invalidated_left number name l peers p between s n x e head true left none it =
    left_same number name l peers (cleared_row x.exchange.number p) between (clear (key_of e) s) (clear_each e.key (law_places head) (clear (key_of e) s)) n x e
    (record { shows = row_cleared number name l peers p s left.shows n x e left.passed.answered; passed = passed_cleared p s n x e left.passed })
    (each (law_places head) none named ∙ sym (ap (λ (o : Option (List ℕ)). cleared_of o p) key))
    (none_each e (law_places head) (clear (key_of e) s) none)
  where
    key : key_in_flow x.exchange.number p.flow ≡ Some (key_of e)
    key = key_is number name l peers p s left.shows n x e left.passed.answered

    named : ClearsEach (take x.errand.place.path (key_of e)) (places_named head) (cleared_key (key_of e) p) between
    named = subst (λ (o : Option (List ℕ)). InvalidatesRows o x.errand.place.path head p between) key it

    each : (places : List Bytes) → places ≡ [] → ClearsEach (take x.errand.place.path (key_of e)) places (cleared_key (key_of e) p) between → between ≡ cleared_key (key_of e) p
    each [] is cleared = cleared
    each (text ∷ texts) is cleared = absurd (let both : (text ∷ texts) ≡ [] = is in cc both)

-- ---- what GET and HEAD show

abbrev disproved_if : Entry → Parts → Bool → Parts
disproved_if x p b = elim b as (λ t. Parts) [ true ↦ cleared_row x.exchange.number p | false ↦ p ]

abbrev law_disproved_if : Exchange → State → Bool → State
law_disproved_if e s b = elim b as (λ t. State) [ true ↦ clear (key_of e) s | false ↦ s ]

pub disproved_left : (number : ℕ → ℕ) (name : Bytes) (l : Leaving) (peers : List Peer) (p : Parts) (s : State) (n : ℕ) (x : Entry) (e : Exchange) (head : Response) → IsLeft number name l peers p s n x e
    → IsLeft number name l peers (disproved x.exchange x.errand head p) (law_disproved e head s) n x e
disproved_left number name l peers p s n x e head left = record {
  shows = disproveds number name l peers p s left.shows n x e head left.passed.answered left.passed.through left.passed.stands left.passed.asks left.passed.client;
  passed =
      subst (λ (t : State). IsPassed (disproved x.exchange x.errand head p) t n x e) (sym (law_disproved_is e head s))
      (subst (λ (b : Bool). IsPassed (disproved_if x p (is_disproved x.exchange x.errand head p)) (law_disproved_if e s b) n x e)
      (disproved_same number name l peers p s left.shows n x e head left.passed.answered left.passed.through left.passed.stands left.passed.asks left.passed.client)
      (by (is_disproved x.exchange x.errand head p)));
}
  where
    by : (b : Bool) → IsPassed (disproved_if x p b) (law_disproved_if e s b) n x e
    by true = passed_cleared p s n x e left.passed
    by false = left.passed

-- ---- all of it

pub through_is : (e : Exchange) (head : Response) (rule : BodyRule) (s : State) → through_head e head rule s ≡ relay_head e head rule (law_disproved e head (law_invalidated e head s))
unfolding through_head
through_is e head rule s = refl

pub throughs : ThroughHeadsAreTheLaws
throughs number name l peers p s shows n x e head rule new passed none passes =
    subst (λ (t : State). ShowsSteps number name l peers (noted_body n new) t) (sym (through_is e head rule s))
    (subst (λ (q : Parts). ShowsSteps number name l peers (noted_body n q) (relay_head e head rule (law_disproved e head (law_invalidated e head s)))) (sym (passes.passed ∙ ap (λ (q : Parts). relayed name x.exchange head rule q) passes.outdated.cleared))
    (relays number name l peers (disproved x.exchange x.errand head passes.outdated.between) (law_disproved e head (law_invalidated e head s)) behind.shows n x e head rule behind.passed.answered behind.passed.stands behind.passed.asks))
  where
    shown : ShowsExchange number x e
    shown = same_entry number name l peers p s shows n x e (there_too number name l peers p s shows n x e passed.answered)

    first : IsLeft number name l peers passes.outdated.between (law_invalidated e head s) n x e
    first =
        subst (λ (t : State). IsLeft number name l peers passes.outdated.between t n x e) (sym (law_invalidated_is e head s))
        (invalidated_left number name l peers p passes.outdated.between s n x e head (law_invalidates e head) (record { shows = shows; passed = passed }) none
        (subst (λ (b : Bool). InvalidatesIf b (key_in_flow x.exchange.number p.flow) x.errand.place.path head p passes.outdated.between) (invalidates_same number x e head shown) passes.outdated.invalidated))

    behind : IsLeft number name l peers (disproved x.exchange x.errand head passes.outdated.between) (law_disproved e head (law_invalidated e head s)) n x e
    behind = disproved_left number name l peers passes.outdated.between (law_invalidated e head s) n x e head first
