-- A response without a version to an ask of the cache's own, as the law has it.
use Rattle.std.proofs.Common.{◌≡◌, refl, sym, subst, ap, ap₂, ◌∙◌, ℕ, Bool, true, false, ◌||◌, List, None}
use Rattle.pp_flow.specs.declared.entry.Entry.{Entry}
use Rattle.pp_flow_law.specs.Tables.{Leaving}
use Rattle.pp_framing.specs.declared.body.BodyRule.{BodyRule}
use Rattle.pp_head.specs.Response.{Response}
use Rattle.pp_heads_law.proofs.Ruled.{widened as widened_same}
use Rattle.pp_law.specs.Lists.{Bytes}
use Rattle.pp_law.specs.OwnHeads.{cleared_by as law_cleared_by, clears_row as law_clears, is_private_part as law_private, is_widened as law_widened, key_of, not_shared as law_not_shared, other_head as law_other_head, other_part as law_other_part, relay_head, tell, use_body, useless}
use Rattle.pp_law.specs.State.{State, Dropping, Exchange, TooWide}
use Rattle.pp_law.specs.Table.{clear, swept}
use Rattle.pp_peers.specs.declared.peers.Peer.{Peer}
use Rattle.pp_seats.specs.declared.seat.Brought.TheVariants.{TooWide as IsTooWide}
use Rattle.pp_state.specs.Ends.{Parts, bound_by, cleared_row, told_to}
use Rattle.pp_answers.specs.FinalHeads.{cleared_by, noted_body, other_part, relayed, relayed_or_widened, shared_part}
use Rattle.pp_answers.specs.OwnHeads.{clears_row, is_private_part}
use Rattle.pp_states_law.proofs.Charged.{same_entry}
use Rattle.pp_states_law.specs.Charges.{IsFor}
use Rattle.pp_states_law.specs.Steps.{ShowsSteps}
use Rattle.pp_answers_law.specs.Answers.{Asks, IsAnswered, Stands}
use Rattle.pp_answers_law.specs.Passing.{OthersAreTheLaws, PartsAreTheLaws}
use Rattle.pp_answers_law.proofs.Dropped.{IsRead, read_now, there_too, told_dropped}
use Rattle.pp_answers_law.proofs.Relayed.{relays}
use Rattle.pp_answers_law.proofs.Standing.{stands_cleared}
use Rattle.pp_answers_law.proofs.Useless.{answered_cleared, not_shareds, row_cleared, uselesses}

-- ---- the row is cleared, where the head says so

pub record IsReady (number : ℕ → ℕ) (name : Bytes) (l : Leaving) (peers : List Peer) (p : Parts) (s : State) (n : ℕ) (x : Entry) (e : Exchange) : Type 0 where
  pub shows : ShowsSteps number name l peers p s
  pub answered : IsAnswered n p s x e
  pub stands : IsFor s e Stands
  pub asks : IsFor s e (Asks e)

pub asks_cleared : (e : Exchange) (key : Bytes) (s : State) → IsFor s e (Asks e) → IsFor (clear key s) e (Asks e)
unfolding clear swept
asks_cleared e key s asks = asks

pub ready_cleared : (number : ℕ → ℕ) (name : Bytes) (l : Leaving) (peers : List Peer) (p : Parts) (s : State) (n : ℕ) (x : Entry) (e : Exchange) → IsReady number name l peers p s n x e → IsReady number name l peers (cleared_row x.exchange.number p) (clear (key_of e) s) n x e
ready_cleared number name l peers p s n x e ready = record {
  shows = row_cleared number name l peers p s ready.shows n x e ready.answered;
  answered = answered_cleared n p s x e (key_of e) ready.answered;
  stands = stands_cleared e (key_of e) s ready.stands;
  asks = asks_cleared e (key_of e) s ready.asks;
}

abbrev cleared_if : Entry → Parts → Bool → Parts
cleared_if x p b = elim b as (λ t. Parts) [ true ↦ cleared_row x.exchange.number p | false ↦ p ]

abbrev law_cleared_if : Exchange → State → Bool → State
law_cleared_if e s b = elim b as (λ t. State) [ true ↦ clear (key_of e) s | false ↦ s ]

law_cleared_is : (head : Response) (e : Exchange) (s : State) → law_cleared_by head e s ≡ law_cleared_if e s (law_clears head)
unfolding law_cleared_by
law_cleared_is head e s = refl

ready_by : (number : ℕ → ℕ) (name : Bytes) (l : Leaving) (peers : List Peer) (p : Parts) (s : State) (n : ℕ) (x : Entry) (e : Exchange) (b : Bool) → IsReady number name l peers p s n x e → IsReady number name l peers (cleared_if x p b) (law_cleared_if e s b) n x e
ready_by number name l peers p s n x e true ready = ready_cleared number name l peers p s n x e ready
ready_by number name l peers p s n x e false ready = ready

ready_head : (number : ℕ → ℕ) (name : Bytes) (l : Leaving) (peers : List Peer) (p : Parts) (s : State) (n : ℕ) (x : Entry) (e : Exchange) (head : Response) → IsReady number name l peers p s n x e
    → IsReady number name l peers (cleared_by x.exchange head p) (law_cleared_by head e s) n x e
ready_head number name l peers p s n x e head ready =
    subst (λ (t : State). IsReady number name l peers (cleared_by x.exchange head p) t n x e) (sym (law_cleared_is head e s)) (ready_by number name l peers p s n x e (law_clears head) ready)

-- ---- to a Fetch or Validate

abbrev other_if : Exchange → Response → BodyRule → State → Bool → State
other_if e head rule s b = elim b as (λ t. State) [ true ↦ tell e TooWide (use_body e Dropping s) | false ↦ relay_head e head rule s ]

others_by : (number : ℕ → ℕ) (name : Bytes) (l : Leaving) (peers : List Peer) (p : Parts) (s : State) (n : ℕ) (x : Entry) (e : Exchange) (head : Response) (rule : BodyRule) (b : Bool) → IsReady number name l peers p s n x e
    → ShowsSteps number name l peers (noted_body n (relayed_or_widened b name x.exchange head rule p)) (other_if e head rule s b)
others_by number name l peers p s n x e head rule true ready =
    subst (λ (m : ℕ). ShowsSteps number name l peers (noted_body n (told_to x.exchange IsTooWide (bound_by m None p))) (tell e TooWide (use_body e Dropping s))) (sym read.number)
    (told_dropped number name l peers p s ready.shows n x.exchange e x e IsTooWide TooWide ready.answered read ready.stands refl tt)
  where
    read : IsRead n x.exchange e x e
    read = read_now number name l peers p s ready.shows n x e ready.answered
others_by number name l peers p s n x e head rule false ready = relays number name l peers p s ready.shows n x e head rule ready.answered ready.stands ready.asks

pub others : OthersAreTheLaws
unfolding law_other_head
others number name l peers p s shows n x e head rule answered stands asks =
    subst (λ (b : Bool). ShowsSteps number name l peers (noted_body n (relayed_or_widened b name x.exchange head rule (cleared_by x.exchange head p))) (other_if e head rule (law_cleared_by head e s) (law_widened e head)))
    (sym (widened_same number x e head (same_entry number name l peers p s shows n x e (there_too number name l peers p s shows n x e answered))))
    (others_by number name l peers (cleared_by x.exchange head p) (law_cleared_by head e s) n x e head rule (law_widened e head)
    (ready_head number name l peers p s n x e head (record { shows = shows; answered = answered; stands = stands; asks = asks })))

-- ---- to the ask of a follower

or_false : (a : Bool) → a ≡ (a || false)
or_false true = refl
or_false false = refl

abbrev part_if : Exchange → Response → BodyRule → State → Bool → Bool → State
part_if e head rule s b c = elim b as (λ t. State) [ true ↦ law_not_shared e s | false ↦ elim c as (λ t. State) [ true ↦ relay_head e head rule (law_cleared_by head e s) | false ↦ useless e s ] ]

part_is : (e : Exchange) (head : Response) (rule : BodyRule) (s : State) → law_other_part e head rule s ≡ part_if e head rule s (law_private head) (law_clears head)
unfolding law_other_part
part_is e head rule s = refl

cleared_when : (head : Response) (e : Exchange) (s : State) (b : Bool) → law_clears head ≡ b → law_cleared_by head e s ≡ law_cleared_if e s b
cleared_when head e s b is = law_cleared_is head e s ∙ ap (λ (c : Bool). law_cleared_if e s c) is

parts_by : (number : ℕ → ℕ) (name : Bytes) (l : Leaving) (peers : List Peer) (p : Parts) (s : State) (n : ℕ) (x : Entry) (e : Exchange) (head : Response) (rule : BodyRule) (b c : Bool) → is_private_part head ≡ b → clears_row head ≡ c → IsReady number name l peers p s n x e
    → ShowsSteps number name l peers (noted_body n (other_part b name x.exchange x.errand head rule p)) (part_if e head rule s b (law_clears head))
parts_by number name l peers p s n x e head rule true c is so ready = not_shareds number name l peers p s ready.shows n x e ready.answered ready.stands
parts_by number name l peers p s n x e head rule false c is so ready =
    subst (λ (d : Bool). ShowsSteps number name l peers (noted_body n (shared_part (clears_row head) name x.exchange head rule p)) (part_if e head rule s false d)) (sym clears)
    (subst (λ (d : Bool). ShowsSteps number name l peers (noted_body n (shared_part d name x.exchange head rule p)) (part_if e head rule s false c)) (sym so) (at c clears))
  where
    clears : law_clears head ≡ c
    clears = ap₂ (λ (a b : Bool). a || b) so is ∙ sym (or_false c)

    at : (d : Bool) → law_clears head ≡ d → ShowsSteps number name l peers (noted_body n (shared_part d name x.exchange head rule p)) (part_if e head rule s false d)
    at true is_it =
        let cleared : IsReady number name l peers (cleared_row x.exchange.number p) (clear (key_of e) s) n x e = ready_cleared number name l peers p s n x e ready in
        subst (λ (t : State). ShowsSteps number name l peers (noted_body n (relayed name x.exchange head rule (cleared_row x.exchange.number p))) (relay_head e head rule t)) (sym (cleared_when head e s true is_it))
        (relays number name l peers (cleared_row x.exchange.number p) (clear (key_of e) s) cleared.shows n x e head rule cleared.answered cleared.stands cleared.asks)
    at false is_it = uselesses number name l peers p s ready.shows n x e ready.answered ready.stands

pub parts : PartsAreTheLaws
parts number name l peers p s shows n x e head rule answered stands asks =
    subst (λ (t : State). ShowsSteps number name l peers (noted_body n (other_part (is_private_part head) name x.exchange x.errand head rule p)) t) (sym (part_is e head rule s))
    (parts_by number name l peers p s n x e head rule (is_private_part head) (clears_row head) refl refl (record { shows = shows; answered = answered; stands = stands; asks = asks }))
