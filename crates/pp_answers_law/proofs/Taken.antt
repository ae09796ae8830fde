-- The final head of a response is taken as the law has it.
use Rattle.std.proofs.Common.{◌≡◌, refl, sym, subst, ap, ap₂, ◌∙◌, ℕ, Bool, true, false, List, [], Some, None, Option}
use Rattle.std.specs.Prelude.{option_map, Result, Ok, Err}
use Rattle.pp_flow.specs.Changes.{entry_of}
use Rattle.pp_flow.specs.declared.entry.Aim.{Aim as SeatAim}
use Rattle.pp_flow.specs.declared.entry.Aim.TheVariants.{Own as OfItself, Hole, Pass}
use Rattle.pp_flow.specs.declared.entry.Entry.{Entry}
use Rattle.pp_flow_law.specs.Tables.{Leaving}
use Rattle.pp_framing.specs.Framing.{rule_of}
use Rattle.pp_framing.specs.declared.body.BodyRule.{BodyRule}
use Rattle.pp_framing.specs.declared.framing.ResponseFault.{ResponseFault}
use Rattle.pp_head.specs.Response.{Response}
use Rattle.pp_heads_law.proofs.Ruled.{wrong}
use Rattle.pp_law.specs.Lists.{Bytes}
use Rattle.pp_law.specs.OwnHeads.{filling_head, is_wrong_head, own_head}
use Rattle.pp_law.specs.Responses.{asks_head, by_aim}
use Rattle.pp_law.specs.Stages.{is_through}
use Rattle.pp_law.specs.State.{State, Aim, Through, Own, Filling, Exchange}
use Rattle.pp_law.specs.ThroughHeads.{through_head}
use Rattle.pp_peers.specs.declared.peers.Peer.{Peer}
use Rattle.pp_seats_law.specs.Exchanges.{ShowsExchange}
use Rattle.pp_seats_law.specs.Fates.{aim_of}
use Rattle.pp_state.specs.Ends.{Parts, parts}
use Rattle.pp_state.specs.Keys.{key_of}
use Rattle.pp_answers.specs.FinalHeads.{AnswersAsk, PassesHead, TakesAim, TakesHead, answer_to, right_rule}
use Rattle.pp_answers.specs.ThroughHeads.{invalidates}
use Rattle.pp_state.specs.declared.state.State.{State as Turn}
use Rattle.pp_states_law.proofs.Charged.{same_entry}
use Rattle.pp_states_law.specs.Steps.{ShowsSteps}
use Rattle.pp_answers_law.specs.Owns.{IsAtHead, IsShown}
use Rattle.pp_answers_law.specs.Takes.{IsTaken, OwnAnswersAreTheLaws, PartAnswersAreTheLaws, PassedAnswersAreTheLaws, Passes, RulesAreTheLaws, law_rule}
use Rattle.pp_answers_law.proofs.Dropped.{there_too}
use Rattle.pp_answers_law.proofs.Elsewhere.{fills_taken}
use Rattle.pp_answers_law.proofs.Filled.{owns_taken}
use Rattle.pp_answers_law.proofs.Keyed.{each_read, keyed, passed_straight}
use Rattle.pp_answers_law.proofs.Places.{passed_heads}
use Rattle.pp_answers_law.proofs.Carried.{numbers_stay}
use Rattle.pp_answers_law.proofs.QuietAnswers.{Any, q_passed}

-- ---- whether it answers

abbrev ruled : Bool → Result BodyRule ResponseFault → Option BodyRule
ruled b r = elim b as (λ t. Option BodyRule) [ true ↦ None | false ↦ elim r as (λ t. Option BodyRule) [ Ok rule ↦ Some rule | Err fault ↦ None ] ]

right_as : (b : Bool) (r : Result BodyRule ResponseFault) → right_rule b r ≡ ruled b r
right_as true (Ok rule) = refl
right_as true (Err fault) = refl
right_as false (Ok rule) = refl
right_as false (Err fault) = refl

pub rules : RulesAreTheLaws
rules number x e head shown =
    ap₂ (λ (b c : Bool). right_rule b (rule_of c head.status head.fields)) (wrong number x e head shown) shown.asks_head ∙ right_as (is_wrong_head e head) (rule_of (asks_head e) head.status head.fields)

-- ---- what it leaves

module _ (number : ℕ → ℕ) (name : Bytes) (l : Leaving) (peers : List Peer) (t : Turn) (s : State) (n : ℕ) (x : Entry) (e : Exchange) (head : Response) (new : Parts) (at : IsAtHead number name l peers t s n x e) (given : new.refused ≡ []) where
  shown : ShowsExchange number x e
  shown = same_entry number name l peers (parts t) s at.shows n x e (there_too number name l peers (parts t) s at.shows n x e at.answered)

  answers : answer_to head (entry_of n t.flow) ≡ option_map (λ rule. (x, rule)) (law_rule e head)
  answers =
      ap (λ (o : Option Entry). answer_to head o) (there_too number name l peers (parts t) s at.shows n x e at.answered).here
      ∙ ap (λ (o : Option BodyRule). option_map (λ rule. (x, rule)) o) (rules number x e head shown)

  pub taken_by : ((rule : BodyRule) → TakesHead n x.exchange x.errand head rule t new → IsShown number t.cache.lives s.next_instance name l peers new (by_aim e head rule s)) → AnswersAsk n head (answer_to head (entry_of n t.flow)) t new → IsTaken number name l peers t s e head new (law_rule e head)
  taken_by each taken = by (law_rule e head) (subst (λ (o : Option (Entry × BodyRule)). AnswersAsk n head o t new) answers taken)
    where
      by : (o : Option BodyRule) → AnswersAsk n head (option_map (λ rule. (x, rule)) o) t new → IsTaken number name l peers t s e head new o
      by None stays = stays
      by (Some rule) it = each rule it

  -- ---- where it is passed

  its_passed : (aim : SeatAim) → aim_of aim ≡ Through → aim ≡ Pass
  its_passed OfItself is = absurd (let both : Own ≡ Through = is in cc both)
  its_passed (Hole v from to) is = absurd (let both : Filling v from to ≡ Through = is in cc both)
  its_passed Pass is = refl

  through_so : e.aim ≡ Through → is_through e ≡ true
  through_so is = ap (λ (aim : Aim). elim aim as (λ u. Bool) [ Through ↦ true | Own ↦ false | Filling v from to ↦ false ]) is

  by_passed : (rule : BodyRule) → e.aim ≡ Through → by_aim e head rule s ≡ through_head e head rule s
  unfolding by_aim
  by_passed rule is = ap (λ (aim : Aim). elim aim as (λ u. State) [ Through ↦ through_head e head rule s | Own ↦ own_head e head rule s | Filling v from to ↦ filling_head e head rule s ]) is

  pub passes_taken : (rule : BodyRule) → Passes s e head new → TakesHead n x.exchange x.errand head rule t new → IsShown number t.cache.lives s.next_instance name l peers new (by_aim e head rule s)
  passes_taken rule it taken = record {
    number = number;
    keeps = numbers_stay number t.cache.lives new.cache.lives s.next_instance (ap (λ (q : Parts). q.cache.lives) taken.noted ∙ (q_passed Any name x.exchange x.errand head rule (parts t) taken.between passes).lives);
    shows =
        subst (λ (u : State). ShowsSteps number name l peers new u) (sym (by_passed rule it.aim))
        (subst (λ (q : Parts). ShowsSteps number name l peers q (through_head e head rule s)) (sym taken.noted)
        (passed_heads number name l peers (parts t) s at.shows n x e head rule taken.between
        (record { answered = at.answered; through = through_so it.aim; stands = at.stands; asks = at.asks; client = it.may.client }) (λ changes. keyed number name l peers (parts t) s at.shows n x e head at.answered at.stands at.asks it.may changes) passes
        (each_read (invalidates x.errand.is_safe head) (key_of x.exchange.number t.flow) x.errand.place.path head (parts t) passes.outdated.between passes.outdated.invalidated
        (passed_straight name x head rule (parts t) taken.between passes (sym (ap (λ (q : Parts). q.is_astray) taken.noted) ∙ it.straight)))));
  }
    where
      passes : PassesHead name x.exchange x.errand head rule (parts t) taken.between
      passes =
          subst (λ (own : List ℕ). PassesHead own x.exchange x.errand head rule (parts t) taken.between) at.own_name
          (subst (λ (aim : SeatAim). TakesAim aim x.exchange x.errand head rule t taken.between) (its_passed x.exchange.aim (shown.aim ∙ it.aim)) taken.taken)

pub own_answers : OwnAnswersAreTheLaws
own_answers number name l peers t s n x e head new at given own taken =
    taken_by number name l peers t s n x e head new at given (λ rule it. owns_taken number name l peers t s n x e head rule new at given own it) taken

pub passed_answers : PassedAnswersAreTheLaws
passed_answers number name l peers t s n x e head new at given passes taken =
    taken_by number name l peers t s n x e head new at given (λ rule it. passes_taken number name l peers t s n x e head new at given rule passes it) taken

pub part_answers : PartAnswersAreTheLaws
part_answers number name l peers t s n x e head new at given fills taken =
    taken_by number name l peers t s n x e head new at given (λ rule it. fills_taken number name l peers t s n x e head rule new at given fills it) taken
