-- The head of a response to the ask of a follower, and that of one to a Fetch or Validate with its body, as the law has them.
use Rattle.std.proofs.Common.{◌≡◌, refl, sym, subst, ap, ◌∙◌, ℕ, Bool, true, false, ◌==◌, List, [], Some, None, Option}
use Rattle.pp_flow.specs.declared.entry.Aim.{Aim as SeatAim}
use Rattle.pp_flow.specs.declared.entry.Aim.TheVariants.{Own as OfItself, Hole, Pass}
use Rattle.pp_flow.specs.declared.entry.Entry.{Entry}
use Rattle.pp_flow_law.specs.Tables.{Leaving}
use Rattle.pp_framing.specs.declared.body.BodyRule.{BodyRule}
use Rattle.pp_head.specs.Response.{Response}
use Rattle.pp_heads_law.proofs.Ruled.{versions}
use Rattle.pp_law.specs.Lists.{Bytes}
use Rattle.pp_law.specs.OwnHeads.{filling_head, not_modified as law_not_modified, other_part as law_other_part, own_head, part_head, settle, version_in as law_version_in}
use Rattle.pp_law.specs.Responses.{by_aim}
use Rattle.pp_law.specs.State.{State, Aim, Through, Own, Filling, Exchange}
use Rattle.pp_law.specs.ThroughHeads.{through_head}
use Rattle.pp_peers.specs.declared.peers.Peer.{Peer}
use Rattle.pp_seats_law.specs.Exchanges.{ShowsExchange}
use Rattle.pp_seats_law.specs.Fates.{aim_of}
use Rattle.pp_state.specs.Ends.{Parts, parts}
use Rattle.pp_answers.specs.FinalHeads.{TakesAim, TakesPart, noted_body, other_part, part_without_version, version_in}
use Rattle.pp_answers.specs.OwnHeads.{is_private_part}
use Rattle.pp_answers.specs.Rows.{not_modified}
use Rattle.pp_state.specs.declared.state.State.{State as Turn}
use Rattle.pp_states_law.proofs.Charged.{same_entry}
use Rattle.pp_states_law.specs.Steps.{ShowsSteps}
use Rattle.pp_valid.specs.declared.version.Version.{Version}
use Rattle.pp_answers_law.specs.Fills.{OwnsAreTakenAsTheLaws, PartHeadsAreTheLaws}
use Rattle.pp_answers_law.specs.Owns.{IsAtHead, IsShown}
use Rattle.pp_answers_law.proofs.Dropped.{there_too}
use Rattle.pp_answers_law.proofs.Others.{parts as parts_shown}
use Rattle.pp_answers_law.proofs.Owned.{own, settled}
use Rattle.pp_answers_law.proofs.Renewed.{not_modifieds}
use Rattle.pp_answers_law.proofs.Carried.{numbers_stay}
use Rattle.pp_answers_law.proofs.QuietAnswers.{Any, q_part}

module _ (number : ℕ → ℕ) (name : Bytes) (l : Leaving) (peers : List Peer) (t : Turn) (s : State) (n : ℕ) (x : Entry) (e : Exchange) (head : Response) (rule : BodyRule) (new : Parts) (at : IsAtHead number name l peers t s n x e) (given : new.refused ≡ []) where
  shown : ShowsExchange number x e
  shown = same_entry number name l peers (parts t) s at.shows n x e (there_too number name l peers (parts t) s at.shows n x e at.answered)

  without_by : (b : Bool) → new ≡ part_without_version b x.exchange x.errand head rule t → IsShown number t.cache.lives s.next_instance name l peers (noted_body n new) (elim b as (λ u. State) [ true ↦ law_not_modified e head s | false ↦ law_other_part e head rule s ])
  without_by true becomes = record {
    number = number;
    keeps = numbers_stay number t.cache.lives new.cache.lives s.next_instance (ap (λ (q : Parts). q.cache.lives) becomes ∙ (q_part Any x.exchange x.errand head rule t (λ one there. tt) true).lives);
    shows =
        subst (λ (q : Parts). ShowsSteps number name l peers (noted_body n q) (law_not_modified e head s)) (sym (becomes ∙ ap (λ (clock : ℕ). not_modified x.exchange x.errand head clock (parts t)) at.clock))
        (not_modifieds number name l peers (parts t) s at.shows n x e head at.answered at.stands);
  }
  without_by false becomes = record {
    number = number;
    keeps = numbers_stay number t.cache.lives new.cache.lives s.next_instance (ap (λ (q : Parts). q.cache.lives) becomes ∙ (q_part Any x.exchange x.errand head rule t (λ one there. tt) false).lives);
    shows =
        subst (λ (q : Parts). ShowsSteps number name l peers (noted_body n q) (law_other_part e head rule s)) (sym (becomes ∙ ap (λ (own_name : List ℕ). other_part (is_private_part head) own_name x.exchange x.errand head rule (parts t)) at.own_name))
        (parts_shown number name l peers (parts t) s at.shows n x e head rule at.answered at.stands at.asks);
  }

  abbrev part_by : Option Version → State
  part_by o = elim o as (λ u. State) [ Some v ↦ settle e head v s | None ↦ elim (head.status == 304) as (λ u. State) [ true ↦ law_not_modified e head s | false ↦ law_other_part e head rule s ] ]

  takes : (o : Option Version) → TakesPart x.exchange x.errand head rule o t new → IsShown number t.cache.lives s.next_instance name l peers (noted_body n new) (part_by o)
  takes None becomes = without_by (head.status == 304) becomes
  takes (Some v) row = settled number name l peers t s n x e head rule new at given v row

  part_is : part_head e head rule s ≡ part_by (law_version_in e head)
  unfolding part_head
  part_is = refl

  pub part : TakesPart x.exchange x.errand head rule (version_in x.errand head) t new → IsShown number t.cache.lives s.next_instance name l peers (noted_body n new) (part_head e head rule s)
  part taken =
      subst (λ (u : State). IsShown number t.cache.lives s.next_instance name l peers (noted_body n new) u) (sym part_is)
      (takes (law_version_in e head) (subst (λ (o : Option Version). TakesPart x.exchange x.errand head rule o t new) (versions number x e head shown) taken))

pub part_heads : PartHeadsAreTheLaws
part_heads number name l peers t s n x e head rule new at given taken = part number name l peers t s n x e head rule new at given taken

-- ---- with what becomes of the body

its_own : (aim : SeatAim) → aim_of aim ≡ Own → aim ≡ OfItself
its_own OfItself is = refl
its_own (Hole v from to) is = absurd (let both : Filling v from to ≡ Own = is in cc both)
its_own Pass is = absurd (let both : Through ≡ Own = is in cc both)

by_own : (e : Exchange) (head : Response) (rule : BodyRule) (s : State) → e.aim ≡ Own → by_aim e head rule s ≡ own_head e head rule s
unfolding by_aim
by_own e head rule s is = ap (λ (aim : Aim). elim aim as (λ u. State) [ Through ↦ through_head e head rule s | Own ↦ own_head e head rule s | Filling v from to ↦ filling_head e head rule s ]) is

pub owns_taken : OwnsAreTakenAsTheLaws
owns_taken number name l peers t s n x e head rule new at given aims taken =
    subst (λ (u : State). IsShown number t.cache.lives s.next_instance name l peers new u) (sym (by_own e head rule s aims))
    (subst (λ (q : Parts). IsShown number t.cache.lives s.next_instance name l peers q (own_head e head rule s)) (sym taken.noted)
    (own number name l peers t s n x e head rule taken.between at (sym (ap (λ (q : Parts). q.refused) taken.noted) ∙ given)
    (subst (λ (aim : SeatAim). TakesAim aim x.exchange x.errand head rule t taken.between) (its_own x.exchange.aim (shown.aim ∙ aims)) taken.taken)))
  where
    shown : ShowsExchange number x e
    shown = same_entry number name l peers (parts t) s at.shows n x e (there_too number name l peers (parts t) s at.shows n x e at.answered)
