-- Where a turn ends, what goes alone and is not answered yet is somebody's, also as replies begin, and as the next event is awaited.
use Rattle.std.proofs.Common.{◌≡◌, refl, Bool, true, false, not, ◌&&◌, ◌||◌, List, [], ◌∷◌, is_some, Option, Some, None, inr, sym, subst, ap, ◌∙◌}
use Rattle.std.specs.List.{list_any}
use Rattle.pp_world.specs.Log.{Log}
use Rattle.pp_world.specs.declared.event.Wants.{Wants}
use Rattle.pp_world.specs.declared.happening.Happening.TheVariants.{Waits}
use Rattle.pp_law.specs.Opening.{is_at, is_same_phase}
use Rattle.pp_law.specs.Permits.{IsPermitted}
use Rattle.pp_law.specs.Phases.{come, come_to, ending, is_done, may_end, passed, phases}
use Rattle.pp_law.specs.Replies.{begin_replies}
use Rattle.pp_law.specs.Stages.{bound_in, is_pending}
use Rattle.pp_law.specs.State.{State, Body, Bound, Pending as IsPending, Joining, Relaying, Dropping, Term, Phase, IsListening, Awaiting, DecidingAgain, Exchange}
use Rattle.pp_law.specs.Turn.{rest_with}
use Rattle.pp_law.specs.Unseen.{rested_exchange, wanted_to}
use Rattle.pp_laws.specs.Runs.{IsIn}
use Rattle.pp_laws.proofs.Lists.{From, in_map}
use Rattle.pp_laws.proofs.Tests.{first_holds, second_holds}
use Rattle.pp_laws_bounds.proofs.Stops.{come_to-stopped}
use Rattle.pp_laws_served.specs.Filling.{IsLate}
use Rattle.pp_laws_turn.proofs.View.{Holds, facts_of, holds}
use Rattle.pp_laws_unused.proofs.Laws.{openings_are_unused}
use Rattle.pp_laws_unused.proofs.Turning.{opens}
use Rattle.pp_obeys.proofs.Settled.{at_phase, come_at}
use Rattle.pp_laws_left.proofs.BodiedStands.{late_off}
use Rattle.pp_laws_left.proofs.SpokenLaws.{waits_by}
use Rattle.pp_comes_law.specs.Lone.{is_lone}
use Rattle.pp_comes_law.proofs.LoneBegins.{begun-whose}
use Rattle.pp_comes_law.proofs.LoneLate.{Whose}
use Rattle.pp_comes_law.proofs.LoneStands.{Kept, Stood, come_to_stood}
use Rattle.pp_comes_law.proofs.Lones.{pending_of}

-- ---- where a turn ends

none_comes : (stops : State → Bool) (ps : List Phase) (s : State) → list_any (λ p. is_at p s) ps ≡ false → come stops ps s ≡ s
unfolding come
none_comes stops [] s none = refl
none_comes stops (p ∷ ps) s none = ap (λ t. come stops ps (elim t as (λ x. State) [ true ↦ passed stops s | false ↦ s ])) (one_off (is_at p s) (list_any (λ q. is_at q s) ps) none) ∙ none_comes stops ps s (other_off (is_at p s) (list_any (λ q. is_at q s) ps) none)
  where
    one_off : (a b : Bool) → (a || b) ≡ false → a ≡ false
    one_off true b is = absurd (cc is)
    one_off false b is = refl

    other_off : (a b : Bool) → (a || b) ≡ false → b ≡ false
    other_off true b is = absurd (cc is)
    other_off false b is = is

listening_comes : (s : State) → s.phase ≡ IsListening → come_to DecidingAgain s ≡ s
unfolding come_to
listening_comes s is = none_comes (is_at DecidingAgain) phases s (ap (λ q. list_any (λ p. is_same_phase p q) phases) is)

off_true : (a : Bool) → not a ≡ true → a ≡ false
off_true true is = absurd (cc is)
off_true false is = refl

pub ends_whose : (terms : List Term) (log : Log) (s : State) → (is_at IsListening s || (not s.is_stopped && may_end s)) ≡ true → Stood terms log s → Holds Whose (come_to DecidingAgain s)
ends_whose terms log s may h = by (is_at IsListening s) refl may
  where
    t : Stood terms log (come_to DecidingAgain s)
    t = come_to_stood terms log DecidingAgain s h

    bare : is_at IsListening s ≡ true → s.exchanges ≡ []
    bare at = (openings_are_unused terms s log h.obeys (ap opens (at_phase IsListening s at))).exchanges

    by : (b : Bool) → is_at IsListening s ≡ b → (b || (not s.is_stopped && may_end s)) ≡ true → Holds Whose (come_to DecidingAgain s)
    by true at is = subst (λ (u : State). Holds Whose u) (sym (listening_comes s (at_phase IsListening s at))) (holds (λ e i lone. absurd (subst (λ (es : List Exchange). IsIn e es) (bare at) i)))
    by false at is = t.kept.late (come_to-stopped DecidingAgain s ∙ off_true s.is_stopped (first_holds (not s.is_stopped) (may_end s) is)) (inr (come_at DecidingAgain is_done s (second_holds (not s.is_stopped) (may_end s) is)))

rested_whose : (w : Wants) (s : State) → Holds Whose s → Holds Whose (rest_with w s)
unfolding rest_with
rested_whose w s h = holds (λ d i lone. by d lone (in_map (rested_exchange s) d s.exchanges i))
  where
    same : (e : Exchange) → is_lone (rested_exchange s e) ≡ true → rested_exchange s e ≡ e
    same e lone = at e.body refl
      where
        at : (body : Body) → e.body ≡ body → rested_exchange s e ≡ e
        at IsPending is = ap (λ (o : Option Bound). elim o as (λ c. Exchange) [ None ↦ e | Some b ↦ record e { body = Joining (wanted_to s b) } ]) (ap (λ (b : Body). bound_in b) is)
        at Relaying is = ap (λ (o : Option Bound). elim o as (λ c. Exchange) [ None ↦ e | Some b ↦ record e { body = Joining (wanted_to s b) } ]) (ap (λ (b : Body). bound_in b) is)
        at Dropping is = ap (λ (o : Option Bound). elim o as (λ c. Exchange) [ None ↦ e | Some b ↦ record e { body = Joining (wanted_to s b) } ]) (ap (λ (b : Body). bound_in b) is)
        at (Joining b) is =
            let set : rested_exchange s e ≡ record e { body = Joining (wanted_to s b) } = ap (λ (o : Option Bound). elim o as (λ c. Exchange) [ None ↦ e | Some b ↦ record e { body = Joining (wanted_to s b) } ]) (ap (λ (b : Body). bound_in b) is) in
            let both : false ≡ true = sym (ap (λ (x : Exchange). is_pending x.body) set) ∙ pending_of (rested_exchange s e) lone in
            absurd (cc both)

    by : (d : Exchange) → is_lone d ≡ true → From (rested_exchange s) s.exchanges d → is_some d.asker ≡ true
    by d lone r =
        let lone_ : is_lone (rested_exchange s r.was) ≡ true = ap is_lone (sym r.is) ∙ lone in
        let as_was : d ≡ r.was = r.is ∙ same r.was lone_ in
        ap (λ (x : Exchange). is_some x.asker) as_was ∙ facts_of h r.was r.there (ap is_lone (sym as_was) ∙ lone)

rested_late : (w : Wants) (s : State) → IsLate (rest_with w s).phase → ⊥
unfolding rest_with
rested_late w s late = late_off Awaiting refl late

pub waits_kept : (terms : List Term) (log : Log) (s : State) (w : Wants) → IsPermitted s (Waits w) → Stood terms log s → Kept (rest_with w (ending s))
unfolding ending
waits_kept terms log s w is h = record {
  event = λ at. rested_whose w _ (begun-whose terms (come_to DecidingAgain s) log t.obeys (ends_whose terms log s (waits_by s w is) h));
  late = λ runs late. absurd (rested_late w (begin_replies (come_to DecidingAgain s)) late);
}
  where
    t : Stood terms log (come_to DecidingAgain s)
    t = come_to_stood terms log DecidingAgain s h
