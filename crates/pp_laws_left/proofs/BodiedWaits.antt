-- Where a turn ends, each exchange that has more of a body to ask is somebody's, also as replies begin, and as the next event is awaited.
use Rattle.std.proofs.Common.{◌≡◌, refl, ℕ, ◌==◌, Bool, true, false, not, ◌&&◌, ◌||◌, List, [], ◌∷◌, ◌++◌, is_some, Option, Some, None, inr, sym, subst, ap, ◌∙◌}
use Rattle.std.specs.List.{list_any}
use Rattle.pp_world.specs.Log.{Log}
use Rattle.pp_world.specs.declared.event.Wants.{Wants}
use Rattle.pp_world.specs.declared.happening.Happening.TheVariants.{Waits}
use Rattle.pp_law.specs.Opening.{is_at, is_same_phase}
use Rattle.pp_law.specs.Permits.{IsPermitted}
use Rattle.pp_law.specs.Phases.{come, come_to, ending, is_done, may_end, passed, phases}
use Rattle.pp_law.specs.Replies.{begin_replies}
use Rattle.pp_law.specs.Stages.{bound_of}
use Rattle.pp_law.specs.State.{State, Bound, Joining, Term, Phase, IsListening, Awaiting, DecidingAgain, Exchange}
use Rattle.pp_law.specs.Turn.{rest_with}
use Rattle.pp_law.specs.Unseen.{rested_exchange, wanted_to}
use Rattle.pp_laws.specs.Runs.{IsIn}
use Rattle.pp_laws.proofs.Lists.{From, in_map}
use Rattle.pp_laws.proofs.Tests.{first_holds, second_holds}
use Rattle.pp_laws_bounds.proofs.Stops.{come_to-stopped}
use Rattle.pp_laws_coming.proofs.Laws.{asks_told}
use Rattle.pp_laws_served.specs.Filling.{IsLate}
use Rattle.pp_laws_turn.proofs.View.{Holds, facts_of, holds}
use Rattle.pp_laws_unused.proofs.Laws.{openings_are_unused}
use Rattle.pp_laws_unused.proofs.Turning.{opens}
use Rattle.pp_obeys.specs.Obeys.{Obeys}
use Rattle.pp_obeys.proofs.Settled.{at_phase, come_at}
use Rattle.pp_laws_left.specs.Bodies.{AreBodiesOwned}
use Rattle.pp_laws_left.proofs.BodiesBegins.{beginnings_keep_bodies}
use Rattle.pp_laws_left.proofs.BodiesPassed.{bodies_are_passed, fills_none}
use Rattle.pp_laws_left.proofs.BodiedFits.{begin_replies-fit, rest_with-fit}
use Rattle.pp_laws_left.proofs.BodiedLate.{Whose}
use Rattle.pp_laws_left.proofs.BodiedStands.{Bodied, late_off, Stood, come_to_stood}
use Rattle.pp_laws_left.proofs.SpokenLaws.{waits_by}

-- ---- in each state, with a place or without

pub whose_of : (terms : List Term) (s : State) (log : Log) → Obeys terms s log → AreBodiesOwned s → Holds Whose s
whose_of terms s log obeys owned = holds (λ e i left. by e i left e.place e.asker refl refl)
  where
    by : (e : Exchange) → IsIn e s.exchanges → (e.body_left == 0) ≡ false → (p o : Option ℕ) → e.place ≡ p → e.asker ≡ o → is_some e.asker ≡ true
    by e i left (Some k) o at is = owned e i (ap (λ (y : Option ℕ). is_some y) at) left
    by e i left None (Some m) at is = ap (λ (y : Option ℕ). is_some y) is
    by e i left None None at is =
        let w = (asks_told terms s log obeys).placeless e i at is in
        let both : Some w.0 ≡ None = sym w.1 ∙ fills_none e.aim (bodies_are_passed terms s log obeys e i left) in
        absurd (cc both)

pub owned_of : (s : State) → Holds Whose s → AreBodiesOwned s
owned_of s h e i placed left = facts_of h e i left

-- ---- where a turn ends

none_comes : (stops : State → Bool) (ps : List Phase) (s : State) → list_any (λ p. is_at p s) ps ≡ false → come stops ps s ≡ s
unfolding come
none_comes stops [] s none = refl
none_comes stops (p ∷ ps) s none = ap (λ t. come stops ps (elim t as (λ x. State) [ true ↦ passed stops s | false ↦ s ])) (one_off (is_at p s) (list_any (λ q. is_at q s) ps) none) ∙ none_comes stops ps s (other_off (is_at p s) (list_any (λ q. is_at q s) ps) none)
  where
    one_off : (a b : Bool) → (a || b) ≡ false → a ≡ false
    one_off true b is = absurd (cc is)
    one_off false b is = refl

    other_off : (a b : Bool) → (a || b) ≡ false → b ≡ false
    other_off true b is = absurd (cc is)
    other_off false b is = is

listening_comes : (s : State) → s.phase ≡ IsListening → come_to DecidingAgain s ≡ s
unfolding come_to
listening_comes s is = none_comes (is_at DecidingAgain) phases s (ap (λ q. list_any (λ p. is_same_phase p q) phases) is)

off_true : (a : Bool) → not a ≡ true → a ≡ false
off_true true is = absurd (cc is)
off_true false is = refl

pub ends_whose : (terms : List Term) (log : Log) (s : State) → (is_at IsListening s || (not s.is_stopped && may_end s)) ≡ true → Stood terms log s → Holds Whose (come_to DecidingAgain s)
ends_whose terms log s may h = by (is_at IsListening s) refl may
  where
    t : Stood terms log (come_to DecidingAgain s)
    t = come_to_stood terms log DecidingAgain s h

    bare : is_at IsListening s ≡ true → s.exchanges ≡ []
    bare at = (openings_are_unused terms s log h.obeys (ap opens (at_phase IsListening s at))).exchanges

    by : (b : Bool) → is_at IsListening s ≡ b → (b || (not s.is_stopped && may_end s)) ≡ true → Holds Whose (come_to DecidingAgain s)
    by true at is = subst (λ (u : State). Holds Whose u) (sym (listening_comes s (at_phase IsListening s at))) (holds (λ e i left. absurd (subst (λ (es : List Exchange). IsIn e es) (bare at) i)))
    by false at is = t.bodied.late (come_to-stopped DecidingAgain s ∙ off_true s.is_stopped (first_holds (not s.is_stopped) (may_end s) is)) (inr (come_at DecidingAgain is_done s (second_holds (not s.is_stopped) (may_end s) is)))

rested_owned : (w : Wants) (s : State) → AreBodiesOwned s → AreBodiesOwned (rest_with w s)
unfolding rest_with
rested_owned w s h d i placed left = by (in_map (rested_exchange s) d s.exchanges i)
  where
    asker : (e : Exchange) → ((rested_exchange s e).asker ≡ e.asker) × ((rested_exchange s e).place ≡ e.place) × ((rested_exchange s e).body_left ≡ e.body_left)
    asker e = at (bound_of e)
      where
        at : (o : Option Bound) → let x : Exchange = elim o as (λ c. Exchange) [ None ↦ e | Some b ↦ record e { body = Joining (wanted_to s b) } ] in (x.asker ≡ e.asker) × (x.place ≡ e.place) × (x.body_left ≡ e.body_left)
        at None = (refl, refl, refl)
        at (Some b) = (refl, refl, refl)

    by : From (rested_exchange s) s.exchanges d → is_some d.asker ≡ true
    by r =
        let w = asker r.was in
        ap (λ (x : Exchange). is_some x.asker) r.is ∙ ap (λ (o : Option ℕ). is_some o) w.0
        ∙ h r.was r.there (ap (λ (o : Option ℕ). is_some o) (sym (ap (λ (x : Exchange). x.place) r.is ∙ w.1)) ∙ placed) (ap (λ n. n == 0) (sym (ap (λ (x : Exchange). x.body_left) r.is ∙ w.2)) ∙ left)

rested_late : (w : Wants) (s : State) → IsLate (rest_with w s).phase → ⊥
unfolding rest_with
rested_late w s late = late_off Awaiting refl late

pub waits_bodied : (terms : List Term) (log : Log) (s : State) (w : Wants) → IsPermitted s (Waits w) → Stood terms log s → Obeys terms (rest_with w (ending s)) (log ++ Waits w ∷ []) → Bodied (rest_with w (ending s))
unfolding ending
waits_bodied terms log s w is h behind_ = record {
  fit = rest_with-fit w _ (begin_replies-fit _ t.bodied.fit);
  event = λ at. whose_of terms _ (log ++ Waits w ∷ []) behind_ (rested_owned w _ (beginnings_keep_bodies terms (come_to DecidingAgain s) log t.obeys (owned_of _ (ends_whose terms log s (waits_by s w is) h))));
  late = λ runs late. absurd (rested_late w (begin_replies (come_to DecidingAgain s)) late);
}
  where
    t : Stood terms log (come_to DecidingAgain s)
    t = come_to_stood terms log DecidingAgain s h
