-- The ways out of a wait, and out of a life.
use Rattle.std.proofs.Common.{◌≡◌, ◌≤◌, refl, ap, ℕ, Bool, true, false, not, ◌&&◌, ◌||◌, [], ◌∷◌, ◌++◌, length, Option, Some, None, arith}
use Rattle.std.specs.List.{list_any}
use Rattle.pp_desk.specs.declared.desk.Desk.{Desk}
use Rattle.pp_law.specs.Opening.{is_same_phase}
use Rattle.pp_law.specs.Phases.{is_under_way, may_end, phases}
use Rattle.pp_law.specs.State.{State, Phase}
use Rattle.pp_laws_turn.proofs.Laws.{sound_turns}
use Rattle.pp_laws_unused.proofs.Laws.{openings_are_unused}
use Rattle.pp_obeys.specs.Obeys.{Life}
use Rattle.pp_places_law.proofs.Links.{as_many}
use Rattle.pp_proxy.specs.Awaiting.{ComesTo, HasNoRoom, Standing}
use Rattle.pp_proxy.specs.Moving.{Turning, at_desk}
use Rattle.pp_world.specs.Log.{Log}
use Rattle.pp_world.specs.declared.event.Event.{Event}
use Rattle.pp_world.specs.declared.event.Wants.{Wants}
use Rattle.pp_world.specs.declared.happening.Happening.TheVariants.{Waits}
use Rattle.pp_turn_law.proofs.FirstWait.{listens_opens}
use Rattle.pp_turn_law.specs.Exits.{NoTurnNeedBeMade, TurnsHaveEvents, TurnsMayBeTheLast}
use Rattle.pp_turn_law.specs.Waited.{HasWaitedOn, rested}

-- ---- nobody is turned away

never_away : (life : Life) (budget : ℕ) (log : Log) (x : Standing) (w : Wants) (clients : ℕ) (f : Desk) (number : ℕ → ℕ) (s : State) (y : Turning) → HasWaitedOn life budget log x w clients f number s → HasNoRoom w (at_desk f x.turning) y → ⊥
never_away life budget log x w clients f number s y waited full =
    let peers : length f.peers ≡ length (rested w s).conns = as_many (rested w s) f.peers (rested w s).conns waited.awaits.stands.desk.turn.steps.shows.conns in
    let few : length (rested w s).conns ≤ 64 = (sound_turns (life.terms budget) (rested w s) (log ++ Waits w ∷ []) waited.comes.obeys).bounded.conns in
    absurd (omega (arith, full.away.full, waited.carried.links.few, peers, few))

pub turns_come : TurnsHaveEvents
turns_come life budget log result x y number s turns waited = by turns.event refl turns.comes
  where
    by : (o : Option Event) → turns.event ≡ o → ComesTo turns.wants o (at_desk turns.rested x.turning) y.turning → (event : Event) × (turns.event ≡ Some event)
    by None is away = absurd (never_away life budget log x turns.wants turns.clients turns.rested number s y.turning waited away)
    by (Some event) is came = (event, is)

-- ---- the log may end

ended_over : (under end stopped empty : Bool) → end ≡ true → stopped ≡ false → ((not under || end) && (not stopped || empty)) ≡ true
ended_over true true false empty ends going = refl
ended_over false true false empty ends going = refl
ended_over true false stopped empty ends going = absurd (cc ends)
ended_over false false stopped empty ends going = absurd (cc ends)
ended_over true true true empty ends going = absurd (cc going)
ended_over false true true empty ends going = absurd (cc going)

pub none_over : (under end stopped empty : Bool) → under ≡ false → stopped ≡ false → ((not under || end) && (not stopped || empty)) ≡ true
none_over false end false empty off going = refl
none_over true end stopped empty off going = absurd (cc off)
none_over false end true empty off going = absurd (cc going)

pub turns_last : TurnsMayBeTheLast
turns_last life budget log x s st = ended_over (is_under_way s) (may_end s) s.is_stopped _ st.ended.may st.going

pub none_made : NoTurnNeedBeMade
none_made terms log conf p shelf top s it =
    none_over (is_under_way s) (may_end s) s.is_stopped _ (ap (λ (q : Phase). list_any (λ r. is_same_phase r q) phases) it.stands.opens.at) (openings_are_unused terms s log it.obeys (listens_opens s it.stands.opens.at)).goes
