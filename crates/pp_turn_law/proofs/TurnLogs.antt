-- What the log gets over a turn: its wait, its event, and no word of the opening of a life; so the settings of the life stay.
use Rattle.std.proofs.Common.{◌≡◌, ◌<◌, refl, sym, subst, ap, ◌∙◌, ℕ, ◌+◌, ◌&&◌, not, true, false, Bool, length, List, [], ◌∷◌, ◌++◌, append_assoc, Some, arith}
use Rattle.std.proofs.lemmas.List.{length-append}
use Rattle.std.specs.List.{list_all}
use Rattle.pp_law.specs.Phases.{ending}
use Rattle.pp_law.specs.State.{State, Term}
use Rattle.pp_law.specs.Turn.{rest_with}
use Rattle.pp_laws.proofs.Tests.{first_holds, second_holds}
use Rattle.pp_laws_quiet.specs.Quiet.{takes_turns}
use Rattle.pp_laws_sides.specs.Counts.{IsShortLog}
use Rattle.pp_obeys.proofs.Frames.{Frame}
use Rattle.pp_obeys.proofs.StaysTurns.{ending-frame}
use Rattle.pp_obeys.specs.Obeys.{Obeys}
use Rattle.pp_proxy.specs.Awaiting.{HasCome}
use Rattle.pp_proxy.specs.Moving.{Turning}
use Rattle.pp_shelf.specs.Steady.{IsSteady, is_steady}
use Rattle.pp_world.specs.Log.{Log}
use Rattle.pp_world.specs.Wire.{event_happening, wait_happenings}
use Rattle.pp_world.specs.declared.event.Event.{Event}
use Rattle.pp_world.specs.declared.event.Event.TheVariants.{Accepted, Broken, Reached, Readable, Stop, Tick, Writable}
use Rattle.pp_world.specs.declared.event.Wants.{Wants}
use Rattle.pp_world.specs.declared.happening.Happening.{Happening}
use Rattle.pp_world.specs.declared.happening.Happening.TheVariants.{Configured, Listed, Listens, Rooted, Waits, Woke}
use Rattle.pp_turn_law.proofs.SettingsOn.{settings_stay}
use Rattle.pp_turn_law.specs.Sized.{AreOfTurns, is_of_opening}
use Rattle.pp_turn_law.specs.Waited.{rested}

-- ---- no word of the opening

steady_of_turns : (h : Happening) → is_steady h ≡ true → not (is_of_opening h) ≡ true
steady_of_turns (Woke image) is = absurd (let both : false ≡ true = is in cc)
steady_of_turns (Configured file text) is = absurd (let both : false ≡ true = is in cc)
steady_of_turns (Rooted folder) is = absurd (let both : false ≡ true = is in cc)
steady_of_turns (Listed ok) is = absurd (let both : false ≡ true = is in cc)
steady_of_turns (Listens port ok) is = absurd (let both : false ≡ true = is in cc)
steady_of_turns h is = refl

steady_ones : (hs : Log) → IsSteady hs → AreOfTurns hs
steady_ones [] all = refl
steady_ones (h ∷ hs) all =
    ap (λ (b : Bool). b && list_all (λ g. not (is_of_opening g)) hs) (steady_of_turns h (first_holds (is_steady h) (list_all is_steady hs) all)) ∙ steady_ones hs (second_holds (is_steady h) (list_all is_steady hs) all)

event_of_turns : (event : Event) → not (is_of_opening (event_happening event)) ≡ true
event_of_turns Stop = refl
event_of_turns (Tick seconds) = refl
event_of_turns (Accepted c) = refl
event_of_turns (Readable id) = refl
event_of_turns (Writable id) = refl
event_of_turns (Reached k) = refl
event_of_turns (Broken k) = refl

-- ---- the log behind a wait

pub record LoggedBehind (log : Log) (w : Wants) (after : Log) : Type 0 where
  pub added : Log
  pub is : after ≡ (log ++ Waits w ∷ []) ++ added
  pub turns : AreOfTurns added

pub turn_logs : (w : Wants) (event : Event) (x y : Turning) (log after : Log) → x.log ≡ Some log → HasCome w event x y → y.log ≡ Some after → LoggedBehind log w after
turn_logs w event x y log after log_is came told =
    let late = came.takes.steady.was after told in
    let early = came.told.was late.0 late.1 in
    let same : early.0 ≡ log = let both : Some early.0 ≡ Some log = sym early.1 ∙ log_is in cc both in
    let whole : after ≡ (log ++ wait_happenings w event) ++ late.2.0 = late.2.1 ∙ ap (λ (l : Log). l ++ late.2.0) (early.2 ∙ ap (λ (l : Log). l ++ wait_happenings w event) same) in
    record {
      added = event_happening event ∷ late.2.0;
      is = whole ∙ append_assoc log (wait_happenings w event) late.2.0 ∙ sym (append_assoc log (Waits w ∷ []) (event_happening event ∷ late.2.0));
      turns = ap (λ (b : Bool). b && list_all (λ g. not (is_of_opening g)) late.2.0) (event_of_turns event) ∙ steady_ones late.2.0 late.2.2;
    }

-- the front of a short log is short
pub front_shorter : (a b c most : ℕ) → c ≡ a + b → c < most → a < most
front_shorter a b c most is less = omega (arith, is, less)

pub short_front : (front added after : Log) → after ≡ front ++ added → IsShortLog after → IsShortLog front
short_front front added after is short = front_shorter (length front) (length added) (length after) _ (ap (λ (l : Log). length l) is ∙ length-append front added) short

-- ---- the settings

rest_set : (w : Wants) (s : State) → (rest_with w s).settings ≡ s.settings
unfolding rest_with
rest_set w s = refl

rest_turns : (w : Wants) (s : State) → takes_turns (rest_with w s) ≡ true
unfolding rest_with
rest_turns w s = refl

-- from a wait on, as they were before it
pub set_behind : (terms : List Term) (log hs after : Log) (w : Wants) (s t : State) → Obeys terms (rested w s) (log ++ Waits w ∷ []) → Obeys terms t after → after ≡ (log ++ Waits w ∷ []) ++ hs → AreOfTurns hs → t.settings ≡ s.settings
set_behind terms log hs after w s t before behind is are =
    settings_stay terms (log ++ Waits w ∷ []) hs (rested w s) t before (subst (λ (l : Log). Obeys terms t l) is behind) (rest_turns w (ending s)) are ∙ rest_set w (ending s) ∙ ap (λ (g : Frame). g.settings) (ending-frame false s)
