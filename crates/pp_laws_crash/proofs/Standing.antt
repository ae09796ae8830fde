-- What the tests of a phase tell of it.
use Rattle.std.proofs.Common.{◌≡◌, refl, Bool, true, false, ◌||◌, List, [], ◌∷◌}
use Rattle.std.specs.List.{list_any}
use Rattle.pp_law.specs.Opening.{is_at, is_opening, is_same_phase}
use Rattle.pp_law.specs.Phases.{come, come_to, passed, phases}
use Rattle.pp_law.specs.State.{State, Phase, Before, IsWoken, IsConfigured, IsRooted, IsListed, IsListening, IsStuck, Awaiting, Handling, Evicting, Keeping, Deciding, Following, Connecting, DecidingAgain}
use Rattle.pp_laws_crash.proofs.Frames.{recovers, takes_turns}

pub at_Awaiting : (q : Phase) → is_same_phase Awaiting q ≡ true → q ≡ Awaiting
at_Awaiting Before is = absurd (cc is)
at_Awaiting IsWoken is = absurd (cc is)
at_Awaiting IsConfigured is = absurd (cc is)
at_Awaiting IsRooted is = absurd (cc is)
at_Awaiting IsListed is = absurd (cc is)
at_Awaiting IsListening is = absurd (cc is)
at_Awaiting IsStuck is = absurd (cc is)
at_Awaiting Awaiting is = refl
at_Awaiting Handling is = absurd (cc is)
at_Awaiting Evicting is = absurd (cc is)
at_Awaiting Keeping is = absurd (cc is)
at_Awaiting Deciding is = absurd (cc is)
at_Awaiting Following is = absurd (cc is)
at_Awaiting Connecting is = absurd (cc is)
at_Awaiting DecidingAgain is = absurd (cc is)

pub at_IsListening : (q : Phase) → is_same_phase IsListening q ≡ true → q ≡ IsListening
at_IsListening Before is = absurd (cc is)
at_IsListening IsWoken is = absurd (cc is)
at_IsListening IsConfigured is = absurd (cc is)
at_IsListening IsRooted is = absurd (cc is)
at_IsListening IsListed is = absurd (cc is)
at_IsListening IsListening is = refl
at_IsListening IsStuck is = absurd (cc is)
at_IsListening Awaiting is = absurd (cc is)
at_IsListening Handling is = absurd (cc is)
at_IsListening Evicting is = absurd (cc is)
at_IsListening Keeping is = absurd (cc is)
at_IsListening Deciding is = absurd (cc is)
at_IsListening Following is = absurd (cc is)
at_IsListening Connecting is = absurd (cc is)
at_IsListening DecidingAgain is = absurd (cc is)

pub at_DecidingAgain : (q : Phase) → is_same_phase DecidingAgain q ≡ true → q ≡ DecidingAgain
at_DecidingAgain Before is = absurd (cc is)
at_DecidingAgain IsWoken is = absurd (cc is)
at_DecidingAgain IsConfigured is = absurd (cc is)
at_DecidingAgain IsRooted is = absurd (cc is)
at_DecidingAgain IsListed is = absurd (cc is)
at_DecidingAgain IsListening is = absurd (cc is)
at_DecidingAgain IsStuck is = absurd (cc is)
at_DecidingAgain Awaiting is = absurd (cc is)
at_DecidingAgain Handling is = absurd (cc is)
at_DecidingAgain Evicting is = absurd (cc is)
at_DecidingAgain Keeping is = absurd (cc is)
at_DecidingAgain Deciding is = absurd (cc is)
at_DecidingAgain Following is = absurd (cc is)
at_DecidingAgain Connecting is = absurd (cc is)
at_DecidingAgain DecidingAgain is = refl

pub at_Deciding : (q : Phase) → is_same_phase Deciding q ≡ true → q ≡ Deciding
at_Deciding Before is = absurd (cc is)
at_Deciding IsWoken is = absurd (cc is)
at_Deciding IsConfigured is = absurd (cc is)
at_Deciding IsRooted is = absurd (cc is)
at_Deciding IsListed is = absurd (cc is)
at_Deciding IsListening is = absurd (cc is)
at_Deciding IsStuck is = absurd (cc is)
at_Deciding Awaiting is = absurd (cc is)
at_Deciding Handling is = absurd (cc is)
at_Deciding Evicting is = absurd (cc is)
at_Deciding Keeping is = absurd (cc is)
at_Deciding Deciding is = refl
at_Deciding Following is = absurd (cc is)
at_Deciding Connecting is = absurd (cc is)
at_Deciding DecidingAgain is = absurd (cc is)

pub at_Keeping : (q : Phase) → is_same_phase Keeping q ≡ true → q ≡ Keeping
at_Keeping Before is = absurd (cc is)
at_Keeping IsWoken is = absurd (cc is)
at_Keeping IsConfigured is = absurd (cc is)
at_Keeping IsRooted is = absurd (cc is)
at_Keeping IsListed is = absurd (cc is)
at_Keeping IsListening is = absurd (cc is)
at_Keeping IsStuck is = absurd (cc is)
at_Keeping Awaiting is = absurd (cc is)
at_Keeping Handling is = absurd (cc is)
at_Keeping Evicting is = absurd (cc is)
at_Keeping Keeping is = refl
at_Keeping Deciding is = absurd (cc is)
at_Keeping Following is = absurd (cc is)
at_Keeping Connecting is = absurd (cc is)
at_Keeping DecidingAgain is = absurd (cc is)

pub at_Connecting : (q : Phase) → is_same_phase Connecting q ≡ true → q ≡ Connecting
at_Connecting Before is = absurd (cc is)
at_Connecting IsWoken is = absurd (cc is)
at_Connecting IsConfigured is = absurd (cc is)
at_Connecting IsRooted is = absurd (cc is)
at_Connecting IsListed is = absurd (cc is)
at_Connecting IsListening is = absurd (cc is)
at_Connecting IsStuck is = absurd (cc is)
at_Connecting Awaiting is = absurd (cc is)
at_Connecting Handling is = absurd (cc is)
at_Connecting Evicting is = absurd (cc is)
at_Connecting Keeping is = absurd (cc is)
at_Connecting Deciding is = absurd (cc is)
at_Connecting Following is = absurd (cc is)
at_Connecting Connecting is = refl
at_Connecting DecidingAgain is = absurd (cc is)

pub at_IsListed : (q : Phase) → is_same_phase IsListed q ≡ true → q ≡ IsListed
at_IsListed Before is = absurd (cc is)
at_IsListed IsWoken is = absurd (cc is)
at_IsListed IsConfigured is = absurd (cc is)
at_IsListed IsRooted is = absurd (cc is)
at_IsListed IsListed is = refl
at_IsListed IsListening is = absurd (cc is)
at_IsListed IsStuck is = absurd (cc is)
at_IsListed Awaiting is = absurd (cc is)
at_IsListed Handling is = absurd (cc is)
at_IsListed Evicting is = absurd (cc is)
at_IsListed Keeping is = absurd (cc is)
at_IsListed Deciding is = absurd (cc is)
at_IsListed Following is = absurd (cc is)
at_IsListed Connecting is = absurd (cc is)
at_IsListed DecidingAgain is = absurd (cc is)

pub at_IsWoken : (q : Phase) → is_same_phase IsWoken q ≡ true → q ≡ IsWoken
at_IsWoken Before is = absurd (cc is)
at_IsWoken IsWoken is = refl
at_IsWoken IsConfigured is = absurd (cc is)
at_IsWoken IsRooted is = absurd (cc is)
at_IsWoken IsListed is = absurd (cc is)
at_IsWoken IsListening is = absurd (cc is)
at_IsWoken IsStuck is = absurd (cc is)
at_IsWoken Awaiting is = absurd (cc is)
at_IsWoken Handling is = absurd (cc is)
at_IsWoken Evicting is = absurd (cc is)
at_IsWoken Keeping is = absurd (cc is)
at_IsWoken Deciding is = absurd (cc is)
at_IsWoken Following is = absurd (cc is)
at_IsWoken Connecting is = absurd (cc is)
at_IsWoken DecidingAgain is = absurd (cc is)

pub at_IsConfigured : (q : Phase) → is_same_phase IsConfigured q ≡ true → q ≡ IsConfigured
at_IsConfigured Before is = absurd (cc is)
at_IsConfigured IsWoken is = absurd (cc is)
at_IsConfigured IsConfigured is = refl
at_IsConfigured IsRooted is = absurd (cc is)
at_IsConfigured IsListed is = absurd (cc is)
at_IsConfigured IsListening is = absurd (cc is)
at_IsConfigured IsStuck is = absurd (cc is)
at_IsConfigured Awaiting is = absurd (cc is)
at_IsConfigured Handling is = absurd (cc is)
at_IsConfigured Evicting is = absurd (cc is)
at_IsConfigured Keeping is = absurd (cc is)
at_IsConfigured Deciding is = absurd (cc is)
at_IsConfigured Following is = absurd (cc is)
at_IsConfigured Connecting is = absurd (cc is)
at_IsConfigured DecidingAgain is = absurd (cc is)

pub at_IsRooted : (q : Phase) → is_same_phase IsRooted q ≡ true → q ≡ IsRooted
at_IsRooted Before is = absurd (cc is)
at_IsRooted IsWoken is = absurd (cc is)
at_IsRooted IsConfigured is = absurd (cc is)
at_IsRooted IsRooted is = refl
at_IsRooted IsListed is = absurd (cc is)
at_IsRooted IsListening is = absurd (cc is)
at_IsRooted IsStuck is = absurd (cc is)
at_IsRooted Awaiting is = absurd (cc is)
at_IsRooted Handling is = absurd (cc is)
at_IsRooted Evicting is = absurd (cc is)
at_IsRooted Keeping is = absurd (cc is)
at_IsRooted Deciding is = absurd (cc is)
at_IsRooted Following is = absurd (cc is)
at_IsRooted Connecting is = absurd (cc is)
at_IsRooted DecidingAgain is = absurd (cc is)

pub turns_recover_not : (q : Phase) → takes_turns q ≡ true → recovers q ≡ false
turns_recover_not Before is = absurd (cc is)
turns_recover_not IsWoken is = absurd (cc is)
turns_recover_not IsConfigured is = absurd (cc is)
turns_recover_not IsRooted is = absurd (cc is)
turns_recover_not IsListed is = absurd (cc is)
turns_recover_not IsListening is = absurd (cc is)
turns_recover_not IsStuck is = absurd (cc is)
turns_recover_not Awaiting is = refl
turns_recover_not Handling is = refl
turns_recover_not Evicting is = refl
turns_recover_not Keeping is = refl
turns_recover_not Deciding is = refl
turns_recover_not Following is = refl
turns_recover_not Connecting is = refl
turns_recover_not DecidingAgain is = refl

-- in the opening no phase of a turn is passed
opens_no_phase : (q : Phase) → list_any (λ p. is_same_phase p q) (IsWoken ∷ IsConfigured ∷ IsRooted ∷ IsListed ∷ IsListening ∷ IsStuck ∷ []) ≡ true → list_any (λ p. is_same_phase p q) phases ≡ false
opens_no_phase Before is = absurd (cc is)
opens_no_phase IsWoken is = refl
opens_no_phase IsConfigured is = refl
opens_no_phase IsRooted is = refl
opens_no_phase IsListed is = refl
opens_no_phase IsListening is = refl
opens_no_phase IsStuck is = refl
opens_no_phase Awaiting is = absurd (cc is)
opens_no_phase Handling is = absurd (cc is)
opens_no_phase Evicting is = absurd (cc is)
opens_no_phase Keeping is = absurd (cc is)
opens_no_phase Deciding is = absurd (cc is)
opens_no_phase Following is = absurd (cc is)
opens_no_phase Connecting is = absurd (cc is)
opens_no_phase DecidingAgain is = absurd (cc is)

pub recovers_opens : (q : Phase) → recovers q ≡ true → list_any (λ p. is_same_phase p q) (IsWoken ∷ IsConfigured ∷ IsRooted ∷ IsListed ∷ IsListening ∷ IsStuck ∷ []) ≡ true
recovers_opens Before is = absurd (cc is)
recovers_opens IsWoken is = refl
recovers_opens IsConfigured is = refl
recovers_opens IsRooted is = refl
recovers_opens IsListed is = refl
recovers_opens IsListening is = absurd (cc is)
recovers_opens IsStuck is = refl
recovers_opens Awaiting is = absurd (cc is)
recovers_opens Handling is = absurd (cc is)
recovers_opens Evicting is = absurd (cc is)
recovers_opens Keeping is = absurd (cc is)
recovers_opens Deciding is = absurd (cc is)
recovers_opens Following is = absurd (cc is)
recovers_opens Connecting is = absurd (cc is)
recovers_opens DecidingAgain is = absurd (cc is)

or_none : (a b : Bool) → (a || b) ≡ false → (a ≡ false) × (b ≡ false)
or_none true b is = absurd (cc is)
or_none false b is = (refl, is)

still_by : (stops : State → Bool) (ps : List Phase) (s : State) (b : Bool) → b ≡ false → come stops ps s ≡ s → come stops ps (elim b as (λ c. State) [ true ↦ passed stops s | false ↦ s ]) ≡ s
still_by stops ps s true is rest = absurd (cc is)
still_by stops ps s false is rest = rest

comes_not : (stops : State → Bool) (ps : List Phase) (s : State) → list_any (λ p. is_at p s) ps ≡ false → come stops ps s ≡ s
unfolding come
comes_not stops [] s none = refl
comes_not stops (p ∷ ps) s none = let parts = or_none (is_at p s) _ none in still_by stops ps s (is_at p s) parts.0 (comes_not stops ps s parts.1)

pub opening_still : (phase : Phase) (s : State) → is_opening s ≡ true → come_to phase s ≡ s
unfolding come_to
opening_still phase s is = comes_not (is_at phase) phases s (opens_no_phase s.phase is)
