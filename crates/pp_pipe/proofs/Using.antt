-- How many bytes each step uses.
use Rattle.std.proofs.Common.{ℕ, Bool, List, [], ◌∷◌, ◌++◌, length, Option, Some, None, sym, subst}
use Rattle.pp_pipe.specs.Feeding.{IsFed, IsFrontTold, IsTold, IsUsed}
use Rattle.pp_pipe.specs.Front.{Front, Final, Unfinished, NoResponse, front_of}
use Rattle.pp_pipe.specs.Reading.{Reading, Before, Within, Closed, Broken}
use Rattle.pp_pipe.specs.declared.step.Step.{Step}
use Rattle.pp_pipe.specs.declared.step.Step.TheVariants.{Head, Body, End, Bad, Idle}

idle : (n used : ℕ) (step : Step) (left is : Reading) → IsTold Idle n is used step left → IsUsed step n used
idle n used step left is told = subst (λ (s : Step). IsUsed s n used) (sym told.tells) told.uses

bad : (n used : ℕ) (step : Step) (left is : Reading) → IsTold Bad n is used step left → IsUsed step n used
bad n used step left is told = subst (λ (s : Step). IsUsed s n used) (sym told.tells) told.uses

front : (f : Front) (bytes : List ℕ) (used : ℕ) (step : Step) (left : Reading) → IsFrontTold f bytes used step left → IsUsed step (length bytes) used
front (Final response rule rest) bytes used step left told = subst (λ (s : Step). IsUsed s (length bytes) used) (sym told.tells) told.some
front (Unfinished text) bytes used step left told = idle (length bytes) used step left (Before text) told
front NoResponse bytes used step left told = bad (length bytes) used step left Broken told

pub uses : (awaited : Option Bool) (reading : Reading) (bytes : List ℕ) (used : ℕ) (step : Step) (left : Reading) → IsFed awaited reading bytes used step left → IsUsed step (length bytes) used
uses None (Before text) [] used step left fed = idle 0 used step left (Before text) fed
uses (Some head_request) (Before text) [] used step left fed = idle 0 used step left (Before text) fed
uses None (Before text) (b ∷ bytes) used step left fed = bad (length (b ∷ bytes)) used step left Broken fed
uses (Some head_request) (Before text) (b ∷ bytes) used step left fed = front (front_of head_request (text ++ b ∷ bytes)) (b ∷ bytes) used step left fed
uses awaited (Within response place) bytes used Head left fed = absurd fed
uses awaited (Within response place) bytes used (Body from to) left fed = (fed.some, fed.within)
uses awaited (Within response place) bytes used End left fed = tt
uses awaited (Within response place) bytes used Bad left fed = fed.all
uses awaited (Within response place) bytes used Idle left fed = fed.all
uses awaited Closed bytes used step left fed = idle (length bytes) used step left Closed fed
uses awaited Broken bytes used step left fed = bad (length bytes) used step left Broken fed
