-- What the bytes that a connection brings tell, step by step (RFC 2616, sections 4.4, 6 and 8.1.2.2).
use Rattle.std.specs.Prelude.{◌≡◌, ℕ, ◌<◌, ◌≤◌, Bool, List, [], ◌∷◌, ◌++◌, length, drop, slice_range, Option, Some, None, ⊤}
use Rattle.pp_head.specs.Response.{Response}
use Rattle.pp_framing.specs.Body.{behind, no_data, Done, Bad as NoBody}
use Rattle.pp_framing.specs.Places.{first_place, is_unbounded, read_from, state_of}
use Rattle.pp_framing.specs.declared.body.BodyState.TheVariants.{Going}
use Rattle.pp_framing.specs.declared.place.Place.{Place}
use Rattle.pp_pipe.specs.Front.{Front, Final, Unfinished, NoResponse, front_of, fate_of}
use Rattle.pp_pipe.specs.Reading.{Reading, Before, Within, Closed, Broken, behind_it}
use Rattle.pp_pipe.specs.declared.step.Step.{Step}
use Rattle.pp_pipe.specs.declared.step.Step.TheVariants.{Head, Body, End, Bad, Idle}

-- the step, how many bytes it uses, and where it leaves
pub record IsTold (wanted_step : Step) (wanted_used : ℕ) (wanted_left : Reading) (used : ℕ) (step : Step) (left : Reading) : Type 0 where
  pub tells : step ≡ wanted_step
  pub uses : used ≡ wanted_used
  pub leaves : left ≡ wanted_left

-- ---- in a head

-- the head of a final response came: the bytes through its end are used
pub record IsHeadTold (response : Response) (place : Place) (rest bytes : List ℕ) (used : ℕ) (step : Step) (left : Reading) : Type 0 where
  pub tells : step ≡ Head
  pub some : 0 < used
  pub behind : drop used bytes ≡ rest
  pub leaves : left ≡ Within response place

abbrev pub IsFrontTold : Front → List ℕ → ℕ → Step → Reading → Type 0
IsFrontTold (Final response rule rest) bytes = IsHeadTold response (first_place rule) rest bytes
IsFrontTold (Unfinished text) bytes = IsTold Idle (length bytes) (Before text)
IsFrontTold NoResponse bytes = IsTold Bad (length bytes) Broken

-- what comes where no ask was taken belongs to none
abbrev pub IsHeadFed : Option Bool → List ℕ → List ℕ → ℕ → Step → Reading → Type 0
IsHeadFed awaited text [] = IsTold Idle 0 (Before text)
IsHeadFed None text (b ∷ bytes) = IsTold Bad (length (b ∷ bytes)) Broken
IsHeadFed (Some head_request) text (b ∷ bytes) = IsFrontTold (front_of head_request (text ++ b ∷ bytes)) (b ∷ bytes)

-- ---- in a body

-- whatever comes behind these bytes: the body is these data, and what the rest gives at the next place
pub record Continues (place : Place) (bytes run : List ℕ) (used : ℕ) (next : Place) : Type 0 where
  pub reads : (more : List ℕ) → read_from place (bytes ++ more) ≡ behind run (read_from next (drop used bytes ++ more))
  pub kind : is_unbounded next ≡ is_unbounded place

pub record IsRunTold (response : Response) (place : Place) (bytes : List ℕ) (used from to : ℕ) (left : Reading) : Type 0 where
  pub next : Place
  pub some : from < to
  pub within : to ≤ used
  pub body : Continues place bytes (slice_range bytes from to) used next
  pub leaves : left ≡ Within response next

-- no data came, and the body goes on
pub record IsPauseTold (response : Response) (place : Place) (bytes : List ℕ) (used : ℕ) (left : Reading) : Type 0 where
  pub next : Place
  pub going : state_of next ≡ Going
  pub all : used ≡ length bytes
  pub body : Continues place bytes [] used next
  pub leaves : left ≡ Within response next

-- no data came before the body's end
pub record IsEndTold (response : Response) (place : Place) (bytes : List ℕ) (used : ℕ) (left : Reading) : Type 0 where
  pub body : (more : List ℕ) → read_from place (bytes ++ more) ≡ no_data (Done (drop used bytes ++ more))
  pub leaves : left ≡ behind_it (fate_of response)

-- whatever comes behind these bytes, they are no body
pub record IsFaultTold (place : Place) (bytes : List ℕ) (used : ℕ) (left : Reading) : Type 0 where
  pub body : (more : List ℕ) → read_from place (bytes ++ more) ≡ no_data NoBody
  pub all : used ≡ length bytes
  pub leaves : left ≡ Broken

abbrev pub IsBodyFed : Response → Place → List ℕ → ℕ → Step → Reading → Type 0
IsBodyFed response place bytes used Head left = ⊥
IsBodyFed response place bytes used (Body from to) left = IsRunTold response place bytes used from to left
IsBodyFed response place bytes used End left = IsEndTold response place bytes used left
IsBodyFed response place bytes used Bad left = IsFaultTold place bytes used left
IsBodyFed response place bytes used Idle left = IsPauseTold response place bytes used left

-- ---- in either, by the ask that is answered next

abbrev pub IsFed : Option Bool → Reading → List ℕ → ℕ → Step → Reading → Type 0
IsFed awaited (Before text) bytes used step left = IsHeadFed awaited text bytes used step left
IsFed awaited (Within response place) bytes used step left = IsBodyFed response place bytes used step left
IsFed awaited Closed bytes used step left = IsTold Idle (length bytes) Closed used step left
IsFed awaited Broken bytes used step left = IsTold Bad (length bytes) Broken used step left

-- ---- how many of so many bytes a step uses

abbrev pub IsUsed : Step → ℕ → ℕ → Type 0
IsUsed Head most used = 0 < used
IsUsed (Body from to) most used = (from < to) × (to ≤ used)
IsUsed End most used = ⊤
IsUsed Bad most used = used ≡ most
IsUsed Idle most used = used ≡ most
