-- The fields of a response that comes, and what the steps of its reader say of them.
use Rattle.std.specs.Prelude.{◌≡◌, ℕ, ◌-◌, ◌<◌, ◌≤◌, Bool, List, [], ◌++◌, length, take, drop, min, Option, ⊤}
use Rattle.pp_framing.specs.declared.body.BodyRule.{BodyRule}
use Rattle.pp_head.specs.Agreement.{IsResponseWithin}
use Rattle.pp_head.specs.Limits.{max_bytes}
use Rattle.pp_head.specs.Read.{Read, Whole, TooLong, Bad, More}
use Rattle.pp_head.specs.Response.{Response, response_at}
use Rattle.pp_pipe.specs.Feeding.{IsBodyFed, IsFrontTold, IsHeadFed}
use Rattle.pp_pipe.specs.Front.{Unfinished, NoResponse as IsNoResponse, Final as IsFinal, fate_of, front_of}
use Rattle.pp_pipe.specs.Reading.{Reading, Before, Within, Closed as IsClosed, Broken as IsBroken}
use Rattle.pp_pipe.specs.declared.answer.Stage.{Stage}
use Rattle.pp_pipe.specs.declared.answer.Stage.TheVariants.{Head, Body, Closed, Broken}
use Rattle.pp_pipe.specs.declared.fate.Fate.{Fate}
use Rattle.pp_pipe.specs.declared.front.Found.{Found}
use Rattle.pp_pipe.specs.declared.front.Found.TheVariants.{More as FoundMore, Other, Interim, Final}
use Rattle.pp_pipe.specs.declared.heading.Opening.{Opening}
use Rattle.pp_pipe.specs.declared.heading.Opening.TheVariants.{More as OpeningMore, NoResponse, Response as OpeningResponse}
use Rattle.pp_pipe.specs.declared.step.Step.{Step}

-- a head that was read
abbrev pub WasRead : Response → Type 0
WasRead response = (bytes : List ℕ) × IsResponseWithin bytes response

-- what the kept head of a response is
abbrev pub response_in : Read Response → Response
response_in (Whole response) = response
response_in TooLong = record { minor = 0; status = 0; reason = []; fields = []; length = 0 }
response_in Bad = record { minor = 0; status = 0; reason = []; fields = []; length = 0 }
response_in More = record { minor = 0; status = 0; reason = []; fields = []; length = 0 }

abbrev pub reading_of : List ℕ → Stage → Reading
reading_of text Head = Before text
reading_of text (Body decoder fate) = Within (response_in (response_at text)) decoder
reading_of text Closed = IsClosed
reading_of text Broken = IsBroken

-- the kept bytes are no whole head, or the head of the response whose body is read
abbrev pub IsKept : List ℕ → Stage → Type 0
IsKept text Head = response_at text ≡ More
IsKept text (Body decoder fate) = (response : Response) × (response_at text ≡ Whole response) × (fate ≡ fate_of response)
IsKept text Closed = ⊤
IsKept text Broken = ⊤

-- ---- heads

-- the front of some bytes that there is room for behind a text
abbrev pub piece : List ℕ → List ℕ → List ℕ
piece text bytes = take (min (length bytes) (max_bytes - length text)) bytes

-- the head of a final response ends so many bytes behind what was kept, and is kept now
pub record IsOpened (head_request : Bool) (text bytes : List ℕ) (used : ℕ) (rule : BodyRule) (fate : Fate) (kept : List ℕ) : Type 0 where
  pub response : Response
  pub front : front_of head_request (text ++ bytes) ≡ IsFinal response rule (drop used bytes)
  pub some : 0 < used
  pub within : used ≤ length bytes
  pub head : response_at kept ≡ Whole response
  pub follows : fate ≡ fate_of response

-- a head is not whole, and is kept now
pub record IsWaiting (head_request : Bool) (text bytes kept : List ℕ) : Type 0 where
  pub front : front_of head_request (text ++ bytes) ≡ Unfinished kept
  pub head : response_at kept ≡ More

-- the head of an interim response ends so many bytes behind what was kept, and nothing is kept now
pub record IsPassedOver (head_request : Bool) (text bytes : List ℕ) (used : ℕ) (kept : List ℕ) : Type 0 where
  pub front : front_of head_request (text ++ bytes) ≡ front_of head_request (drop used bytes)
  pub some : 0 < used
  pub within : used ≤ length bytes
  pub none : kept ≡ []

abbrev pub IsFoundIn : Bool → List ℕ → List ℕ → Found → List ℕ → Type 0
IsFoundIn head_request text bytes FoundMore kept = IsWaiting head_request text bytes kept
IsFoundIn head_request text bytes Other kept = front_of head_request (text ++ bytes) ≡ IsNoResponse
IsFoundIn head_request text bytes (Interim used) kept = IsPassedOver head_request text bytes used kept
IsFoundIn head_request text bytes (Final used rule fate) kept = IsOpened head_request text bytes used rule fate kept

-- the same of the first final response
abbrev pub IsOpening : Bool → List ℕ → List ℕ → Opening → List ℕ → Type 0
IsOpening head_request text bytes OpeningMore kept = IsWaiting head_request text bytes kept
IsOpening head_request text bytes NoResponse kept = front_of head_request (text ++ bytes) ≡ IsNoResponse
IsOpening head_request text bytes (OpeningResponse used rule fate) kept = IsOpened head_request text bytes used rule fate kept

-- ---- either

abbrev pub IsBefore : Reading → Type 0
IsBefore (Before text) = ⊤
IsBefore (Within response place) = ⊥
IsBefore IsClosed = ⊥
IsBefore IsBroken = ⊥

abbrev pub IsBeforeTold : Bool → Reading → List ℕ → ℕ → Step → Reading → Type 0
IsBeforeTold head_request (Before text) bytes used step left = IsFrontTold (front_of head_request (text ++ bytes)) bytes used step left
IsBeforeTold head_request (Within response place) bytes used step left = ⊤
IsBeforeTold head_request IsClosed bytes used step left = ⊤
IsBeforeTold head_request IsBroken bytes used step left = ⊤

abbrev pub IsBeforeFed : Option Bool → Reading → List ℕ → ℕ → Step → Reading → Type 0
IsBeforeFed awaited (Before text) bytes used step left = IsHeadFed awaited text bytes used step left
IsBeforeFed awaited (Within response place) bytes used step left = ⊤
IsBeforeFed awaited IsClosed bytes used step left = ⊤
IsBeforeFed awaited IsBroken bytes used step left = ⊤

abbrev pub IsWithinFed : Reading → List ℕ → ℕ → Step → Reading → Type 0
IsWithinFed (Before text) bytes used step left = ⊤
IsWithinFed (Within response place) bytes used step left = IsBodyFed response place bytes used step left
IsWithinFed IsClosed bytes used step left = ⊤
IsWithinFed IsBroken bytes used step left = ⊤
