-- Where nothing is told yet, nothing is left to be told.
use Rattle.std.proofs.Common.{◌≡◌, ℕ, Bool, List, [], ◌∷◌, ◌++◌, drop, Option, Some, None, refl, sym, ap, subst}
use Rattle.pp_framing.specs.Body.{no_data, Going as GoingOn}
use Rattle.pp_framing.specs.Places.{read_from, state_of}
use Rattle.pp_framing.specs.declared.body.BodyState.TheVariants.{Going}
use Rattle.pp_framing.specs.declared.place.Place.{Place}
use Rattle.pp_framing.specs.declared.place.Place.TheVariants.{ChunkStart, Size, Blanks, Extension, SizeReturn, Chunk, ChunkEnd, ChunkReturn, TrailerStart, Trailer, TrailerReturn, LastReturn, Counted, Unbounded, Over, Wrong}
use Rattle.pp_pipe.specs.Feeding.{IsFed, IsFrontTold, IsTold}
use Rattle.pp_pipe.specs.Front.{Front, Final, Unfinished, NoResponse, fate_of, front_of}
use Rattle.pp_pipe.specs.Reading.{Reading, Before, Within, Closed, Broken}
use Rattle.pp_pipe.specs.Tale.{body_tale, tale, tale_of}
use Rattle.pp_pipe.specs.declared.asks.Ask.{Ask}
use Rattle.pp_pipe.specs.declared.step.Step.{Step}
use Rattle.pp_pipe.specs.declared.step.Step.TheVariants.{Head, Body, End, Bad, Idle}

going : (place : Place) → state_of place ≡ Going → read_from place [] ≡ no_data GoingOn
going ChunkStart is = refl
going (Size digits size) is = refl
going (Blanks size) is = refl
going (Extension len size) is = refl
going (SizeReturn size) is = refl
going (Chunk left) is = refl
going ChunkEnd is = refl
going ChunkReturn is = refl
going (TrailerStart len) is = refl
going (Trailer len) is = refl
going (TrailerReturn len) is = refl
going LastReturn is = refl
going (Counted left) is = refl
going Unbounded is = refl
going Over is = absurd (cc is)
going Wrong is = absurd (cc is)

no_bytes : (asks : List Ask) (text : List ℕ) → tale_of asks text [] ≡ []
no_bytes [] text = refl
no_bytes (ask ∷ asks) text = refl

at_rest : (asks : List Ask) (wanted : Step) (n : ℕ) (is : Reading) (used : ℕ) (step : Step) (left : Reading) → IsTold wanted n is used step left → tale asks is [] ≡ [] → tale asks left [] ≡ []
at_rest asks wanted n is used step left told none = subst (λ (l : Reading). tale asks l [] ≡ []) (sym told.leaves) none

not_bad : (asks : List Ask) (n : ℕ) (is : Reading) (used : ℕ) (step : Step) (left : Reading) → IsTold Bad n is used step left → step ≡ Idle → tale asks left [] ≡ []
not_bad asks n is used step left told idle = absurd (cc (told.tells, idle))

front : (asks : List Ask) (f : Front) (bytes : List ℕ) (used : ℕ) (step : Step) (left : Reading) → IsFrontTold f bytes used step left → step ≡ Idle → tale asks left [] ≡ []
front asks (Final r rule rest) bytes used step left told idle = absurd (cc (told.tells, idle))
front asks (Unfinished text) bytes used step left told idle = at_rest asks Idle _ (Before text) used step left told (no_bytes asks text)
front asks NoResponse bytes used step left told idle = not_bad asks _ Broken used step left told idle

pub quiet : (asks : List Ask) (awaited : Option Bool) (reading : Reading) (bytes : List ℕ) (used : ℕ) (step : Step) (left : Reading) → IsFed awaited reading bytes used step left → step ≡ Idle
    → tale asks left [] ≡ []
quiet asks None (Before text) [] used step left fed idle = at_rest asks Idle 0 (Before text) used step left fed (no_bytes asks text)
quiet asks (Some head_request) (Before text) [] used step left fed idle = at_rest asks Idle 0 (Before text) used step left fed (no_bytes asks text)
quiet asks None (Before text) (b ∷ bytes) used step left fed idle = not_bad asks _ Broken used step left fed idle
quiet asks (Some head_request) (Before text) (b ∷ bytes) used step left fed idle = front asks (front_of head_request (text ++ b ∷ bytes)) (b ∷ bytes) used step left fed idle
quiet asks awaited (Within r place) bytes used Head left fed idle = absurd fed
quiet asks awaited (Within r place) bytes used (Body from to) left fed idle = absurd (cc idle)
quiet asks awaited (Within r place) bytes used End left fed idle = absurd (cc idle)
quiet asks awaited (Within r place) bytes used Bad left fed idle = absurd (cc idle)
quiet asks awaited (Within r place) bytes used Idle left fed idle =
    subst (λ (l : Reading). tale asks l [] ≡ []) (sym fed.leaves) (ap (body_tale (tale_of (drop 1 asks) []) (fate_of r)) (going fed.next fed.going))
quiet asks awaited Closed bytes used step left fed idle = at_rest asks Idle _ Closed used step left fed refl
quiet asks awaited Broken bytes used step left fed idle = not_bad asks _ Broken used step left fed idle
