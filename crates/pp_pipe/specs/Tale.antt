-- What a connection brings, told as a whole (RFC 2616, sections 4.4, 6, 8.1.2.2 and 10.1).
use Rattle.std.specs.Prelude.{ℕ, Bool, List, [], ◌∷◌, ◌++◌, map, drop, slice_range, Option, Some, None}
use Rattle.pp_framing.specs.Body.{Body as BodyText, Outcome, Done, Going, Bad as NoBody}
use Rattle.pp_framing.specs.Places.{read_from}
use Rattle.pp_framing.specs.Rules.{body_of}
use Rattle.pp_head.specs.Response.{Response}
use Rattle.pp_pipe.specs.Asks.{awaited}
use Rattle.pp_pipe.specs.Front.{Front, Final, Unfinished, NoResponse, fate_of, front_of}
use Rattle.pp_pipe.specs.Reading.{Reading, Before, Within, Closed, Broken, head_in}
use Rattle.pp_pipe.specs.declared.asks.Ask.{Ask}
use Rattle.pp_pipe.specs.declared.fate.Fate.{Fate}
use Rattle.pp_pipe.specs.declared.fate.Fate.TheVariants.{Closes, Stays, Pipelines}
use Rattle.pp_pipe.specs.declared.step.Step.{Step}
use Rattle.pp_pipe.specs.declared.step.Step.TheVariants.{Head, Body, End, Bad, Idle}

pub data Event : Type 0 where
  Began : Response → Event  -- the head of a response
  Byte : ℕ → Event  -- a byte of its body
  Ended : Event  -- it is whole
  Failed : Event  -- no response to an ask follows

-- what follows a response answers the next ask, where the connection goes on
abbrev pub behind_end : (List ℕ → List Event) → Fate → List ℕ → List Event
behind_end next Closes rest = []
behind_end next Stays rest = next rest
behind_end next Pipelines rest = next rest

abbrev pub outcome_tale : (List ℕ → List Event) → Fate → Outcome → List Event
outcome_tale next fate (Done rest) = Ended ∷ behind_end next fate rest
outcome_tale next fate Going = []
outcome_tale next fate NoBody = Failed ∷ []

abbrev pub body_tale : (List ℕ → List Event) → Fate → BodyText → List Event
body_tale next fate body = map Byte body.payload ++ outcome_tale next fate body.outcome

-- a response, and what follows it
abbrev pub front_tale : (List ℕ → List Event) → Front → List Event
front_tale next (Final response rule rest) = Began response ∷ body_tale next (fate_of response) (body_of rule rest)
front_tale next (Unfinished text) = []
front_tale next NoResponse = Failed ∷ []

-- bytes behind these of a head
abbrev pub head_tale : Option Bool → (List ℕ → List Event) → List ℕ → List ℕ → List Event
head_tale awaited next text [] = []
head_tale None next text (b ∷ bytes) = Failed ∷ []
head_tale (Some head_request) next text (b ∷ bytes) = front_tale next (front_of head_request (text ++ b ∷ bytes))

-- the responses to these asks, in their order
abbrev pub tale_of : List Ask → List ℕ → List ℕ → List Event
tale_of [] text bytes = head_tale None (λ rest. []) text bytes
tale_of (ask ∷ asks) text bytes = head_tale (awaited (ask ∷ asks)) (tale_of asks []) text bytes

-- bytes, from where a connection is
abbrev pub tale : List Ask → Reading → List ℕ → List Event
tale asks (Before text) bytes = tale_of asks text bytes
tale asks (Within response place) bytes = body_tale (tale_of (drop 1 asks) []) (fate_of response) (read_from place bytes)
tale asks Closed bytes = []
tale asks Broken bytes = Failed ∷ []

-- ---- of the one step that was made

abbrev pub begun : Option Response → List Event → List Event
begun (Some response) follows = Began response ∷ follows
begun None follows = follows

abbrev pub told : Step → Reading → List ℕ → List Event → List Event
told Head left bytes follows = begun (head_in left) follows
told (Body from to) left bytes follows = map Byte (slice_range bytes from to) ++ follows
told End left bytes follows = Ended ∷ follows
told Bad left bytes follows = Failed ∷ []
told Idle left bytes follows = follows

abbrev pub asks_behind : Step → List Ask → List Ask
asks_behind End asks = drop 1 asks
asks_behind Head asks = asks
asks_behind (Body from to) asks = asks
asks_behind Bad asks = asks
asks_behind Idle asks = asks
