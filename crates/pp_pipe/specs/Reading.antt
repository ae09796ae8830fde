-- Where in the responses of a connection its bytes stand.
use Rattle.std.specs.Prelude.{ℕ, List, [], Option, Some, None, true, false, Bool}
use Rattle.pp_head.specs.Response.{Response}
use Rattle.pp_framing.specs.Places.{ending_of}
use Rattle.pp_framing.specs.declared.body.Ending.{Ending}
use Rattle.pp_framing.specs.declared.body.Ending.TheVariants.{Short}
use Rattle.pp_framing.specs.declared.place.Place.{Place}
use Rattle.pp_pipe.specs.Front.{fate_of}
use Rattle.pp_pipe.specs.declared.fate.Fate.{Fate}
use Rattle.pp_pipe.specs.declared.fate.Fate.TheVariants.{Closes, Stays, Pipelines}

pub data Reading : Type 0 where
  Before : List ℕ → Reading  -- behind these bytes of a head that is not whole
  Within : Response → Place → Reading  -- at this place of the body of this response
  Closed : Reading  -- behind the last response: what comes is dropped
  Broken : Reading  -- behind what is no response

-- the head of the response whose body is read
abbrev pub head_in : Reading → Option Response
head_in (Before text) = None
head_in (Within response place) = Some response
head_in Closed = None
head_in Broken = None

abbrev pub fate_in : Reading → Fate
fate_in (Before text) = Closes
fate_in (Within response place) = fate_of response
fate_in Closed = Closes
fate_in Broken = Closes

-- behind a response
abbrev pub behind_it : Fate → Reading
behind_it Closes = Closed
behind_it Stays = Before []
behind_it Pipelines = Before []

-- what the end of the connection, clean or not, makes of the response whose head came
abbrev pub ending_at : Bool → Reading → Ending
ending_at false reading = Short
ending_at true (Before text) = Short
ending_at true (Within response place) = ending_of place
ending_at true Closed = Short
ending_at true Broken = Short
