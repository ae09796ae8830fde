-- A connection to an origin: what is asked there, and what comes (RFC 2616, section 8.1.2.2).
use Rattle.std.specs.Prelude.{ℕ, ◌+◌, ◌-◌, Bool, true, false, ◌||◌, List, [], ◌∷◌, ◌++◌, length, take, drop, remove, slice_get, Option, Some, None}
use Rattle.pp_framing.specs.declared.body.Ending.{Ending}
use Rattle.pp_framing.specs.declared.body.Ending.TheVariants.{Whole, Short}
use Rattle.pp_pipe.specs.Asks.{all_taken, fresh, out_room, total}
use Rattle.pp_pipe.specs.Reading.{Reading, Before, Closed, fate_in}
use Rattle.pp_pipe.specs.declared.asks.Ask.{Ask}
use Rattle.pp_pipe.specs.declared.fate.Fate.{Fate}
use Rattle.pp_pipe.specs.declared.fate.Fate.TheVariants.{Closes, Stays, Pipelines}
use Rattle.pp_pipe.specs.declared.step.Step.{Step}
use Rattle.pp_pipe.specs.declared.step.Step.TheVariants.{Head, Body, End, Bad, Idle}

pub record Line : Type 0 where
  pub id : ℕ
  pub out : List ℕ  -- what is to be written next stands first
  pub stray : ℕ  -- so many of these bytes, the first, are of asks that were answered
  pub asks : List Ask  -- pushed, and neither withdrawn nor answered whole
  pub reading : Reading
  pub has_answered : Bool  -- it brought a whole final response
  pub may_pipeline : Bool  -- it brought one of HTTP/1.1 without `close`

abbrev pub started : ℕ → Line
started id = record { id = id; out = []; stray = 0; asks = []; reading = Before []; has_answered = false; may_pipeline = false }

-- how many bytes may be pushed
abbrev pub room_of : Line → ℕ
room_of line = out_room - length line.out

abbrev pub pushed : List ℕ → Bool → Line → Line
pushed text head_request line = record line { out = line.out ++ text; asks = line.asks ++ fresh text head_request ∷ [] }

-- nothing changes where it was refused
abbrev pub pushed_where : Bool → List ℕ → Bool → Line → Line
pushed_where true text head_request line = pushed text head_request line
pushed_where false text head_request line = line

-- so many bytes were written
abbrev pub taken : ℕ → Line → Line
taken n line = record line { out = drop n line.out; stray = line.stray - n; asks = all_taken (n - line.stray) line.asks }

-- a byte of the ask at this place was taken
abbrev pub is_begun_at : ℕ → List Ask → Option Bool
is_begun_at place asks = elim (slice_get asks place) [ Some ask ↦ Some ask.is_begun | None ↦ None ]

-- the ask at this place is taken out, with what of it was to be written
abbrev pub without_span : ℕ → ℕ → List ℕ → List ℕ
without_span from to bytes = take from bytes ++ drop to bytes

abbrev pub withdrawn : ℕ → Line → Line
withdrawn place line = record line {
  out = without_span (line.stray + total (take place line.asks)) (line.stray + total (take (place + 1) line.asks)) line.out;
  asks = remove line.asks place;
}

abbrev pub withdrawn_where : Bool → ℕ → Line → Line
withdrawn_where true place line = withdrawn place line
withdrawn_where false place line = line

abbrev pub is_pipelined : Fate → Bool
is_pipelined Closes = false
is_pipelined Stays = false
is_pipelined Pipelines = true

-- the response to the first ask is whole; what of that ask was not written yet stays
abbrev pub answered : Fate → Line → Line
answered fate line = record line {
  stray = line.stray + total (take 1 line.asks);
  asks = drop 1 line.asks;
  has_answered = true;
  may_pipeline = line.may_pipeline || is_pipelined fate;
}

-- a step of reading, which leaves here
abbrev pub stepped : Step → Reading → Line → Line
stepped End left line = record (answered (fate_in line.reading) line) { reading = left }
stepped Head left line = record line { reading = left }
stepped (Body from to) left line = record line { reading = left }
stepped Bad left line = record line { reading = left }
stepped Idle left line = record line { reading = left }

-- the connection ended
abbrev pub ended_with : Ending → Line → Line
ended_with Whole line = record (answered (fate_in line.reading) line) { reading = Closed }
ended_with Short line = record line { reading = Closed }
