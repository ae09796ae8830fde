-- What a text is as a body: its data, and whether and where it ends (RFC 2616, section 4.4).
use Rattle.std.specs.Prelude.{ℕ, List, ◌++◌, []}

-- where a text that begins a body stands
pub data Outcome : Type 0 where
  Done : List ℕ → Outcome  -- the body ends within the text, and this follows it
  Going : Outcome  -- more has to come
  Bad : Outcome  -- no continuation of the text begins with a body

pub record Body : Type 0 where
  pub payload : List ℕ
  pub outcome : Outcome

-- these data come first
abbrev pub behind : List ℕ → Body → Body
behind front body = record { payload = front ++ body.payload; outcome = body.outcome }

abbrev pub no_data : Outcome → Body
no_data outcome = record { payload = []; outcome = outcome }
