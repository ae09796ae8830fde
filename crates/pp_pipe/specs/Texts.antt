-- What is still to be written of each ask (RFC 2616, section 8.1.2.2).
use Rattle.std.specs.Prelude.{ℕ, List, [], ◌∷◌, take, drop}
use Rattle.pp_pipe.specs.Line.{Line}
use Rattle.pp_pipe.specs.declared.asks.Ask.{Ask}

-- bytes that are those of these asks, one ask behind the other
abbrev pub split : List Ask → List ℕ → List (List ℕ)
split [] bytes = []
split (ask ∷ asks) bytes = take ask.text_left bytes ∷ split asks (drop ask.text_left bytes)

-- what is left of each ask
abbrev pub texts_of : Line → List (List ℕ)
texts_of line = split line.asks (drop line.stray line.out)

-- and before them of those that were answered
abbrev pub stray_of : Line → List ℕ
stray_of line = take line.stray line.out
