-- How what was heard is kept.
use Rattle.std.specs.Prelude.{◌≤◌, ℕ, List, [], ◌∷◌, length}
use Rattle.pp_head.specs.Kept.{Shows}
use Rattle.pp_client.specs.declared.heard.Heard.TheInside.{Inside}
use Rattle.pp_client.specs.Requests.{Heard, IsInStep, heard_len}

abbrev pub heard_as : Inside → Heard
heard_as h = record { head = h.head.value.items; rest = h.rest; body = h.body }

-- what a head is read from: that of the current request, or what was heard, while none is whole
abbrev pub read_from : List ℕ → List ℕ → List ℕ
read_from [] rest = rest
read_from (b ∷ head) rest = b ∷ head

pub record IsSound (h : Inside) : Type 0 where
  pub step : IsInStep (heard_as h)
  pub room : length h.rest ≤ heard_len
  pub kept : Shows h.kept.value (read_from h.head.value.items h.rest)
