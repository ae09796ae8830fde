-- What the bytes that came begin with, as it is found in them.
use Rattle.std.specs.Prelude.{ℕ, ◌≤◌, ◌<◌, Bool, true, false, ◌==◌, Result, Ok, Err, ⊤}
use Rattle.pp_head.specs.Read.{Read, Whole, TooLong, Bad, More}
use Rattle.pp_head.specs.Response.{Response}
use Rattle.pp_framing.specs.Framing.{rule_of}
use Rattle.pp_framing.specs.declared.body.BodyRule.{BodyRule}
use Rattle.pp_framing.specs.declared.framing.ResponseFault.{ResponseFault}
use Rattle.pp_pipe.specs.Front.{fate_of, is_interim}
use Rattle.pp_pipe.specs.declared.fate.Fate.{Fate}
use Rattle.pp_pipe.specs.declared.front.Found.{Found}
use Rattle.pp_pipe.specs.declared.front.Found.TheVariants.{More as IsMore, Other, Interim, Final}

abbrev pub found_by : ℕ → Fate → Result BodyRule ResponseFault → Found
found_by len fate (Ok rule) = Final len rule fate
found_by len fate (Err fault) = Other

abbrev pub found_in : Bool → Response → Found
found_in head_request response = elim (is_interim response.status) [
  | true ↦ Interim response.length
  | false ↦ elim (response.status == 101) [
    | true ↦ Other
    | false ↦ found_by response.length (fate_of response) (rule_of head_request response.status response.fields)
  ]
]

abbrev pub found_of : Bool → Read Response → Found
found_of head_request (Whole response) = found_in head_request response
found_of head_request TooLong = Other
found_of head_request Bad = Other
found_of head_request More = IsMore

-- a head within so many bytes
abbrev pub IsFound : ℕ → Found → Type 0
IsFound most IsMore = ⊤
IsFound most Other = ⊤
IsFound most (Interim len) = (0 < len) × (len ≤ most)
IsFound most (Final len rule fate) = (0 < len) × (len ≤ most)
