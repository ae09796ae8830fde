-- The text of a configuration file. Its form is ours.
use Rattle.std.specs.Prelude.{ℕ, ◌+◌, ◌-◌, Bool, true, false, ◌==◌, ◌&&◌, nat_le, nat_lt, cond, List, [], ◌∷◌, length, take, drop, position, slice_index, slice_range, option_map, Option, Some, None, Result, Ok, Err}
use Rattle.pp_text.specs.Bytes.{is_empty, trim}
use Rattle.pp_text.specs.Lists.{onto_first}
use Rattle.pp_conf.specs.Settings.{setting_named}
use Rattle.pp_conf.specs.Conf.{Assignment}
use Rattle.pp_conf.specs.declared.setting.Setting.{Setting}

abbrev pub begins_with : ℕ → List ℕ → Bool
begins_with b [] = false
begins_with b (c ∷ text) = b == c

-- what stands between the line ends
abbrev pub pieces_of : List ℕ → List (List ℕ)
pieces_of [] = [] ∷ []
pieces_of (b ∷ text) = elim (b == 10) [ true ↦ [] ∷ pieces_of text | false ↦ onto_first b (pieces_of text) ]

-- a line without the CR at its end
abbrev pub strip_cr : List ℕ → List ℕ
strip_cr line = cond (nat_lt 0 (length line) && (slice_index line (length line - 1) == 13)) (take (length line - 1) line) line

-- a line ends with LF or with the text, and a CR before the LF is dropped
abbrev pub without_crs : List (List ℕ) → List (List ℕ)
without_crs [] = []
without_crs (last ∷ []) = last ∷ []
without_crs (line ∷ next ∷ more) = strip_cr line ∷ without_crs (next ∷ more)

abbrev pub lines_of : List ℕ → List (List ℕ)
lines_of text = without_crs (pieces_of text)

-- what stands before and behind the first `=`
abbrev pub halves : List ℕ → Option (List ℕ × List ℕ)
halves text = option_map (λ at. (take at text, drop (at + 1) text)) (position (λ b. b == 61) text)

-- a value in double quotes loses them
abbrev pub is_quoted : List ℕ → Bool
is_quoted text = nat_le 2 (length text) && (slice_index text 0 == 34) && (slice_index text (length text - 1) == 34)

abbrev pub unquoted : List ℕ → List ℕ
unquoted text = cond (is_quoted text) (slice_range text 1 (length text - 1)) text

-- what a line says
pub data Said : Type 0 where
  Nothing Unknown : Said
  Assigns : Assignment → Said

abbrev pub assignment_of : Option Setting → List ℕ → Said
assignment_of None value = Unknown
assignment_of (Some s) value = Assigns (s, value)

-- NAME, blanks or none, `=`, blanks or none, VALUE
abbrev pub said_by_halves : Option (List ℕ × List ℕ) → Said
said_by_halves None = Unknown
said_by_halves (Some p) = assignment_of (setting_named (trim p.0)) (unquoted (trim p.1))

-- an empty line and one that begins with `#` say nothing; blanks at both ends are dropped
abbrev pub said_by : List ℕ → Said
said_by line =
    let text = trim line in
    cond (is_empty text) Nothing (cond (begins_with 35 text) Nothing (said_by_halves (halves text)))

abbrev pub before : Assignment → Result (List Assignment) ℕ → Result (List Assignment) ℕ
before a (Ok rest) = Ok (a ∷ rest)
before a (Err k) = Err k

abbrev pub joined : Said → ℕ → Result (List Assignment) ℕ → Result (List Assignment) ℕ
joined Nothing k rest = rest
joined Unknown k rest = Err k
joined (Assigns a) k rest = before a rest

-- the assignments of these lines, of which the first is line k; or the number of the first line that is not understood
abbrev pub assignments_from : ℕ → List (List ℕ) → Result (List Assignment) ℕ
assignments_from k [] = Ok []
assignments_from k (line ∷ lines) = joined (said_by line) k (assignments_from (k + 1) lines)

-- lines are counted from 1
abbrev pub assignments_of : List ℕ → Result (List Assignment) ℕ
assignments_of text = assignments_from 1 (lines_of text)
