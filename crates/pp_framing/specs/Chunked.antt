-- The chunked coding, on whole texts (RFC 2616, section 3.6.1).
use Rattle.std.specs.Prelude.{ℕ, zero, suc, ◌+◌, ◌-◌, Bool, true, false, ◌==◌, ◌&&◌, ◌||◌, not, nat_lt, nat_le, List, [], ◌∷◌, length, take, drop}
use Rattle.std.specs.Char.{is_digit}
use Rattle.pp_text.specs.Bytes.{is_blank}
use Rattle.pp_text.specs.Numbers.{value_of}
use Rattle.pp_framing.specs.Body.{Body, Done, Going, Bad, no_data, behind}

-- what a text has of a piece of the grammar at its front
pub data Piece : Type 0 where
  Found : List ℕ → Piece  -- all of it, and this follows it
  Unfinished : Piece  -- all that the text has begins it
  Absent : Piece  -- no continuation of the text begins with it

-- what follows the piece begins so
abbrev pub then : Piece → (List ℕ → Body) → Body
then (Found rest) next = next rest
then Unfinished next = no_data Going
then Absent next = no_data Bad

-- the bytes at the front that pass a test, and those from the first that does not
abbrev pub front : (ℕ → Bool) → List ℕ → List ℕ
front test [] = []
front test (b ∷ text) = elim (test b) [ true ↦ b ∷ front test text | false ↦ [] ]

abbrev pub past : (ℕ → Bool) → List ℕ → List ℕ
past test [] = []
past test (b ∷ text) = elim (test b) [ true ↦ past test text | false ↦ b ∷ text ]

abbrev pub is_hex : ℕ → Bool
is_hex b = is_digit b 16

-- neither CR nor LF
abbrev pub is_text : ℕ → Bool
is_text b = not ((b == 10) || (b == 13))

-- CRLF; ours: LF alone ends a line too
abbrev pub line_feed : List ℕ → Piece
line_feed [] = Unfinished
line_feed (b ∷ text) = elim (b == 10) [ true ↦ Found text | false ↦ Absent ]

abbrev pub line_end : List ℕ → Piece
line_end [] = Unfinished
line_end (b ∷ text) = elim (b == 10) [ true ↦ Found text | false ↦ elim (b == 13) [ true ↦ line_feed text | false ↦ Absent ] ]

-- chunk-extension = *( ";" chunk-ext-name [ "=" chunk-ext-val ] ); ours: at most 4,096 bytes behind the
-- first ";", whatever they are but CR and LF
abbrev pub extension_end : List ℕ → Piece
extension_end text = elim (nat_le (length (front is_text text)) 4096) [ true ↦ line_end (past is_text text) | false ↦ Absent ]

-- what may follow the size, and the blanks behind it
abbrev pub size_end : List ℕ → Piece
size_end [] = Unfinished
size_end (b ∷ text) = elim (b == 59) [ true ↦ extension_end text | false ↦ line_end (b ∷ text) ]

-- chunk-size = 1*HEX
abbrev pub chunk_size : List ℕ → ℕ
chunk_size text = value_of 16 (front is_hex text)

-- chunk-size [ chunk-extension ] CRLF; ours: at most 16 digits, so that 64 bits hold the size, and blanks
-- behind them
abbrev pub chunk_line : List ℕ → Piece
chunk_line [] = Unfinished
chunk_line (b ∷ text) = elim (is_hex b && nat_le (length (front is_hex (b ∷ text))) 16) [
  | true ↦ size_end (past is_blank (past is_hex (b ∷ text)))
  | false ↦ Absent
]

-- a trailer line that has to fit so many bytes, with its line end
abbrev pub fitting : ℕ → List ℕ → Piece → Piece
fitting room text (Found rest) = elim (nat_le (length text) (room + length rest)) [ true ↦ Found rest | false ↦ Absent ]
fitting room text Unfinished = elim (nat_lt (length text) room) [ true ↦ Unfinished | false ↦ Absent ]
fitting room text Absent = Absent

-- trailer = *( entity-header CRLF ), and the CRLF that ends the body; ours: a trailer line is any bytes but CR
-- and LF, and all lines have at most so many bytes (no text has more lines than bytes: `most` of either)
abbrev pub trailer : ℕ → ℕ → List ℕ → Body
trailer zero room text = no_data Going
trailer (suc most) room text = elim (front is_text text) [
  | [] ↦ then (line_end text) (λ rest. no_data (Done rest))
  | b ∷ line ↦ then (fitting room text (line_end (past is_text text))) (λ rest. trailer most (room + length rest - length text) rest)
]

-- Chunked-Body = *chunk last-chunk trailer CRLF
-- chunk = chunk-size [ chunk-extension ] CRLF chunk-data CRLF
-- last-chunk = 1*("0") [ chunk-extension ] CRLF
abbrev pub chunks : ℕ → List ℕ → Body
chunks zero text = no_data Going
chunks (suc most) text = let size = chunk_size text in then (chunk_line text) (λ rest. elim (size == 0) [
  | true ↦ trailer (length rest) 16384 rest
  | false ↦ behind (take size rest) (then (line_end (drop size rest)) (λ next. chunks most next))
])

abbrev pub chunked_body : List ℕ → Body
chunked_body text = chunks (length text) text
