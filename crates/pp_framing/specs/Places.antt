-- Where in a body a reader is, and how each byte moves it: the bodies of Rules, read byte by byte.
use Rattle.std.specs.Prelude.{ℕ, ◌+◌, ◌-◌, ◌*◌, Bool, true, false, ◌==◌, nat_lt, nat_le, List, [], ◌∷◌, Option, Some, None}
use Rattle.std.specs.Char.{digit_value, is_digit}
use Rattle.pp_text.specs.Bytes.{is_blank}
use Rattle.pp_framing.specs.Body.{Body, Done as DoneWith, Going as GoingOn, Bad as NoBody, no_data, behind}
use Rattle.pp_framing.specs.declared.body.BodyRule.{BodyRule}
use Rattle.pp_framing.specs.declared.body.BodyRule.TheVariants.{Empty, Length, Chunked, ToEnd}
use Rattle.pp_framing.specs.declared.body.BodyState.{BodyState}
use Rattle.pp_framing.specs.declared.body.BodyState.TheVariants.{Going, Done, Bad}
use Rattle.pp_framing.specs.declared.body.Ending.{Ending}
use Rattle.pp_framing.specs.declared.body.Ending.TheVariants.{Whole, Short}
use Rattle.pp_framing.specs.declared.place.Place.{Place}
use Rattle.pp_framing.specs.declared.place.Place.TheVariants.{ChunkStart, Size, Blanks, Extension, SizeReturn, Chunk, ChunkEnd, ChunkReturn, TrailerStart, Trailer, TrailerReturn, LastReturn, Counted, Unbounded, Over, Wrong}

abbrev pub first_place : BodyRule → Place
first_place Empty = Over
first_place (Length n) = elim (n == 0) [ true ↦ Over | false ↦ Counted n ]
first_place Chunked = ChunkStart
first_place ToEnd = Unbounded

abbrev pub hex_digit : ℕ → Option ℕ
hex_digit b = elim (is_digit b 16) [ true ↦ Some (digit_value b) | false ↦ None ]

-- behind a chunk's line: its data, or behind the last one the trailer
abbrev pub data_of : ℕ → Place
data_of size = elim (size == 0) [ true ↦ TrailerStart 0 | false ↦ Chunk size ]

-- behind a byte that has to be LF
abbrev pub feed_of : ℕ → Place → Place
feed_of b next = elim (b == 10) [ true ↦ next | false ↦ Wrong ]

-- a chunk's line behind the digits of its size
abbrev pub chunk_line : ℕ → ℕ → Place
chunk_line size b = elim (b == 10) [
  | true ↦ data_of size
  | false ↦ elim (b == 13) [
    | true ↦ SizeReturn size
    | false ↦ elim (b == 59) [ true ↦ Extension 0 size | false ↦ elim (is_blank b) [ true ↦ Blanks size | false ↦ Wrong ] ]
  ]
]

abbrev pub first_digit : ℕ → Place
first_digit b = elim (hex_digit b) [ Some d ↦ Size 1 d | None ↦ Wrong ]

abbrev pub next_digit : ℕ → ℕ → ℕ → Place
next_digit digits size b = elim (hex_digit b) [
  | Some d ↦ elim (nat_lt digits 16) [ true ↦ Size (digits + 1) (size * 16 + d) | false ↦ Wrong ]
  | None ↦ chunk_line size b
]

abbrev pub extension : ℕ → ℕ → ℕ → Place
extension len size b = elim (b == 10) [
  | true ↦ data_of size
  | false ↦ elim (b == 13) [
    | true ↦ SizeReturn size
    | false ↦ elim (nat_lt len 4096) [ true ↦ Extension (len + 1) size | false ↦ Wrong ]
  ]
]

-- a byte of a trailer line that its LF may still follow
abbrev pub trailer_byte : ℕ → Place → Place
trailer_byte len next = elim (nat_le (len + 2) 16384) [ true ↦ next | false ↦ Wrong ]

abbrev pub trailer : ℕ → ℕ → Place
trailer len b = elim (b == 10) [
  | true ↦ TrailerStart (len + 1)
  | false ↦ elim (b == 13) [ true ↦ trailer_byte len (TrailerReturn (len + 1)) | false ↦ trailer_byte len (Trailer (len + 1)) ]
]

-- a byte of data
abbrev pub one_less : ℕ → (ℕ → Place) → Place → Place
one_less left more done = elim (left == 1) [ true ↦ done | false ↦ more (left - 1) ]

-- the place behind one more byte
abbrev pub step : Place → ℕ → Place
step ChunkStart b = first_digit b
step (Size digits size) b = next_digit digits size b
step (Blanks size) b = chunk_line size b
step (Extension len size) b = extension len size b
step (SizeReturn size) b = feed_of b (data_of size)
step (Chunk left) b = one_less left Chunk ChunkEnd
step ChunkEnd b = elim (b == 10) [ true ↦ ChunkStart | false ↦ elim (b == 13) [ true ↦ ChunkReturn | false ↦ Wrong ] ]
step ChunkReturn b = feed_of b ChunkStart
step (TrailerStart len) b = elim (b == 10) [
  | true ↦ Over
  | false ↦ elim (b == 13) [ true ↦ LastReturn | false ↦ trailer_byte len (Trailer (len + 1)) ]
]
step (Trailer len) b = trailer len b
step (TrailerReturn len) b = feed_of b (TrailerStart (len + 1))
step LastReturn b = feed_of b Over
step (Counted left) b = one_less left Counted Over
step Unbounded b = Unbounded
step Over b = Over
step Wrong b = Wrong

-- the next byte is one of framing, and not of data
abbrev pub is_framing : Place → Bool
is_framing (Chunk left) = false
is_framing (Counted left) = false
is_framing Unbounded = false
is_framing Over = false
is_framing Wrong = false
is_framing ChunkStart = true
is_framing (Size digits size) = true
is_framing (Blanks size) = true
is_framing (Extension len size) = true
is_framing (SizeReturn size) = true
is_framing ChunkEnd = true
is_framing ChunkReturn = true
is_framing (TrailerStart len) = true
is_framing (Trailer len) = true
is_framing (TrailerReturn len) = true
is_framing LastReturn = true

abbrev pub datum : Place → ℕ → List ℕ
datum place b = elim (is_framing place) [ true ↦ [] | false ↦ b ∷ [] ]

-- what a text is from a place on
abbrev pub read_from : Place → List ℕ → Body
read_from Over text = no_data (DoneWith text)
read_from Wrong text = no_data NoBody
read_from place [] = no_data GoingOn
read_from place (b ∷ text) = behind (datum place b) (read_from (step place b) text)

abbrev pub state_of : Place → BodyState
state_of Over = Done
state_of Wrong = Bad
state_of place = Going

abbrev pub ending_of : Place → Ending
ending_of Over = Whole
ending_of Unbounded = Whole
ending_of place = Short

-- the end of the connection ends the body
abbrev pub is_unbounded : Place → Bool
is_unbounded Unbounded = true
is_unbounded place = false

-- a run of data is over, or the body is
abbrev pub is_pause : Place → Bool
is_pause ChunkEnd = true
is_pause Over = true
is_pause Wrong = true
is_pause place = false
