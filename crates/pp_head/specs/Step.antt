-- Reading a piece from the front of a text.
use Rattle.std.specs.Prelude.{ℕ, Bool, true, false, ◌==◌, ◌&&◌, nat_lt, List, [], ◌∷◌, length, ⊤}

-- Done: the piece, and the text after it. Short: the text ends before the piece does.
-- Wrong: no text that begins so begins with the piece.
pub data Step (A : Type 0) : Type 0 where
  Done : A → List ℕ → Step A
  Short Wrong : Step A

abbrev pub map_step : {A B : Type 0} → (A → B) → Step A → Step B
map_step f (Done a rest) = Done (f a) rest
map_step f Short = Short
map_step f Wrong = Wrong

-- one piece and then another
abbrev pub and_then : {A B : Type 0} → Step A → (List ℕ → Step B) → Step (A × B)
and_then (Done a rest) next = map_step (λ b. (a, b)) (next rest)
and_then Short next = Short
and_then Wrong next = Wrong

abbrev pub push_first : ℕ → List ℕ × List ℕ → List ℕ × List ℕ
push_first b p = (b ∷ p.0, p.1)

-- the bytes at the front that pass the test, and what follows them
abbrev pub cut : (ℕ → Bool) → List ℕ → List ℕ × List ℕ
cut test [] = ([], [])
cut test (b ∷ text) = elim (test b) [ true ↦ push_first b (cut test text) | false ↦ ([], b ∷ text) ]

-- these bytes
abbrev pub read_bytes : List ℕ → List ℕ → Step ⊤
read_bytes [] text = Done tt text
read_bytes (b ∷ bytes) [] = Short
read_bytes (b ∷ bytes) (c ∷ text) = elim (b == c) [ true ↦ read_bytes bytes text | false ↦ Wrong ]

-- at least one byte that passes the test, and then the byte stop
abbrev pub word_of : ℕ → List ℕ × List ℕ → Step (List ℕ)
word_of stop (word, []) = Short
word_of stop (word, b ∷ rest) = elim ((b == stop) && nat_lt 0 (length word)) [ true ↦ Done word rest | false ↦ Wrong ]

abbrev pub read_word : (ℕ → Bool) → ℕ → List ℕ → Step (List ℕ)
read_word test stop text = word_of stop (cut test text)
