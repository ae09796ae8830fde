-- Keys that are noted, each once, in the order in which they came in. It is ours.
use Rattle.arrayvec.specs.ArrayVec.{ArrayVec}
use Rattle.std.specs.Prelude.{◌≡◌, ◌<◌, ℕ, Bool, true, false, ◌||◌, cond, if◌then◌else◌, nat_le, nat_lt, List, [], ◌∷◌, ◌++◌, length, map, take, get_or, bytes_eq}
use Rattle.std.specs.List.{list_any}
use Rattle.std.specs.Global.{Box}

abbrev pub has_noted : List ℕ → List (List ℕ) → Bool
has_noted key keys = list_any (bytes_eq key) keys

-- at most 16, and no key has more than 8,192 bytes
abbrev pub noted_by : List ℕ → List (List ℕ) → List (List ℕ)
noted_by key keys = cond (has_noted key keys || nat_le 16 (length keys) || nat_lt 8192 (length key)) keys (keys ++ key ∷ [])

-- it is forgotten
abbrev pub unnoted : List ℕ → List (List ℕ) → List (List ℕ)
unnoted key [] = []
unnoted key (k ∷ ks) = if bytes_eq key k then ks else k ∷ unnoted key ks

-- ---- how they are kept: each in a box of its own

abbrev pub keys_of : List (Box (ArrayVec ℕ)) → List (List ℕ)
keys_of boxes = map (λ b. b.value.items) boxes

-- the first place of a key
pub record IsFirst (key : List ℕ) (keys : List (List ℕ)) (place : ℕ) : Type 0 where
  pub within : place < length keys
  pub before : has_noted key (take place keys) ≡ false
  pub here : (d : List ℕ) → bytes_eq key (get_or keys place d) ≡ true
