-- What a pool holds: the chunks that are used, the least recently used first.
use Rattle.std.specs.Prelude.{ℕ, ◌≡◌, Bool, true, false, ◌==◌, ◌&&◌, not, cond, List, [], ◌∷◌, ◌++◌, Option, Some, None, map, ⊤}
use Rattle.std.specs.List.{filter, find, list_any}

-- a used chunk: its number, whose it is and which part, and the front of its bytes that is filled
pub record Used : Type 0 where
  pub number : ℕ
  pub owner : ℕ
  pub index : ℕ
  pub bytes : List ℕ

-- how many chunks there are, and the used ones in the order of their last use
pub record Chunks : Type 0 where
  pub size : ℕ
  pub used : List Used

abbrev pub numbers : List Used → List ℕ
numbers us = map (λ u. u.number) us

abbrev pub is_in : ℕ → List ℕ → Bool
is_in n ns = list_any (λ m. m == n) ns

abbrev pub is_not : ℕ → ℕ → Bool
is_not c n = not (n == c)

-- no number stands twice
abbrev pub AreDistinct : List ℕ → Type 0
AreDistinct [] = ⊤
AreDistinct (n ∷ ns) = (is_in n ns ≡ false) × AreDistinct ns

-- the chunk of this number
abbrev pub is_chunk : ℕ → Used → Bool
is_chunk c u = u.number == c

abbrev pub is_other : ℕ → Used → Bool
is_other c u = not (is_chunk c u)

abbrev pub IsUsed : ℕ → Chunks → Type 0
IsUsed c p = is_in c (numbers p.used) ≡ true

abbrev pub bytes_found : Option Used → List ℕ
bytes_found None = []
bytes_found (Some u) = u.bytes

-- what is filled of a chunk
abbrev pub bytes_in : ℕ → List Used → List ℕ
bytes_in c us = bytes_found (find (is_chunk c) us)

-- a chunk that was free is used last, with nothing filled
abbrev pub taken : ℕ → ℕ → ℕ → List Used → List Used
taken c owner index us = us ++ record { number = c; owner = owner; index = index; bytes = [] } ∷ []

-- a chunk is free again
abbrev pub given : ℕ → List Used → List Used
given c us = filter (is_other c) us

-- more bytes behind those of a chunk; this alone is no use of it
abbrev pub extended : ℕ → List ℕ → Used → Used
extended c bs u = cond (is_chunk c u) (record u { bytes = u.bytes ++ bs }) u

abbrev pub filled : ℕ → List ℕ → List Used → List Used
filled c bs us = map (extended c bs) us

-- a chunk comes last, as the most recently used
abbrev pub used_last : ℕ → List Used → List Used
used_last c us = filter (is_other c) us ++ filter (is_chunk c) us

-- a place is an owner and an index
abbrev pub place_of : Used → ℕ × ℕ
place_of u = (u.owner, u.index)

abbrev pub is_place : ℕ × ℕ → Used → Bool
is_place at u = (u.owner == at.0) && (u.index == at.1)

abbrev pub is_pinned : List (ℕ × ℕ) → Used → Bool
is_pinned pins u = list_any (λ p. is_place p u) pins

-- the least recently used chunk that is not pinned
abbrev pub oldest_in : List (ℕ × ℕ) → List Used → Option Used
oldest_in pins us = find (λ u. not (is_pinned pins u)) us
