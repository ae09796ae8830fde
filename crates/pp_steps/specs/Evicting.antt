-- What leaves memory, and what is noted of it: rows that left for others, or that memory was refused for, and chunks, down to the
-- floor (ours).
use Rattle.std.specs.Prelude.{ℕ, zero, suc, Bool, true, false, ◌||◌, not, nat_lt, List, [], ◌∷◌, ◌++◌, length, map, count_by, slice_get, Option, Some, None, option_and_then, option_map}
use Rattle.std.specs.List.{filter_map}
use Rattle.pp_cache.specs.Memory.{all_used}
use Rattle.pp_evict.specs.Victims.{victim_in}
use Rattle.pp_holes.specs.Places.{Chunk, without}
use Rattle.pp_objects.specs.Instances.{Instance, in_slot, is_row}
use Rattle.pp_seats.specs.Seats.{has_key}
use Rattle.pp_world.specs.Log.{Log}
use Rattle.pp_world.specs.declared.happening.Happening.{Happening}
use Rattle.pp_world.specs.declared.happening.Happening.TheVariants.{Noted}
use Rattle.pp_world.specs.declared.note.Decision.{Decision}
use Rattle.pp_world.specs.declared.note.Remark.TheVariants.{Forgotten, Evicted}
use Rattle.pp_state.specs.Pins.{is_for_memory, idle_row, pins, without_instance}
use Rattle.pp_state.specs.declared.state.State.{State}

-- ---- rows

abbrev pub forgotten_note : List ℕ → Happening
forgotten_note key = Noted (Forgotten key)

abbrev pub forgotten_notes : List (List ℕ) → Log
forgotten_notes keys = map forgotten_note keys

abbrev pub row_notes : Option Instance → Log
row_notes None = []
row_notes (Some i) = forgotten_note i.key ∷ []

-- the client at this place asks for that key
abbrev pub is_key_at : ℕ → List ℕ → State → Bool
is_key_at i key s = elim (slice_get s.seats.items i) [ None ↦ false | Some seat ↦ has_key key seat ]

-- the row that came in for its decision stays
abbrev pub unless_own : ℕ → State → Instance → Option Instance
unless_own i s x = elim (is_key_at i x.key s) [ true ↦ None | false ↦ Some x ]

-- where there are more rows than 1,024, the one that is next leaves for it; a decision that refuses for want of memory brings no row in
abbrev pub row_in_way : Decision → ℕ → State → Option Instance
row_in_way d i s = elim (is_for_memory d || not (nat_lt 1024 (count_by is_row s.cache.instances))) [ true ↦ None | false ↦ option_and_then (unless_own i s) (idle_row s) ]

abbrev pub without_row : Option Instance → State → State
without_row None s = s
without_row (Some x) s = record s { cache = without_instance x s.cache }

abbrev pub given_way : Decision → ℕ → State → State
given_way d i s = without_row (row_in_way d i s) s

-- ---- chunks

-- the least recently used one that is not pinned, where more than the floor are used
abbrev pub next_victim : List (ℕ × ℕ) → ℕ → List Chunk → Option (ℕ × ℕ)
next_victim pins floor cs = victim_in pins floor (all_used cs)

-- one after the other, so many at most
abbrev pub victims : ℕ → List (ℕ × ℕ) → ℕ → List Chunk → List (ℕ × ℕ)
victims zero pins floor cs = []
victims (suc more) pins floor cs = elim (next_victim pins floor cs) [ None ↦ [] | Some at ↦ at ∷ victims more pins floor (without at cs) ]

abbrev pub all_victims : List (ℕ × ℕ) → ℕ → List Chunk → List (ℕ × ℕ)
all_victims pins floor cs = victims (length cs) pins floor cs

abbrev pub without_all : List (ℕ × ℕ) → List Chunk → List Chunk
without_all [] cs = cs
without_all (at ∷ more) cs = without_all more (without at cs)

-- by the key and the version of its instance
abbrev pub evicted_note : List Instance → ℕ × ℕ → Option Happening
evicted_note is at = option_map (λ i. Noted (Evicted i.key i.version.tag i.version.length at.1)) (in_slot at.0 is)

abbrev pub evicted_notes : List Instance → List (ℕ × ℕ) → Log
evicted_notes is places = filter_map (evicted_note is) places

-- ---- both, in a turn

-- where the trigger was reached, those that go
abbrev pub leaving_chunks : State → List (ℕ × ℕ)
leaving_chunks s = elim s.is_evicting [ true ↦ all_victims (pins s) s.floor s.cache.chunks | false ↦ [] ]

abbrev pub leaving_notes : State → Log
leaving_notes s = forgotten_notes s.forgotten ++ forgotten_notes s.refused ++ evicted_notes s.cache.instances (leaving_chunks s)

abbrev pub left_memory : State → State
left_memory s = record s { cache = record s.cache { chunks = without_all (leaving_chunks s) s.cache.chunks }; forgotten = []; refused = [] }
