-- Bytes of a response join an instance (RFC 7233, section 4.3: parts of one representation are combined).
use Rattle.std.specs.Prelude.{ℕ, ◌+◌, ◌-◌, ◌/◌, ◌%◌, Bool, true, false, ◌||◌, ◌&&◌, not, cond, nat_le, List, [], ◌∷◌, length, take, drop, fold, zero, suc}
use Rattle.pp_text.specs.Bytes.{is_empty}
use Rattle.pp_holes.specs.Places.{Chunk, bytes_at, joined}

-- a run is an offset, and bytes from there on that lie in one chunk
abbrev pub Run : Type 0
Run = ℕ × List ℕ

-- how many bytes stand from an offset to the end of its chunk
abbrev pub room_at : ℕ → ℕ
room_at at = 4096 - at % 4096

-- there are at most so many runs in the bytes
abbrev pub runs_up_to : ℕ → ℕ → List ℕ → List Run
runs_up_to zero at bytes = []
runs_up_to (suc n) at [] = []
runs_up_to (suc n) at (b ∷ bytes) =
    (at, take (room_at at) (b ∷ bytes)) ∷ runs_up_to n (at + room_at at) (drop (room_at at) (b ∷ bytes))

-- the bytes from an offset on, cut at the ends of the chunks
abbrev pub runs : ℕ → List ℕ → List Run
runs at bytes = runs_up_to (length bytes) at bytes

-- ours: a byte joins where its offset begins a chunk or follows an offset in memory, and is not in memory
-- itself; so, of a run, what lies behind the front that is held, and nothing where the run begins behind a gap
abbrev pub joining : ℕ → ℕ → List ℕ → List ℕ
joining at front run = cond (nat_le at front) (drop (front - at) run) []

abbrev pub part_of_run : ℕ → Run → List Chunk → List ℕ
part_of_run owner run cs = joining (run.0 % 4096) (length (bytes_at (owner, run.0 / 4096) cs)) run.1

abbrev pub joined_if : ℕ × ℕ → List ℕ → List Chunk → List Chunk
joined_if at [] cs = cs
joined_if at (b ∷ bs) cs = joined at (b ∷ bs) cs

abbrev pub join_run : ℕ → Run → List Chunk → List Chunk
join_run owner run cs = joined_if (owner, run.0 / 4096) (part_of_run owner run cs) cs

-- a byte of the run needs a new chunk, and none is free
abbrev pub is_stopped : ℕ → ℕ → Run → List Chunk → Bool
is_stopped size owner run cs =
    not (is_empty (part_of_run owner run cs)) && (is_empty (bytes_at (owner, run.0 / 4096) cs) && nat_le size (length cs))

-- how far adding came: the chunks then, how many bytes joined, how many were passed over, and
-- whether it stopped
pub record Adding : Type 0 where
  pub chunks : List Chunk
  pub joined : ℕ
  pub ignored : ℕ
  pub need_chunk : Bool

abbrev pub add_run : ℕ → ℕ → Adding → Run → Adding
add_run size owner a run =
    cond (a.need_chunk || is_stopped size owner run a.chunks)
    (record a { need_chunk = true })
    (record {
      chunks = join_run owner run a.chunks;
      joined = a.joined + length (part_of_run owner run a.chunks);
      ignored = a.ignored + (length run.1 - length (part_of_run owner run a.chunks));
      need_chunk = false;
    })

abbrev pub add_runs : ℕ → ℕ → Adding → List Run → Adding
add_runs size owner a rs = fold (add_run size owner) a rs

-- bytes are added from the front, in a pool of this size, until one needs a chunk and none is free
abbrev pub added : ℕ → ℕ → ℕ → List ℕ → List Chunk → Adding
added size owner at bytes cs =
    add_runs size owner (record { chunks = cs; joined = 0; ignored = 0; need_chunk = false }) (runs at bytes)
