-- An entry's file: a head block, the gates, one byte a chunk, and the body.
use Rattle.std.specs.Prelude.{◌≡◌, ◌<◌, ◌≤◌, ℕ, ◌+◌, ◌-◌, ◌*◌, Bool, true, min, [], ◌++◌, length, take, drop, replicate, slice_index}
use Rattle.pp_world.specs.Disk.{Bytes}
use Rattle.pp_entry.specs.Gates.{leading_open}
use Rattle.pp_entry.specs.Texts.{body_at, chunks_of}

-- of a head block, which byte may stand at an offset of its body
abbrev pub Sent : Type 0
Sent = Bytes → ℕ → ℕ → Bool

unfoldable pub open_gates : ℕ → Bytes → ℕ
open_gates n file = leading_open (take (chunks_of n) (drop 8192 file))

-- how many bytes of a body of this length are kept
unfoldable pub extent_in : ℕ → Bytes → ℕ
extent_in n file = min n (4096 * open_gates n file)

unfoldable pub gate : Bytes → ℕ → ℕ
gate file i = slice_index file (8192 + i)

unfoldable pub body : ℕ → Bytes → ℕ → ℕ
body n file offset = slice_index file (body_at n + offset)

-- the file of an entry that keeps these first bytes of a body of n bytes: the head block, an open gate for each of their
-- chunks, zeros up to where the body stands, and the bytes
unfoldable pub whole_file : Bytes → ℕ → Bytes → Bytes
whole_file block n kept = block ++ (replicate (chunks_of (length kept)) 1 ++ (replicate (body_at n - 8192 - chunks_of (length kept)) 0 ++ kept))

-- of one that keeps none
abbrev pub fresh_file : Bytes → ℕ → Bytes
fresh_file block n = whole_file block n []

-- the file is an entry with this head block, of a body of this length: it has all that is kept, and nothing behind the body
pub record IsEntry (block : Bytes) (n : ℕ) (file : Bytes) : Type 0 where
  pub head : take 8192 file ≡ block
  pub long : body_at n + extent_in n file ≤ length file
  pub short : length file ≤ body_at n + n

-- each byte that is kept is one that was sent
abbrev pub HoldsSent : Sent → Bytes → ℕ → Bytes → Type 0
HoldsSent sent block n file = (offset : ℕ) → offset < extent_in n file → sent block offset (body n file offset) ≡ true
