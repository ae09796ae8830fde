-- What sealing chunks asks for, and what it leaves at each moment.
use Rattle.std.specs.Prelude.{◌≡◌, ◌≢◌, ◌⊎◌, ◌<◌, ◌≤◌, ℕ, ◌+◌, ◌-◌, ◌*◌, true, false, min, List, [], ◌∷◌, length, take, replicate, Option, Some, slice_index}
use Rattle.pp_world.specs.declared.op.DiskOp.{DiskOp}
use Rattle.pp_world.specs.declared.op.DiskOp.TheVariants.{Write, Sync}
use Rattle.pp_world.specs.Log.{Log}
use Rattle.pp_world.specs.Disk.{Bytes, View, settled, view_of, LeavesOne}
use Rattle.pp_entry.specs.Texts.{body_at, chunks_of}
use Rattle.pp_gate.specs.Files.{Sent, extent_in, gate, body, IsEntry, HoldsSent}

-- what a file is to hold: its head block, and of each head block which byte may stand at an offset of the body
pub record Claim : Type 0 where
  pub block : Bytes
  pub sent : Sent

-- a file whose first gates are open and no others, and that has their chunks and nothing behind the body
pub record IsKept (block : Bytes) (n gates : ℕ) (file : Bytes) : Type 0 where
  pub head : take 8192 file ≡ block
  pub is_open : (i : ℕ) → i < gates → gate file i ≡ 1
  pub is_closed : (i : ℕ) → gates ≤ i → i < chunks_of n → gate file i ≢ 1
  pub within : gates ≤ chunks_of n
  pub long : body_at n + min n (4096 * gates) ≤ length file
  pub short : length file ≤ body_at n + n

pub record KeepsIn (sent : Sent) (block : Bytes) (n gates : ℕ) (v : View) : Type 0 where
  pub bytes : Bytes
  pub slot : v.slot ≡ Some (settled bytes) ∷ []
  pub sound : v.failed ≡ false
  pub kept : IsKept block n gates bytes
  pub holds : (offset : ℕ) → offset < min n (4096 * gates) → sent block offset (body n bytes offset) ≡ true

-- such a file stands under the name, all of it through a crash, no operation on it failed, and what it keeps was sent
abbrev pub Keeps : Sent → Bytes → Bytes → ℕ → ℕ → Log → Type 0
Keeps sent name block n gates log = KeepsIn sent block n gates (view_of name log)

-- these first bytes of the body were sent: none, or chunks that are whole or end the body
pub record IsFront (sent : Sent) (block : Bytes) (n : ℕ) (kept : Bytes) : Type 0 where
  pub whole : min n (4096 * chunks_of (length kept)) ≡ length kept
  pub sent_all : (offset : ℕ) → offset < length kept → sent block offset (slice_index kept offset) ≡ true

-- from that chunk on these bytes were sent: one to 64 chunks, each whole or ending the body
pub record IsRun (sent : Sent) (block : Bytes) (n first count : ℕ) (bytes : Bytes) : Type 0 where
  pub some : 0 < count
  pub few : count ≤ 64
  pub size : length bytes ≡ min n (4096 * (first + count)) - 4096 * first
  pub in_body : 4096 * (first + count - 1) < n
  pub sent_all : (offset : ℕ) → offset < length bytes → sent block (4096 * first + offset) (slice_index bytes offset) ≡ true

-- the gates come after the sync of the chunks: a torn gate would vouch for bytes that were lost
abbrev pub seal_ops : Bytes → ℕ → ℕ → ℕ → Bytes → List DiskOp
seal_ops name n first count bytes =
    Write name (body_at n + 4096 * first) bytes ∷ Sync name ∷ Write name (8192 + first) (replicate count 1) ∷ Sync name ∷ []

-- an entry with this head block, of at least this extent, that holds only what was sent
pub record IsHonest (sent : Sent) (block : Bytes) (n least : ℕ) (file : Option Bytes) : Type 0 where
  pub bytes : Bytes
  pub is : file ≡ Some bytes
  pub entry : IsEntry block n bytes
  pub extent : least ≤ extent_in n bytes
  pub holds : HoldsSent sent block n bytes

-- whatever a crash leaves under the name is such an entry
abbrev pub StaysHonest : Sent → Bytes → Bytes → ℕ → ℕ → Log → Log → Type 0
StaysHonest sent name block n least before log = (file : Option Bytes) → LeavesOne (view_of name log).slot file → IsHonest sent block n least file

-- whatever a crash leaves under the name is what it would have left before the call, or such an entry
abbrev pub OldOrHonest : Sent → Bytes → Bytes → ℕ → ℕ → Log → Log → Type 0
OldOrHonest sent name block n least before log =
    (file : Option Bytes) → LeavesOne (view_of name log).slot file → LeavesOne (view_of name before).slot file ⊎ IsHonest sent block n least file
