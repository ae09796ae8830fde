-- What is said to a client next (RFC 2616, sections 6 and 8.2.3).
use Rattle.std.specs.Prelude.{ℕ, zero, suc, ◌+◌, ◌-◌, ◌*◌, ◌/◌, ◌%◌, Bool, true, false, ◌==◌, ◌&&◌, ◌||◌, not, List, [], ◌++◌, length, take, drop, Some, None}
use Rattle.pp_text.specs.Bytes.{is_empty}
use Rattle.pp_law.specs.Chunks.{chunk_len, chunk_bytes}
use Rattle.pp_law.specs.Lists.{Bytes, is_some_with}
use Rattle.pp_law.specs.Stages.{reply_of, is_passing, passed_of}
use Rattle.pp_law.specs.State.{State, Chunk, Client, Reply}
use Rattle.pp_law.specs.Table.{next_of, Next, is_next_held}

-- what chunks in memory hold from an offset on, without a hole, over so many chunks
abbrev pub run_at : ℕ → ℕ → ℕ → List Chunk → Bytes
run_at zero id at chunks = []
run_at (suc more) id at chunks =
    let bytes = chunk_bytes id (at / chunk_len) chunks in
    drop (at % chunk_len) bytes ++ (elim (length bytes == chunk_len) [
      | true ↦ run_at more id ((at / chunk_len + 1) * chunk_len) chunks
      | false ↦ []
    ])

-- ours: over at most 16 chunks at a time
abbrev pub piece : State → Next → Bytes
piece s n = take (n.to - n.at) (run_at 16 n.source.id n.at s.chunks)

abbrev pub passed_part : Client → Bytes
passed_part c = elim (passed_of c) [ None ↦ [] | Some p ↦ p.pipe.bytes ]

abbrev pub body_part : State → Client → Reply → Bytes
body_part s c r = elim (is_passing r.decision) [
  | true ↦ passed_part c
  | false ↦ elim (next_of s c) [ None ↦ [] | Some n ↦ piece s n ]
]

abbrev pub reply_part : State → Client → Bytes
reply_part s c = elim (reply_of c) [
  | None ↦ []
  | Some r ↦ elim r.has_begun [ false ↦ [] | true ↦ r.head_left ++ body_part s c r ]
]

-- the interim answer; then the head of the reply, and behind it what is there of its body
abbrev pub offer : State → Client → Bytes
offer s c = elim (is_empty c.interim_left) [ false ↦ c.interim_left | true ↦ reply_part s c ]

-- the body is next
abbrev pub is_at_body : Client → Bool
is_at_body c = is_empty c.interim_left && is_some_with (λ r. r.has_begun && is_empty r.head_left) (reply_of c)

-- also where the bytes are on disk alone
abbrev pub has_to_say : State → Client → Bool
has_to_say s c = not (is_empty (offer s c)) || (is_at_body c && is_some_with (is_next_held s) (next_of s c))
