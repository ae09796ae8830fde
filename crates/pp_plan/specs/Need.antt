-- Which bytes have to be asked for before a reply can go on (ours: no rule of the standards).
use Rattle.std.specs.Prelude.{ℕ, ◌<◌, ◌≤◌, ◌-◌, ◌*◌, Bool, nat_lt, nat_le, min, if◌then◌else◌, Option, Some, None}

-- what an exchange brings soon enough: at most 256 chunks of 4,096 bytes ahead of what it brings next
abbrev pub is_near : ℕ → ℕ → Bool
is_near from offset = nat_le (offset - from) (256 * 4096)

-- what is asked for begins at the first offset of the chunk that is not held, so that the bytes can join it, and
-- ends with the reply, or before what is held again
abbrev pub need : ℕ → ℕ → ℕ × ℕ → Option (ℕ × ℕ)
need next to hole = if nat_lt next hole.0 then None else Some (hole.0, min hole.1 to)

-- what is asked for has the byte that is wanted, and nothing behind the reply
pub record IsForNext (next to : ℕ) (span : ℕ × ℕ) : Type 0 where
  pub from : span.0 ≤ next
  pub beyond : next < span.1
  pub within : span.1 ≤ to
