-- What is given is what the store asks for.
use Rattle.std.proofs.Common.{◌≡◌, ◌≤◌, ◌⊎◌, inl, inr, ℕ, ◌-◌, ◌*◌, min, length, drop, arith, length-drop, zero-add}
use Rattle.pp_world.specs.Disk.{Bytes}
use Rattle.pp_entry.specs.Texts.{body_at, chunks_of}
use Rattle.pp_gate.specs.Files.{Sent}
use Rattle.pp_gate.specs.Seal.{IsFront}
use Rattle.pp_shelf.specs.Given.{IsWhole, WereSent}

-- nothing of a body, or all of it, is a front of whole chunks
none_or_all : (n len : ℕ) → (len ≡ 0) ⊎ (len ≡ n) → min n (4096 * chunks_of len) ≡ len
none_or_all n len (inl none) = omega arith
none_or_all n len (inr all) = omega arith

behind : (n room : ℕ) → IsWhole n room → (room - body_at n ≡ 0) ⊎ (room - body_at n ≡ n)
behind n room (inl none) = inl (omega arith)
behind n room (inr all) = inr (omega arith)

pub front_of_room : (sent : Sent) (block : Bytes) (n : ℕ) (room : Bytes) → IsWhole n (length room) → WereSent sent block 0 (drop (body_at n) room) → IsFront sent block n (drop (body_at n) room)
front_of_room sent block n room whole sent_all = record {
  whole = rw (length-drop (body_at n) room) (none_or_all n (length room - body_at n) (behind n (length room) whole));
  sent_all = λ offset less. rw zero-add at (sent_all offset less);
}

pub room_reaches : (n room : ℕ) → IsWhole n room → body_at n ≤ room
room_reaches n room (inl none) = omega arith
room_reaches n room (inr all) = omega arith
