-- Where the parts of a file stand.
use Rattle.std.proofs.Common.{◌≡◌, ℕ, ◌+◌, ◌-◌, ◌≤◌, ◌^◌, ◌++◌, length, take, drop, replicate, sym, ◌∙◌, ap, arith, append_assoc, length-append}
use Rattle.std.proofs.Math.ListN.{length-replicate}
use Rattle.std.proofs.Math.Seq.{take-append_seam}
use Rattle.std.proofs.lemmas.Slice.{drop-append-drop}
use Rattle.pp_world.specs.Disk.{Bytes}
use Rattle.pp_entry.specs.Texts.{body_at, chunks_of}

-- the gates stand before the body, and both behind the head block
pub gates_below : (n : ℕ) → 8192 + chunks_of n ≤ body_at n
unfolding body_at
gates_below n = omega arith

pub body_within : (n : ℕ) → n ≤ 2 ^ 26 → body_at n ≤ 24576
unfolding body_at
body_within n le = omega (arith, le)

-- a head block, open gates and closed ones that were written over the front of a file, one behind the other
module _ (block room : Bytes) (at count end : ℕ) (full : length block ≡ 8192) (ends : end ≡ 8192 + count) (within : end ≤ at) where
  ones : Bytes
  ones = replicate count 1

  front : Bytes
  front = block ++ ones

  length-front : length front ≡ end
  unfolding front ones
  length-front = omega (arith, length-append block (replicate {A = ℕ} count 1), length-replicate {A = ℕ} count 1, full, ends)

  opened : (put : Bytes) → put ≡ block ++ drop 8192 room → take 8192 put ++ (replicate (end - 8192) 1 ++ drop end put) ≡ front ++ drop end room
  unfolding front ones
  opened put is =
      let head : take 8192 put ≡ block = ap (take 8192) is ∙ ap (λ (k : ℕ). take k (block ++ drop 8192 room)) (sym full) ∙ take-append_seam block (drop 8192 room) in
      let gates : replicate {A = ℕ} (end - 8192) 1 ≡ replicate count 1 = ap (λ (k : ℕ). replicate {A = ℕ} k 1) (few ends) in
      let behind : drop end put ≡ drop end room = ap (drop end) is ∙ drop-append-drop 8192 room block end (omega (arith, ends)) full in
      ap (λ (t : Bytes). t ++ (replicate (end - 8192) 1 ++ drop end put)) head
      ∙ ap (λ (t : Bytes). block ++ (t ++ drop end put)) gates
      ∙ ap (λ (t : Bytes). block ++ (replicate count 1 ++ t)) behind
      ∙ sym (append_assoc block (replicate count 1) (drop end room))
    where
      few : end ≡ 8192 + count → end - 8192 ≡ count
      few is = omega (arith, is)

  pub laid : (put gated all : Bytes) → put ≡ block ++ drop 8192 room → gated ≡ take 8192 put ++ (replicate (end - 8192) 1 ++ drop end put) → all ≡ take end gated ++ (replicate (at - end) 0 ++ drop at gated)
      → all ≡ block ++ (replicate count 1 ++ (replicate (at - 8192 - count) 0 ++ drop at room))
  unfolding front ones
  laid put gated all is then last =
      let now : gated ≡ front ++ drop end room = then ∙ opened put is in
      let head : take end gated ≡ front = ap (take end) now ∙ ap (λ (k : ℕ). take k (front ++ drop end room)) (sym length-front) ∙ take-append_seam front (drop end room) in
      let zeros : replicate {A = ℕ} (at - end) 0 ≡ replicate (at - 8192 - count) 0 = ap (λ (k : ℕ). replicate {A = ℕ} k 0) (rest ends) in
      let behind : drop at gated ≡ drop at room = ap (drop at) now ∙ drop-append-drop end room front at within length-front in
      last
      ∙ ap (λ (t : Bytes). t ++ (replicate (at - end) 0 ++ drop at gated)) head
      ∙ ap (λ (t : Bytes). front ++ (t ++ drop at gated)) zeros
      ∙ ap (λ (t : Bytes). front ++ (replicate (at - 8192 - count) 0 ++ t)) behind
      ∙ append_assoc block (replicate count 1) (replicate (at - 8192 - count) 0 ++ drop at room)
    where
      rest : end ≡ 8192 + count → at - end ≡ at - 8192 - count
      rest is = omega (arith, is)
