-- Where a chunk stands in a file.
use Rattle.std.proofs.Common.{ℕ, ◌+◌, ◌*◌, ◌<◌, ◌≤◌, ◌^◌, ◌≡◌, arith}
use Rattle.pp_entry.specs.Texts.{body_at}
use Rattle.pp_gate.proofs.PlaceLemmas.{body_within}

pub place_fits : (n at index : ℕ) → n ≤ 2 ^ 26 → 4096 * index < n → at ≡ body_at n → at + 4096 * index < 2 ^ 64
place_fits n at index small below is = omega (arith, body_within n small, small, below, is)
