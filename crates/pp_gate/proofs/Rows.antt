-- A worked entry of a body of 5 bytes: its file, published empty and whole, and the operations that seal its one chunk.
use Rattle.std.proofs.Common.{◌≡◌, [], ◌∷◌, ◌++◌, replicate, refl, codes}
use Rattle.pp_world.specs.declared.op.DiskOp.TheVariants.{Draft, SyncDraft, Publish, Write, Sync}
use Rattle.pp_world.specs.Disk.{Bytes}
use Rattle.pp_entry.specs.Texts.{body_at}
use Rattle.pp_gate.specs.Files.{extent_in, fresh_file, open_gates, whole_file}
use Rattle.pp_gate.specs.Gate.{publish_ops}
use Rattle.pp_gate.specs.Seal.{seal_ops}

block : Bytes
block = replicate 8192 104

name : Bytes
name = replicate 32 48

empty : fresh_file block 5 ≡ block ++ replicate 4096 0
unfolding whole_file body_at block
empty = refl

whole : whole_file block 5 (codes "hello") ≡ block ++ (1 ∷ replicate 4095 0) ++ codes "hello"
unfolding whole_file body_at block
whole = refl

extents : extent_in 5 (fresh_file block 5) ∷ extent_in 5 (whole_file block 5 (codes "hello")) ∷ [] ≡ 0 ∷ 5 ∷ []
unfolding whole_file body_at block extent_in open_gates
extents = refl

published : publish_ops name (codes "a file") ≡ Draft (codes "a file") ∷ SyncDraft ∷ Publish name ∷ []
published = refl

sealed : seal_ops name 5 0 1 (codes "hello") ≡ Write name 12288 (codes "hello") ∷ Sync name ∷ Write name 8192 (1 ∷ []) ∷ Sync name ∷ []
unfolding body_at
sealed = refl

-- the second chunk and the third of a body of 10,000 bytes: both gates are opened by one write
run : seal_ops name 10000 1 2 (replicate 5904 7) ≡ Write name 16384 (replicate 5904 7) ∷ Sync name ∷ Write name 8193 (1 ∷ 1 ∷ []) ∷ Sync name ∷ []
unfolding body_at
run = refl
