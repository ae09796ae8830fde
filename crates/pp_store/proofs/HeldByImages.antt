-- Whatever a crash leaves holds each entry that is kept: with its head block, its bytes, and no gate open behind them.
use Rattle.std.proofs.Common.{◌≡◌, ℕ, ◌*◌, ◌<◌, true, List, [], ◌∷◌, get_or, Option, Some, None, inl, inr, arith, sym, ap, subst}
use Rattle.std.specs.Prelude.{min}
use Rattle.std.specs.List.{All}
use Rattle.pp_world.specs.Log.{Log}
use Rattle.pp_world.specs.Files.{Files, file_of}
use Rattle.pp_world.specs.Disk.{Bytes, Stored, settled, view_of, LeavesOne, IsLeftBehind}
use Rattle.pp_entry.specs.Texts.{chunks_of}
use Rattle.pp_gate.specs.Files.{body, Sent}
use Rattle.pp_gate.specs.Seal.{IsKept, IsHonest}
use Rattle.pp_gate.proofs.GateLemmas.{honest_between}
use Rattle.pp_gate.proofs.Images.{settled_leaves}
use Rattle.pp_store.specs.Kept.{Kept, KeptMap, IsExtent, name_at, block_of}
use Rattle.pp_store.specs.Held.{IsHeld, Holds}

-- the file of an entry: as many of its first gates are open as chunks are kept, and no others
pub record IsFile (sent : Sent) (row : Kept) (file : Option Bytes) : Type 0 where
  pub bytes : Bytes
  pub is : file ≡ Some bytes
  pub kept : IsKept (block_of row.entry) row.entry.version.length (chunks_of row.extent) bytes
  pub holds : (offset : ℕ) → offset < min row.entry.version.length (4096 * chunks_of row.extent) → sent (block_of row.entry) offset (body row.entry.version.length bytes offset) ≡ true

only_file : (bytes : Bytes) (slot : List (Option Stored)) (file : Option Bytes) → slot ≡ Some (settled bytes) ∷ [] → LeavesOne slot file → file ≡ Some bytes
only_file bytes slot file is left = by file (subst (λ (s : List (Option Stored)). LeavesOne s file) is left)
  where
    by : (file : Option Bytes) → LeavesOne (Some (settled bytes) ∷ []) file → file ≡ Some bytes
    by None (inl bad) = absurd bad
    by None (inr bad) = absurd bad
    by (Some c) (inl left) = ap (λ (b : Bytes). Some b) (settled_leaves bytes c left)
    by (Some c) (inr bad) = absurd bad

file_left : (sent : Sent) (row : Kept) (l : Log) (files : Files) → IsHeld sent l row → IsLeftBehind l files → IsFile sent row (file_of (name_at row) files)
file_left sent row l files held left = record {
  bytes = held.keeps.bytes;
  is = only_file held.keeps.bytes (view_of (name_at row) l).slot (file_of (name_at row) files) held.keeps.slot (left (name_at row));
  kept = held.keeps.kept;
  holds = held.keeps.holds;
}

pub held_by_images : (sent : Sent) (store : KeptMap) (l : Log) (files : Files) → Holds sent store l → IsLeftBehind l files → All (λ row. IsFile sent row (file_of (name_at row) files)) store.rows
held_by_images sent store l files held left i d lt = file_left sent (get_or store.rows i d) l files (held.rows i d lt) left

-- so it is an entry of just this extent that holds only what was sent
pub file_honest : (sent : Sent) (row : Kept) (file : Option Bytes) → IsExtent row.entry.version.length row.extent → IsFile sent row file → IsHonest sent (block_of row.entry) row.entry.version.length row.extent file
file_honest sent row file whole f =
    let P : ℕ → Type 0 = λ least. IsHonest sent (block_of row.entry) row.entry.version.length least (Some f.bytes) in
    subst (λ (o : Option Bytes). IsHonest sent (block_of row.entry) row.entry.version.length row.extent o) (sym f.is)
    (subst P whole (honest_between sent (block_of row.entry) row.entry.version.length (chunks_of row.extent) (chunks_of row.extent) f.bytes (omega arith) f.kept.within f.kept.head f.kept.is_open f.kept.is_closed f.kept.long f.kept.short f.holds))
