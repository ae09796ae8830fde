-- Chunks behind those that are kept, as the gates count them.
use Rattle.std.proofs.Common.{◌≡◌, ℕ, ◌+◌, ◌-◌, ◌*◌, ◌/◌, ◌<◌, true, List, length, Option, arith, sym, subst}
use Rattle.std.specs.Prelude.{min, IsSome, slice_index}
use Rattle.pp_world.specs.Log.{Log, Told}
use Rattle.pp_world.specs.Disk.{Bytes}
use Rattle.pp_entry.specs.Texts.{chunks_of}
use Rattle.pp_gate.specs.Seal.{IsRun}
use Rattle.pp_store.specs.declared.row.Site.{Site}
use Rattle.pp_store.specs.Kept.{Kept, KeptMap, IsExtent, block_of, kept_of, row_of}
use Rattle.pp_store.specs.Views.{site_of}
use Rattle.pp_gate.specs.Files.{Sent}
use Rattle.pp_store.specs.Held.{Holds, IsHeld, IsMore, IsOnDisk, IsReadable}
use Rattle.pp_store.proofs.Lists.{All-found}
use Rattle.pp_store.proofs.Names.{found_row}
use Rattle.pp_store.proofs.Running.{told_map}
use Rattle.pp_store.specs.Kept.{is_of}

-- what is kept ends with a whole chunk where more of the body comes
whole_chunks : (n extent len : ℕ) → IsExtent n extent → IsExtent n (extent + len) → 0 < len → 4096 * chunks_of extent ≡ extent
whole_chunks n extent len here there some = omega (arith, here, there, some)

pub first-is : (n extent len : ℕ) → IsExtent n extent → IsExtent n (extent + len) → 0 < len → extent / 4096 ≡ chunks_of extent
first-is n extent len here there some = omega (arith, whole_chunks n extent len here there some)

pub extent-is : (n extent len : ℕ) → IsExtent n extent → IsExtent n (extent + len) → 0 < len → 4096 * (extent / 4096) ≡ extent
extent-is n extent len here there some = omega (arith, whole_chunks n extent len here there some)

pub count-is : (n extent len : ℕ) → IsExtent n extent → IsExtent n (extent + len) → 0 < len → extent / 4096 + chunks_of len ≡ chunks_of (extent + len)
count-is n extent len here there some = omega (arith, extent-is n extent len here there some)

pub least-is : (n extent len : ℕ) → IsExtent n extent → IsExtent n (extent + len) → 0 < len → min n (4096 * (extent / 4096)) ≡ extent
least-is n extent len here there some = omega (arith, extent-is n extent len here there some, there)

size-is : (n extent len : ℕ) → IsExtent n extent → IsExtent n (extent + len) → 0 < len → len ≡ min n (4096 * (extent / 4096 + chunks_of len)) - 4096 * (extent / 4096)
size-is n extent len here there some = omega (arith, extent-is n extent len here there some, count-is n extent len here there some, there)

body-is : (n extent len : ℕ) → IsExtent n extent → IsExtent n (extent + len) → 0 < len → 4096 * (extent / 4096 + chunks_of len - 1) < n
body-is n extent len here there some = omega (arith, extent-is n extent len here there some, there, some)

pub run-is : (sent : Sent) (row : Kept) (bytes : Bytes) → IsExtent row.entry.version.length row.extent → IsMore sent row bytes
    → IsRun sent (block_of row.entry) row.entry.version.length (row.extent / 4096) (chunks_of (length bytes)) bytes
run-is sent row bytes here more = record {
  some = omega (arith, more.some);
  few = omega (arith, more.few);
  size = size-is row.entry.version.length row.extent (length bytes) here more.whole more.some;
  in_body = body-is row.entry.version.length row.extent (length bytes) here more.whole more.some;
  sent_all = λ offset lt. subst (λ (e : ℕ). sent (block_of row.entry) (e + offset) (slice_index bytes offset) ≡ true) (sym (extent-is row.entry.version.length row.extent (length bytes) here more.whole more.some)) (more.sent_all offset lt);
}

-- the entry of a key is held
pub row_held : (log : Option Log) (sent : Sent) (store : KeptMap) (key : List ℕ) → IsSome (kept_of key store) → Told log (Holds sent store) → Told log (λ l. IsHeld sent l (row_of key store))
row_held log sent store key kept told = told_map log (Holds sent store) (λ l. IsHeld sent l (row_of key store)) told
    (λ l held. All-found (is_of key) (IsHeld sent l) store.rows (row_of key store) held.rows (found_row key store kept))

pub row_on_disk : (log : Option Log) (sent : Sent) (store : KeptMap) (key : List ℕ) → IsSome (kept_of key store) → Told log (Holds sent store) → Told log (IsOnDisk sent (row_of key store))
row_on_disk log sent store key kept told = told_map log (λ l. IsHeld sent l (row_of key store)) (IsOnDisk sent (row_of key store)) (row_held log sent store key kept told) (λ l held. held.keeps)

pub row_reads : (log : Option Log) (sent : Sent) (store : KeptMap) (key : List ℕ) → IsSome (kept_of key store) → Told log (Holds sent store) → Told log (λ l. IsReadable (row_of key store).entry)
row_reads log sent store key kept told = told_map log (λ l. IsHeld sent l (row_of key store)) (λ l. IsReadable (row_of key store).entry) (row_held log sent store key kept told) (λ l held. held.reads)

-- facts of an entry in other words
pub moved : (P : Bytes → Bytes → ℕ → ℕ → Type 0) (name name' block block' : Bytes) (n n' m m' : ℕ) → name ≡ name' → block ≡ block' → n ≡ n' → m ≡ m' → P name block n m → P name' block' n' m'
moved P name name' block block' n n' m m' names blocks ns ms p =
    subst (λ (x : Bytes). P x block' n' m') names (subst (λ (x : Bytes). P name x n' m') blocks (subst (λ (x : ℕ). P name block x m') ns (subst (λ (x : ℕ). P name block n x) ms p)))

pub site-whole : (row : Kept) (site : Site) → site ≡ site_of row → IsExtent site.length site.extent → IsExtent row.entry.version.length row.extent
site-whole row site is whole = subst (λ (s : Site). IsExtent s.length s.extent) is whole
