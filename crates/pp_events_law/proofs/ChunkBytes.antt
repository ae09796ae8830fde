-- The bytes of a chunk that was read: they are the law's, and as many as the chunk has.
use Rattle.std.proofs.Common.{◌≡◌, ◌<◌, ◌≤◌, sym, subst, ap, ◌∙◌, ℕ, ◌+◌, ◌-◌, ◌*◌, drop, length, min, take, Some, Ok, arith}
use Rattle.std.proofs.lemmas.List.{length-drop, length-take}
use Rattle.pp_desk.specs.Anything.{anything}
use Rattle.pp_entry.specs.Texts.{body_at}
use Rattle.pp_law.specs.Lists.{Bytes}
use Rattle.pp_law.specs.State.{State, Entry}
use Rattle.pp_law.specs.Store.{chunk_in_file}
use Rattle.pp_shelf_law.proofs.Loaded.{loaded_bytes}
use Rattle.pp_shelf_law.specs.Folder.{disk_of}
use Rattle.pp_shelf_law.specs.Shelf.{ShowsEntry}
use Rattle.pp_store.proofs.Lists.{All-found}
use Rattle.pp_store.specs.Held.{Holds, IsHeld}
use Rattle.pp_store.specs.Kept.{IsExtent, Kept, KeptMap, is_of, kept_of}
use Rattle.pp_store.specs.Loads.{GivesChunk, chunk_len as chunk_of}
use Rattle.pp_valid.specs.declared.version.Version.{Version}
use Rattle.pp_world.specs.Log.{Log}

-- so many bytes are kept of a file that is so long
as_many : (at n extent index long count k r : ℕ) → IsExtent n extent → 4096 * index < extent → at + extent ≤ long → count ≡ min 4096 (n - 4096 * index) → k ≡ long - (at + 4096 * index) → r ≡ min count k → r ≡ count
as_many at n extent index long count k r whole first enough is rest of = omega (arith, whole, first, enough, is, rest, of)

pub record IsChunk (s : State) (e : Entry) (index count : ℕ) (out : Bytes) : Type 0 where
  pub same : take count out ≡ chunk_in_file s e index
  pub long : length (chunk_in_file s e index) ≡ count
  pub few : count ≡ min 4096 (e.version.length - 4096 * index)

pub is_chunk : (shelf : KeptMap) (log : Log) (s : State) (e : Entry) (kept : Kept) (index count : ℕ) (out : Bytes) → Holds anything shelf log → s.disk ≡ disk_of log → kept_of e.key shelf ≡ Some kept → ShowsEntry kept e → 4096 * index < e.extent
    → GivesChunk kept index out (Ok count) log → count ≡ chunk_of kept.entry.version.length index → IsChunk s e index count out
is_chunk shelf log s e kept index count out holds disk there shows first gives count_is = record { same = same; long = ap (λ (bytes : Bytes). length bytes) (sym same) ∙ long; few = count_is ∙ ap (λ (v : Version). min 4096 (v.length - 4096 * index)) shows.version }
  where
    held : IsHeld anything log kept
    held = All-found (is_of e.key) (IsHeld anything log) shelf.rows kept holds.rows there

    same : take count out ≡ chunk_in_file s e index
    same = loaded_bytes anything shelf log s e kept index count out holds disk there shows gives count_is

    file : Bytes
    file = held.keeps.bytes

    from : ℕ
    from = body_at kept.entry.version.length + 4096 * index

    read : take count out ≡ take count (drop from file)
    read = gives file held.keeps.slot

    whole : IsExtent kept.entry.version.length kept.extent
    whole = subst (λ (n : ℕ). IsExtent kept.entry.version.length n) (sym shows.extent) (subst (λ (v : Version). IsExtent v.length e.extent) (sym shows.version) shows.whole)

    enough : body_at kept.entry.version.length + kept.extent ≤ length file
    enough = subst (λ (n : ℕ). body_at kept.entry.version.length + n ≤ length file) whole held.keeps.kept.long

    long : length (take count out) ≡ count
    long =
        ap (λ (bytes : Bytes). length bytes) read
        ∙ as_many (body_at kept.entry.version.length) kept.entry.version.length kept.extent index (length file) count (length (drop from file)) (length (take count (drop from file))) whole (subst (λ (n : ℕ). 4096 * index < n) (sym shows.extent) first) enough count_is
        (length-drop from file) (length-take count (drop from file))
