-- What a chunk that is read back changes of the law's state: its own place in memory alone.
use Rattle.std.proofs.Common.{◌≡◌, ◌⊎◌, ◌<◌, inr, refl, sym, subst, ap, ap₂, ◌∙◌, ℕ, ◌-◌, ◌*◌, Bool, true, false, ◌==◌, ◌&&◌, not, cond, find, length, min, List, [], ◌∷◌, Option, Some, None}
use Rattle.pp_cache_law.proofs.Finds.{find_joined, find_kept, find_out, first_of_two}
use Rattle.pp_cache_law.proofs.Numbers.{is_same, same_test, some_is}
use Rattle.pp_law.specs.Chunks.{chunk_bytes, filled, is_chunk, note_use, put_chunk}
use Rattle.pp_law.specs.Lists.{Bytes, without}
use Rattle.pp_law.specs.State.{State, Chunk, Entry, Instance as Known}
use Rattle.pp_law.specs.Store.{chunk_in_file, load, load_from}
use Rattle.pp_law.specs.Table.{extent_of, instance, kept_row, row}
use Rattle.pp_seats_law.proofs.Nexts.{found_number}
use Rattle.pp_store.specs.Kept.{KeptMap}
use Rattle.pp_events_law.proofs.Lists.{off_by}
use Rattle.pp_events_law.specs.ReadsBack.{IsLoaded}
use Rattle.pp_events_law.specs.ToLoad.{StandsOnDisk}

-- ---- a chunk in its place

abbrev new_chunk : ℕ → ℕ → Bytes → Chunk
new_chunk id i bytes = record { instance = id; index = i; bytes = bytes }

pub put_there : (id i : ℕ) (bytes : Bytes) (ds : List Chunk) → chunk_bytes id i (put_chunk id i bytes ds) ≡ bytes
put_there id i bytes ds =
    ap (λ (o : Option Chunk). bytes_in o)
    (find_joined (is_chunk id i) (without (is_chunk id i) ds) (new_chunk id i bytes ∷ [])
    ∙ ap (λ (o : Option Chunk). first_of_two o (find (is_chunk id i) (new_chunk id i bytes ∷ []))) (find_out (is_chunk id i) (λ d. not (is_chunk id i d)) ds (λ d out. off_by (is_chunk id i d) out))
    ∙ ap₂ (λ (a b : Bool). cond (a && b) (Some (new_chunk id i bytes)) None) (same_test id id refl) (same_test i i refl))
  where
    bytes_in : Option Chunk → Bytes
    bytes_in o = elim o as (λ t. Bytes) [ None ↦ [] | Some d ↦ d.bytes ]

-- of another place
pub put_elsewhere : (id i k j : ℕ) (bytes : Bytes) (ds : List Chunk) → ((id == k) && (i == j)) ≡ false → chunk_bytes k j (put_chunk id i bytes ds) ≡ chunk_bytes k j ds
put_elsewhere id i k j bytes ds apart =
    ap (λ (o : Option Chunk). elim o as (λ t. Bytes) [ None ↦ [] | Some d ↦ d.bytes ])
    (find_joined (is_chunk k j) (without (is_chunk id i) ds) (new_chunk id i bytes ∷ [])
    ∙ ap (λ (o : Option Chunk). first_of_two o (find (is_chunk k j) (new_chunk id i bytes ∷ []))) (find_kept (is_chunk k j) (λ d. not (is_chunk id i d)) ds other)
    ∙ ap (λ (b : Bool). first_of_two (find (is_chunk k j) ds) (cond b (Some (new_chunk id i bytes)) None)) apart
    ∙ or_none (find (is_chunk k j) ds))
  where
    or_none : (o : Option Chunk) → first_of_two o None ≡ o
    or_none None = refl
    or_none (Some d) = refl

    first_of : (a b : Bool) → (a && b) ≡ true → a ≡ true
    first_of true b is = refl
    first_of false b is = is

    second_of : (a b : Bool) → (a && b) ≡ true → b ≡ true
    second_of true b is = is
    second_of false b is = absurd (cc is)

    swapped : (a b : ℕ) → (a == b) ≡ (b == a)
    swapped a b = by (a == b) refl (b == a) refl
      where
        by : (x : Bool) → (a == b) ≡ x → (y : Bool) → (b == a) ≡ y → (a == b) ≡ (b == a)
        by true one true two = one ∙ sym two
        by false one false two = one ∙ sym two
        by true one false two = absurd (let both : true ≡ false = sym (same_test b a (sym (is_same a b one))) ∙ two in cc both)
        by false one true two = absurd (let both : true ≡ false = sym (same_test a b (sym (is_same b a two))) ∙ one in cc both)

    other : (d : Chunk) → is_chunk k j d ≡ true → not (is_chunk id i d) ≡ true
    other d is =
        let at : d.instance ≡ k = is_same d.instance k (first_of (d.instance == k) (d.index == j) is) in
        let index : d.index ≡ j = is_same d.index j (second_of (d.instance == k) (d.index == j) is) in
        ap (λ (b : Bool). not b) (ap₂ (λ (a b : ℕ). (a == id) && (b == i)) at index ∙ ap₂ (λ (a b : Bool). a && b) (swapped k id) (swapped j i) ∙ apart)

-- ---- the law's state

-- the bytes of the file, in the place of their chunk
abbrev pub with_chunk : Known → ℕ → Bytes → State → State
with_chunk x index bytes s = note_use (record s { chunks = put_chunk x.id index bytes s.chunks })

pub load_is : (s : State) (x : Known) (e : Entry) (index : ℕ) → row s x.key ≡ Some x → kept_row s x.key ≡ Some e → load x.key index s ≡ with_chunk x index (chunk_in_file s e index) s
unfolding load load_from
load_is s x e index stands kept =
    ap (λ (r : Option Known). elim r as (λ t. State) [ None ↦ s | Some y ↦ elim (kept_row s x.key) as (λ t. State) [ None ↦ s | Some d ↦ load_from y d index s ] ]) stands
    ∙ ap (λ (o : Option Entry). elim o as (λ t. State) [ None ↦ s | Some d ↦ load_from x d index s ]) kept

pub only_chunks : (x : Known) (index : ℕ) (bytes : Bytes) (s : State) → IsLoaded s (with_chunk x index bytes s)
unfolding note_use
only_chunks x index bytes s = refl

pub its_chunks : (x : Known) (index : ℕ) (bytes : Bytes) (s : State) → (with_chunk x index bytes s).chunks ≡ put_chunk x.id index bytes s.chunks
unfolding note_use
its_chunks x index bytes s = refl

-- ---- what stands of the disk

module _ (shelf : KeptMap) (s : State) (disk : StandsOnDisk shelf s) (id index : ℕ) (x : Known) (bytes : Bytes) (known : instance s id ≡ Some x) (long : length bytes ≡ min 4096 (x.version.length - index * 4096)) where
  its_id : x.id ≡ id
  its_id = found_number s id x known

  abbrev Whole : ℕ → ℕ → ℕ → List Chunk → Type 0
  Whole k j n ds = (filled k j ds ≡ 0) ⊎ (filled k j ds ≡ min 4096 (n - j * 4096))

  whole_so : (k j : ℕ) (y : Known) → instance s k ≡ Some y → j * 4096 < extent_of s y → Whole k j y.version.length (put_chunk x.id index bytes s.chunks)
  whole_so k j y there below = by ((x.id == k) && (index == j)) refl
    where
      first_of : (a b : Bool) → (a && b) ≡ true → a ≡ true
      first_of true b is = refl
      first_of false b is = is

      second_of : (a b : Bool) → (a && b) ≡ true → b ≡ true
      second_of true b is = is
      second_of false b is = absurd (cc is)

      by : (b : Bool) → ((x.id == k) && (index == j)) ≡ b → Whole k j y.version.length (put_chunk x.id index bytes s.chunks)
      by false apart = subst (λ (bs : Bytes). (length bs ≡ 0) ⊎ (length bs ≡ min 4096 (y.version.length - j * 4096))) (sym (put_elsewhere x.id index k j bytes s.chunks apart)) (disk.whole k j y there below)
      by true same =
          let own : x.id ≡ k = is_same x.id k (first_of (x.id == k) (index == j) same) in
          let at : index ≡ j = is_same index j (second_of (x.id == k) (index == j) same) in
          let one : x ≡ y = some_is x y (sym known ∙ ap (λ (n : ℕ). instance s n) (sym its_id ∙ own) ∙ there) in
          inr
          (ap₂ (λ (n i : ℕ). filled n i (put_chunk x.id index bytes s.chunks)) (sym own) (sym at) ∙ ap (λ (bs : Bytes). length bs) (put_there x.id index bytes s.chunks) ∙ long
          ∙ ap₂ (λ (z : Known) (i : ℕ). min 4096 (z.version.length - i * 4096)) one at)

  pub disk_stands : StandsOnDisk shelf (with_chunk x index bytes s)
  unfolding note_use
  disk_stands = record { rests = disk.rests; shows = disk.shows; names = disk.names; alone = disk.alone; versions = disk.versions; whole = whole_so }
