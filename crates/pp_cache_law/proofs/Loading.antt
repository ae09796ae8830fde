-- A chunk that is read back stands in memory as the law has it.
use Rattle.std.proofs.Common.{◌≡◌, ◌<◌, ◌≤◌, ◌+◌, ◌-◌, ◌*◌, ◌/◌, ◌%◌, min, refl, sym, subst, ap, ◌∙◌, ℕ, zero, suc, Bool, true, false, List, [], ◌∷◌, ◌++◌, length, take, drop, Option, Some, None, arith}
use Rattle.std.specs.Prelude.{nat_le}
use Rattle.std.proofs.lemmas.Bool.Decides.{nat_tests}
use Rattle.std.proofs.lemmas.List.{length-drop, length-take, take-append-drop, take_all}
use Rattle.pp_cache.specs.Memory.{Memory}
use Rattle.pp_cache.specs.OnDisk.{grown_by}
use Rattle.pp_holes.specs.Adding.{added, room_at}
use Rattle.pp_holes.specs.Places.{Chunk, bytes_at}
use Rattle.pp_law.specs.Chunks.{chunk_bytes, filled, join_run as law_join_run, join_runs, joining as law_joining, note_use, put_chunk, put_joining}
use Rattle.pp_law.specs.Lists.{Bytes}
use Rattle.pp_law.specs.State.{State, Entry, Instance as Known, Chunk as Front}
use Rattle.pp_law.specs.Store.{chunk_in_file, load, load_from}
use Rattle.pp_law.specs.Table.{kept_row}
use Rattle.pp_text.specs.Bytes.{is_empty}
use Rattle.pp_cache_law.specs.Joins.{LoadsAreTheLaws}
use Rattle.pp_cache_law.specs.Tables.{ShowsCache, number_in}
use Rattle.pp_cache_law.proofs.Alike.{bytes_in_chunks}
use Rattle.pp_cache_law.proofs.Changed.{its_number}
use Rattle.pp_cache_law.proofs.Faces.{followed-faced, table-faced}
use Rattle.pp_cache_law.proofs.Framing.{table-again, the_same}
use Rattle.pp_cache_law.proofs.Joined.{Both, all_alike, not_less}
use Rattle.pp_cache_law.proofs.Numbers.{number_of_there}
use Rattle.pp_cache_law.proofs.Touching.{with_chunks}

-- ---- a chunk that begins at its first offset

at_begin : (i : ℕ) → i * 4096 % 4096 ≡ 0
at_begin i = omega arith

its_index : (i : ℕ) → i * 4096 / 4096 ≡ i
its_index i = omega arith

within : (i n : ℕ) → n ≤ 4096 → n ≤ room_at (i * 4096)
within i n few = omega (arith, few)

some_front : (n : ℕ) → nat_le 0 n ≡ true
some_front n = grind (arith, nat_tests)

not_empty : (xs : Bytes) → 0 < length xs → is_empty xs ≡ false
not_empty [] some = absurd (omega (arith, some))
not_empty (x ∷ xs) some = refl

more_there : (front l r : ℕ) → r ≡ l - front → front < l → 0 < r
more_there front l r is less = omega (arith, is, less)

joined_whole : (n i : ℕ) (c : Bytes) (ds : List Front) → chunk_bytes n i ds ≡ take (filled n i ds) c → filled n i ds < length c → put_joining n i (law_joining 0 (filled n i ds) c) ds ≡ put_chunk n i c ds
joined_whole n i c ds front less =
    ap (λ (b : Bool). put_joining n i (elim b as (λ t. Bytes) [ true ↦ drop (filled n i ds - 0) c | false ↦ [] ]) ds) (some_front (filled n i ds))
    ∙ ap (λ (k : ℕ). put_joining n i (drop k c) ds) (let e : filled n i ds - 0 ≡ filled n i ds = omega arith in e)
    ∙ ap (λ (b : Bool). elim b as (λ t. List Front) [ true ↦ ds | false ↦ put_chunk n i (chunk_bytes n i ds ++ drop (filled n i ds) c) ds ])
    (not_empty (drop (filled n i ds) c) (more_there (filled n i ds) (length c) (length (drop (filled n i ds) c)) (length-drop (filled n i ds) c) less))
    ∙ ap (λ (xs : Bytes). put_chunk n i (xs ++ drop (filled n i ds) c) ds) front
    ∙ ap (λ (xs : Bytes). put_chunk n i xs ds) (take-append-drop (filled n i ds) c)

run_whole : (n i : ℕ) (c : Bytes) (ds : List Front) → chunk_bytes n i ds ≡ take (filled n i ds) c → filled n i ds < length c → law_join_run n 0 (i * 4096) c ds ≡ put_chunk n i c ds
run_whole n i c ds front less =
    ap (λ (b : Bool). elim b as (λ t. List Front) [ true ↦ ds | false ↦ put_joining n (i * 4096 / 4096) (law_joining (i * 4096 % 4096) (filled n (i * 4096 / 4096) ds) c) ds ]) (not_less (i * 4096) 0 (omega arith))
    ∙ ap (λ (k : ℕ). put_joining n k (law_joining (i * 4096 % 4096) (filled n k ds) c) ds) (its_index i)
    ∙ ap (λ (k : ℕ). put_joining n i (law_joining k (filled n i ds) c) ds) (at_begin i)
    ∙ joined_whole n i c ds front less

runs_whole : (n i : ℕ) (c : Bytes) (ds : List Front) → length c ≤ 4096 → chunk_bytes n i ds ≡ take (filled n i ds) c → filled n i ds < length c → join_runs (suc zero) n 0 (i * 4096) c ds ≡ put_chunk n i c ds
runs_whole n i [] ds few front less = absurd (omega (arith, less))
runs_whole n i (b ∷ bs) ds few front less =
    ap (λ (run : Bytes). law_join_run n 0 (i * 4096) run ds) (take_all (room_at (i * 4096)) (b ∷ bs) (within i (length (b ∷ bs)) few))
    ∙ run_whole n i (b ∷ bs) ds front less

loads_alike : (number : ℕ → ℕ) (m : Memory) (slot n i size : ℕ) (c : Bytes) (cs : List Chunk) (ds : List Front) → Both number m cs ds → length c ≤ 4096 → chunk_bytes n i ds ≡ take (filled n i ds) c → filled n i ds < length c
    → (Both number m cs ds → Both number m (added size slot (i * 4096) c cs).chunks (join_runs (suc zero) n 0 (i * 4096) c ds)) → Both number m (added size slot (i * 4096) c cs).chunks (put_chunk n i c ds)
loads_alike number m slot n i size c cs ds both few front less to = subst (λ (xs : List Front). Both number m (added size slot (i * 4096) c cs).chunks xs) (runs_whole n i c ds few front less) (to both)

-- ---- the chunk of a file

few_bytes : (k l r : ℕ) → r ≡ min (min 4096 k) l → r ≤ 4096
few_bytes k l r is = omega (arith, is)

few_taken : (k : ℕ) (xs : Bytes) → length (take (min 4096 k) xs) ≤ 4096
few_taken k xs = few_bytes k (length xs) (length (take (min 4096 k) xs)) (length-take (min 4096 k) xs)

chunk_short : (s : State) (e : Entry) (i : ℕ) → length (chunk_in_file s e i) ≤ 4096
chunk_short s e i = few_taken (e.version.length - i * 4096) _

fits_one : (i n : ℕ) → n ≤ 4096 → i * 4096 % 4096 + n ≤ suc zero * 4096
fits_one i n few = omega (arith, few)

pub loads_of : LoadsAreTheLaws
unfolding load load_from note_use
loads_of number m s shows is id x e i there known standing kept front less whole same =
    subst (λ (u : Option Known). ShowsCache number after_m (elim u as (λ o. State) [ None ↦ s | Some y ↦ elim (kept_row s x.key) as (λ o. State) [ None ↦ s | Some f ↦ load_from y f i s ] ])) (sym standing)
    (subst (λ (o : Option Entry). ShowsCache number after_m (elim o as (λ o. State) [ None ↦ s | Some f ↦ load_from x f i s ])) (sym kept)
    (record {
      table =
          table-again number (record m { instances = is; chunks = cs }) after_m (record s { chunks = ds }) (note_use (record s { chunks = ds }))
          (record { instances = refl; lives = refl; chunks = refl; extents = refl })
          (record { instances = refl; made = the_same s.next_instance; chunks = refl; followers = λ n. refl; kept = λ y. refl })
          (table-faced number (record m { chunks = cs }) (record s { chunks = ds }) is same (with_chunks number m s cs ds shows.table both.shows both.once));
      followed = followed-faced is m.instances same shows.followed;
      ahead = shows.ahead;
    }))
  where
    c : Bytes
    c = chunk_in_file s e i

    cs : List Chunk
    cs = (added m.size id.slot (i * 4096) c m.chunks).chunks

    ds : List Front
    ds = put_chunk x.id i c s.chunks

    after_m : Memory
    after_m = record m { instances = is; chunks = cs; grown = grown_by id m.grown }

    at : number_in number id.slot m.instances ≡ Some x.id
    at = number_of_there number id m.instances there ∙ ap (λ (n : ℕ). Some n) (its_number number m s id x shows.table there known)

    bytes : bytes_at (id.slot, i) m.chunks ≡ chunk_bytes x.id i s.chunks
    bytes = bytes_in_chunks number m id.slot x.id i m.chunks s.chunks shows.table.apart at shows.table.chunks

    both : Both number m cs ds
    both =
        loads_alike number m id.slot x.id i m.size c m.chunks s.chunks (record { shows = shows.table.chunks; once = shows.table.once }) (chunk_short s e i)
        (sym bytes ∙ front ∙ ap (λ (xs : Bytes). take (length xs) c) bytes) (subst (λ (xs : Bytes). length xs < length c) bytes less)
        (λ before. all_alike number m id.slot x.id 0 m.size (length c) (suc zero) (i * 4096) c m.chunks 0 0 s.chunks shows.table.apart at (omega arith) (the_same (length c)) (fits_one i (length c) (chunk_short s e i)) whole before)
