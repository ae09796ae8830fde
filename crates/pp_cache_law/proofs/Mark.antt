-- A read finds its chunks where the law has no more than there may be.
use Rattle.std.proofs.Common.{◌≡◌, ◌<◌, ◌≤◌, ◌+◌, ◌-◌, ◌*◌, ◌/◌, ◌%◌, ◌⊎◌, inl, inr, refl, sym, subst, ap, ◌∙◌, ℕ, zero, suc, Bool, true, false, not, ◌&&◌, cond, List, [], ◌∷◌, ◌++◌, length, take, drop, filter, Some, arith}
use Rattle.std.specs.Prelude.{count_by, nat_le, nat_lt}
use Rattle.std.proofs.lemmas.Bool.{cases_lt}
use Rattle.std.proofs.lemmas.Bool.Decides.{nat_tests}
use Rattle.std.proofs.lemmas.List.{drop_all, drop-drop, length-append, length-drop}
use Rattle.pp_cache.specs.Memory.{Memory}
use Rattle.pp_holes.specs.Adding.{Adding, Run, add_runs, added, is_stopped, join_run, joining, part_of_run, room_at, runs_up_to}
use Rattle.pp_holes.specs.Places.{Chunk, bytes_at, first_bytes, is_at}
use Rattle.pp_law.specs.Chunks.{chunk_bytes, filled, is_chunk, join_run as law_join_run, join_runs, joined as law_joined, joining as law_joining, put_chunk, put_joining}
use Rattle.pp_law.specs.Lists.{Bytes, without as law_without}
use Rattle.pp_law.specs.State.{Chunk as Front}
use Rattle.pp_law.specs.Table.{extent_of}
use Rattle.pp_text.specs.Bytes.{is_empty}
use Rattle.pp_cache_law.specs.Joins.{EndsWhole, MarkIsEnough, added_behind, kept_of_run}
use Rattle.pp_cache_law.specs.Pairs.{AreAll}
use Rattle.pp_cache_law.specs.Tables.{ShowsChunk, number_in}
use Rattle.pp_cache_law.proofs.Alike.{bytes_in_chunks}
use Rattle.pp_cache_law.proofs.Changed.{its_number}
use Rattle.pp_cache_law.proofs.Joined.{Both, going, not_less, rest_fits, run_alike, run_below, same_joining, some_room}
use Rattle.pp_cache_law.proofs.Numbers.{Apart, chunks_alike, number_of_there, true_false}
use Rattle.pp_cache_law.proofs.PairLemmas.{count_first, counted, lengths_same}

-- ---- how many chunks there are

length_parts : (p : Front → Bool) (ds : List Front) → length (law_without p ds) + count_by p ds ≡ length ds
length_parts p [] = refl
length_parts p (d ∷ ds) = by (p d) refl (length_parts p ds)
  where
    first : (b : Bool) → p d ≡ b → count_by p (d ∷ ds) ≡ cond b 1 0 + count_by p ds
    first b e = count_first p d ds ∙ ap (λ (t : Bool). cond t 1 0 + count_by p ds) e

    by : (b : Bool) → p d ≡ b → length (law_without p ds) + count_by p ds ≡ length ds → length (cond (not b) (d ∷ law_without p ds) (law_without p ds)) + count_by p (d ∷ ds) ≡ length (d ∷ ds)
    by true e rest = omega (arith, rest, first true e)
    by false e rest = omega (arith, rest, first false e)

count_alike : (number : ℕ → ℕ) (m : Memory) (slot n i : ℕ) (cs : List Chunk) (ds : List Front) → Apart number m.instances → number_in number slot m.instances ≡ Some n → Both number m cs ds → count_by (is_at (slot, i)) cs ≡ count_by (is_chunk n i) ds
count_alike number m slot n i cs ds apart at both = counted (ShowsChunk number m) (is_at (slot, i)) (is_chunk n i) cs ds (λ c d one. chunks_alike number m slot n i c d apart at one) both.shows

put_length : (n i : ℕ) (bytes : Bytes) (ds : List Front) → length (put_chunk n i bytes ds) ≡ length (law_without (is_chunk n i) ds) + 1
put_length n i bytes ds = length-append (law_without (is_chunk n i) ds) (record { instance = n; index = i; bytes = bytes } ∷ [])

joining_more : (number : ℕ → ℕ) (m : Memory) (slot n i : ℕ) (bytes : Bytes) (cs : List Chunk) (ds : List Front) → Apart number m.instances → number_in number slot m.instances ≡ Some n → Both number m cs ds → length ds ≤ length (put_joining n i bytes ds)
joining_more number m slot n i [] cs ds apart at both = omega arith
joining_more number m slot n i (b ∷ bs) cs ds apart at both =
    omega (arith, put_length n i (chunk_bytes n i ds ++ b ∷ bs) ds, length_parts (is_chunk n i) ds, count_alike number m slot n i cs ds apart at both, both.once (slot, i))

run_more : (number : ℕ → ℕ) (m : Memory) (slot n e at : ℕ) (run : Bytes) (cs : List Chunk) (ds : List Front) → Apart number m.instances → number_in number slot m.instances ≡ Some n → Both number m cs ds → length ds ≤ length (law_join_run n e at run ds)
run_more number m slot n e at run cs ds apart there both = by (nat_lt at e)
  where
    by : (b : Bool) → length ds ≤ length (elim b as (λ c. List Front) [ true ↦ ds | false ↦ put_joining n (at / 4096) (law_joining (at % 4096) (filled n (at / 4096) ds) run) ds ])
    by true = omega arith
    by false = joining_more number m slot n (at / 4096) (law_joining (at % 4096) (filled n (at / 4096) ds) run) cs ds apart there both

no_fewer : (a b c : ℕ) → a ≤ b → b ≤ c → a ≤ c
no_fewer a b c e f = omega (arith, e, f)

runs_more : (number : ℕ → ℕ) (m : Memory) (slot n e k at : ℕ) (bytes : Bytes) (cs : List Chunk) (ds : List Front) → Apart number m.instances → number_in number slot m.instances ≡ Some n → e ≤ at → Both number m cs ds
    → length ds ≤ length (join_runs k n e at bytes ds)
runs_more number m slot n e zero at bytes cs ds apart there more both = omega arith
runs_more number m slot n e (suc k) at [] cs ds apart there more both = omega arith
runs_more number m slot n e (suc k) at (b ∷ bs) cs ds apart there more both =
    no_fewer (length ds) (length (law_join_run n e at (take (room_at at) (b ∷ bs)) ds)) (length (join_runs k n e (at + room_at at) (drop (room_at at) (b ∷ bs)) (law_join_run n e at (take (room_at at) (b ∷ bs)) ds)))
    (run_more number m slot n e at (take (room_at at) (b ∷ bs)) cs ds apart there both)
    (runs_more number m slot n e k (at + room_at at) (drop (room_at at) (b ∷ bs)) (join_run slot (at, take (room_at at) (b ∷ bs)) cs) (law_join_run n e at (take (room_at at) (b ∷ bs)) ds) apart there (omega (arith, more))
    (run_alike number m slot n e at (take (room_at at) (b ∷ bs)) cs ds apart there more both))

-- ---- where the program would stop, the law has one chunk more than there may be

none_at : (number : ℕ → ℕ) (m : Memory) (p : Chunk → Bool) (cs : List Chunk) (ds : List Front) → AreAll (ShowsChunk number m) cs ds → is_empty (first_bytes (filter p cs)) ≡ true → count_by p cs ≡ 0
none_at number m p [] ds all none = refl
none_at number m p (c ∷ cs) [] all none = absurd all
none_at number m p (c ∷ cs) (d ∷ ds) all none = count_first p c cs ∙ by (p c) (λ e. none_at number m p cs ds all.1 e) none
  where
    by : (b : Bool) → (is_empty (first_bytes (filter p cs)) ≡ true → count_by p cs ≡ 0) → is_empty (first_bytes (cond b (c ∷ filter p cs) (filter p cs))) ≡ true → cond b 1 0 + count_by p cs ≡ 0
    by true rest e = absurd (true_false (sym e ∙ all.0.some))
    by false rest e = let zero_more : count_by p cs ≡ 0 = rest e in omega (arith, zero_more)

and_first : (a b : Bool) → (a && b) ≡ true → a ≡ true
and_first true b e = refl
and_first false b e = e

and_second : (a b : Bool) → (a && b) ≡ true → b ≡ true
and_second true b e = e
and_second false b e = absurd cc

at_most : (a b : ℕ) → nat_le a b ≡ true → a ≤ b
at_most a b e = grind (arith, nat_tests)

put_more : (n i : ℕ) (bytes : Bytes) (ds : List Front) → not (is_empty bytes) ≡ true → count_by (is_chunk n i) ds ≡ 0 → length (put_joining n i bytes ds) ≡ length ds + 1
put_more n i [] ds some none = absurd cc
put_more n i (b ∷ bs) ds some none = omega (arith, put_length n i (chunk_bytes n i ds ++ b ∷ bs) ds, length_parts (is_chunk n i) ds, none)

stops_over : (number : ℕ → ℕ) (m : Memory) (slot n e at size : ℕ) (run : Bytes) (cs : List Chunk) (ds : List Front) → Apart number m.instances → number_in number slot m.instances ≡ Some n → e ≤ at → Both number m cs ds
    → is_stopped size slot (at, run) cs ≡ true → size < length (law_join_run n e at run ds)
stops_over number m slot n e at size run cs ds apart there more both stops =
    subst (λ (b : Bool). size < length (elim b as (λ c. List Front) [ true ↦ ds | false ↦ put_joining n (at / 4096) (law_joining (at % 4096) (filled n (at / 4096) ds) run) ds ])) (sym (not_less at e more))
    (subst (λ (bytes : Bytes). size < length (put_joining n (at / 4096) bytes ds)) part
    (over (length (put_joining n (at / 4096) (part_of_run slot (at, run) cs) ds)) (put_more n (at / 4096) (part_of_run slot (at, run) cs) ds some none)))
  where
    part : part_of_run slot (at, run) cs ≡ law_joining (at % 4096) (filled n (at / 4096) ds) run
    part =
        ap (λ (xs : Bytes). joining (at % 4096) (length xs) run) (bytes_in_chunks number m slot n (at / 4096) cs ds apart there both.shows)
        ∙ same_joining (at % 4096) (filled n (at / 4096) ds) run

    some : not (is_empty (part_of_run slot (at, run) cs)) ≡ true
    some = and_first (not (is_empty (part_of_run slot (at, run) cs))) (is_empty (bytes_at (slot, at / 4096) cs) && nat_le size (length cs)) stops

    rest : (is_empty (bytes_at (slot, at / 4096) cs) && nat_le size (length cs)) ≡ true
    rest = and_second (not (is_empty (part_of_run slot (at, run) cs))) (is_empty (bytes_at (slot, at / 4096) cs) && nat_le size (length cs)) stops

    none : count_by (is_chunk n (at / 4096)) ds ≡ 0
    none =
        sym (count_alike number m slot n (at / 4096) cs ds apart there both)
        ∙ none_at number m (is_at (slot, at / 4096)) cs ds both.shows (and_first (is_empty (bytes_at (slot, at / 4096) cs)) (nat_le size (length cs)) rest)

    over : (l : ℕ) → l ≡ length ds + 1 → size < l
    over l is = omega (arith, is, at_most size (length cs) (and_second (is_empty (bytes_at (slot, at / 4096) cs)) (nat_le size (length cs)) rest), lengths_same (ShowsChunk number m) cs ds both.shows)

-- ---- so it does not

all_enough : (number : ℕ → ℕ) (m : Memory) (slot n e size : ℕ) (fuel k at : ℕ) (bytes : Bytes) (cs : List Chunk) (j i : ℕ) (ds : List Front) → Apart number m.instances → number_in number slot m.instances ≡ Some n → e ≤ at
    → length bytes ≤ fuel → at % 4096 + length bytes ≤ k * 4096 → Both number m cs ds → length (join_runs k n e at bytes ds) ≤ size → (add_runs size slot (going cs j i) (runs_up_to fuel at bytes)).need_chunk ≡ false
all_enough number m slot n e size zero k at bytes cs j i ds apart there more few enough both mark = refl
all_enough number m slot n e size (suc fuel) k at [] cs j i ds apart there more few enough both mark = refl
all_enough number m slot n e size (suc fuel) zero at (b ∷ bs) cs j i ds apart there more few enough both mark = absurd (omega (arith, enough))
all_enough number m slot n e size (suc fuel) (suc k) at (b ∷ bs) cs j i ds apart there more few enough both mark =
    ap (λ (st : Bool). (add_runs size slot (cond st (record (going cs j i) { need_chunk = true }) next) (runs_up_to fuel (at + room_at at) rest)).need_chunk) (goes (is_stopped size slot run cs) refl)
    ∙ all_enough number m slot n e size fuel k (at + room_at at) rest (join_run slot run cs) (j + length (part_of_run slot run cs)) (i + (length run.1 - length (part_of_run slot run cs))) behind apart there (omega (arith, more))
    (omega (arith, length-drop (room_at at) (b ∷ bs), few, some_room at)) (rest_fits at (length (b ∷ bs)) (length rest) k (length-drop (room_at at) (b ∷ bs)) enough) after mark
  where
    run : Run
    run = (at, take (room_at at) (b ∷ bs))

    rest : Bytes
    rest = drop (room_at at) (b ∷ bs)

    behind : List Front
    behind = law_join_run n e at (take (room_at at) (b ∷ bs)) ds

    next : Adding
    next = record {
      chunks = join_run slot run cs;
      joined = j + length (part_of_run slot run cs);
      ignored = i + (length run.1 - length (part_of_run slot run cs));
      need_chunk = false;
    }

    after : Both number m (join_run slot run cs) behind
    after = run_alike number m slot n e at (take (room_at at) (b ∷ bs)) cs ds apart there more both

    goes : (st : Bool) → is_stopped size slot run cs ≡ st → st ≡ false
    goes true is =
        let over : size < length behind = stops_over number m slot n e at size (take (room_at at) (b ∷ bs)) cs ds apart there more both is in
        let grown : length behind ≤ length (join_runs k n e (at + room_at at) rest behind) = runs_more number m slot n e k (at + room_at at) rest (join_run slot run cs) behind apart there (omega (arith, more)) after in
        absurd (omega (arith, over, grown, mark))
    goes false is = refl

none_needed : (size slot at : ℕ) (bytes : Bytes) (cs : List Chunk) → bytes ≡ [] → (added size slot at bytes cs).need_chunk ≡ false
none_needed size slot at bytes cs none = ap (λ (xs : Bytes). (added size slot at xs cs).need_chunk) none

behind_enough : (number : ℕ → ℕ) (m : Memory) (slot n e size k at : ℕ) (bytes : Bytes) (cs : List Chunk) (ds : List Front) → Apart number m.instances → number_in number slot m.instances ≡ Some n → at ≤ e → e % 4096 ≡ 0
    → at % 4096 + length bytes ≤ k * 4096 → Both number m cs ds → length (join_runs k n e at bytes ds) ≤ size → (added size slot e (drop (e - at) bytes) cs).need_chunk ≡ false
behind_enough number m slot n e size zero at bytes cs ds apart there less even enough both mark = none_needed size slot e (drop (e - at) bytes) cs (drop_all (e - at) bytes (omega (arith, enough)))
behind_enough number m slot n e size (suc k) at [] cs ds apart there less even enough both mark = none_needed size slot e (drop (e - at) []) cs (drop_all (e - at) [] (omega arith))
behind_enough number m slot n e size (suc k) at (b ∷ bs) cs ds apart there less even enough both mark =
    by (cases_lt at e)
    (λ lt. behind_enough number m slot n e size k (at + room_at at) rest cs ds apart there (whole_chunk lt) even (rest_fits at (length (b ∷ bs)) (length rest) k (length-drop (room_at at) (b ∷ bs)) enough) both
    (subst (λ (xs : List Front). length (join_runs k n e (at + room_at at) rest xs) ≤ size) (run_below n e at (take (room_at at) (b ∷ bs)) ds lt) mark))
  where
    rest : Bytes
    rest = drop (room_at at) (b ∷ bs)

    whole_chunk : at < e → at + room_at at ≤ e
    whole_chunk lt = omega (arith, lt, even)

    far : at < e → room_at at + (e - (at + room_at at)) ≡ e - at
    far lt = let within : at + room_at at ≤ e = whole_chunk lt in omega (arith, within)

    same : at < e → drop (e - (at + room_at at)) rest ≡ drop (e - at) (b ∷ bs)
    same lt = drop-drop (e - (at + room_at at)) (room_at at) (b ∷ bs) ∙ ap (λ (j : ℕ). drop j (b ∷ bs)) (far lt)

    no_more : e ≤ at → e - at ≡ 0
    no_more more = omega (arith, more)

    at_end : e ≤ at → at ≡ e
    at_end more = omega (arith, more, less)

    by : (at < e) ⊎ (e ≤ at) → ((lt : at < e) → (added size slot e (drop (e - (at + room_at at)) rest) cs).need_chunk ≡ false) → (added size slot e (drop (e - at) (b ∷ bs)) cs).need_chunk ≡ false
    by (inl lt) goes = ap (λ (bytes : Bytes). (added size slot e bytes cs).need_chunk) (sym (same lt)) ∙ goes lt
    by (inr more) goes =
        ap (λ (j : ℕ). (added size slot e (drop j (b ∷ bs)) cs).need_chunk) (no_more more) ∙ ap (λ (j : ℕ). (added size slot j (b ∷ bs) cs).need_chunk) (sym (at_end more))
        ∙ all_enough number m slot n e size (length (b ∷ bs)) (suc k) at (b ∷ bs) cs 0 0 ds apart there more (omega arith) enough both mark

fits : (at l : ℕ) → at % 4096 + l ≤ (l / 4096 + 2) * 4096
fits at l = omega arith

enough_at : (number : ℕ → ℕ) (m : Memory) (slot n e total size at : ℕ) (bytes : Bytes) (cs : List Chunk) (ds : List Front) → Apart number m.instances → number_in number slot m.instances ≡ Some n → EndsWhole e total
    → at + length bytes ≤ total → Both number m cs ds → length (law_joined n e at bytes ds) ≤ size → (added_behind e size slot at bytes cs).need_chunk ≡ false
enough_at number m slot n e total size at bytes cs ds apart there ends within both mark = by (cases_lt at e) (cases_lt e (at + length bytes)) ends
  where
    moved : (k j : ℕ) → at + kept_of_run e at (length bytes) ≡ k → kept_of_run e at (length bytes) ≡ j → (added size slot k (drop j bytes) cs).need_chunk ≡ false → (added_behind e size slot at bytes cs).need_chunk ≡ false
    moved k j f g known =
        ap (λ (i : ℕ). (added size slot i (drop (kept_of_run e at (length bytes)) bytes) cs).need_chunk) f ∙ ap (λ (i : ℕ). (added size slot k (drop i bytes) cs).need_chunk) g ∙ known

    none_kept : e ≤ at → kept_of_run e at (length bytes) ≡ 0
    none_kept more = omega (arith, more)

    from_at : e ≤ at → at + kept_of_run e at (length bytes) ≡ at
    from_at more = let kept = none_kept more in omega (arith, kept)

    all_kept : at + length bytes ≤ e → kept_of_run e at (length bytes) ≡ length bytes
    all_kept less = omega (arith, less)

    some_kept : at < e → e < at + length bytes → kept_of_run e at (length bytes) ≡ e - at
    some_kept lt less = omega (arith, lt, less)

    to_end : at < e → e < at + length bytes → at + kept_of_run e at (length bytes) ≡ e
    to_end lt less = let kept = some_kept lt less in omega (arith, kept, lt)

    not_total : e < at + length bytes → e ≡ total → ⊥
    not_total less is = absurd (omega (arith, less, is, within))

    by : (at < e) ⊎ (e ≤ at) → (e < at + length bytes) ⊎ (at + length bytes ≤ e) → EndsWhole e total → (added_behind e size slot at bytes cs).need_chunk ≡ false
    by (inr more) end whole_end =
        moved at 0 (from_at more) (none_kept more) (all_enough number m slot n e size (length bytes) (length bytes / 4096 + 2) at bytes cs 0 0 ds apart there more (omega arith) (fits at (length bytes)) both mark)
    by (inl lt) (inl less) (inl even) = moved e (e - at) (to_end lt less) (some_kept lt less) (behind_enough number m slot n e size (length bytes / 4096 + 2) at bytes cs ds apart there (omega (arith, lt)) even (fits at (length bytes)) both mark)
    by (inl lt) (inl less) (inr is) = absurd (not_total less is)
    by (inl lt) (inr less) whole_end =
        none_needed size slot (at + kept_of_run e at (length bytes)) (drop (kept_of_run e at (length bytes)) bytes) cs (ap (λ (j : ℕ). drop j bytes) (all_kept less) ∙ drop_all (length bytes) bytes (omega arith))

pub mark_is_enough : MarkIsEnough
mark_is_enough number m s shows id x at bytes there known ends within mark =
    enough_at number m id.slot x.id (extent_of s x) x.version.length m.size at bytes m.chunks s.chunks shows.table.apart
    (number_of_there number id m.instances there ∙ ap (λ (n : ℕ). Some n) (its_number number m s id x shows.table there known)) ends within (record { shows = shows.table.chunks; once = shows.table.once }) mark
