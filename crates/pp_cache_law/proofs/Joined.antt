-- Bytes that join the chunks of an instance join the law's.
use Rattle.std.proofs.Common.{◌≡◌, ◌<◌, ◌≤◌, ◌+◌, ◌-◌, ◌*◌, ◌/◌, ◌%◌, ◌⊎◌, inl, inr, refl, sym, subst, ap, ◌∙◌, ℕ, zero, suc, Bool, true, false, not, ◌==◌, ◌&&◌, ◌||◌, cond, List, [], ◌∷◌, ◌++◌, length, take, drop, filter, Option, Some, None, arith}
use Rattle.std.specs.Prelude.{count_by, nat_le, nat_lt}
use Rattle.std.proofs.lemmas.Bool.Decides.{nat_tests}
use Rattle.std.proofs.lemmas.Bool.{cases_lt}
use Rattle.std.proofs.lemmas.List.{drop_all, drop-drop, length-drop}
use Rattle.pp_cache.specs.Memory.{Memory}
use Rattle.pp_cache.specs.OnDisk.{grown_by}
use Rattle.pp_holes.specs.Adding.{Adding, Run, add_run, add_runs, added, is_stopped, join_run, joined_if, joining, part_of_run, room_at, runs_up_to}
use Rattle.pp_holes.specs.Places.{Chunk, bytes_at, is_at, is_elsewhere}
use Rattle.pp_law.specs.Chunks.{chunk_bytes, filled, is_chunk, join_run as law_join_run, join_runs, joined as law_joined, joining as law_joining, note_use, put_joining}
use Rattle.pp_law.specs.Lists.{Bytes, without as law_without}
use Rattle.pp_law.specs.OwnHeads.{join}
use Rattle.pp_law.specs.State.{State, Instance as Known, Chunk as Front}
use Rattle.pp_law.specs.Table.{extent_of, instance}
use Rattle.pp_text.specs.Bytes.{is_empty}
use Rattle.pp_cache_law.specs.Joins.{EndsWhole, JoinsAreTheLaws, added_behind, kept_of_run}
use Rattle.pp_cache_law.specs.Pairs.{AreAll}
use Rattle.pp_cache_law.specs.Tables.{ShowsCache, ShowsChunk, number_in}
use Rattle.pp_cache_law.proofs.Alike.{bytes_in_chunks}
use Rattle.pp_cache_law.proofs.Changed.{its_number}
use Rattle.pp_cache_law.proofs.Faces.{followed-faced, table-faced}
use Rattle.pp_cache_law.proofs.Finds.{find_out, none_found}
use Rattle.pp_cache_law.proofs.Framing.{table-again, the_same}
use Rattle.pp_cache_law.proofs.Numbers.{Apart, chunks_alike, is_same, number_of_there, true_false}
use Rattle.pp_cache_law.proofs.PairLemmas.{count_first, count_joined, count_kept, joined, kept}
use Rattle.pp_cache_law.proofs.Touching.{with_chunks}

-- ---- no two chunks have one place

abbrev pub AreOnce : List Chunk → Type 0
AreOnce cs = (at : ℕ × ℕ) → count_by (is_at at) cs ≤ 1

first_of : (a b : Bool) → (a && b) ≡ true → a ≡ true
first_of true b e = refl
first_of false b e = e

second_of : (a b : Bool) → (a && b) ≡ true → b ≡ true
second_of true b e = e
second_of false b e = absurd cc

put_once : (at : ℕ × ℕ) (bytes : Bytes) (cs : List Chunk) → AreOnce cs → AreOnce (filter (is_elsewhere at) cs ++ record { owner = at.0; index = at.1; bytes = bytes } ∷ [])
put_once at bytes cs once other = by (is_at other (record { owner = at.0; index = at.1; bytes = bytes })) refl
  where
    new : Chunk
    new = record { owner = at.0; index = at.1; bytes = bytes }

    one : (b : Bool) → is_at other new ≡ b → count_by (is_at other) (new ∷ []) ≡ cond b 1 0 + 0
    one b e = count_first (is_at other) new [] ∙ ap (λ (t : Bool). cond t 1 0 + 0) e

    same : is_at other new ≡ true → (c : Chunk) → is_elsewhere at c ≡ true → is_at other c ≡ false
    same e c out =
        let owner : at.0 ≡ other.0 = is_same at.0 other.0 (first_of (at.0 == other.0) (at.1 == other.1) e) in
        let index : at.1 ≡ other.1 = is_same at.1 other.1 (second_of (at.0 == other.0) (at.1 == other.1) e) in
        ap (λ (k : ℕ). (c.owner == k) && (c.index == other.1)) (sym owner) ∙ ap (λ (k : ℕ). (c.owner == at.0) && (c.index == k)) (sym index) ∙ isnt (is_at at c) out
      where
        isnt : (b : Bool) → not b ≡ true → b ≡ false
        isnt true f = absurd cc
        isnt false f = refl

    by : (b : Bool) → is_at other new ≡ b → count_by (is_at other) (filter (is_elsewhere at) cs ++ new ∷ []) ≤ 1
    by true e =
        let none : count_by (is_at other) (filter (is_elsewhere at) cs) ≡ 0 = none_found (is_at other) (filter (is_elsewhere at) cs) (find_out (is_at other) (is_elsewhere at) cs (same e)) in
        omega (arith, count_joined (is_at other) (filter (is_elsewhere at) cs) (new ∷ []), none, one true e)
    by false e = omega (arith, count_joined (is_at other) (filter (is_elsewhere at) cs) (new ∷ []), count_kept (is_at other) (is_elsewhere at) cs, once other, one false e)

-- ---- one run

pub record Both (number : ℕ → ℕ) (m : Memory) (cs : List Chunk) (ds : List Front) : Type 0 where
  pub shows : AreAll (ShowsChunk number m) cs ds
  pub once : AreOnce cs

some_more : (xs : Bytes) (b : ℕ) (bs : Bytes) → is_empty (xs ++ b ∷ bs) ≡ false
some_more [] b bs = refl
some_more (x ∷ xs) b bs = refl

put_alike : (number : ℕ → ℕ) (m : Memory) (slot n i : ℕ) (bytes : Bytes) (cs : List Chunk) (ds : List Front) → Apart number m.instances → number_in number slot m.instances ≡ Some n → Both number m cs ds
    → Both number m (joined_if (slot, i) bytes cs) (put_joining n i bytes ds)
put_alike number m slot n i [] cs ds apart at both = both
put_alike number m slot n i (b ∷ bs) cs ds apart at both = record {
  shows =
      joined (ShowsChunk number m) (filter (is_elsewhere (slot, i)) cs) (record { owner = slot; index = i; bytes = bytes_at (slot, i) cs ++ b ∷ bs } ∷ []) (law_without (is_chunk n i) ds)
      (record { instance = n; index = i; bytes = chunk_bytes n i ds ++ b ∷ bs } ∷ [])
      (kept (ShowsChunk number m) (ShowsChunk number m) (is_elsewhere (slot, i)) (λ d. not (is_chunk n i d)) cs ds
      (λ c d one. ap (λ (t : Bool). not t) (chunks_alike number m slot n i c d apart at one)) (λ c d one is. one) both.shows) (
        record {
          owner = at;
          index = refl;
          bytes = ap (λ (xs : Bytes). xs ++ b ∷ bs) (bytes_in_chunks number m slot n i cs ds apart at both.shows);
          some = some_more (bytes_at (slot, i) cs) b bs;
        },
        tt,
      );
  once = put_once (slot, i) (bytes_at (slot, i) cs ++ b ∷ bs) cs both.once;
}

pub same_joining : (at front : ℕ) (run : Bytes) → joining at front run ≡ law_joining at front run
same_joining at front run = by (nat_le at front)
  where
    by : (b : Bool) → cond b (drop (front - at) run) [] ≡ elim b as (λ c. Bytes) [ true ↦ drop (front - at) run | false ↦ [] ]
    by true = refl
    by false = refl

pub not_less : (at e : ℕ) → e ≤ at → nat_lt at e ≡ false
not_less at e more = grind (arith, nat_tests)

pub run_alike : (number : ℕ → ℕ) (m : Memory) (slot n e at : ℕ) (run : Bytes) (cs : List Chunk) (ds : List Front) → Apart number m.instances → number_in number slot m.instances ≡ Some n → e ≤ at → Both number m cs ds
    → Both number m (join_run slot (at, run) cs) (law_join_run n e at run ds)
run_alike number m slot n e at run cs ds apart there more both =
    subst (λ (b : Bool). Both number m (join_run slot (at, run) cs)
    (elim b as (λ c. List Front) [ true ↦ ds | false ↦ put_joining n (at / 4096) (law_joining (at % 4096) (filled n (at / 4096) ds) run) ds ]))
    (sym (not_less at e more))
    (subst (λ (bytes : Bytes). Both number m (join_run slot (at, run) cs) (put_joining n (at / 4096) bytes ds)) part
    (put_alike number m slot n (at / 4096) (part_of_run slot (at, run) cs) cs ds apart there both))
  where
    part : part_of_run slot (at, run) cs ≡ law_joining (at % 4096) (filled n (at / 4096) ds) run
    part =
        ap (λ (xs : Bytes). joining (at % 4096) (length xs) run) (bytes_in_chunks number m slot n (at / 4096) cs ds apart there both.shows)
        ∙ same_joining (at % 4096) (filled n (at / 4096) ds) run

-- ---- all runs

abbrev pub going : List Chunk → ℕ → ℕ → Adding
going cs j i = record { chunks = cs; joined = j; ignored = i; need_chunk = false }

stays_stopped : (size o : ℕ) (a : Adding) (rs : List Run) → a.need_chunk ≡ true → (add_runs size o a rs).need_chunk ≡ true
stays_stopped size o a [] stopped = stopped
stays_stopped size o a (r ∷ rs) stopped = stays_stopped size o (add_run size o a r) rs (ap (λ (t : Bool). (cond (t || is_stopped size o r a.chunks) (record a { need_chunk = true }) next).need_chunk) stopped)
  where
    next : Adding
    next = record {
      chunks = join_run o r a.chunks;
      joined = a.joined + length (part_of_run o r a.chunks);
      ignored = a.ignored + (length r.1 - length (part_of_run o r a.chunks));
      need_chunk = false;
    }

pub rest_fits : (at l r k : ℕ) → r ≡ l - room_at at → at % 4096 + l ≤ suc k * 4096 → (at + room_at at) % 4096 + r ≤ k * 4096
rest_fits at l r k is enough = omega (arith, is, enough)

pub some_room : (at : ℕ) → 0 < room_at at
some_room at = omega arith

pub all_alike : (number : ℕ → ℕ) (m : Memory) (slot n e size : ℕ) (fuel k at : ℕ) (bytes : Bytes) (cs : List Chunk) (j i : ℕ) (ds : List Front) → Apart number m.instances → number_in number slot m.instances ≡ Some n → e ≤ at
    → length bytes ≤ fuel → at % 4096 + length bytes ≤ k * 4096 → (add_runs size slot (going cs j i) (runs_up_to fuel at bytes)).need_chunk ≡ false → Both number m cs ds
    → Both number m (add_runs size slot (going cs j i) (runs_up_to fuel at bytes)).chunks (join_runs k n e at bytes ds)
all_alike number m slot n e size zero zero at bytes cs j i ds apart there more few enough whole both = both
all_alike number m slot n e size zero (suc k) at [] cs j i ds apart there more few enough whole both = both
all_alike number m slot n e size zero (suc k) at (b ∷ bs) cs j i ds apart there more few enough whole both = absurd (omega (arith, few))
all_alike number m slot n e size (suc fuel) zero at [] cs j i ds apart there more few enough whole both = both
all_alike number m slot n e size (suc fuel) (suc k) at [] cs j i ds apart there more few enough whole both = both
all_alike number m slot n e size (suc fuel) zero at (b ∷ bs) cs j i ds apart there more few enough whole both = absurd (omega (arith, enough))
all_alike number m slot n e size (suc fuel) (suc k) at (b ∷ bs) cs j i ds apart there more few enough whole both =
    by (is_stopped size slot run cs) refl
    (λ found. all_alike number m slot n e size fuel k (at + room_at at) rest (join_run slot run cs) (j + length (part_of_run slot run cs)) (i + (length run.1 - length (part_of_run slot run cs)))
    (law_join_run n e at (take (room_at at) (b ∷ bs)) ds) apart there (omega (arith, more)) (omega (arith, length-drop (room_at at) (b ∷ bs), few, some_room at)) (rest_fits at (length (b ∷ bs)) (length rest) k (length-drop (room_at at) (b ∷ bs)) enough) found
    (run_alike number m slot n e at (take (room_at at) (b ∷ bs)) cs ds apart there more both))
    whole
  where
    run : Run
    run = (at, take (room_at at) (b ∷ bs))

    rest : Bytes
    rest = drop (room_at at) (b ∷ bs)

    next : Adding
    next = record {
      chunks = join_run slot run cs;
      joined = j + length (part_of_run slot run cs);
      ignored = i + (length run.1 - length (part_of_run slot run cs));
      need_chunk = false;
    }

    by : (st : Bool) → is_stopped size slot run cs ≡ st
        → ((add_runs size slot next (runs_up_to fuel (at + room_at at) rest)).need_chunk ≡ false
        → Both number m (add_runs size slot next (runs_up_to fuel (at + room_at at) rest)).chunks (join_runs k n e (at + room_at at) rest (law_join_run n e at (take (room_at at) (b ∷ bs)) ds)))
        → (add_runs size slot (cond st (record (going cs j i) { need_chunk = true }) next) (runs_up_to fuel (at + room_at at) rest)).need_chunk ≡ false
        → Both number m (add_runs size slot (cond st (record (going cs j i) { need_chunk = true }) next) (runs_up_to fuel (at + room_at at) rest)).chunks
        (join_runs k n e (at + room_at at) rest (law_join_run n e at (take (room_at at) (b ∷ bs)) ds))
    by true is goes found = absurd (true_false (sym (stays_stopped size slot (record (going cs j i) { need_chunk = true }) (runs_up_to fuel (at + room_at at) rest) refl) ∙ found))
    by false is goes found = goes found

-- ---- what is kept on the disk does not join

is_less : (at e : ℕ) → at < e → nat_lt at e ≡ true
is_less at e less = grind (arith, nat_tests)

pub run_below : (n e at : ℕ) (run : Bytes) (ds : List Front) → at < e → law_join_run n e at run ds ≡ ds
run_below n e at run ds less =
    ap (λ (b : Bool). elim b as (λ c. List Front) [ true ↦ ds | false ↦ put_joining n (at / 4096) (law_joining (at % 4096) (filled n (at / 4096) ds) run) ds ]) (is_less at e less)

all_below : (n e k at : ℕ) (bytes : Bytes) (ds : List Front) → (0 < length bytes → at + length bytes ≤ e) → join_runs k n e at bytes ds ≡ ds
all_below n e zero at bytes ds less = refl
all_below n e (suc k) at [] ds less = refl
all_below n e (suc k) at (b ∷ bs) ds less =
    ap (λ (xs : List Front). join_runs k n e (at + room_at at) (drop (room_at at) (b ∷ bs)) xs) (run_below n e at (take (room_at at) (b ∷ bs)) ds (first at (length bs) (less (omega arith))))
    ∙ all_below n e k (at + room_at at) (drop (room_at at) (b ∷ bs)) ds (λ some. rest at (length (b ∷ bs)) (length (drop (room_at at) (b ∷ bs))) (length-drop (room_at at) (b ∷ bs)) (less (omega arith)) some)
  where
    first : (at l : ℕ) → at + suc l ≤ e → at < e
    first at l within = omega (arith, within)

    rest : (at l r : ℕ) → r ≡ l - room_at at → at + l ≤ e → 0 < r → at + room_at at + r ≤ e
    rest at l r is within some = omega (arith, is, within, some)

none_added : (number : ℕ → ℕ) (m : Memory) (size slot at : ℕ) (bytes : Bytes) (cs : List Chunk) (ds : List Front) → bytes ≡ [] → Both number m cs ds → Both number m (added size slot at bytes cs).chunks ds
none_added number m size slot at bytes cs ds none both = subst (λ (xs : Bytes). Both number m (added size slot at xs cs).chunks ds) (sym none) both

-- from the end of what is kept on, where that is the end of a chunk
behind_alike : (number : ℕ → ℕ) (m : Memory) (slot n e size k at : ℕ) (bytes : Bytes) (cs : List Chunk) (ds : List Front) → Apart number m.instances → number_in number slot m.instances ≡ Some n → at ≤ e → e % 4096 ≡ 0
    → at % 4096 + length bytes ≤ k * 4096 → (added size slot e (drop (e - at) bytes) cs).need_chunk ≡ false → Both number m cs ds → Both number m (added size slot e (drop (e - at) bytes) cs).chunks (join_runs k n e at bytes ds)
behind_alike number m slot n e size zero at bytes cs ds apart there less even enough whole both = none_added number m size slot e (drop (e - at) bytes) cs ds (drop_all (e - at) bytes (omega (arith, enough))) both
behind_alike number m slot n e size (suc k) at [] cs ds apart there less even enough whole both = none_added number m size slot e (drop (e - at) []) cs ds (drop_all (e - at) [] (omega arith)) both
behind_alike number m slot n e size (suc k) at (b ∷ bs) cs ds apart there less even enough whole both =
    by (cases_lt at e)
    (λ lt. behind_alike number m slot n e size k (at + room_at at) rest cs ds apart there (whole_chunk lt) even (rest_fits at (length (b ∷ bs)) (length rest) k (length-drop (room_at at) (b ∷ bs)) enough)
    (ap (λ (bytes : Bytes). (added size slot e bytes cs).need_chunk) (same lt) ∙ whole) both)
  where
    rest : Bytes
    rest = drop (room_at at) (b ∷ bs)

    whole_chunk : at < e → at + room_at at ≤ e
    whole_chunk lt = omega (arith, lt, even)

    far : at < e → room_at at + (e - (at + room_at at)) ≡ e - at
    far lt = let within : at + room_at at ≤ e = whole_chunk lt in omega (arith, within)

    same : at < e → drop (e - (at + room_at at)) rest ≡ drop (e - at) (b ∷ bs)
    same lt = drop-drop (e - (at + room_at at)) (room_at at) (b ∷ bs) ∙ ap (λ (j : ℕ). drop j (b ∷ bs)) (far lt)

    no_more : e ≤ at → e - at ≡ 0
    no_more more = omega (arith, more)

    at_end : e ≤ at → at ≡ e
    at_end more = omega (arith, more, less)

    by : (at < e) ⊎ (e ≤ at) → ((lt : at < e) → Both number m (added size slot e (drop (e - (at + room_at at)) rest) cs).chunks (join_runs k n e (at + room_at at) rest ds))
        → Both number m (added size slot e (drop (e - at) (b ∷ bs)) cs).chunks (join_runs (suc k) n e at (b ∷ bs) ds)
    by (inl lt) goes =
        subst (λ (xs : List Front). Both number m (added size slot e (drop (e - at) (b ∷ bs)) cs).chunks (join_runs k n e (at + room_at at) rest xs)) (sym (run_below n e at (take (room_at at) (b ∷ bs)) ds lt))
        (subst (λ (bytes : Bytes). Both number m (added size slot e bytes cs).chunks (join_runs k n e (at + room_at at) rest ds)) (same lt)
        (goes lt))
    by (inr more) goes =
        subst (λ (j : ℕ). Both number m (added size slot e (drop j (b ∷ bs)) cs).chunks (join_runs (suc k) n e at (b ∷ bs) ds)) (sym (no_more more))
        (subst (λ (j : ℕ). Both number m (added size slot j (b ∷ bs) cs).chunks (join_runs (suc k) n e at (b ∷ bs) ds)) (at_end more)
        (all_alike number m slot n e size (length (b ∷ bs)) (suc k) at (b ∷ bs) cs 0 0 ds apart there more (omega arith) enough
        (ap (λ (j : ℕ). (added size slot j (b ∷ bs) cs).need_chunk) (at_end more) ∙ ap (λ (j : ℕ). (added size slot e (drop j (b ∷ bs)) cs).need_chunk) (sym (no_more more)) ∙ whole) both))

fits : (at l : ℕ) → at % 4096 + l ≤ (l / 4096 + 2) * 4096
fits at l = omega arith

-- what the program adds, and what the law joins
pub joins_alike : (number : ℕ → ℕ) (m : Memory) (slot n e total size at : ℕ) (bytes : Bytes) (cs : List Chunk) (ds : List Front) → Apart number m.instances → number_in number slot m.instances ≡ Some n → EndsWhole e total
    → at + length bytes ≤ total → (added_behind e size slot at bytes cs).need_chunk ≡ false → Both number m cs ds → Both number m (added_behind e size slot at bytes cs).chunks (law_joined n e at bytes ds)
joins_alike number m slot n e total size at bytes cs ds apart there ends within whole both = by (cases_lt at e) (cases_lt e (at + length bytes)) ends
  where
    shows : ℕ → ℕ → Type 0
    shows k j = Both number m (added size slot k (drop j bytes) cs).chunks (law_joined n e at bytes ds)

    moved : (k j : ℕ) → at + kept_of_run e at (length bytes) ≡ k → kept_of_run e at (length bytes) ≡ j → ((added size slot k (drop j bytes) cs).need_chunk ≡ false → shows k j)
        → Both number m (added_behind e size slot at bytes cs).chunks (law_joined n e at bytes ds)
    moved k j f g known =
        subst (λ (i : ℕ). shows i (kept_of_run e at (length bytes))) (sym f) (subst (λ (i : ℕ). shows k i) (sym g)
        (known (ap (λ (i : ℕ). (added size slot i (drop j bytes) cs).need_chunk) (sym f) ∙ ap (λ (i : ℕ). (added size slot (at + kept_of_run e at (length bytes)) (drop i bytes) cs).need_chunk) (sym g) ∙ whole)))

    none_kept : e ≤ at → kept_of_run e at (length bytes) ≡ 0
    none_kept more = omega (arith, more)

    all_kept : at + length bytes ≤ e → kept_of_run e at (length bytes) ≡ length bytes
    all_kept less = omega (arith, less)

    some_kept : at < e → e < at + length bytes → kept_of_run e at (length bytes) ≡ e - at
    some_kept lt less = omega (arith, lt, less)

    to_end : at < e → e < at + length bytes → at + kept_of_run e at (length bytes) ≡ e
    to_end lt less = let kept = some_kept lt less in omega (arith, kept, lt)

    from_at : e ≤ at → at + kept_of_run e at (length bytes) ≡ at
    from_at more = let kept = none_kept more in omega (arith, kept)

    not_total : e < at + length bytes → e ≡ total → ⊥
    not_total less is = absurd (omega (arith, less, is, within))

    by : (at < e) ⊎ (e ≤ at) → (e < at + length bytes) ⊎ (at + length bytes ≤ e) → EndsWhole e total → Both number m (added_behind e size slot at bytes cs).chunks (law_joined n e at bytes ds)
    by (inr more) end whole_end =
        moved at 0 (from_at more) (none_kept more)
        (λ added_all. all_alike number m slot n e size (length bytes) (length bytes / 4096 + 2) at bytes cs 0 0 ds apart there more (omega arith) (fits at (length bytes)) added_all both)
    by (inl lt) (inl less) (inl even) =
        moved e (e - at) (to_end lt less) (some_kept lt less)
        (λ added_all. behind_alike number m slot n e size (length bytes / 4096 + 2) at bytes cs ds apart there (omega (arith, lt)) even (fits at (length bytes)) added_all both)
    by (inl lt) (inl less) (inr is) = absurd (not_total less is)
    by (inl lt) (inr less) whole_end =
        subst (λ (xs : List Front). Both number m (added_behind e size slot at bytes cs).chunks xs) (sym (all_below n e (length bytes / 4096 + 2) at bytes ds (λ some. less)))
        (none_added number m size slot (at + kept_of_run e at (length bytes)) (drop (kept_of_run e at (length bytes)) bytes) cs ds
        (ap (λ (j : ℕ). drop j bytes) (all_kept less) ∙ drop_all (length bytes) bytes (omega arith)) both)

none_come : (id extent at : ℕ) (bytes : Bytes) (chunks : List Front) → is_empty bytes ≡ true → law_joined id extent at bytes chunks ≡ chunks
none_come id extent at [] chunks none = refl
none_come id extent at (b ∷ bytes) chunks none = absurd (let no : false ≡ true = none in cc no)

pub joins_of : JoinsAreTheLaws
unfolding join note_use
joins_of number m s shows is id x b bytes there known bound ends within whole same =
    by (is_empty bytes) refl
  where
    cs : List Chunk
    cs = (added_behind (extent_of s x) m.size id.slot b.next bytes m.chunks).chunks

    ds : List Front
    ds = law_joined x.id (extent_of s x) b.next bytes s.chunks

    after_m : Memory
    after_m = record m { instances = is; chunks = cs; grown = grown_by id m.grown }

    both : Both number m cs ds
    both =
        joins_alike number m id.slot x.id (extent_of s x) x.version.length m.size b.next bytes m.chunks s.chunks shows.table.apart
        (number_of_there number id m.instances there ∙ ap (λ (n : ℕ). Some n) (its_number number m s id x shows.table there known)) ends within whole
        (record { shows = shows.table.chunks; once = shows.table.once })

    joins_to : Option Known → State
    joins_to o = elim o as (λ t. State) [ None ↦ s | Some y ↦ note_use (record s { chunks = law_joined y.id (extent_of s y) b.next bytes s.chunks }) ]

    behind : (is_evicting : Bool) → ShowsCache number after_m (record s { chunks = ds; is_evicting = is_evicting })
    behind is_evicting = record {
      table =
          table-again number (record m { instances = is; chunks = cs }) after_m (record s { chunks = ds }) (record s { chunks = ds; is_evicting = is_evicting })
          (record { instances = refl; lives = refl; chunks = refl; extents = refl })
          (record { instances = refl; made = the_same s.next_instance; chunks = refl; followers = λ n. refl; kept = λ y. refl })
          (table-faced number (record m { chunks = cs }) (record s { chunks = ds }) is same (with_chunks number m s cs ds shows.table both.shows both.once));
      followed = followed-faced is m.instances same shows.followed;
      ahead = shows.ahead;
    }

    by : (none : Bool) → is_empty bytes ≡ none → ShowsCache number after_m (joins_to (elim none as (λ t. Option Known) [ true ↦ None | false ↦ instance s b.instance ]))
    by true none = subst (λ (xs : List Front). ShowsCache number after_m (record s { chunks = xs })) (none_come x.id (extent_of s x) b.next bytes s.chunks none) (behind s.is_evicting)
    by false some = subst (λ (o : Option Known). ShowsCache number after_m (joins_to o)) (sym (ap (λ (n : ℕ). instance s n) bound ∙ known)) (behind _)
