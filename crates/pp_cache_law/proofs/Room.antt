-- A read finds its chunks where so many are free.
use Rattle.std.proofs.Common.{◌≡◌, ◌<◌, ◌≤◌, ◌+◌, ◌-◌, ◌*◌, ◌/◌, ◌%◌, refl, ap, ◌∙◌, ℕ, zero, suc, Bool, true, false, not, ◌&&◌, cond, List, [], ◌∷◌, ◌++◌, length, take, drop, filter, arith}
use Rattle.std.specs.Prelude.{nat_le}
use Rattle.std.proofs.lemmas.Bool.Decides.{nat_tests}
use Rattle.std.proofs.lemmas.List.{length-append, length-drop}
use Rattle.pp_holes.specs.Adding.{Adding, Run, add_runs, is_stopped, join_run, joined_if, part_of_run, room_at, runs_up_to}
use Rattle.pp_holes.specs.Places.{Chunk, bytes_at, is_elsewhere}
use Rattle.pp_law.specs.Lists.{Bytes}
use Rattle.pp_text.specs.Bytes.{is_empty}
use Rattle.pp_cache_law.specs.Joins.{RoomIsEnough}
use Rattle.pp_cache_law.proofs.Joined.{going, rest_fits, some_room}

fewer : (p : Chunk → Bool) (cs : List Chunk) → length (filter p cs) ≤ length cs
fewer p [] = omega arith
fewer p (c ∷ cs) = by (p c) (fewer p cs)
  where
    by : (b : Bool) → length (filter p cs) ≤ length cs → length (cond b (c ∷ filter p cs) (filter p cs)) ≤ length (c ∷ cs)
    by true less = omega (arith, less)
    by false less = omega (arith, less)

one_more : (at : ℕ × ℕ) (bytes : Bytes) (cs : List Chunk) → length (joined_if at bytes cs) ≤ length cs + 1
one_more at [] cs = omega arith
one_more at (b ∷ bs) cs = omega (arith, fewer (is_elsewhere at) cs, length-append (filter (is_elsewhere at) cs) (record { owner = at.0; index = at.1; bytes = bytes_at at cs ++ b ∷ bs } ∷ []))

not_full : (size n : ℕ) → n < size → nat_le size n ≡ false
not_full size n less = grind (arith, nat_tests)

goes_on : (size slot : ℕ) (run : Run) (cs : List Chunk) → length cs < size → is_stopped size slot run cs ≡ false
goes_on size slot run cs less =
    ap (λ (b : Bool). not (is_empty (part_of_run slot run cs)) && (is_empty (bytes_at (slot, run.0 / 4096) cs) && b)) (not_full size (length cs) less)
    ∙ by (not (is_empty (part_of_run slot run cs))) (is_empty (bytes_at (slot, run.0 / 4096) cs))
  where
    by : (a b : Bool) → (a && (b && false)) ≡ false
    by true true = refl
    by true false = refl
    by false b = refl

all_fit : (size slot fuel k at : ℕ) (bytes : Bytes) (cs : List Chunk) (j i : ℕ) → length bytes ≤ fuel → at % 4096 + length bytes ≤ k * 4096 → length cs + k ≤ size
    → (add_runs size slot (going cs j i) (runs_up_to fuel at bytes)).need_chunk ≡ false
all_fit size slot zero k at bytes cs j i few enough room = refl
all_fit size slot (suc fuel) k at [] cs j i few enough room = refl
all_fit size slot (suc fuel) zero at (b ∷ bs) cs j i few enough room = absurd (omega (arith, enough))
all_fit size slot (suc fuel) (suc k) at (b ∷ bs) cs j i few enough room =
    ap (λ (st : Bool). (add_runs size slot (cond st (record (going cs j i) { need_chunk = true }) next) (runs_up_to fuel (at + room_at at) rest)).need_chunk) (goes_on size slot run cs (omega (arith, room)))
    ∙ all_fit size slot fuel k (at + room_at at) rest (join_run slot run cs) (j + length (part_of_run slot run cs)) (i + (length run.1 - length (part_of_run slot run cs)))
    (omega (arith, length-drop (room_at at) (b ∷ bs), few, some_room at)) (rest_fits at (length (b ∷ bs)) (length rest) k (length-drop (room_at at) (b ∷ bs)) enough)
    (omega (arith, room, one_more (slot, at / 4096) (part_of_run slot run cs) cs))
  where
    run : Run
    run = (at, take (room_at at) (b ∷ bs))

    rest : Bytes
    rest = drop (room_at at) (b ∷ bs)

    next : Adding
    next = record {
      chunks = join_run slot run cs;
      joined = j + length (part_of_run slot run cs);
      ignored = i + (length run.1 - length (part_of_run slot run cs));
      need_chunk = false;
    }

so_many : (at l : ℕ) → at % 4096 + l ≤ (l / 4096 + 2) * 4096
so_many at l = omega arith

pub room_is_enough : RoomIsEnough
room_is_enough size slot at bytes cs room = all_fit size slot (length bytes) (length bytes / 4096 + 2) at bytes cs 0 0 (omega arith) (so_many at (length bytes)) room
