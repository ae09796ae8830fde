-- Adding goes run by run: the first run, then the rest.
use Rattle.std.proofs.Common.{ℕ, ◌+◌, ◌-◌, ◌≤◌, ◌<◌, ◌≡◌, ◌==◌, Bool, true, false, cond, min, List, [], ◌∷◌, length, take, drop, arith, refl, sym, ◌∙◌, ap, zero, suc, ◌⊎◌, inl, inr}
use Rattle.std.proofs.lemmas.Grind.{common_steps}
use Rattle.std.proofs.lemmas.Bool.{cases_lt}
use Rattle.std.proofs.lemmas.List.{drop_all, take_all, length-drop}
use Rattle.pp_holes.specs.Places.{Chunk}
use Rattle.pp_holes.specs.Adding.{Run, room_at, runs, runs_up_to, Adding, add_runs, is_stopped, join_run, part_of_run}

some_room : (at : ℕ) → 0 < room_at at
some_room at = omega arith

-- more room for runs than there are bytes changes nothing
enough : (n m at : ℕ) (bytes : List ℕ) → length bytes ≤ n → length bytes ≤ m → runs_up_to n at bytes ≡ runs_up_to m at bytes
enough zero zero at bytes le lf = refl
enough zero (suc m) at [] le lf = refl
enough (suc n) zero at [] le lf = refl
enough (suc n) (suc m) at [] le lf = refl
enough zero (suc m) at (b ∷ bytes) le lf = absurd (omega arith)
enough (suc n) zero at (b ∷ bytes) le lf = absurd (omega arith)
enough (suc n) (suc m) at (b ∷ bytes) le lf =
    ap (λ rs. (at, take (room_at at) (b ∷ bytes)) ∷ rs)
    (enough n m (at + room_at at) (drop (room_at at) (b ∷ bytes))
    (omega (arith, length-drop (room_at at) (b ∷ bytes), some_room at))
    (omega (arith, length-drop (room_at at) (b ∷ bytes), some_room at)))

first_run : (at : ℕ) (bytes : List ℕ) → 0 < length bytes → runs at bytes ≡ (at, take (room_at at) bytes) ∷ runs (at + room_at at) (drop (room_at at) bytes)
first_run at [] lt = absurd (omega arith)
first_run at (b ∷ bytes) lt =
    ap (λ rs. (at, take (room_at at) (b ∷ bytes)) ∷ rs)
    (enough (length bytes) (length (drop (room_at at) (b ∷ bytes))) (at + room_at at) (drop (room_at at) (b ∷ bytes))
    (omega (arith, length-drop (room_at at) (b ∷ bytes), some_room at)) (omega arith))

no_runs : (at n : ℕ) (bytes : List ℕ) → length bytes ≤ n → runs at (drop n bytes) ≡ []
no_runs at n bytes le = ap (runs at) (drop_all n bytes le)

cut_by : (at k : ℕ) (bytes : List ℕ) → 0 < length bytes → (k ≡ room_at at) ⊎ ((k ≡ length bytes) × (length bytes ≤ room_at at))
    → runs at bytes ≡ (at, take k bytes) ∷ runs (at + k) (drop k bytes)
cut_by at k bytes lt (inl e) = first_run at bytes lt ∙ ap (λ n. (at, take n bytes) ∷ runs (at + n) (drop n bytes)) (sym e)
cut_by at k bytes lt (inr e) =
    first_run at bytes lt
    ∙ ap (λ run. (at, run) ∷ runs (at + room_at at) (drop (room_at at) bytes)) (take_all (room_at at) bytes e.1 ∙ sym (take_all k bytes (omega (arith, e.0))))
    ∙ ap (λ rs. (at, take k bytes) ∷ rs) (no_runs (at + room_at at) (room_at at) bytes e.1 ∙ sym (no_runs (at + k) k bytes (omega (arith, e.0))))

which_by : (k a b : ℕ) → k ≡ min a b → (a < b) ⊎ (b ≤ a) → (k ≡ a) ⊎ ((k ≡ b) × (b ≤ a))
which_by k a b e (inl lt) = inl (omega (arith, e, lt))
which_by k a b e (inr le) = inr (omega (arith, e, le), le)

-- the runs of some bytes, the first of which is as long as its chunk and the bytes allow
pub next_run : (at k : ℕ) (bytes : List ℕ) → 0 < length bytes → k ≡ min (room_at at) (length bytes) → runs at bytes ≡ (at, take k bytes) ∷ runs (at + k) (drop k bytes)
next_run at k bytes lt e = cut_by at k bytes lt (which_by k (room_at at) (length bytes) e (cases_lt (room_at at) (length bytes)))

abbrev going : List Chunk → ℕ → ℕ → Adding
going cs j i = record { chunks = cs; joined = j; ignored = i; need_chunk = false }

abbrev pub ended : List Chunk → ℕ → ℕ → Adding
ended cs j i = record { chunks = cs; joined = j; ignored = i; need_chunk = true }

abbrev gone_on : ℕ → List Chunk → ℕ → ℕ → Run → Adding
gone_on o cs j i run = record {
  chunks = join_run o run cs;
  joined = j + length (part_of_run o run cs);
  ignored = i + (length run.1 - length (part_of_run o run cs));
  need_chunk = false;
}

-- a run that needs no chunk, or finds one
pub run_joins : (size o : ℕ) (cs : List Chunk) (j i n : ℕ) (run : Run) (rs : List Run) → is_stopped size o run cs ≡ false → n ≡ length (part_of_run o run cs)
    → add_runs size o (going cs j i) (run ∷ rs) ≡ add_runs size o (going (join_run o run cs) (j + n) (i + (length run.1 - n))) rs
run_joins size o cs j i n run rs goes e =
    ap (λ b. add_runs size o (cond b (ended cs j i) (gone_on o cs j i run)) rs) goes
    ∙ ap (λ m. add_runs size o (going (join_run o run cs) (j + m) (i + (length run.1 - m))) rs) (sym e)

stays_ended : (size o : ℕ) (cs : List Chunk) (j i : ℕ) (rs : List Run) → add_runs size o (ended cs j i) rs ≡ ended cs j i
stays_ended size o cs j i [] = refl
stays_ended size o cs j i (run ∷ rs) = stays_ended size o cs j i rs

-- a run that finds none ends the adding
pub run_ends : (size o : ℕ) (cs : List Chunk) (j i : ℕ) (run : Run) (rs : List Run) → is_stopped size o run cs ≡ true
    → add_runs size o (going cs j i) (run ∷ rs) ≡ ended cs j i
run_ends size o cs j i run rs stops =
    ap (λ b. add_runs size o (cond b (ended cs j i) (gone_on o cs j i run)) rs) stops ∙ stays_ended size o cs j i rs

-- no bytes are left
pub all_added : (size o at : ℕ) (cs : List Chunk) (j i : ℕ) (bytes : List ℕ) → length bytes ≡ 0 → add_runs size o (going cs j i) (runs at bytes) ≡ going cs j i
all_added size o at cs j i [] e = refl
all_added size o at cs j i (b ∷ bytes) e = absurd (omega arith)

pub some_left : (bytes : List ℕ) (b : Bool) → b ≡ (length bytes == 0) → b ≡ false → 0 < length bytes
some_left [] b e f = absurd (grind (arith, common_steps))
some_left (x ∷ bytes) b e f = omega arith

-- one turn over the runs
pub step_joins : (size o at k : ℕ) (cs ds : List Chunk) (j i n : ℕ) (rest run behind : List ℕ) (whole : Adding) → 0 < length rest → k ≡ min (room_at at) (length rest)
    → run ≡ take k rest → behind ≡ drop k rest → length run ≡ k → is_stopped size o (at, run) cs ≡ false → n ≡ length (part_of_run o (at, run) cs) → ds ≡ join_run o (at, run) cs
    → add_runs size o (going cs j i) (runs at rest) ≡ whole
    → add_runs size o (going ds (j + n) (i + (length run - n))) (runs (at + length run) behind) ≡ whole
step_joins size o at k cs ds j i n rest run behind whole some least front back long goes count joins so_far =
    ap (λ es. add_runs size o (going es (j + n) (i + (length run - n))) (runs (at + length run) behind)) joins
    ∙ sym (run_joins size o cs j i n (at, run) (runs (at + length run) behind) goes count)
    ∙ ap (λ m. add_runs size o (going cs j i) ((at, run) ∷ runs (at + m) behind)) long
    ∙ ap (λ r. add_runs size o (going cs j i) ((at, r) ∷ runs (at + k) behind)) front
    ∙ ap (λ r. add_runs size o (going cs j i) ((at, take k rest) ∷ runs (at + k) r)) back
    ∙ ap (add_runs size o (going cs j i)) (sym (next_run at k rest some least))
    ∙ so_far

pub step_ends : (size o at k : ℕ) (cs : List Chunk) (j i : ℕ) (rest run : List ℕ) (whole : Adding) → 0 < length rest → k ≡ min (room_at at) (length rest)
    → run ≡ take k rest → is_stopped size o (at, run) cs ≡ true → add_runs size o (going cs j i) (runs at rest) ≡ whole → ended cs j i ≡ whole
step_ends size o at k cs j i rest run whole some least front stops so_far =
    sym (run_ends size o cs j i (at, run) (runs (at + k) (drop k rest)) stops)
    ∙ ap (λ r. add_runs size o (going cs j i) ((at, r) ∷ runs (at + k) (drop k rest))) front
    ∙ ap (add_runs size o (going cs j i)) (sym (next_run at k rest some least))
    ∙ so_far
