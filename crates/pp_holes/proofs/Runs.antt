-- A run inside one chunk: what joins of it, and where adding stops.
use Rattle.std.proofs.Common.{ℕ, ◌-◌, ◌≤◌, ◌<◌, ◌≡◌, ◌/◌, ◌%◌, Bool, true, false, ◌&&◌, not, List, [], ◌∷◌, length, drop, arith, refl, sym, ◌∙◌, ap, Option, Some, None, IsSome}
use Rattle.std.proofs.lemmas.Grind.{common_steps}
use Rattle.std.specs.Prelude.{nat_le}
use Rattle.std.proofs.lemmas.List.{drop_all, length-map}
use Rattle.pp_text.specs.Bytes.{is_empty}
use Rattle.pp_pool.specs.Chunks.{Used}
use Rattle.pp_holes.specs.declared.cell.Cell.{Cell}
use Rattle.pp_holes.specs.Places.{Chunk, show, shown, bytes_at, first_bytes, joined}
use Rattle.pp_holes.specs.Adding.{joining, joined_if, part_of_run, join_run, is_stopped}
use Rattle.pp_holes.specs.Cells.{cell_of, filled_of, OwnsItsChunks, IsFront}
use Rattle.pp_holes.proofs.Owned.{shown_at, one_at}
use Rattle.pp_holes.proofs.Changes.{reads_none}

held_by : (cs : List (Option Cell)) (o i : ℕ) (us : List Used) (x : Option Cell) → OwnsItsChunks cs o us → cell_of cs i ≡ x → length (bytes_at (o, i) (shown us)) ≡ filled_of x
held_by cs o i us None own at = ap length (reads_none cs o i us own at)
held_by cs o i us (Some c) own at =
    let one = one_at cs o i c us own at in
    ap (λ l. length (first_bytes l)) (shown_at (o, i) us ∙ ap shown one.only) ∙ one.filled

-- what is held of a chunk is as long as its cell says
pub held_length : (cs : List (Option Cell)) (o i : ℕ) (us : List Used) → OwnsItsChunks cs o us → length (bytes_at (o, i) (shown us)) ≡ filled_of (cell_of cs i)
held_length cs o i us own = held_by cs o i us (cell_of cs i) own refl

pub no_front : (x : Option Cell) → IsFront x → filled_of x ≡ 0 → x ≡ None
no_front None f e = refl
no_front (Some c) f e = absurd (omega (arith, f.0, e))

pub some_front : (x : Option Cell) → (filled_of x ≡ 0 → ⊥) → IsSome x
some_front None h = absurd (h refl)
some_front (Some c) h = refl

joining_far : (front n : ℕ) (run : List ℕ) → n < front → joining front n run ≡ []
joining_far front n run lt = grind (arith, common_steps)

joining_near : (front n : ℕ) (run : List ℕ) → front ≤ n → joining front n run ≡ drop (n - front) run
joining_near front n run le = grind (arith, common_steps)

-- a run that begins behind a gap, or that is in memory whole, joins nothing
pub part_far : (o at n : ℕ) (run : List ℕ) (cs : List Chunk) → length (bytes_at (o, at / 4096) cs) ≡ n → n < at % 4096 → part_of_run o (at, run) cs ≡ []
part_far o at n run cs e lt = ap (λ k. joining (at % 4096) k run) e ∙ joining_far (at % 4096) n run lt

pub part_near : (o at n : ℕ) (run : List ℕ) (cs : List Chunk) → length (bytes_at (o, at / 4096) cs) ≡ n → at % 4096 ≤ n → part_of_run o (at, run) cs ≡ drop (n - at % 4096) run
part_near o at n run cs e le = ap (λ k. joining (at % 4096) k run) e ∙ joining_near (at % 4096) n run le

pub part_known : (o at n : ℕ) (run : List ℕ) (cs : List Chunk) → length (bytes_at (o, at / 4096) cs) ≡ n → at % 4096 ≤ n → length run ≤ n - at % 4096 → part_of_run o (at, run) cs ≡ []
part_known o at n run cs e le small = part_near o at n run cs e le ∙ drop_all (n - at % 4096) run small

pub joined_none : (o at : ℕ) (run : List ℕ) (cs : List Chunk) → part_of_run o (at, run) cs ≡ [] → cs ≡ join_run o (at, run) cs
joined_none o at run cs e = sym (ap (λ p. joined_if (o, at / 4096) p cs) e)

some_joined : (at : ℕ × ℕ) (p : List ℕ) (cs : List Chunk) → 0 < length p → joined_if at p cs ≡ joined at p cs
some_joined at [] cs lt = absurd (omega arith)
some_joined at (b ∷ bs) cs lt = refl

pub joined_some : (o at : ℕ) (run p : List ℕ) (cs : List Chunk) → part_of_run o (at, run) cs ≡ p → 0 < length p → joined (o, at / 4096) p cs ≡ join_run o (at, run) cs
joined_some o at run p cs e lt = sym (ap (λ p. joined_if (o, at / 4096) p cs) e ∙ some_joined (o, at / 4096) p cs lt)

not_empty : (xs : List ℕ) → 0 < length xs → is_empty xs ≡ false
not_empty [] lt = absurd (omega arith)
not_empty (x ∷ xs) lt = refl

no_room : (n m : ℕ) → n < m → nat_le m n ≡ false
no_room n m lt = grind (arith, common_steps)

is_full : (n m : ℕ) → n ≡ m → nat_le m n ≡ true
is_full n m e = grind (arith, common_steps)

anded_false : (a b : Bool) → (a && (b && false)) ≡ false
anded_false true true = refl
anded_false true false = refl
anded_false false b = refl

held_false : (a b : Bool) → (a && (false && b)) ≡ false
held_false true b = refl
held_false false b = refl

pub goes_none : (size o at : ℕ) (run : List ℕ) (cs : List Chunk) → part_of_run o (at, run) cs ≡ [] → is_stopped size o (at, run) cs ≡ false
goes_none size o at run cs e = ap (λ p. not (is_empty p) && (is_empty (bytes_at (o, at / 4096) cs) && nat_le size (length cs))) e

pub goes_held : (size o at : ℕ) (run : List ℕ) (cs : List Chunk) → 0 < length (bytes_at (o, at / 4096) cs) → is_stopped size o (at, run) cs ≡ false
goes_held size o at run cs lt =
    ap (λ b. not (is_empty (part_of_run o (at, run) cs)) && (b && nat_le size (length cs))) (not_empty (bytes_at (o, at / 4096) cs) lt)
    ∙ held_false (not (is_empty (part_of_run o (at, run) cs))) (nat_le size (length cs))

pub goes_room : (size o at : ℕ) (run : List ℕ) (us : List Used) → length us < size → is_stopped size o (at, run) (shown us) ≡ false
goes_room size o at run us lt =
    ap (λ b. not (is_empty (part_of_run o (at, run) (shown us))) && (is_empty (bytes_at (o, at / 4096) (shown us)) && b)) (ap (nat_le size) (length-map us show) ∙ no_room (length us) size lt)
    ∙ anded_false (not (is_empty (part_of_run o (at, run) (shown us)))) (is_empty (bytes_at (o, at / 4096) (shown us)))

pub stops : (size o at : ℕ) (run : List ℕ) (us : List Used) → 0 < length (part_of_run o (at, run) (shown us)) → bytes_at (o, at / 4096) (shown us) ≡ [] → length us ≡ size
    → is_stopped size o (at, run) (shown us) ≡ true
stops size o at run us lt e full =
    ap (λ b. not b && (is_empty (bytes_at (o, at / 4096) (shown us)) && nat_le size (length (shown us)))) (not_empty (part_of_run o (at, run) (shown us)) lt)
    ∙ ap (λ bs. is_empty bs && nat_le size (length (shown us))) e
    ∙ ap (nat_le size) (length-map us show) ∙ is_full (length us) size full

pub nothing_known : (n front : ℕ) → n ≡ 0 → n - front ≡ 0
nothing_known n front e = omega arith

pub no_bytes : (bs : List ℕ) → length bs ≡ 0 → bs ≡ []
no_bytes [] e = refl
no_bytes (b ∷ bs) e = absurd (omega arith)
