-- Bytes that join a chunk.
use Rattle.std.proofs.Common.{ℕ, ◌+◌, ◌<◌, ◌≡◌, Bool, true, false, ◌==◌, ◌&&◌, ◌||◌, cond, List, [], ◌∷◌, ◌++◌, length, map, set, arith, refl, sym, ◌∙◌, ap, Option, Some, None}
use Rattle.std.proofs.lemmas.Grind.{common_steps}
use Rattle.std.proofs.lemmas.List.{map-append, length-append, get_or-set_same, get_or-set_other, length-set}
use Rattle.std.specs.List.{filter}
use Rattle.pp_pool.specs.Chunks.{Used, is_in, is_chunk, is_other, is_place, AreDistinct, numbers, bytes_in, extended, used_last}
use Rattle.pp_holes.specs.declared.cell.Cell.{Cell}
use Rattle.pp_holes.specs.Places.{show, shown, is_elsewhere, bytes_at, first_bytes, joined}
use Rattle.pp_holes.specs.Cells.{cell_of, OwnsItsChunks}
use Rattle.pp_holes.proofs.Owned.{is_not_place, shown_at, shown_else, none_at, one_at, singled, nothing_at}
use Rattle.pp_holes.proofs.Changes.{Changed, changed_set, owns_in, place_true, reads_none}

abbrev pub more : List ℕ → Used → Used
more bs u = record u { bytes = u.bytes ++ bs }

untouched_by : (b : Bool) (c : ℕ) (bs : List ℕ) (u : Used) (us : List Used) → is_chunk c u ≡ b → is_in c (numbers (u ∷ us)) ≡ false
    → (is_in c (numbers us) ≡ false → map (extended c bs) us ≡ us) → cond b (more bs u) u ∷ map (extended c bs) us ≡ u ∷ us
untouched_by true c bs u us e h ih = absurd (grind (arith, common_steps, e, h))
untouched_by false c bs u us e h ih = ap (λ us. u ∷ us) (ih (grind (arith, common_steps, h)))

same : (c : ℕ) → (c == c) ≡ true
same c = grind (arith, common_steps)

pub place_same : (o i : ℕ) → ((o == o) && (i == i)) ≡ true
place_same o i = grind (arith, common_steps)

owner_of : (o i : ℕ) (u : Used) → is_place (o, i) u ≡ true → u.owner ≡ o
owner_of o i u h = grind (arith, common_steps, h)

index_of : (o i : ℕ) (u : Used) → is_place (o, i) u ≡ true → u.index ≡ i
index_of o i u h = grind (arith, common_steps, h)

untouched : (c : ℕ) (bs : List ℕ) (us : List Used) → is_in c (numbers us) ≡ false → map (extended c bs) us ≡ us
untouched c bs [] h = refl
untouched c bs (u ∷ us) h = untouched_by (is_chunk c u) c bs u us refl h (λ k. untouched c bs us k)

other_by : (b : Bool) (c : ℕ) (bs : List ℕ) (u : Used) (us : List Used) → is_chunk c u ≡ b → filter (is_other c) (map (extended c bs) us) ≡ filter (is_other c) us
    → filter (is_other c) (cond b (more bs u) u ∷ map (extended c bs) us) ≡ filter (is_other c) (u ∷ us)
other_by true c bs u us e ih = rw e ih
other_by false c bs u us e ih = rw e (ap (λ us. u ∷ us) ih)

others_same : (c : ℕ) (bs : List ℕ) (us : List Used) → filter (is_other c) (map (extended c bs) us) ≡ filter (is_other c) us
others_same c bs [] = refl
others_same c bs (u ∷ us) = other_by (is_chunk c u) c bs u us refl (others_same c bs us)

chunk_by : (b : Bool) (c : ℕ) (bs : List ℕ) (u : Used) (us : List Used) → is_chunk c u ≡ b → filter (is_chunk c) (map (extended c bs) us) ≡ map (more bs) (filter (is_chunk c) us)
    → filter (is_chunk c) (cond b (more bs u) u ∷ map (extended c bs) us) ≡ map (more bs) (cond b (u ∷ filter (is_chunk c) us) (filter (is_chunk c) us))
chunk_by true c bs u us e ih = rw e (ap (λ us. more bs u ∷ us) ih)
chunk_by false c bs u us e ih = rw e ih

chunks_more : (c : ℕ) (bs : List ℕ) (us : List Used) → filter (is_chunk c) (map (extended c bs) us) ≡ map (more bs) (filter (is_chunk c) us)
chunks_more c bs [] = refl
chunks_more c bs (u ∷ us) = chunk_by (is_chunk c u) c bs u us refl (chunks_more c bs us)

shows_in : (o i : ℕ) (u : Used) (bs : List ℕ) (us : List Used) → u.owner ≡ o → u.index ≡ i → u.bytes ≡ bytes_at (o, i) (shown us) ++ bs
    → shown (filter (is_not_place (o, i)) us ++ u ∷ []) ≡ joined (o, i) bs (shown us)
shows_in o i u bs us e f g =
    map-append show (filter (is_not_place (o, i)) us) (u ∷ []) ∙ ap (λ vs. vs ++ show u ∷ []) (sym (shown_else (o, i) us))
    ∙ ap (λ x. filter (is_elsewhere (o, i)) (shown us) ++ record { owner = x; index = u.index; bytes = u.bytes } ∷ []) e
    ∙ ap (λ x. filter (is_elsewhere (o, i)) (shown us) ++ record { owner = o; index = x; bytes = u.bytes } ∷ []) f
    ∙ ap (λ x. filter (is_elsewhere (o, i)) (shown us) ++ record { owner = o; index = i; bytes = x } ∷ []) g

abbrev pub fresh : ℕ → ℕ → ℕ → List ℕ → Used
fresh c o i bs = record { number = c; owner = o; index = i; bytes = bs }

-- a chunk is taken and filled
pub taken_filled : (cs : List (Option Cell)) (o i c : ℕ) (bs : List ℕ) (us : List Used) → OwnsItsChunks cs o us → cell_of cs i ≡ None → is_in c (numbers us) ≡ false
    → map (extended c bs) (us ++ fresh c o i [] ∷ []) ≡ filter (is_not_place (o, i)) us ++ fresh c o i bs ∷ []
taken_filled cs o i c bs us own at h =
    map-append (extended c bs) us (fresh c o i [] ∷ [])
    ∙ ap (λ vs. vs ++ map (extended c bs) (fresh c o i [] ∷ [])) (untouched c bs us h ∙ sym (nothing_at (o, i) us (none_at cs o i us own at)))
    ∙ ap (λ b. filter (is_not_place (o, i)) us ++ cond b (fresh c o i bs) (fresh c o i []) ∷ []) (same c)

pub owns_opened : (cs ds : List (Option Cell)) (o i : ℕ) (d : Cell) (bs : List ℕ) (us : List Used) → OwnsItsChunks cs o us → cell_of cs i ≡ None → i < length cs
    → is_in d.chunk (numbers us) ≡ false → length bs ≡ d.filled → ds ≡ set cs i (Some d)
    → OwnsItsChunks ds o (map (extended d.chunk bs) (us ++ fresh d.chunk o i [] ∷ []))
owns_opened cs ds o i d bs us own at lt h f e =
    rw (taken_filled cs o i d.chunk bs us own at h, e)
    (owns_in cs (set cs i (Some d)) o i d (fresh d.chunk o i bs) us own (changed_set cs i (Some d) lt) (place_same o i) refl f)

pub shows_opened : (cs : List (Option Cell)) (o i c : ℕ) (bs : List ℕ) (us : List Used) → OwnsItsChunks cs o us → cell_of cs i ≡ None → is_in c (numbers us) ≡ false
    → shown (map (extended c bs) (us ++ fresh c o i [] ∷ [])) ≡ joined (o, i) bs (shown us)
shows_opened cs o i c bs us own at h =
    ap shown (taken_filled cs o i c bs us own at h) ∙ shows_in o i (fresh c o i bs) bs us refl refl (ap (λ x. x ++ bs) (sym (reads_none cs o i us own at)))

-- a chunk is filled on and comes last
pub filled_moved : (cs : List (Option Cell)) (o i : ℕ) (c : Cell) (bs : List ℕ) (us : List Used) → AreDistinct (numbers us) → (own : OwnsItsChunks cs o us) → (at : cell_of cs i ≡ Some c)
    → used_last c.chunk (map (extended c.chunk bs) us) ≡ filter (is_not_place (o, i)) us ++ more bs (one_at cs o i c us own at).chunk ∷ []
filled_moved cs o i c bs us d own at =
    let one = one_at cs o i c us own at in
    let s = singled (o, i) one.chunk us d one.only in
    ap (λ vs. vs ++ filter (is_chunk c.chunk) (map (extended c.chunk bs) us)) (others_same c.chunk bs us)
    ∙ ap (λ vs. filter (is_other c.chunk) us ++ vs) (chunks_more c.chunk bs us)
    ∙ ap (λ n. filter (is_other n) us ++ map (more bs) (filter (is_chunk n) us)) (sym one.number)
    ∙ ap (λ vs. vs ++ map (more bs) (filter (is_chunk one.chunk.number) us)) s.other
    ∙ ap (λ vs. filter (is_not_place (o, i)) us ++ map (more bs) vs) s.chunk

pub owns_extended : (cs ds : List (Option Cell)) (o i : ℕ) (c d : Cell) (bs : List ℕ) (us : List Used) → AreDistinct (numbers us) → OwnsItsChunks cs o us → cell_of cs i ≡ Some c
    → Changed cs ds i (Some d) → d.chunk ≡ c.chunk → d.filled ≡ c.filled + length bs → OwnsItsChunks ds o (used_last c.chunk (map (extended c.chunk bs) us))
owns_extended cs ds o i c d bs us dis own at ch n f =
    let one = one_at cs o i c us own at in
    rw (filled_moved cs o i c bs us dis own at)
    (owns_in cs ds o i d (more bs one.chunk) us own ch (place_true o i one.chunk us [] one.only) (one.number ∙ sym n)
    (length-append one.chunk.bytes bs ∙ ap (λ x. x + length bs) one.filled ∙ sym f))

pub shows_extended : (cs : List (Option Cell)) (o i : ℕ) (c : Cell) (bs : List ℕ) (us : List Used) → AreDistinct (numbers us) → OwnsItsChunks cs o us → cell_of cs i ≡ Some c
    → shown (used_last c.chunk (map (extended c.chunk bs) us)) ≡ joined (o, i) bs (shown us)
shows_extended cs o i c bs us dis own at =
    let one = one_at cs o i c us own at in
    let there = place_true o i one.chunk us [] one.only in
    ap shown (filled_moved cs o i c bs us dis own at)
    ∙ shows_in o i (more bs one.chunk) bs us (owner_of o i one.chunk there) (index_of o i one.chunk there)
    (ap (λ x. x ++ bs) (sym (ap first_bytes (shown_at (o, i) us ∙ ap shown one.only))))

taken_by : (b : Bool) (o i c : ℕ) (u : Used) (us : List Used) → is_chunk c u ≡ b → is_in c (numbers (u ∷ us)) ≡ false
    → (is_in c (numbers us) ≡ false → bytes_in c (us ++ fresh c o i [] ∷ []) ≡ []) → bytes_in c ((u ∷ us) ++ fresh c o i [] ∷ []) ≡ []
taken_by true o i c u us e h ih = absurd (grind (arith, common_steps, e, h))
taken_by false o i c u us e h ih = rw e (ih (grind (arith, common_steps, h)))

still_by : (b : Bool) (n c : ℕ) (bs : List ℕ) (u : Used) (us : List Used) → is_in n (numbers (map (extended c bs) us)) ≡ is_in n (numbers us)
    → is_in n (numbers (cond b (more bs u) u ∷ map (extended c bs) us)) ≡ is_in n (numbers (u ∷ us))
still_by true n c bs u us ih = ap (λ b. (u.number == n) || b) ih
still_by false n c bs u us ih = ap (λ b. (u.number == n) || b) ih

numbers_by : (b : Bool) (c : ℕ) (bs : List ℕ) (u : Used) (us : List Used) → numbers (map (extended c bs) us) ≡ numbers us
    → numbers (cond b (more bs u) u ∷ map (extended c bs) us) ≡ numbers (u ∷ us)
numbers_by true c bs u us ih = ap (λ ns. u.number ∷ ns) ih
numbers_by false c bs u us ih = ap (λ ns. u.number ∷ ns) ih

-- what the calls need on the way
pub taken_bytes : (o i c : ℕ) (us : List Used) → is_in c (numbers us) ≡ false → bytes_in c (us ++ fresh c o i [] ∷ []) ≡ []
taken_bytes o i c [] h = rw (same c) refl
taken_bytes o i c (u ∷ us) h = taken_by (is_chunk c u) o i c u us refl h (λ k. taken_bytes o i c us k)

pub still_in : (n c : ℕ) (bs : List ℕ) (us : List Used) → is_in n (numbers (map (extended c bs) us)) ≡ is_in n (numbers us)
still_in n c bs [] = refl
still_in n c bs (u ∷ us) = still_by (is_chunk c u) n c bs u us (still_in n c bs us)

pub distinct_still : (c : ℕ) (bs : List ℕ) (us : List Used) → numbers (map (extended c bs) us) ≡ numbers us
distinct_still c bs [] = refl
distinct_still c bs (u ∷ us) = numbers_by (is_chunk c u) c bs u us (distinct_still c bs us)

pub changed_twice : (cs ds : List (Option Cell)) (i : ℕ) (d : Cell) → i < length cs → ds ≡ set cs i None → Changed cs (set ds i (Some d)) i (Some d)
changed_twice cs ds i d lt e = record {
  here = get_or-set_same ds i (Some d) None (omega (arith, ap length e, length-set cs i None, lt));
  rest = λ j apart. get_or-set_other ds i j (Some d) None apart ∙ ap (λ l. cell_of l j) e ∙ get_or-set_other cs i j None None apart;
}
