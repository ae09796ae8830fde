-- What a change of one place does to the other places, and to the chunks that are shown.
use Rattle.std.proofs.Common.{ℕ, ◌<◌, ◌≡◌, Bool, true, false, not, cond, List, [], ◌∷◌, ◌++◌, length, map, get_or, set, arith, refl, sym, ◌∙◌, ap, zero, suc, Option, Some, None, ◌⊎◌, inl, inr}
use Rattle.std.proofs.lemmas.Grind.{common_steps}
use Rattle.std.proofs.lemmas.Bool.{cases_eq}
use Rattle.std.proofs.lemmas.List.{map-append, append-nil, get_or-set_same, get_or-set_other}
use Rattle.std.proofs.lemmas.List.Elements.{filter-append}
use Rattle.std.specs.List.{filter}
use Rattle.pp_pool.specs.Chunks.{Used, is_in, is_chunk, is_other, is_place, AreDistinct, numbers, bytes_in, bytes_found, used_last}
use Rattle.pp_holes.specs.declared.cell.Cell.{Cell}
use Rattle.pp_holes.specs.Places.{show, shown, is_elsewhere, bytes_at, first_bytes, without, touched}
use Rattle.pp_holes.specs.Cells.{mark, marks, cell_of, OwnsItsChunks}
use Rattle.pp_holes.proofs.Owned.{is_not_place, shown_at, shown_else, none_at, one_at, present, singled, nothing_at}

not_there : (o i j : ℕ) (u : Used) → (j ≡ i → ⊥) → is_place (o, i) u ≡ true → is_place (o, j) u ≡ false
not_there o i j u apart e = grind (arith, common_steps)

-- a place apart from the changed one keeps its chunks
kept_by : (b : Bool) (o i j : ℕ) (u : Used) (us : List Used) → (j ≡ i → ⊥) → is_place (o, i) u ≡ b → filter (is_place (o, j)) (filter (is_not_place (o, i)) us) ≡ filter (is_place (o, j)) us
    → filter (is_place (o, j)) (cond (not b) (u ∷ filter (is_not_place (o, i)) us) (filter (is_not_place (o, i)) us)) ≡ filter (is_place (o, j)) (u ∷ us)
kept_by true o i j u us apart e ih = rw (not_there o i j u apart e) ih
kept_by false o i j u us apart e ih = ap (λ vs. cond (is_place (o, j) u) (u ∷ vs) vs) ih

kept : (o i j : ℕ) (us : List Used) → (j ≡ i → ⊥) → filter (is_place (o, j)) (filter (is_not_place (o, i)) us) ≡ filter (is_place (o, j)) us
kept o i j [] apart = refl
kept o i j (u ∷ us) apart = kept_by (is_place (o, i) u) o i j u us apart refl (kept o i j us apart)

gone_by : (b : Bool) (at : ℕ × ℕ) (u : Used) (us : List Used) → is_place at u ≡ b → filter (is_place at) (filter (is_not_place at) us) ≡ []
    → filter (is_place at) (cond (not b) (u ∷ filter (is_not_place at) us) (filter (is_not_place at) us)) ≡ []
gone_by true at u us e ih = ih
gone_by false at u us e ih = rw e ih

gone : (at : ℕ × ℕ) (us : List Used) → filter (is_place at) (filter (is_not_place at) us) ≡ []
gone at [] = refl
gone at (u ∷ us) = gone_by (is_place at u) at u us refl (gone at us)

-- the chunks of one place are changed
pub record Changed (cs ds : List (Option Cell)) (i : ℕ) (new : Option Cell) : Type 0 where
  pub here : cell_of ds i ≡ new
  pub rest : (j : ℕ) → (j ≡ i → ⊥) → cell_of ds j ≡ cell_of cs j

pub changed_set : (cs : List (Option Cell)) (i : ℕ) (new : Option Cell) → i < length cs → Changed cs (set cs i new) i new
changed_set cs i new lt = record { here = get_or-set_same cs i new None lt; rest = λ j apart. get_or-set_other cs i j new None apart }

out_by : (cs ds : List (Option Cell)) (o i j : ℕ) (us : List Used) → OwnsItsChunks cs o us → Changed cs ds i None → (j ≡ i) ⊎ (j ≡ i → ⊥)
    → map mark (filter (is_place (o, j)) (filter (is_not_place (o, i)) us)) ≡ marks (cell_of ds j)
out_by cs ds o i j us own ch (inl q) = rw q (ap (map mark) (gone (o, i) us) ∙ sym (ap marks ch.here))
out_by cs ds o i j us own ch (inr q) = ap (map mark) (kept o i j us q) ∙ own j ∙ sym (ap marks (ch.rest j q))

pub owns_out : (cs ds : List (Option Cell)) (o i : ℕ) (us : List Used) → OwnsItsChunks cs o us → Changed cs ds i None → OwnsItsChunks ds o (filter (is_not_place (o, i)) us)
owns_out cs ds o i us own ch j = out_by cs ds o i j us own ch (cases_eq j i)

one_there : (o i : ℕ) (u : Used) → u.owner ≡ o → u.index ≡ i → is_place (o, i) u ≡ true
one_there o i u e f = grind (arith, common_steps)

in_by : (cs ds : List (Option Cell)) (o i j : ℕ) (c : Cell) (u : Used) (us : List Used) → OwnsItsChunks cs o us → Changed cs ds i (Some c) → is_place (o, i) u ≡ true
    → u.number ≡ c.chunk → length u.bytes ≡ c.filled → (j ≡ i) ⊎ (j ≡ i → ⊥)
    → map mark (filter (is_place (o, j)) (filter (is_not_place (o, i)) us) ++ filter (is_place (o, j)) (u ∷ [])) ≡ marks (cell_of ds j)
in_by cs ds o i j c u us own ch there n f (inl q) =
    rw q (ap (λ vs. map mark (vs ++ filter (is_place (o, i)) (u ∷ []))) (gone (o, i) us)
    ∙ ap (λ b. map mark (cond b (u ∷ []) [])) there
    ∙ ap (λ x. (x, length u.bytes) ∷ []) n ∙ ap (λ x. (c.chunk, x) ∷ []) f
    ∙ sym (ap marks ch.here))
in_by cs ds o i j c u us own ch there n f (inr q) =
    ap (λ b. map mark (filter (is_place (o, j)) (filter (is_not_place (o, i)) us) ++ cond b (u ∷ []) [])) (not_there o i j u q there)
    ∙ ap (map mark) (append-nil (filter (is_place (o, j)) (filter (is_not_place (o, i)) us)) ∙ kept o i j us q) ∙ own j ∙ sym (ap marks (ch.rest j q))

pub owns_in : (cs ds : List (Option Cell)) (o i : ℕ) (c : Cell) (u : Used) (us : List Used) → OwnsItsChunks cs o us → Changed cs ds i (Some c) → is_place (o, i) u ≡ true
    → u.number ≡ c.chunk → length u.bytes ≡ c.filled → OwnsItsChunks ds o (filter (is_not_place (o, i)) us ++ u ∷ [])
owns_in cs ds o i c u us own ch there n f j =
    ap (map mark) (filter-append (is_place (o, j)) (filter (is_not_place (o, i)) us) (u ∷ [])) ∙ in_by cs ds o i j c u us own ch there n f (cases_eq j i)

-- what the calls of the pool are at a place
pub gives : (cs : List (Option Cell)) (o i : ℕ) (c : Cell) (us : List Used) → AreDistinct (numbers us) → OwnsItsChunks cs o us → cell_of cs i ≡ Some c
    → filter (is_other c.chunk) us ≡ filter (is_not_place (o, i)) us
gives cs o i c us d own at =
    let one = one_at cs o i c us own at in
    ap (λ n. filter (is_other n) us) (sym one.number) ∙ (singled (o, i) one.chunk us d one.only).other

pub moves : (cs : List (Option Cell)) (o i : ℕ) (c : Cell) (us : List Used) → AreDistinct (numbers us) → (own : OwnsItsChunks cs o us) → (at : cell_of cs i ≡ Some c)
    → used_last c.chunk us ≡ filter (is_not_place (o, i)) us ++ (one_at cs o i c us own at).chunk ∷ []
moves cs o i c us d own at =
    let one = one_at cs o i c us own at in
    let s = singled (o, i) one.chunk us d one.only in
    ap (λ n. used_last n us) (sym one.number) ∙ ap (λ vs. vs ++ filter (is_chunk one.chunk.number) us) s.other ∙ ap (λ vs. filter (is_not_place (o, i)) us ++ vs) s.chunk

pub reads : (cs : List (Option Cell)) (o i : ℕ) (c : Cell) (us : List Used) → AreDistinct (numbers us) → OwnsItsChunks cs o us → cell_of cs i ≡ Some c
    → bytes_in c.chunk us ≡ bytes_at (o, i) (shown us)
reads cs o i c us d own at =
    let one = one_at cs o i c us own at in
    ap (λ n. bytes_in n us) (sym one.number) ∙ ap bytes_found (singled (o, i) one.chunk us d one.only).found
    ∙ sym (ap first_bytes (shown_at (o, i) us ∙ ap shown one.only))

pub reads_none : (cs : List (Option Cell)) (o i : ℕ) (us : List Used) → OwnsItsChunks cs o us → cell_of cs i ≡ None → bytes_at (o, i) (shown us) ≡ []
reads_none cs o i us own at = ap first_bytes (shown_at (o, i) us ∙ ap shown (none_at cs o i us own at))

pub fills : (cs : List (Option Cell)) (o i : ℕ) (c : Cell) (us : List Used) → OwnsItsChunks cs o us → cell_of cs i ≡ Some c → AreDistinct (numbers us) → length (bytes_in c.chunk us) ≡ c.filled
fills cs o i c us own at d =
    let one = one_at cs o i c us own at in
    ap (λ n. length (bytes_in n us)) (sym one.number) ∙ ap (λ f. length (bytes_found f)) (singled (o, i) one.chunk us d one.only).found ∙ one.filled

pub is_there : (cs : List (Option Cell)) (o i : ℕ) (c : Cell) (us : List Used) → OwnsItsChunks cs o us → cell_of cs i ≡ Some c → is_in c.chunk (numbers us) ≡ true
is_there cs o i c us own at = let one = one_at cs o i c us own at in ap (λ n. is_in n (numbers us)) (sym one.number) ∙ present (o, i) one.chunk us one.only

place_by : (b : Bool) (o i : ℕ) (t u : Used) (us vs : List Used) → is_place (o, i) t ≡ b → cond b (t ∷ filter (is_place (o, i)) us) (filter (is_place (o, i)) us) ≡ u ∷ vs
    → (filter (is_place (o, i)) us ≡ u ∷ vs → is_place (o, i) u ≡ true) → is_place (o, i) u ≡ true
place_by true o i t u us vs e f ih = ap (is_place (o, i)) (sym (ap (λ l. get_or l 0 t) f)) ∙ e
place_by false o i t u us vs e f ih = ih f

pub place_true : (o i : ℕ) (u : Used) (us vs : List Used) → filter (is_place (o, i)) us ≡ u ∷ vs → is_place (o, i) u ≡ true
place_true o i u [] vs e = absurd cc
place_true o i u (t ∷ us) vs e = place_by (is_place (o, i) t) o i t u us vs refl e (λ f. place_true o i u us vs f)

none_set : (cs : List (Option Cell)) (i : ℕ) → cell_of (set cs i None) i ≡ None
none_set [] i = refl
none_set (x ∷ cs) zero = refl
none_set (x ∷ cs) (suc i) = none_set cs i

pub changed_none : (cs ds : List (Option Cell)) (i : ℕ) → ds ≡ set cs i None → Changed cs ds i None
changed_none cs ds i e = record {
  here = rw e (none_set cs i);
  rest = λ j apart. rw e (get_or-set_other cs i j None None apart);
}

same_by : (cs ds : List (Option Cell)) (o i j : ℕ) (us : List Used) → OwnsItsChunks cs o us → Changed cs ds i None → cell_of cs i ≡ None → (j ≡ i) ⊎ (j ≡ i → ⊥)
    → map mark (filter (is_place (o, j)) us) ≡ marks (cell_of ds j)
same_by cs ds o i j us own ch e (inl q) = rw q (own i ∙ ap marks (e ∙ sym ch.here))
same_by cs ds o i j us own ch e (inr q) = own j ∙ sym (ap marks (ch.rest j q))

pub owns_same : (cs ds : List (Option Cell)) (o i : ℕ) (us : List Used) → OwnsItsChunks cs o us → Changed cs ds i None → cell_of cs i ≡ None → OwnsItsChunks ds o us
owns_same cs ds o i us own ch e j = same_by cs ds o i j us own ch e (cases_eq j i)

pub shows_without : (cs : List (Option Cell)) (o i : ℕ) (c : Cell) (us : List Used) → AreDistinct (numbers us) → OwnsItsChunks cs o us → cell_of cs i ≡ Some c
    → shown (filter (is_other c.chunk) us) ≡ without (o, i) (shown us)
shows_without cs o i c us d own at = ap shown (gives cs o i c us d own at) ∙ sym (shown_else (o, i) us)

pub shows_none : (cs : List (Option Cell)) (o i : ℕ) (us : List Used) → OwnsItsChunks cs o us → cell_of cs i ≡ None → shown us ≡ without (o, i) (shown us)
shows_none cs o i us own at = ap shown (sym (nothing_at (o, i) us (none_at cs o i us own at))) ∙ sym (shown_else (o, i) us)

pub shows_last : (cs : List (Option Cell)) (o i : ℕ) (c : Cell) (us : List Used) → AreDistinct (numbers us) → OwnsItsChunks cs o us → cell_of cs i ≡ Some c
    → shown (used_last c.chunk us) ≡ touched (o, i) (shown us)
shows_last cs o i c us d own at =
    let one = one_at cs o i c us own at in
    ap shown (moves cs o i c us d own at) ∙ map-append show (filter (is_not_place (o, i)) us) (one.chunk ∷ [])
    ∙ ap (λ vs. vs ++ show one.chunk ∷ []) (sym (shown_else (o, i) us))
    ∙ ap (λ vs. filter (is_elsewhere (o, i)) (shown us) ++ vs) (sym (shown_at (o, i) us ∙ ap shown one.only))

pub owns_moved : (cs : List (Option Cell)) (o i : ℕ) (c : Cell) (us : List Used) → AreDistinct (numbers us) → OwnsItsChunks cs o us → cell_of cs i ≡ Some c
    → OwnsItsChunks cs o (used_last c.chunk us)
owns_moved cs o i c us d own at =
    let one = one_at cs o i c us own at in
    rw (moves cs o i c us d own at) (owns_in cs cs o i c one.chunk us own (record { here = at; rest = λ j apart. refl }) (place_true o i one.chunk us [] one.only) one.number one.filled)

pub owns_given : (cs ds : List (Option Cell)) (o i : ℕ) (c : Cell) (us : List Used) → AreDistinct (numbers us) → OwnsItsChunks cs o us → cell_of cs i ≡ Some c
    → ds ≡ set cs i None → OwnsItsChunks ds o (filter (is_other c.chunk) us)
owns_given cs ds o i c us d own at e = rw (gives cs o i c us d own at) (owns_out cs ds o i us own (changed_none cs ds i e))

pub in_table : (cs : List (Option Cell)) (i : ℕ) (c : Cell) → cell_of cs i ≡ Some c → i < length cs
in_table [] i c e = absurd cc
in_table (x ∷ cs) zero c e = omega arith
in_table (x ∷ cs) (suc i) c e = omega (arith, in_table cs i c e)
