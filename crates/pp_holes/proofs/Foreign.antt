-- A change at a place of one owner leaves the chunks of the others.
use Rattle.std.proofs.Common.{ℕ, ◌≡◌, ◌<◌, ◌≤◌, ◌⊎◌, inl, inr, length, Bool, true, false, ◌==◌, not, cond, List, [], ◌∷◌, ◌++◌, map, arith, refl, sym, ◌∙◌, ap, Option, Some, None}
use Rattle.std.proofs.lemmas.Grind.{common_steps}
use Rattle.std.proofs.lemmas.Bool.{cases_lt}
use Rattle.std.proofs.lemmas.List.{append-nil, get_or_past}
use Rattle.std.proofs.lemmas.List.Elements.{filter-append}
use Rattle.std.specs.List.{filter}
use Rattle.pp_pool.specs.Chunks.{Used, is_in, is_other, is_place, AreDistinct, numbers, extended, used_last}
use Rattle.pp_holes.specs.declared.cell.Cell.{Cell}
use Rattle.pp_holes.specs.Cells.{mark, cell_of, OwnsItsChunks, is_foreign, foreign}
use Rattle.pp_holes.proofs.Owned.{is_not_place, one_at, none_at}
use Rattle.pp_holes.proofs.Changes.{gives, moves, place_true}
use Rattle.pp_holes.proofs.Joins.{taken_filled, filled_moved, fresh, more, place_same}

at_home : (o i : ℕ) (u : Used) → is_place (o, i) u ≡ true → is_foreign o u ≡ false
at_home o i u e = grind (arith, common_steps, e)

rest_by : (b : Bool) (o i : ℕ) (u : Used) (us : List Used) → is_place (o, i) u ≡ b → foreign o (filter (is_not_place (o, i)) us) ≡ foreign o us
    → foreign o (cond (not b) (u ∷ filter (is_not_place (o, i)) us) (filter (is_not_place (o, i)) us)) ≡ foreign o (u ∷ us)
rest_by true o i u us e ih = rw (at_home o i u e) ih
rest_by false o i u us e ih = ap (λ vs. cond (is_foreign o u) (u ∷ vs) vs) ih

pub rest_foreign : (o i : ℕ) (us : List Used) → foreign o (filter (is_not_place (o, i)) us) ≡ foreign o us
rest_foreign o i [] = refl
rest_foreign o i (u ∷ us) = rest_by (is_place (o, i) u) o i u us refl (rest_foreign o i us)

pub in_foreign : (o i : ℕ) (u : Used) (us : List Used) → is_place (o, i) u ≡ true → foreign o (filter (is_not_place (o, i)) us ++ u ∷ []) ≡ foreign o us
in_foreign o i u us e =
    filter-append (is_foreign o) (filter (is_not_place (o, i)) us) (u ∷ [])
    ∙ ap (λ b. foreign o (filter (is_not_place (o, i)) us) ++ cond b (u ∷ []) []) (at_home o i u e)
    ∙ append-nil (foreign o (filter (is_not_place (o, i)) us)) ∙ rest_foreign o i us

pub given_foreign : (cs : List (Option Cell)) (o i : ℕ) (c : Cell) (us : List Used) → AreDistinct (numbers us) → OwnsItsChunks cs o us → cell_of cs i ≡ Some c
    → foreign o (filter (is_other c.chunk) us) ≡ foreign o us
given_foreign cs o i c us d own at = ap (foreign o) (gives cs o i c us d own at) ∙ rest_foreign o i us

pub moved_foreign : (cs : List (Option Cell)) (o i : ℕ) (c : Cell) (us : List Used) → AreDistinct (numbers us) → OwnsItsChunks cs o us → cell_of cs i ≡ Some c
    → foreign o (used_last c.chunk us) ≡ foreign o us
moved_foreign cs o i c us d own at =
    let one = one_at cs o i c us own at in
    ap (foreign o) (moves cs o i c us d own at) ∙ in_foreign o i one.chunk us (place_true o i one.chunk us [] one.only)

pub opened_foreign : (cs : List (Option Cell)) (o i c : ℕ) (bs : List ℕ) (us : List Used) → OwnsItsChunks cs o us → cell_of cs i ≡ None → is_in c (numbers us) ≡ false
    → foreign o (map (extended c bs) (us ++ fresh c o i [] ∷ [])) ≡ foreign o us
opened_foreign cs o i c bs us own at h = ap (foreign o) (taken_filled cs o i c bs us own at h) ∙ in_foreign o i (fresh c o i bs) us (place_same o i)

pub extended_foreign : (cs : List (Option Cell)) (o i : ℕ) (c : Cell) (bs : List ℕ) (us : List Used) → AreDistinct (numbers us) → OwnsItsChunks cs o us → cell_of cs i ≡ Some c
    → foreign o (used_last c.chunk (map (extended c.chunk bs) us)) ≡ foreign o us
extended_foreign cs o i c bs us d own at =
    let one = one_at cs o i c us own at in
    ap (foreign o) (filled_moved cs o i c bs us d own at) ∙ in_foreign o i (more bs one.chunk) us (place_true o i one.chunk us [] one.only)

-- so the cells of another owner still own their chunks
elsewhere : (o p i : ℕ) (u : Used) → (p ≡ o → ⊥) → is_foreign o u ≡ false → is_place (p, i) u ≡ false
elsewhere o p i u apart e = grind (arith, common_steps, e)

apart_by : (b : Bool) (o p i : ℕ) (u : Used) (us : List Used) → (p ≡ o → ⊥) → is_foreign o u ≡ b → filter (is_place (p, i)) (foreign o us) ≡ filter (is_place (p, i)) us
    → filter (is_place (p, i)) (cond b (u ∷ foreign o us) (foreign o us)) ≡ filter (is_place (p, i)) (u ∷ us)
apart_by true o p i u us apart e ih = ap (λ vs. cond (is_place (p, i) u) (u ∷ vs) vs) ih
apart_by false o p i u us apart e ih = rw (elsewhere o p i u apart e) ih

apart_same : (o p i : ℕ) (us : List Used) → (p ≡ o → ⊥) → filter (is_place (p, i)) (foreign o us) ≡ filter (is_place (p, i)) us
apart_same o p i [] apart = refl
apart_same o p i (u ∷ us) apart = apart_by (is_foreign o u) o p i u us apart refl (apart_same o p i us apart)

pub others_own : (ds : List (Option Cell)) (o p : ℕ) (us vs : List Used) → (p ≡ o → ⊥) → foreign o vs ≡ foreign o us → OwnsItsChunks ds p us → OwnsItsChunks ds p vs
others_own ds o p us vs apart e own i =
    ap (map mark) (sym (apart_same o p i vs apart) ∙ ap (filter (is_place (p, i))) e ∙ apart_same o p i us apart) ∙ own i

there_by : (b : Bool) (u : Used) (us : List Used) → b ≡ true → cond b (u ∷ us) us ≡ [] → ⊥
there_by true u us e h = absurd cc
there_by false u us e h = absurd cc

there_is : (o i : ℕ) (u : Used) (us : List Used) → is_place (o, i) u ≡ true → filter (is_place (o, i)) (u ∷ us) ≡ [] → ⊥
there_is o i u us e h = there_by (is_place (o, i) u) u (filter (is_place (o, i)) us) e h

rest_none_by : (b : Bool) (u : Used) (us : List Used) → cond b (u ∷ us) us ≡ [] → us ≡ []
rest_none_by true u us h = absurd cc
rest_none_by false u us h = h

rest_none : (o i : ℕ) (u : Used) (us : List Used) → filter (is_place (o, i)) (u ∷ us) ≡ [] → filter (is_place (o, i)) us ≡ []
rest_none o i u us h = rest_none_by (is_place (o, i) u) u (filter (is_place (o, i)) us) h

-- where no chunk stands at any place of an owner, all are of others
only_foreign_by : (b : Bool) (o : ℕ) (u : Used) (us : List Used) → (u.owner == o) ≡ b → ((i : ℕ) → filter (is_place (o, i)) (u ∷ us) ≡ [])
    → (((i : ℕ) → filter (is_place (o, i)) us ≡ []) → foreign o us ≡ us) → cond (not b) (u ∷ foreign o us) (foreign o us) ≡ u ∷ us
only_foreign_by true o u us e none ih = absurd (there_is o u.index u us (grind (arith, common_steps, e)) (none u.index))
only_foreign_by false o u us e none ih = ap (λ vs. u ∷ vs) (ih (λ i. rest_none o i u us (none i)))

pub only_foreign : (o : ℕ) (us : List Used) → ((i : ℕ) → filter (is_place (o, i)) us ≡ []) → foreign o us ≡ us
only_foreign o [] none = refl
only_foreign o (u ∷ us) none = only_foreign_by (u.owner == o) o u us refl none (only_foreign o us)

pub all_given : (cs : List (Option Cell)) (o : ℕ) (us : List Used) → OwnsItsChunks cs o us → ((i : ℕ) → cell_of cs i ≡ None) → foreign o us ≡ us
all_given cs o us own none = only_foreign o us (λ i. none_at cs o i us own (none i))

none_by : (cs : List (Option Cell)) (n i : ℕ) → length cs ≤ n → ((j : ℕ) → j < n → cell_of cs j ≡ None) → (i < n) ⊎ (n ≤ i) → cell_of cs i ≡ None
none_by cs n i le none (inl lt) = none i lt
none_by cs n i le none (inr past) = get_or_past cs i None (omega (arith, le, past))

pub none_left : (cs : List (Option Cell)) (n : ℕ) → length cs ≤ n → ((j : ℕ) → j < n → cell_of cs j ≡ None) → (i : ℕ) → cell_of cs i ≡ None
none_left cs n le none i = none_by cs n i le none (cases_lt i n)
