-- Cells and the pool: each cell is the one chunk of its place.
use Rattle.std.proofs.Common.{ℕ, ◌≡◌, Bool, true, false, ◌==◌, not, cond, List, [], ◌∷◌, length, map, get_or, arith, refl, sym, ◌∙◌, ap, Option, Some, None}
use Rattle.std.proofs.lemmas.Grind.{common_steps}
use Rattle.std.specs.List.{filter, find}
use Rattle.pp_pool.specs.Chunks.{Used, is_in, is_chunk, is_other, is_place, AreDistinct, numbers}
use Rattle.pp_holes.specs.declared.cell.Cell.{Cell}
use Rattle.pp_holes.specs.Places.{show, shown, is_at, is_elsewhere}
use Rattle.pp_holes.specs.Cells.{mark, marks, cell_of, OwnsItsChunks}

abbrev pub is_not_place : ℕ × ℕ → Used → Bool
is_not_place at u = not (is_place at u)

filter_at_by : (b : Bool) (at : ℕ × ℕ) (u : Used) (us : List Used) → filter (is_at at) (map show us) ≡ map show (filter (is_place at) us)
    → cond b (show u ∷ filter (is_at at) (map show us)) (filter (is_at at) (map show us)) ≡ map show (cond b (u ∷ filter (is_place at) us) (filter (is_place at) us))
filter_at_by true at u us ih = ap (λ cs. show u ∷ cs) ih
filter_at_by false at u us ih = ih

pub shown_at : (at : ℕ × ℕ) (us : List Used) → filter (is_at at) (shown us) ≡ shown (filter (is_place at) us)
shown_at at [] = refl
shown_at at (u ∷ us) = filter_at_by (is_place at u) at u us (shown_at at us)

filter_else_by : (b : Bool) (at : ℕ × ℕ) (u : Used) (us : List Used) → filter (is_elsewhere at) (map show us) ≡ map show (filter (is_not_place at) us)
    → cond b (show u ∷ filter (is_elsewhere at) (map show us)) (filter (is_elsewhere at) (map show us)) ≡ map show (cond b (u ∷ filter (is_not_place at) us) (filter (is_not_place at) us))
filter_else_by true at u us ih = ap (λ cs. show u ∷ cs) ih
filter_else_by false at u us ih = ih

pub shown_else : (at : ℕ × ℕ) (us : List Used) → filter (is_elsewhere at) (shown us) ≡ shown (filter (is_not_place at) us)
shown_else at [] = refl
shown_else at (u ∷ us) = filter_else_by (is_not_place at u) at u us (shown_else at us)

no_marks : (us : List Used) → map mark us ≡ [] → us ≡ []
no_marks [] e = refl
no_marks (u ∷ us) e = absurd cc

pub none_at : (cs : List (Option Cell)) (o i : ℕ) (us : List Used) → OwnsItsChunks cs o us → cell_of cs i ≡ None → filter (is_place (o, i)) us ≡ []
none_at cs o i us own e = no_marks _ (own i ∙ ap marks e)

pub record Is (us : List Used) (at : ℕ × ℕ) (c : Cell) : Type 0 where
  pub chunk : Used
  pub only : filter (is_place at) us ≡ chunk ∷ []
  pub number : chunk.number ≡ c.chunk
  pub filled : length chunk.bytes ≡ c.filled

abbrev heads : List (ℕ × ℕ) → ℕ × ℕ
heads [] = (0, 0)
heads (x ∷ xs) = x

abbrev rests : List (ℕ × ℕ) → List (ℕ × ℕ)
rests [] = []
rests (x ∷ xs) = xs

one_mark : (at : ℕ × ℕ) (c : Cell) (us vs : List Used) → filter (is_place at) us ≡ vs → map mark vs ≡ (c.chunk, c.filled) ∷ [] → Is us at c
one_mark at c us [] e m = absurd cc
one_mark at c us (v ∷ vs) e m = record {
  chunk = v;
  only = e ∙ ap (λ ws. v ∷ ws) (no_marks vs (ap rests m));
  number = ap (λ l. (heads l).0) m;
  filled = ap (λ l. (heads l).1) m;
}

pub one_at : (cs : List (Option Cell)) (o i : ℕ) (c : Cell) (us : List Used) → OwnsItsChunks cs o us → cell_of cs i ≡ Some c → Is us (o, i) c
one_at cs o i c us own e = one_mark (o, i) c us (filter (is_place (o, i)) us) refl (own i ∙ ap marks e)

head_same : (t u : Used) (ts us : List Used) → t ∷ ts ≡ u ∷ us → t ≡ u
head_same t u ts us e = ap (λ l. get_or l 0 t) e

abbrev tail : List Used → List Used
tail [] = []
tail (u ∷ us) = us

rest_same : (t u : Used) (ts us : List Used) → t ∷ ts ≡ u ∷ us → ts ≡ us
rest_same t u ts us e = ap tail e

itself : (n : ℕ) → (n == n) ≡ true
itself n = grind (arith, common_steps)

clash_bool : (b : Bool) → b ≡ false → b ≡ true → ⊥
clash_bool true a b = absurd cc
clash_bool false a b = absurd cc

clash : (n m : ℕ) (ns : List ℕ) → n ≡ m → is_in n ns ≡ false → is_in m ns ≡ true → ⊥
clash n m ns e a b = clash_bool (is_in m ns) (ap (λ k. is_in k ns) (sym e) ∙ a) b

differs_by : (v : Bool) (t u : Used) (us : List Used) → (t.number == u.number) ≡ v → is_in t.number (numbers us) ≡ false → is_in u.number (numbers us) ≡ true → (t.number == u.number) ≡ false
differs_by false t u us e a b = e
differs_by true t u us e a b = absurd (clash t.number u.number (numbers us) (grind (arith, common_steps)) a b)

differs : (t u : Used) (us : List Used) → is_in t.number (numbers us) ≡ false → is_in u.number (numbers us) ≡ true → (t.number == u.number) ≡ false
differs t u us a b = differs_by (t.number == u.number) t u us refl a b

-- a chunk that passes the test is there
present_by : (b : Bool) (at : ℕ × ℕ) (t u : Used) (us : List Used) → is_place at t ≡ b → cond b (t ∷ filter (is_place at) us) (filter (is_place at) us) ≡ u ∷ []
    → (filter (is_place at) us ≡ u ∷ [] → is_in u.number (numbers us) ≡ true) → is_in u.number (numbers (t ∷ us)) ≡ true
present_by true at t u us e f ih = let same : t ≡ u = head_same t u (filter (is_place at) us) [] f in rw same (grind (arith, common_steps))
present_by false at t u us e f ih = let h = ih f in grind (arith, common_steps, h)

pub present : (at : ℕ × ℕ) (u : Used) (us : List Used) → filter (is_place at) us ≡ u ∷ [] → is_in u.number (numbers us) ≡ true
present at u [] e = absurd cc
present at u (t ∷ us) e = present_by (is_place at t) at t u us refl e (present at u us)

-- where numbers are distinct, the one chunk of a place is the one chunk of its number
pub record Singled (us : List Used) (at : ℕ × ℕ) (u : Used) : Type 0 where
  pub chunk : filter (is_chunk u.number) us ≡ u ∷ []
  pub other : filter (is_other u.number) us ≡ filter (is_not_place at) us
  pub found : find (is_chunk u.number) us ≡ Some u

absent_chunk : (n : ℕ) (us : List Used) → is_in n (numbers us) ≡ false → filter (is_chunk n) us ≡ []
absent_chunk n [] h = refl
absent_chunk n (u ∷ us) h = grind (arith, common_steps, absent_chunk n us)

absent_other : (n : ℕ) (us : List Used) → is_in n (numbers us) ≡ false → filter (is_other n) us ≡ us
absent_other n [] h = refl
absent_other n (u ∷ us) h = grind (arith, common_steps, absent_other n us)

nothing_by : (b : Bool) (at : ℕ × ℕ) (u : Used) (us : List Used) → is_place at u ≡ b → cond b (u ∷ filter (is_place at) us) (filter (is_place at) us) ≡ []
    → (filter (is_place at) us ≡ [] → filter (is_not_place at) us ≡ us) → filter (is_not_place at) (u ∷ us) ≡ u ∷ us
nothing_by true at u us e h ih = absurd cc
nothing_by false at u us e h ih = rw e (ap (λ us. u ∷ us) (ih h))

pub nothing_at : (at : ℕ × ℕ) (us : List Used) → filter (is_place at) us ≡ [] → filter (is_not_place at) us ≡ us
nothing_at at [] h = refl
nothing_at at (u ∷ us) h = nothing_by (is_place at u) at u us refl h (nothing_at at us)

singled_by : (b : Bool) (at : ℕ × ℕ) (t u : Used) (us : List Used) → is_place at t ≡ b → AreDistinct (numbers (t ∷ us))
    → cond b (t ∷ filter (is_place at) us) (filter (is_place at) us) ≡ u ∷ []
    → (AreDistinct (numbers us) → filter (is_place at) us ≡ u ∷ [] → Singled us at u) → Singled (t ∷ us) at u
singled_by true at t u us e d f ih =
    let same : t ≡ u = head_same t u (filter (is_place at) us) [] f in
    let rest : filter (is_place at) us ≡ [] = rest_same t u (filter (is_place at) us) [] f in
    let gone : is_in u.number (numbers us) ≡ false = rw (← same) d.0 in
    record {
      chunk = rw (same, itself u.number) (ap (λ us. u ∷ us) (absent_chunk u.number us gone));
      other = rw (e) (rw (same, itself u.number) (absent_other u.number us gone ∙ sym (nothing_at at us rest)));
      found = rw (same, itself u.number) refl;
    }
singled_by false at t u us e d f ih =
    let i = ih d.1 f in
    let apart : (t.number == u.number) ≡ false = differs t u us d.0 (present at u us f) in
    record {
      chunk = rw apart i.chunk;
      other = rw (e, apart) (ap (λ us. t ∷ us) i.other);
      found = rw apart i.found;
    }

pub singled : (at : ℕ × ℕ) (u : Used) (us : List Used) → AreDistinct (numbers us) → filter (is_place at) us ≡ u ∷ [] → Singled us at u
singled at u [] d e = absurd cc
singled at u (t ∷ us) d e = singled_by (is_place at t) at t u us refl d e (singled at u us)
