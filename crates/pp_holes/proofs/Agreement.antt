-- Cells and pool agree after each change.
use Rattle.std.proofs.Common.{arith, ℕ, ◌+◌, ◌<◌, ◌≤◌, ◌≡◌, false, List, [], ◌∷◌, ◌++◌, length, map, set, replicate, zero, suc, refl, sym, ◌∙◌, ap, subst, Option, Some, None, ◌⊎◌, inl, inr}
use Rattle.std.specs.List.{filter}
use Rattle.std.proofs.lemmas.Bool.{cases_eq}
use Rattle.pp_pool.specs.Chunks.{Used, Chunks, is_place, is_in, is_other, AreDistinct, numbers, extended, used_last}
use Rattle.pp_holes.specs.declared.cell.Cell.{Cell}
use Rattle.pp_holes.specs.Cells.{Agrees, OwnsItsChunks, IsFront, cell_of, filled_of, mark, marks}
use Rattle.pp_holes.proofs.Changes.{Changed, changed_set, changed_none, owns_same, owns_given, owns_moved}
use Rattle.pp_holes.proofs.Joins.{owns_opened, owns_extended, fresh}

front_by : (cs ds : List (Option Cell)) (i j : ℕ) (new : Option Cell) → Changed cs ds i new → IsFront new → IsFront (cell_of cs j) → (j ≡ i) ⊎ (j ≡ i → ⊥) → IsFront (cell_of ds j)
front_by cs ds i j new ch f old (inl q) = let P : Option Cell → Type 0 = λ x. IsFront x in subst P (sym (ap (cell_of ds) q ∙ ch.here)) f
front_by cs ds i j new ch f old (inr q) = let P : Option Cell → Type 0 = λ x. IsFront x in subst P (sym (ch.rest j q)) old

fronts_changed : (cs ds : List (Option Cell)) (i : ℕ) (new : Option Cell) → Changed cs ds i new → IsFront new → ((j : ℕ) → IsFront (cell_of cs j)) → (j : ℕ) → IsFront (cell_of ds j)
fronts_changed cs ds i new ch f old j = front_by cs ds i j new ch f (old j) (cases_eq j i)

pub agrees_begun : (cs : List (Option Cell)) (o i : ℕ) (d : Cell) (bs : List ℕ) (us vs : List Used) → Agrees o cs us → cell_of cs i ≡ None → i < length cs
    → is_in d.chunk (numbers us) ≡ false → length bs ≡ d.filled → 0 < d.filled → d.filled ≤ 4096 → AreDistinct (numbers vs)
    → vs ≡ map (extended d.chunk bs) (us ++ fresh d.chunk o i [] ∷ []) → Agrees o (set cs i (Some d)) vs
agrees_begun cs o i d bs us vs a at lt new f some short dis e = record {
  distinct = dis;
  owns = let P : List Used → Type 0 = λ ws. OwnsItsChunks (set cs i (Some d)) o ws in
      subst P (sym e) (owns_opened cs (set cs i (Some d)) o i d bs us a.owns at lt new f refl);
  fronts = fronts_changed cs (set cs i (Some d)) i (Some d) (changed_set cs i (Some d) lt) (some, short) a.fronts;
}

pub agrees_extended : (cs ds : List (Option Cell)) (o i : ℕ) (c d : Cell) (bs : List ℕ) (us vs : List Used) → Agrees o cs us → cell_of cs i ≡ Some c
    → Changed cs ds i (Some d) → d.chunk ≡ c.chunk → d.filled ≡ c.filled + length bs → 0 < d.filled → d.filled ≤ 4096 → AreDistinct (numbers vs)
    → vs ≡ used_last c.chunk (map (extended c.chunk bs) us) → Agrees o ds vs
agrees_extended cs ds o i c d bs us vs a at ch n f some short dis e = record {
  distinct = dis;
  owns = let P : List Used → Type 0 = λ ws. OwnsItsChunks ds o ws in
      subst P (sym e) (owns_extended cs ds o i c d bs us a.distinct a.owns at ch n f);
  fronts = fronts_changed cs ds i (Some d) ch (some, short) a.fronts;
}

pub agrees_given : (cs ds : List (Option Cell)) (o i : ℕ) (c : Cell) (us vs : List Used) → Agrees o cs us → cell_of cs i ≡ Some c → ds ≡ set cs i None → AreDistinct (numbers vs)
    → vs ≡ filter (is_other c.chunk) us → Agrees o ds vs
agrees_given cs ds o i c us vs a at set_none dis e = record {
  distinct = dis;
  owns = let P : List Used → Type 0 = λ ws. OwnsItsChunks ds o ws in
      subst P (sym e) (owns_given cs ds o i c us a.distinct a.owns at set_none);
  fronts = fronts_changed cs ds i None (changed_none cs ds i set_none) tt a.fronts;
}

pub agrees_same : (cs ds : List (Option Cell)) (o i : ℕ) (us : List Used) → Agrees o cs us → cell_of cs i ≡ None → ds ≡ set cs i None → Agrees o ds us
agrees_same cs ds o i us a at set_none = record {
  distinct = a.distinct;
  owns = owns_same cs ds o i us a.owns (changed_none cs ds i set_none) at;
  fronts = fronts_changed cs ds i None (changed_none cs ds i set_none) tt a.fronts;
}

pub agrees_moved : (cs : List (Option Cell)) (o i : ℕ) (c : Cell) (us vs : List Used) → Agrees o cs us → cell_of cs i ≡ Some c → AreDistinct (numbers vs)
    → vs ≡ used_last c.chunk us → Agrees o cs vs
agrees_moved cs o i c us vs a at dis e = record {
  distinct = dis;
  owns = let P : List Used → Type 0 = λ ws. OwnsItsChunks cs o ws in subst P (sym e) (owns_moved cs o i c us a.distinct a.owns at);
  fronts = a.fronts;
}

some_by : (x : Option Cell) (c : Cell) → IsFront x → x ≡ Some c → 0 < c.filled
some_by None c f e = absurd cc
some_by (Some d) c f e = omega (arith, f.0, ap filled_of e)

pub some_filled : (cs : List (Option Cell)) (o i : ℕ) (c : Cell) (us : List Used) → Agrees o cs us → cell_of cs i ≡ Some c → 0 < c.filled
some_filled cs o i c us a at = some_by (cell_of cs i) c (a.fronts i) at

-- the used chunks after two calls of the pool
pub used_begun : (p q r : Chunks) (c o i : ℕ) (bs : List ℕ) → r ≡ record q { used = map (extended c bs) q.used } → q ≡ record p { used = p.used ++ fresh c o i [] ∷ [] }
    → r.used ≡ map (extended c bs) (p.used ++ fresh c o i [] ∷ [])
used_begun p q r c o i bs e f = ap (λ (v : Chunks). v.used) e ∙ ap (λ (v : Chunks). map (extended c bs) v.used) f

pub used_extended : (p q r : Chunks) (c : ℕ) (bs : List ℕ) → r ≡ record q { used = used_last c q.used } → q ≡ record p { used = map (extended c bs) p.used }
    → r.used ≡ used_last c (map (extended c bs) p.used)
used_extended p q r c bs e f = ap (λ (v : Chunks). v.used) e ∙ ap (λ (v : Chunks). used_last c v.used) f

none_there : (n i : ℕ) → cell_of (replicate n None) i ≡ None
none_there zero i = refl
none_there (suc n) zero = refl
none_there (suc n) (suc i) = none_there n i

-- an owner of no chunk may begin with empty cells
pub agrees_new : (o n : ℕ) (us : List Used) → AreDistinct (numbers us) → ((i : ℕ) → filter (is_place (o, i)) us ≡ []) → Agrees o (replicate n None) us
agrees_new o n us dis none = record {
  distinct = dis;
  owns = λ i. ap (map mark) (none i) ∙ sym (ap marks (none_there n i));
  fronts = λ i. let P : Option Cell → Type 0 = λ x. IsFront x in subst P (sym (none_there n i)) tt;
}
