-- The instances agree with the pool after a change of one of them.
use Rattle.std.proofs.Common.{ℕ, ◌≡◌, Bool, true, false, ◌==◌, not, cond, List, [], ◌∷◌, map, set, arith, refl, sym, ◌∙◌, ap, subst, Option, Some, None, ◌⊎◌, inl, inr}
use Rattle.std.specs.List.{filter}
use Rattle.std.specs.Prelude.{option_map, IsSomeAnd}
use Rattle.std.proofs.lemmas.Grind.{common_steps}
use Rattle.std.proofs.lemmas.Bool.{cases_eq}
use Rattle.pp_pool.specs.Chunks.{Used, is_place, numbers, AreDistinct}
use Rattle.pp_holes.specs.declared.cell.Cell.{Cell}
use Rattle.pp_holes.specs.Cells.{Agrees, is_foreign, foreign, mark}
use Rattle.pp_holes.proofs.Foreign.{others_own}
use Rattle.pp_objects.specs.declared.row.Row.{Row}
use Rattle.pp_objects.specs.declared.objects.Objects.TheInside.{Inside}
use Rattle.pp_objects.specs.Instances.{Instance, Rows, cells_at, cells_of}
use Rattle.pp_objects.specs.Inside.{row_at, rows_in, IsSound}
use Rattle.pp_holes.specs.Places.{Chunk, show, shown, without_owner}
use Rattle.pp_objects.specs.Changes.{retired_from, without_slot, changed_in, retired, given_back_by, given_back, is_last, left, left_from}
use Rattle.pp_objects.specs.declared.objects.RowView.{RowView}
use Rattle.pp_objects.specs.Views.{ShowsRow}
use Rattle.pp_objects.specs.Agreement.{AllAgree}
use Rattle.pp_objects.proofs.Slots.{in_slot-seen, cells_seen, shown_as, set_same, set_other}

-- a row's cells agree with the pool
pub row_agrees : (o : Inside) (v : Rows) (s : ℕ) (r : Row) (us : List Used) → IsSound o → rows_in o ≡ v → Some r ≡ row_at o.rows.slots s → AllAgree v.instances us → Agrees r.cells.owner r.cells.cells us
row_agrees o v s r us sound e is all =
    let P : ℕ → Type 0 = λ k. Agrees k r.cells.cells us in
    let Q : List (Option Cell) → Type 0 = λ cs. Agrees s cs us in
    subst P (sym (sound.owned s r (sym is)).owner) (subst Q (cells_seen o v s r sound e is) (all s))

-- the cells of another owner agree on
pub stays : (k s : ℕ) (cs : List (Option Cell)) (us vs : List Used) → (s ≡ k → ⊥) → Agrees s cs us → AreDistinct (numbers vs) → foreign k vs ≡ foreign k us → Agrees s cs vs
stays k s cs us vs apart a dis e = record {
  distinct = dis;
  owns = others_own cs k s us vs apart e a.owns;
  fronts = a.fronts;
}

agree_by : (is js : List Instance) (k s : ℕ) (us vs : List Used) → AllAgree is us → Agrees k (cells_at k js) vs → foreign k vs ≡ foreign k us
    → ((t : ℕ) → (t ≡ k → ⊥) → cells_at t js ≡ cells_at t is) → (s ≡ k) ⊎ (s ≡ k → ⊥) → Agrees s (cells_at s js) vs
agree_by is js k s us vs all here rest same (inl q) = let P : ℕ → Type 0 = λ t. Agrees t (cells_at t js) vs in subst P (sym q) here
agree_by is js k s us vs all here rest same (inr q) =
    let P : List (Option Cell) → Type 0 = λ cs. Agrees s cs vs in
    subst P (sym (same s q)) (stays k s (cells_at s is) us vs q (all s) here.distinct rest)

-- one instance changed, and with it the chunks of its slot
pub all_agree : (is js : List Instance) (k : ℕ) (us vs : List Used) → AllAgree is us → Agrees k (cells_at k js) vs → foreign k vs ≡ foreign k us
    → ((t : ℕ) → (t ≡ k → ⊥) → cells_at t js ≡ cells_at t is) → AllAgree js vs
all_agree is js k us vs all here rest same s = agree_by is js k s us vs all here rest same (cases_eq s k)

-- the other slots show what they showed
pub same_cells : (o p : Inside) (v w : Rows) (k t : ℕ) → IsSound o → IsSound p → rows_in o ≡ v → rows_in p ≡ w → row_at p.rows.slots t ≡ row_at o.rows.slots t → cells_at t w.instances ≡ cells_at t v.instances
same_cells o p v w k t so sp e f same =
    ap cells_of (in_slot-seen p w t sp f ∙ ap (option_map (shown_as t)) same ∙ sym (in_slot-seen o v t so e))

-- a row with other cells in its slot
pub agree_set : (o p : Inside) (v w : Rows) (k : ℕ) (r : Row) (us vs : List Used) → IsSound o → IsSound p → rows_in o ≡ v → rows_in p ≡ w
    → Some r ≡ row_at p.rows.slots k → ((t : ℕ) → (t ≡ k → ⊥) → row_at p.rows.slots t ≡ row_at o.rows.slots t)
    → AllAgree v.instances us → Agrees r.cells.owner r.cells.cells vs → foreign k vs ≡ foreign k us → AllAgree w.instances vs
agree_set o p v w k r us vs so sp e f is rest all here others =
    let P : ℕ → Type 0 = λ t. Agrees t r.cells.cells vs in
    let Q : List (Option Cell) → Type 0 = λ cs. Agrees k cs vs in
    all_agree v.instances w.instances k us vs all
    (subst Q (sym (cells_seen p w k r sp f is)) (subst P (sp.owned k r (sym is)).owner here)) others
    (λ t apart. same_cells o p v w k t so sp e f (rest t apart))

-- where a slot's chunks are given back, none is left at its places
home_gone : (o i : ℕ) (u : Used) (us : List Used) (b : Bool) → (u.owner == o) ≡ b → filter (is_place (o, i)) (foreign o us) ≡ [] → filter (is_place (o, i)) (cond (not b) (u ∷ foreign o us) (foreign o us)) ≡ []
home_gone o i u us true e ih = ih
home_gone o i u us false e ih = let apart : is_place (o, i) u ≡ false = grind (arith, common_steps, e) in rw apart ih

none_at_home : (o i : ℕ) (us : List Used) → filter (is_place (o, i)) (foreign o us) ≡ []
none_at_home o i [] = refl
none_at_home o i (u ∷ us) = home_gone o i u us (u.owner == o) refl (none_at_home o i us)

twice_by : (o : ℕ) (u : Used) (us : List Used) (b : Bool) → is_foreign o u ≡ b → foreign o (foreign o us) ≡ foreign o us → foreign o (cond b (u ∷ foreign o us) (foreign o us)) ≡ cond b (u ∷ foreign o us) (foreign o us)
twice_by o u us true e ih = rw e (ap (λ vs. u ∷ vs) ih)
twice_by o u us false e ih = ih

pub foreign_twice : (o : ℕ) (us : List Used) → foreign o (foreign o us) ≡ foreign o us
foreign_twice o [] = refl
foreign_twice o (u ∷ us) = twice_by o u us (is_foreign o u) refl (foreign_twice o us)

-- an instance is out, and its chunks are given back
pub agree_removed : (o p : Inside) (v w : Rows) (k : ℕ) (us vs : List Used) → IsSound o → IsSound p → rows_in o ≡ v → rows_in p ≡ w
    → row_at p.rows.slots k ≡ None → ((t : ℕ) → (t ≡ k → ⊥) → row_at p.rows.slots t ≡ row_at o.rows.slots t)
    → AllAgree v.instances us → AreDistinct (numbers vs) → vs ≡ foreign k us → AllAgree w.instances vs
agree_removed o p v w k us vs so sp e f gone rest all dis given =
    let P : List (Option Cell) → Type 0 = λ cs. Agrees k cs vs in
    all_agree v.instances w.instances k us vs all
    (subst P (sym (ap cells_of (in_slot-seen p w k sp f ∙ ap (option_map (shown_as k)) gone)))
    (record {
      distinct = dis;
      owns = λ i. ap (map mark) (ap (filter (is_place (k, i))) given ∙ none_at_home k i us);
      fronts = λ i. tt;
    }))
    (ap (foreign k) given ∙ foreign_twice k us)
    (λ t apart. same_cells o p v w k t so sp e f (rest t apart))

same_by : (o p : Inside) (v w : Rows) (k t : ℕ) (r s : Row) → IsSound o → IsSound p → rows_in o ≡ v → rows_in p ≡ w → row_at o.rows.slots k ≡ Some r → p.rows.slots ≡ set o.rows.slots k (Some s)
    → s.cells.cells ≡ r.cells.cells → (t ≡ k) ⊎ (t ≡ k → ⊥) → cells_at t w.instances ≡ cells_at t v.instances
same_by o p v w k t r s so sp e f is slots same (inl q) =
    ap (λ n. cells_at n w.instances) q
    ∙ cells_seen p w k s sp f (sym (ap (λ qs. row_at qs k) slots ∙ set_same o.rows.slots k r s is)) ∙ same
    ∙ sym (cells_seen o v k r so e (sym is)) ∙ ap (λ n. cells_at n v.instances) (sym q)
same_by o p v w k t r s so sp e f is slots same (inr q) =
    same_cells o p v w k t so sp e f (ap (λ qs. row_at qs t) slots ∙ set_other o.rows.slots k t s q)

-- a row changed, but not in its cells
pub same_faces : (o p : Inside) (v w : Rows) (k : ℕ) (r s : Row) → IsSound o → IsSound p → rows_in o ≡ v → rows_in p ≡ w → row_at o.rows.slots k ≡ Some r → p.rows.slots ≡ set o.rows.slots k (Some s)
    → s.cells.cells ≡ r.cells.cells → (t : ℕ) → cells_at t w.instances ≡ cells_at t v.instances
same_faces o p v w k r s so sp e f is slots same t = same_by o p v w k t r s so sp e f is slots same (cases_eq t k)

-- the chunks that are left, without their numbers
shown_by : (b : Bool) (o : ℕ) (u : Used) (us : List Used) → shown (foreign o us) ≡ without_owner o (shown us) → shown (cond b (u ∷ foreign o us) (foreign o us)) ≡ cond b (show u ∷ without_owner o (shown us)) (without_owner o (shown us))
shown_by true o u us ih = ap (λ cs. show u ∷ cs) ih
shown_by false o u us ih = ih

pub shown_foreign : (o : ℕ) (us : List Used) → shown (foreign o us) ≡ without_owner o (shown us)
shown_foreign o [] = refl
shown_foreign o (u ∷ us) = shown_by (is_foreign o u) o u us (shown_foreign o us)

-- what becomes of a row that is retired
pub retired_gone : (is : List Instance) (s : ℕ) (i : Instance) (x : Option Instance) → x ≡ Some i → i.slot ≡ s → (i.followers == 0) ≡ true → retired_from x is ≡ without_slot s is
retired_gone is s i x e at none =
    ap (λ y. retired_from y is) e ∙ ap (λ b. cond b (without_slot i.slot is) (changed_in i.slot retired is)) none ∙ ap (λ n. without_slot n is) at

pub retired_kept : (is : List Instance) (s : ℕ) (i : Instance) (x : Option Instance) → x ≡ Some i → i.slot ≡ s → (i.followers == 0) ≡ false → retired_from x is ≡ changed_in s retired is
retired_kept is s i x e at none =
    ap (λ y. retired_from y is) e ∙ ap (λ b. cond b (without_slot i.slot is) (changed_in i.slot retired is)) none ∙ ap (λ n. changed_in n retired is) at

pub given_gone : (cs : List Chunk) (s : ℕ) (i : Instance) (x : Option Instance) → x ≡ Some i → i.slot ≡ s → (i.followers == 0) ≡ true → given_back_by x cs ≡ without_owner s cs
given_gone cs s i x e at none = ap (λ y. given_back_by y cs) e ∙ ap (λ b. given_back b i.slot cs) none ∙ ap (λ n. without_owner n cs) at

pub given_kept : (cs : List Chunk) (i : Instance) (x : Option Instance) → x ≡ Some i → (i.followers == 0) ≡ false → given_back_by x cs ≡ cs
given_kept cs i x e none = ap (λ y. given_back_by y cs) e ∙ ap (λ b. given_back b i.slot cs) none

pub zero_test : (n : ℕ) → n ≡ 0 → (n == 0) ≡ true
zero_test n e = grind (arith, common_steps)

pub other_test : (n m : ℕ) → (n ≡ m → ⊥) → (n == m) ≡ false
other_test n m h = grind (arith, common_steps)

pub same_test : (n m : ℕ) → n ≡ m → (n == m) ≡ true
same_test n m e = grind (arith, common_steps)

pub true_false : true ≡ false → ⊥
true_false e = absurd cc

pub shown_in : (view : RowView) (x : Option Instance) (i : Instance) → x ≡ Some i → ShowsRow view i → IsSomeAnd x (ShowsRow view)
shown_in view x i e shows = let P : Option Instance → Type 0 = λ y. IsSomeAnd y (ShowsRow view) in subst P (sym e) shows

-- nothing changed in what is in memory
pub agree_same : (is js : List Instance) (us : List Used) → ((t : ℕ) → cells_at t js ≡ cells_at t is) → AllAgree is us → AllAgree js us
agree_same is js us same all s = let P : List (Option Cell) → Type 0 = λ cs. Agrees s cs us in subst P (sym (same s)) (all s)

pub left_when : (b : Bool) (s : ℕ) (x : Option Instance) (is : List Instance) → is_last x ≡ b → left_from s x is ≡ cond b (without_slot s is) (changed_in s left is)
left_when b s x is e = ap (λ t. cond t (without_slot s is) (changed_in s left is)) e

pub given_when : (b : Bool) (s : ℕ) (x : Option Instance) (cs : List Chunk) → is_last x ≡ b → given_back (is_last x) s cs ≡ cond b (without_owner s cs) cs
given_when b s x cs e = ap (λ t. cond t (without_owner s cs) cs) e
