-- A used chunk stands at a place of an instance that is there.
use Rattle.std.proofs.Common.{ℕ, ◌≡◌, Bool, true, false, not, cond, List, [], ◌∷◌, arith, refl, sym, ◌∙◌, ap, Option, Some, None}
use Rattle.std.specs.Prelude.{option_map}
use Rattle.std.specs.List.{filter, find}
use Rattle.std.proofs.lemmas.Grind.{common_steps}
use Rattle.pp_pool.specs.Chunks.{Used, is_place, is_pinned, oldest_in, place_of}
use Rattle.pp_holes.specs.declared.cell.Cell.{Cell}
use Rattle.pp_holes.specs.Cells.{cell_of}
use Rattle.pp_holes.proofs.Owned.{none_at}
use Rattle.pp_objects.specs.Instances.{Instance, in_slot, cells_of, id_of}
use Rattle.pp_objects.specs.Agreement.{AllAgree}

wrong : false ≡ true → ⊥
wrong e = absurd cc

some_same : (v u : Used) → Some v ≡ Some u → v ≡ u
some_same v u e = cc

itself : (v u : Used) → v ≡ u → is_place (u.owner, u.index) v ≡ true
itself v u e = rw e (grind (arith, common_steps))

found_by : (b t : Bool) (p : Used → Bool) (v : Used) (us : List Used) (u : Used) → is_place (u.owner, u.index) v ≡ t → p v ≡ b → cond b (Some v) (find p us) ≡ Some u
    → (find p us ≡ Some u → filter (is_place (u.owner, u.index)) us ≡ [] → ⊥) → cond t (v ∷ filter (is_place (u.owner, u.index)) us) (filter (is_place (u.owner, u.index)) us) ≡ [] → ⊥
found_by b true p v us u e f g ih h = absurd cc
found_by true false p v us u e f g ih h = wrong (sym e ∙ itself v u (some_same v u g))
found_by false false p v us u e f g ih h = ih g h

-- a chunk that a search finds stands at its place
not_empty : (p : Used → Bool) (us : List Used) (u : Used) → find p us ≡ Some u → filter (is_place (u.owner, u.index)) us ≡ [] → ⊥
not_empty p [] u e h = absurd cc
not_empty p (v ∷ us) u e h = found_by (p v) (is_place (u.owner, u.index) v) p v us u refl refl e (λ f g. not_empty p us u f g) h

none_in : (x : Option Instance) → None ≡ option_map id_of x → x ≡ None
none_in None e = refl
none_in (Some i) e = absurd cc

place_same : (a b : ℕ × ℕ) → Some a ≡ Some b → a ≡ b
place_same a b e = cc

abbrev cell_at : Option Instance → ℕ → Option Cell
cell_at x i = cell_of (cells_of x) i

nobody_by : (is : List Instance) (us : List Used) (p : Used → Bool) (x : Option Used) (o i : ℕ) → AllAgree is us → find p us ≡ x → Some (o, i) ≡ option_map place_of x → in_slot o is ≡ None → ⊥
nobody_by is us p None o i all e f gone = absurd cc
nobody_by is us p (Some u) o i all e f gone =
    let at : u.owner ≡ o = ap (λ (q : ℕ × ℕ). q.0) (sym (place_same (o, i) (u.owner, u.index) f)) in
    not_empty p us u e (none_at _ u.owner u.index us (all u.owner).owns (ap (λ x. cell_at x u.index) (ap (λ n. in_slot n is) at ∙ gone)))

-- so the owner of the oldest chunk is there
pub owner_there : (is : List Instance) (us : List Used) (pins : List (ℕ × ℕ)) (o i : ℕ) → AllAgree is us → Some (o, i) ≡ option_map place_of (oldest_in pins us) → None ≡ option_map id_of (in_slot o is) → ⊥
owner_there is us pins o i all f none = nobody_by is us (λ u. not (is_pinned pins u)) (oldest_in pins us) o i all refl f (none_in (in_slot o is) none)
