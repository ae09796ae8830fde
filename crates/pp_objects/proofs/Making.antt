-- A row that is made is in the index, and the former row of its key no more.
use Rattle.std.proofs.Common.{ℕ, ◌≡◌, true, false, cond, List, set, refl, sym, ◌∙◌, ap, Option, Some, None, ◌⊎◌, inl, inr}
use Rattle.std.specs.Prelude.{is_some, option_map, bytes_eq}
use Rattle.std.specs.BTreeMap.{BTreeMap}
use Rattle.std.specs.declared.vec.Vec.{Vec}
use Rattle.std.proofs.lemmas.Bool.{cases_eq}
use Rattle.slab.specs.Slab.{Slab, with_value}
use Rattle.pp_objects.specs.declared.row.Row.{Row}
use Rattle.pp_objects.specs.declared.objects.Objects.TheInside.{Inside}
use Rattle.pp_objects.specs.ByKey.{slot_for}
use Rattle.pp_objects.specs.Instances.{Instance, Rows, id_of, is_row_of, row_of}
use Rattle.pp_objects.specs.Inside.{row_at, instance_as, instance_at, rows_in, is_at, IsSound, IsIndexed, IsAside}
use Rattle.pp_objects.proofs.Slots.{slot_shown, set_same, set_other}
use Rattle.pp_objects.proofs.Indexing.{row_missing, row_shown, is_row_there, indexed-new, kept_row, aside_row, test_false}

false_true : false ≡ true → ⊥
false_true q = absurd cc

same_some : (i j : Instance) → Some i ≡ Some j → i ≡ j
same_some i j e = cc

none_some : (i : Instance) → None ≡ Some i → ⊥
none_some i e = absurd cc

some_by : (key : List ℕ) (s : ℕ) (x : Option Row) → is_row_of key (instance_as s x) ≡ true → is_some x ≡ true
some_by key s None e = absurd (false_true e)
some_by key s (Some r) e = refl

-- what stands in the slots after the former row was set aside
other_by : (old new : Slab Row) (k n : ℕ) (x : Option Row) → row_at old.slots k ≡ x → is_some x ≡ true
    → ((r : Row) → row_at old.slots k ≡ Some r → new ≡ with_value old k (record r { is_retired = true })) → (n ≡ k → ⊥) → row_at new.slots n ≡ row_at old.slots n
other_by old new k n None is there aside apart = absurd (false_true there)
other_by old new k n (Some r) is there aside apart =
    ap (λ (b : Slab Row). row_at b.slots n) (aside r is) ∙ set_other old.slots k n (record r { is_retired = true }) apart

pub aside_other : (old new : Slab Row) (x : Option Instance) (n : ℕ) → IsAside old new (option_map id_of x) → ((i : Instance) → x ≡ Some i → is_some (row_at old.slots i.slot) ≡ true)
    → ((i : Instance) → x ≡ Some i → n ≡ i.slot → ⊥) → row_at new.slots n ≡ row_at old.slots n
aside_other old new None n aside there apart = ap (λ (b : Slab Row). row_at b.slots n) aside
aside_other old new (Some i) n aside there apart = other_by old new i.slot n (row_at old.slots i.slot) refl (there i refl) aside (apart i refl)

here_by : (old new : Slab Row) (k : ℕ) (key : List ℕ) (x : Option Row) → row_at old.slots k ≡ x → is_some x ≡ true
    → ((r : Row) → row_at old.slots k ≡ Some r → new ≡ with_value old k (record r { is_retired = true })) → is_row_of key (instance_at new.slots k) ≡ false
here_by old new k key None is there aside = absurd (false_true there)
here_by old new k key (Some r) is there aside =
    ap (λ (b : Slab Row). is_row_of key (instance_at b.slots k)) (aside r is)
    ∙ ap (λ y. is_row_of key (instance_as k y)) (set_same old.slots k r (record r { is_retired = true }) is)

aside_here : (old new : Slab Row) (i : Instance) (key : List ℕ) → IsAside old new (Some (id_of i)) → is_some (row_at old.slots i.slot) ≡ true → is_row_of key (instance_at new.slots i.slot) ≡ false
aside_here old new i key aside there = here_by old new i.slot key (row_at old.slots i.slot) refl there aside

module _ (o : Inside) (v : Rows) (key : List ℕ) (sound : IsSound o) (indexed : IsIndexed o.rows.slots o.index) (e : rows_in o ≡ v) where
  slot_by : (y : Option ℕ) (i : Instance) → slot_for key o.index ≡ y → row_of key v.instances ≡ Some i → y ≡ Some i.slot
  slot_by None i is row = absurd (none_some i (sym (row_missing o.index o v key indexed e is) ∙ row))
  slot_by (Some s) i is row =
      ap Some (sym (slot_shown o.rows.slots s) ∙ ap (λ (j : Instance). j.slot) (same_some (instance_at o.rows.slots s) i (sym (row_shown o.index o v key s sound indexed e is) ∙ row)))

  former_slot : (i : Instance) → row_of key v.instances ≡ Some i → slot_for key o.index ≡ Some i.slot
  former_slot i row = slot_by (slot_for key o.index) i refl row

  none_by : (y : Option ℕ) → slot_for key o.index ≡ y → row_of key v.instances ≡ None → y ≡ None
  none_by None is row = refl
  none_by (Some s) is row = absurd (none_some (instance_at o.rows.slots s) (sym row ∙ row_shown o.index o v key s sound indexed e is))

  former_row : (i : Instance) → row_of key v.instances ≡ Some i → is_row_of key (instance_at o.rows.slots i.slot) ≡ true
  former_row i row = is_row_there o.index o.rows.slots key i.slot indexed (former_slot i row)

  former_some : (i : Instance) → row_of key v.instances ≡ Some i → is_some (row_at o.rows.slots i.slot) ≡ true
  former_some i row = some_by key i.slot (row_at o.rows.slots i.slot) (former_row i row)

  module _ (k : ℕ) (vacant : row_at o.rows.slots k ≡ None) where
    former_apart : (i : Instance) → row_of key v.instances ≡ Some i → i.slot ≡ k → ⊥
    former_apart i row q = false_true (ap is_some (sym (ap (row_at o.rows.slots) q ∙ vacant)) ∙ former_some i row)

    module _ (p q : Slab Row) (joined : (n : ℕ) → (n ≡ k → ⊥) → row_at p.slots n ≡ row_at o.rows.slots n) where
      pub former_there : (i : Instance) → row_of key v.instances ≡ Some i → is_some (row_at p.slots i.slot) ≡ true
      former_there i row = ap is_some (joined i.slot (former_apart i row)) ∙ former_some i row

      module _ (aside : IsAside p q (option_map id_of (row_of key v.instances))) where
        new_there : (s : Row) → row_at p.slots k ≡ Some s → row_at q.slots k ≡ Some s
        new_there s here = aside_other p q (row_of key v.instances) k aside former_there (λ i row at. former_apart i row (sym at)) ∙ here

        rest_at : (x : Option Instance) (n : ℕ) (other : List ℕ) → row_of key v.instances ≡ x → IsAside p q (option_map id_of x) → (n ≡ k → ⊥)
            → is_row_of other (instance_at q.slots n) ≡ cond (bytes_eq key other) false (is_row_of other (instance_at o.rows.slots n))
        rest_at None n other row at apart =
            ap (λ y. is_row_of other (instance_as n y)) (ap (λ (b : Slab Row). row_at b.slots n) at ∙ joined n apart)
            ∙ kept_row o.index o.rows.slots n key other (ap (is_at n) (none_by (slot_for key o.index) refl row)) indexed
        rest_at (Some i) n other row at apart = rest_by i n other row at apart (cases_eq n i.slot)
          where
            rest_by : (i : Instance) (n : ℕ) (other : List ℕ) → row_of key v.instances ≡ Some i → IsAside p q (Some (id_of i)) → (n ≡ k → ⊥) → (n ≡ i.slot) ⊎ (n ≡ i.slot → ⊥)
                → is_row_of other (instance_at q.slots n) ≡ cond (bytes_eq key other) false (is_row_of other (instance_at o.rows.slots n))
            rest_by i n other row at apart (inl same) =
                ap (λ m. is_row_of other (instance_at q.slots m)) same
                ∙ aside_here p q i other at (former_there i row)
                ∙ aside_row (instance_at o.rows.slots i.slot) key other (former_row i row)
                ∙ ap (λ m. cond (bytes_eq key other) false (is_row_of other (instance_at o.rows.slots m))) (sym same)
            rest_by i n other row at apart (inr differs) =
                ap (λ y. is_row_of other (instance_as n y)) (other_by p q i.slot n (row_at p.slots i.slot) refl (former_there i row) at differs ∙ joined n apart)
                ∙ kept_row o.index o.rows.slots n key other (ap (is_at n) (former_slot i row) ∙ test_false n i.slot differs) indexed

        pub indexed-made : {Z : Type 0} (jx : BTreeMap (Vec ℕ Z) ℕ) (s : Row) → row_at p.slots k ≡ Some s → s.key ≡ key → s.is_retired ≡ false
            → ((other : List ℕ) → slot_for other jx ≡ cond (bytes_eq key other) (Some k) (slot_for other o.index)) → IsIndexed q.slots jx
        indexed-made jx s here keys flag more =
            indexed-new o.index jx o.rows.slots q.slots k s key vacant (new_there s here) keys flag
            (λ n other apart. rest_at (row_of key v.instances) n other refl aside apart) more indexed
