-- What stands in a slot, as the list of instances shows it.
use Rattle.std.proofs.Common.{ℕ, ◌<◌, ◌≡◌, true, false, ◌==◌, List, [], ◌∷◌, length, map, get_or, set, arith, refl, sym, ◌∙◌, ap, subst, zero, suc, Option, Some, None}
use Rattle.std.specs.Prelude.{is_some, option_map}
use Rattle.std.specs.List.{find}
use Rattle.std.proofs.lemmas.Grind.{common_steps}
use Rattle.std.proofs.lemmas.List.{get_or-set_same, get_or-set_other}
use Rattle.pp_pool.specs.Chunks.{is_in}
use Rattle.pp_pool.proofs.Order.{seen-found}
use Rattle.pp_holes.specs.Cells.{is_in_memory}
use Rattle.pp_holes.specs.Spans.{EndsWithin}
use Rattle.pp_holes.specs.declared.cell.Cell.{Cell}
use Rattle.pp_objects.specs.Bounds.{AreLow, AreWithin}
use Rattle.pp_objects.specs.declared.row.Row.{Row}
use Rattle.pp_objects.specs.declared.objects.Objects.TheInside.{Inside}
use Rattle.pp_objects.specs.declared.id.ObjectId.{ObjectId}
use Rattle.pp_objects.specs.Instances.{Instance, Rows, in_slot, is_in_slot, is_there, is_life, cells_of, cells_at, total_of, total_at, table_at}
use Rattle.pp_objects.specs.Inside.{row_at, instance_as, instance_at, rows_in, IsSound}

abbrev pub number_of : Instance → ℕ
number_of i = i.slot

slot_as : (n : ℕ) (x : Option Row) → (instance_as n x).slot ≡ n
slot_as n None = refl
slot_as n (Some r) = refl

pub slot_shown : (rs : List (Option Row)) (n : ℕ) → (instance_at rs n).slot ≡ n
slot_shown rs n = slot_as n (row_at rs n)

pub in_slots : (rs : List (Option Row)) (k : ℕ) (r : Row) → row_at rs k ≡ Some r → k < length rs
in_slots [] k r e = absurd cc
in_slots (x ∷ rs) zero r e = omega arith
in_slots (x ∷ rs) (suc k) r e = omega (arith, in_slots rs k r e)

pub set_same : (rs : List (Option Row)) (k : ℕ) (r s : Row) → row_at rs k ≡ Some r → row_at (set rs k (Some s)) k ≡ Some s
set_same rs k r s e = get_or-set_same rs k (Some s) None (in_slots rs k r e)

pub set_other : (rs : List (Option Row)) (k n : ℕ) (s : Row) → (n ≡ k → ⊥) → row_at (set rs k (Some s)) n ≡ row_at rs n
set_other rs k n s apart = get_or-set_other rs k n (Some s) None apart

missing_by : (f : ℕ → Instance) (c n : ℕ) (ns : List ℕ) → (f n).slot ≡ n → is_in c (n ∷ ns) ≡ false → (is_in c ns ≡ false → find (is_in_slot c) (map f ns) ≡ None) → find (is_in_slot c) (map f (n ∷ ns)) ≡ None
missing_by f c n ns is out ih = let apart : (n == c) ≡ false = grind (arith, common_steps) in rw (is, apart) (ih (grind (arith, common_steps)))

seen_missing : (f : ℕ → Instance) (c : ℕ) (ns : List ℕ) → ((n : ℕ) → (f n).slot ≡ n) → is_in c ns ≡ false → find (is_in_slot c) (map f ns) ≡ None
seen_missing f c [] is out = refl
seen_missing f c (n ∷ ns) is out = missing_by f c n ns (is n) out (seen_missing f c ns is)

-- the instance of a row in its slot
abbrev pub shown_as : ℕ → Row → Instance
shown_as s r = instance_as s (Some r)

in_by : (o : Inside) (s : ℕ) (x : Option Row) → IsSound o → row_at o.rows.slots s ≡ x → in_slot s (rows_in o).instances ≡ option_map (shown_as s) x
in_by o s None sound e = seen_missing (instance_at o.rows.slots) s o.order.items (slot_shown o.rows.slots) (sound.there s ∙ ap is_some e)
in_by o s (Some r) sound e =
    seen-found number_of (instance_at o.rows.slots) s o.order.items (slot_shown o.rows.slots) (sound.there s ∙ ap is_some e)
    ∙ ap (λ x. Some (instance_as s x)) e

pub in_slot-seen : (o : Inside) (v : Rows) (s : ℕ) → IsSound o → rows_in o ≡ v → in_slot s v.instances ≡ option_map (shown_as s) (row_at o.rows.slots s)
in_slot-seen o v s sound e = ap (λ (w : Rows). in_slot s w.instances) (sym e) ∙ in_by o s (row_at o.rows.slots s) sound refl

pub seen_row : (o : Inside) (v : Rows) (s : ℕ) (x : Option Row) → IsSound o → rows_in o ≡ v → x ≡ row_at o.rows.slots s → in_slot s v.instances ≡ option_map (shown_as s) x
seen_row o v s x sound e is = in_slot-seen o v s sound e ∙ ap (option_map (shown_as s)) (sym is)

false_true : false ≡ true → ⊥
false_true q = absurd cc

-- an id that is there has a row
pub none_there : (o : Inside) (v : Rows) (id : ObjectId) → IsSound o → rows_in o ≡ v → is_there id v.instances ≡ true → None ≡ row_at o.rows.slots id.slot → ⊥
none_there o v id sound e there is = false_true (sym (ap (is_life id.life) (seen_row o v id.slot None sound e is)) ∙ there)

pub cells_seen : (o : Inside) (v : Rows) (s : ℕ) (r : Row) → IsSound o → rows_in o ≡ v → Some r ≡ row_at o.rows.slots s → cells_at s v.instances ≡ r.cells.cells
cells_seen o v s r sound e is = ap cells_of (seen_row o v s (Some r) sound e is)

pub total_seen : (o : Inside) (v : Rows) (s : ℕ) (r : Row) → IsSound o → rows_in o ≡ v → Some r ≡ row_at o.rows.slots s → total_at s v.instances ≡ r.cells.total
total_seen o v s r sound e is = ap total_of (seen_row o v s (Some r) sound e is) ∙ sym (sound.owned s r (sym is)).total

in_order_by : (o : Inside) (v : Rows) (id : ObjectId) (x : Option Row) → IsSound o → rows_in o ≡ v → is_there id v.instances ≡ true → row_at o.rows.slots id.slot ≡ x → is_in id.slot o.order.items ≡ true
in_order_by o v id None sound e there is = absurd (none_there o v id sound e there (sym is))
in_order_by o v id (Some r) sound e there is = sound.there id.slot ∙ ap is_some is

pub in_order : (o : Inside) (v : Rows) (id : ObjectId) → IsSound o → rows_in o ≡ v → is_there id v.instances ≡ true → is_in id.slot o.order.items ≡ true
in_order o v id sound e there = in_order_by o v id (row_at o.rows.slots id.slot) sound e there refl

pub table_seen : (o : Inside) (v : Rows) (s : ℕ) (r : Row) → IsSound o → rows_in o ≡ v → Some r ≡ row_at o.rows.slots s → table_at s v.instances ≡ r.cells
table_seen o v s r sound e is =
    ap (λ (cs : List (Option Cell)). record { owner = s; total = total_at s v.instances; cells = cs }) (cells_seen o v s r sound e is)
    ∙ ap (λ n. record { owner = s; total = n; cells = r.cells.cells }) (total_seen o v s r sound e is)
    ∙ ap (λ n. record { owner = n; total = r.cells.total; cells = r.cells.cells }) (sym (sound.owned s r (sym is)).owner)

-- an id that is there stands in its slot
there_by : (o : Inside) (v : Rows) (id : ObjectId) (x : Option Row) → IsSound o → rows_in o ≡ v → is_there id v.instances ≡ true → row_at o.rows.slots id.slot ≡ x → in_slot id.slot v.instances ≡ Some (instance_at o.rows.slots id.slot)
there_by o v id None sound e there is = absurd (none_there o v id sound e there (sym is))
there_by o v id (Some r) sound e there is = seen_row o v id.slot (Some r) sound e (sym is) ∙ ap (λ x. Some (instance_as id.slot x)) (sym is)

pub there_at : (o : Inside) (v : Rows) (id : ObjectId) → IsSound o → rows_in o ≡ v → is_there id v.instances ≡ true → in_slot id.slot v.instances ≡ Some (instance_at o.rows.slots id.slot)
there_at o v id sound e there = there_by o v id (row_at o.rows.slots id.slot) sound e there refl

at_in : (ns : List ℕ) (i : ℕ) → i < length ns → is_in (get_or ns i 0) ns ≡ true
at_in [] i lt = absurd (omega arith)
at_in (n ∷ ns) zero lt = grind (arith, common_steps)
at_in (n ∷ ns) (suc i) lt = let ih = at_in ns i (omega arith) in grind (arith, common_steps, ih)

-- what a search over the order comes to stands in its slot
pub found_at : (o : Inside) (v : Rows) (i : ℕ) → rows_in o ≡ v → i < length o.order.items
    → in_slot (instance_at o.rows.slots (get_or o.order.items i 0)).slot v.instances ≡ Some (instance_at o.rows.slots (get_or o.order.items i 0))
found_at o v i e lt =
    ap (λ n. in_slot n v.instances) (slot_shown o.rows.slots (get_or o.order.items i 0))
    ∙ ap (λ (w : Rows). in_slot (get_or o.order.items i 0) w.instances) (sym e)
    ∙ seen-found number_of (instance_at o.rows.slots) (get_or o.order.items i 0) o.order.items (slot_shown o.rows.slots) (at_in o.order.items i lt)

pub some_row : (o : Inside) (v : Rows) (s : ℕ) → IsSound o → rows_in o ≡ v → is_some (in_slot s v.instances) ≡ true → None ≡ row_at o.rows.slots s → ⊥
some_row o v s sound e there is = false_true (sym (ap is_some (seen_row o v s None sound e is)) ∙ there)

-- where nothing stands, nothing is in memory
nothing_at : (o : ℕ) → is_in_memory [] o ≡ false
nothing_at o = grind (arith, common_steps)

-- the instance of an id stands in a low slot
pub low_slots : (o : Inside) (v : Rows) → IsSound o → rows_in o ≡ v → AreLow v.instances
low_slots o v sound e id there = sound.low id.slot (in_order o v id sound e there)

ends_by : (o : Inside) (v : Rows) (s : ℕ) (x : Option Row) → IsSound o → rows_in o ≡ v → x ≡ row_at o.rows.slots s → EndsWithin (cells_at s v.instances) (total_at s v.instances)
ends_by o v s None sound e is = let P : Option Instance → Type 0 = λ x. EndsWithin (cells_of x) (total_of x) in subst P (sym (seen_row o v s None sound e is)) (λ at behind. nothing_at at)
ends_by o v s (Some r) sound e is =
    let P : Option Instance → Type 0 = λ x. EndsWithin (cells_of x) (total_of x) in
    let Q : ℕ → Type 0 = λ n. EndsWithin r.cells.cells n in
    subst P (sym (seen_row o v s (Some r) sound e is)) (subst Q (sound.owned s r (sym is)).total (sound.owned s r (sym is)).ends)

-- nothing is in memory behind the end of the instance in a slot
pub ends_within : (o : Inside) (v : Rows) → IsSound o → rows_in o ≡ v → AreWithin v.instances
ends_within o v sound e s = ends_by o v s (row_at o.rows.slots s) sound e refl
