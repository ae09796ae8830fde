-- Each change keeps the slab and the order together, and does to the instances what its clause says.
use Rattle.std.proofs.Common.{ℕ, ◌+◌, ◌<◌, ◌≡◌, Bool, true, false, cond, List, [], ◌∷◌, ◌++◌, length, map, set, arith, refl, sym, ◌∙◌, ap, subst, zero, suc, Option, Some, None, ◌⊎◌, inl, inr, vec_capacity}
use Rattle.std.specs.Prelude.{is_some, count_by, option_map}
use Rattle.std.specs.List.{filter}
use Rattle.std.proofs.lemmas.Grind.{common_steps}
use Rattle.std.proofs.lemmas.Bool.{cases_eq}
use Rattle.std.proofs.lemmas.List.{length_push}
use Rattle.slab.specs.Slab.{Slab, slab_len, with_value}
use Rattle.pp_pool.specs.Chunks.{is_in, is_not}
use Rattle.pp_pool.proofs.Numbers.{is_in_filter_same, is_in_filter_other, AreDistinct-filter, AreDistinct-push, is_in-push, length-filter_present, length-filter_distinct}
use Rattle.pp_pool.proofs.Order.{seen-left, seen-changed, seen-joined, seen-moved}
use Rattle.pp_holes.specs.declared.cell.Cell.{Cell}
use Rattle.pp_objects.specs.declared.row.Row.{Row}
use Rattle.pp_objects.specs.declared.objects.Objects.TheInside.{Inside}
use Rattle.pp_objects.specs.Instances.{Instance, Rows, id_of, is_in_slot, is_row}
use Rattle.pp_objects.specs.Changes.{changed_in, without_slot, marked, retired, set_aside, face, faces}
use Rattle.pp_objects.specs.Inside.{row_at, instance_as, instance_at, rows_in, IsSound, IsOwned, IsAside}
use Rattle.pp_objects.proofs.Slots.{number_of, slot_shown, set_same, set_other}

count_set : (rs : List (Option Row)) (k : ℕ) (r s : Row) → row_at rs k ≡ Some r → count_by is_some (set rs k (Some s)) ≡ count_by is_some rs
count_set [] k r s e = absurd cc
count_set (x ∷ rs) zero r s e = let P : Option Row → Type 0 = λ y. count_by is_some (Some s ∷ rs) ≡ count_by is_some (y ∷ rs) in subst P (sym e) refl
count_set (x ∷ rs) (suc k) r s e = let ih = count_set rs k r s e in grind (arith, common_steps, ih)

shown_other : (rs qs : List (Option Row)) (k : ℕ) → ((n : ℕ) → (n ≡ k → ⊥) → row_at qs n ≡ row_at rs n) → (n : ℕ) → (n ≡ k → ⊥) → instance_at qs n ≡ instance_at rs n
shown_other rs qs k rest n apart = ap (instance_as n) (rest n apart)

some_same : (s t : Row) → Some s ≡ Some t → s ≡ t
some_same s t e = cc

owned_by : (rs qs : List (Option Row)) (k : ℕ) (s : Row) (n : ℕ) (t : Row) → row_at qs k ≡ Some s → ((m : ℕ) → (m ≡ k → ⊥) → row_at qs m ≡ row_at rs m) → IsOwned k s
    → ((m : ℕ) (r : Row) → row_at rs m ≡ Some r → IsOwned m r) → row_at qs n ≡ Some t → (n ≡ k) ⊎ (n ≡ k → ⊥) → IsOwned n t
owned_by rs qs k s n t here rest own old is (inl q) =
    let same : s ≡ t = some_same s t (sym here ∙ ap (row_at qs) (sym q) ∙ is) in
    let P : Row → Type 0 = λ r. IsOwned n r in
    let Q : ℕ → Type 0 = λ m. IsOwned m s in
    subst P same (subst Q (sym q) own)
owned_by rs qs k s n t here rest own old is (inr q) = old n t (sym (rest n q) ∙ is)

there_by : (rs qs : List (Option Row)) (k : ℕ) (ns : List ℕ) (n : ℕ) → is_some (row_at qs k) ≡ is_some (row_at rs k) → ((m : ℕ) → (m ≡ k → ⊥) → row_at qs m ≡ row_at rs m)
    → is_in n ns ≡ is_some (row_at rs n) → (n ≡ k) ⊎ (n ≡ k → ⊥) → is_in n ns ≡ is_some (row_at qs n)
there_by rs qs k ns n here rest old (inl q) = old ∙ ap (λ m. is_some (row_at rs m)) q ∙ sym here ∙ ap (λ m. is_some (row_at qs m)) (sym q)
there_by rs qs k ns n here rest old (inr q) = old ∙ ap is_some (sym (rest n q))

-- a row is changed in its slot
pub sound-set : (o p : Inside) (k : ℕ) (r s : Row) → IsSound o → row_at o.rows.slots k ≡ Some r → IsOwned k s → p.rows ≡ with_value o.rows k s → p.order ≡ o.order → IsSound p
sound-set o p k r s sound is own rows order =
    let slots : p.rows.slots ≡ set o.rows.slots k (Some s) = ap (λ (b : Slab Row). b.slots) rows in
    let items : p.order.items ≡ o.order.items = rw order refl in
    let here : row_at p.rows.slots k ≡ Some s = ap (λ qs. row_at qs k) slots ∙ set_same o.rows.slots k r s is in
    let rest : (n : ℕ) → (n ≡ k → ⊥) → row_at p.rows.slots n ≡ row_at o.rows.slots n = λ n apart. ap (λ qs. row_at qs n) slots ∙ set_other o.rows.slots k n s apart in
    record {
      distinct = rw order sound.distinct;
      there = λ n. ap (λ ns. is_in n ns) items
          ∙ there_by o.rows.slots p.rows.slots k o.order.items n (ap is_some here ∙ sym (ap is_some is)) rest (sound.there n) (cases_eq n k);
      owned = λ n t e. owned_by o.rows.slots p.rows.slots k s n t here rest own sound.owned e (cases_eq n k);
      count = ap (λ qs. count_by is_some qs) slots ∙ count_set o.rows.slots k r s is ∙ sound.count ∙ ap length (sym items);
      few = rw order sound.few;
      low = λ n e. sound.low n (ap (is_in n) (sym items) ∙ e);
      room = omega (arith, sound.room, ap (λ (b : Slab Row). b.capacity) rows);
      order_room = rw order sound.order_room;
    }

pub view-set : (o p : Inside) (v : Rows) (k : ℕ) (r s : Row) (change : Instance → Instance) → IsSound o → rows_in o ≡ v → row_at o.rows.slots k ≡ Some r
    → p.rows ≡ with_value o.rows k s → p.order ≡ o.order → p.lives ≡ o.lives → instance_as k (Some s) ≡ change (instance_as k (Some r))
    → rows_in p ≡ record v { instances = changed_in k change v.instances }
view-set o p v k r s change sound e is rows order lives changes =
    let slots : p.rows.slots ≡ set o.rows.slots k (Some s) = ap (λ (b : Slab Row). b.slots) rows in
    let items : p.order.items ≡ o.order.items = rw order refl in
    let here : instance_at p.rows.slots k ≡ change (instance_at o.rows.slots k) =
    ap (instance_as k) (ap (λ qs. row_at qs k) slots ∙ set_same o.rows.slots k r s is) ∙ changes ∙ ap (λ x. change (instance_as k x)) (sym is) in
    let seen : map (instance_at p.rows.slots) p.order.items ≡ changed_in k change (map (instance_at o.rows.slots) o.order.items) =
    ap (map (instance_at p.rows.slots)) items
    ∙ seen-changed number_of (instance_at o.rows.slots) (instance_at p.rows.slots) change k o.order.items (slot_shown o.rows.slots)
    (shown_other o.rows.slots p.rows.slots k (λ n apart. ap (λ qs. row_at qs n) slots ∙ set_other o.rows.slots k n s apart)) here in
    rw (← e) (ap (λ (is : List Instance). record { instances = is; lives = p.lives }) seen ∙ ap (λ n. record { instances = changed_in k change (map (instance_at o.rows.slots) o.order.items); lives = n }) lives)

-- nothing but the index and the count of lives is another
pub sound-same : (o p : Inside) → IsSound o → p.rows ≡ o.rows → p.order ≡ o.order → IsSound p
sound-same o p sound rows order =
    let slots : p.rows.slots ≡ o.rows.slots = ap (λ (b : Slab Row). b.slots) rows in
    record {
      distinct = rw order sound.distinct;
      there = λ n. rw order (sound.there n) ∙ ap (λ qs. is_some (row_at qs n)) (sym slots);
      owned = λ n t e. sound.owned n t (ap (λ qs. row_at qs n) (sym slots) ∙ e);
      count = ap slab_len rows ∙ sound.count ∙ rw order refl;
      few = rw order sound.few;
      low = rw order sound.low;
      room = rw rows sound.room;
      order_room = rw order sound.order_room;
    }

-- the former row of a key is set aside
aside_owned : (o : Inside) (k : ℕ) (r : Row) → IsSound o → row_at o.rows.slots k ≡ Some r → IsOwned k (record r { is_retired = true })
aside_owned o k r sound is = record { owner = (sound.owned k r is).owner; total = (sound.owned k r is).total; ends = (sound.owned k r is).ends }

sound_by : (o p : Inside) (k : ℕ) (x : Option Row) → IsSound o → row_at o.rows.slots k ≡ x → is_some x ≡ true
    → ((r : Row) → row_at o.rows.slots k ≡ Some r → p.rows ≡ with_value o.rows k (record r { is_retired = true })) → p.order ≡ o.order → IsSound p
sound_by o p k None sound is there aside order = absurd cc
sound_by o p k (Some r) sound is there aside order = sound-set o p k r (record r { is_retired = true }) sound is (aside_owned o k r sound is) (aside r is) order

pub sound-aside : (o p : Inside) (x : Option Instance) → IsSound o → ((i : Instance) → x ≡ Some i → is_some (row_at o.rows.slots i.slot) ≡ true)
    → IsAside o.rows p.rows (option_map id_of x) → p.order ≡ o.order → IsSound p
sound-aside o p None sound there aside order = sound-same o p sound aside order
sound-aside o p (Some i) sound there aside order = sound_by o p i.slot (row_at o.rows.slots i.slot) sound refl (there i refl) aside order

view_by : (o p : Inside) (v : Rows) (k : ℕ) (x : Option Row) → IsSound o → rows_in o ≡ v → row_at o.rows.slots k ≡ x → is_some x ≡ true
    → ((r : Row) → row_at o.rows.slots k ≡ Some r → p.rows ≡ with_value o.rows k (record r { is_retired = true })) → p.order ≡ o.order → p.lives ≡ o.lives
    → rows_in p ≡ record v { instances = changed_in k retired v.instances }
view_by o p v k None sound e is there aside order lives = absurd cc
view_by o p v k (Some r) sound e is there aside order lives = view-set o p v k r (record r { is_retired = true }) retired sound e is (aside r is) order lives refl

same_view : (o p : Inside) (v : Rows) → rows_in o ≡ v → p.rows ≡ o.rows → p.order ≡ o.order → p.lives ≡ o.lives → rows_in p ≡ v
same_view o p v e rows order lives = rw (rows, order, lives) e

pub view-aside : (o p : Inside) (v : Rows) (x : Option Instance) → IsSound o → rows_in o ≡ v → ((i : Instance) → x ≡ Some i → is_some (row_at o.rows.slots i.slot) ≡ true)
    → IsAside o.rows p.rows (option_map id_of x) → p.order ≡ o.order → p.lives ≡ o.lives → rows_in p ≡ record v { instances = set_aside x v.instances }
view-aside o p v None sound e there aside order lives = same_view o p v e aside order lives
view-aside o p v (Some i) sound e there aside order lives = view_by o p v i.slot (row_at o.rows.slots i.slot) sound e refl (there i refl) aside order lives

-- an instance moves to the end of the order
moved_in : (k n : ℕ) (ns : List ℕ) → is_in k ns ≡ true → (n ≡ k) ⊎ (n ≡ k → ⊥) → is_in n (filter (is_not k) ns ++ k ∷ []) ≡ is_in n ns
moved_in k n ns h (inl q) = rw q (is_in-push k k (filter (is_not k) ns) ∙ (grind (arith, common_steps)))
moved_in k n ns h (inr q) = is_in-push n k (filter (is_not k) ns) ∙ (grind (arith, common_steps, is_in_filter_other k n ns q))

pub sound-moved : (o p : Inside) (k : ℕ) → IsSound o → is_in k o.order.items ≡ true → p.rows ≡ o.rows → p.order.items ≡ filter (is_not k) o.order.items ++ k ∷ []
    → vec_capacity p.order ≡ vec_capacity o.order → IsSound p
sound-moved o p k sound inside rows order cap =
    let slots : p.rows.slots ≡ o.rows.slots = ap (λ (b : Slab Row). b.slots) rows in
    record {
      distinct = rw order (AreDistinct-push k (filter (is_not k) o.order.items) (AreDistinct-filter k o.order.items sound.distinct) (is_in_filter_same k o.order.items));
      there = λ n. ap (is_in n) order ∙ moved_in k n o.order.items inside (cases_eq n k) ∙ sound.there n ∙ ap (λ qs. is_some (row_at qs n)) (sym slots);
      owned = λ n t e. sound.owned n t (ap (λ qs. row_at qs n) (sym slots) ∙ e);
      count = omega (arith, ap slab_len rows, sound.count, ap length order, length_push (filter (is_not k) o.order.items) k, length-filter_present k o.order.items inside, length-filter_distinct k o.order.items sound.distinct);
      few = omega (arith, sound.few, ap length order, length_push (filter (is_not k) o.order.items) k, length-filter_present k o.order.items inside);
      low = λ n e. sound.low n (sym (ap (is_in n) order ∙ moved_in k n o.order.items inside (cases_eq n k)) ∙ e);
      room = rw rows sound.room;
      order_room = omega (arith, cap, sound.order_room);
    }

pub view-moved : (o p : Inside) (v : Rows) (k : ℕ) → IsSound o → rows_in o ≡ v → is_in k o.order.items ≡ true → p.rows ≡ o.rows → p.order.items ≡ filter (is_not k) o.order.items ++ k ∷ []
    → p.lives ≡ o.lives → rows_in p ≡ record v { instances = marked k v.instances }
view-moved o p v k sound e inside rows order lives =
    let slots : p.rows.slots ≡ o.rows.slots = ap (λ (b : Slab Row). b.slots) rows in
    let seen : map (instance_at p.rows.slots) p.order.items ≡ marked k (map (instance_at o.rows.slots) o.order.items) =
    ap (λ qs. map (instance_at qs) p.order.items) slots ∙ ap (map (instance_at o.rows.slots)) order
    ∙ seen-moved number_of (instance_at o.rows.slots) k o.order.items (slot_shown o.rows.slots) sound.distinct inside in
    rw (← e) (ap (λ (is : List Instance). record { instances = is; lives = p.lives }) seen ∙ ap (λ n. record { instances = marked k (map (instance_at o.rows.slots) o.order.items); lives = n }) lives)

-- an instance is out
gone_in : (k n : ℕ) (ns : List ℕ) (rs qs : List (Option Row)) → row_at qs k ≡ None → ((m : ℕ) → (m ≡ k → ⊥) → row_at qs m ≡ row_at rs m) → is_in n ns ≡ is_some (row_at rs n)
    → (n ≡ k) ⊎ (n ≡ k → ⊥) → is_in n (filter (is_not k) ns) ≡ is_some (row_at qs n)
gone_in k n ns rs qs gone rest old (inl q) = ap (λ m. is_in m (filter (is_not k) ns)) q ∙ is_in_filter_same k ns ∙ sym (ap is_some (ap (row_at qs) q ∙ gone))
gone_in k n ns rs qs gone rest old (inr q) = is_in_filter_other k n ns q ∙ old ∙ sym (ap is_some (rest n q))

true_false : true ≡ false → ⊥
true_false e = absurd cc

left_in : (k n : ℕ) (ns : List ℕ) → is_in n (filter (is_not k) ns) ≡ true → (n ≡ k) ⊎ (n ≡ k → ⊥) → is_in n ns ≡ true
left_in k n ns e (inl q) = absurd (true_false (sym e ∙ ap (λ m. is_in m (filter (is_not k) ns)) q ∙ is_in_filter_same k ns))
left_in k n ns e (inr q) = sym (is_in_filter_other k n ns q) ∙ e

none_some : (t : Row) → None ≡ Some t → ⊥
none_some t e = absurd cc

owned_still : (k n : ℕ) (rs qs : List (Option Row)) (t : Row) → row_at qs k ≡ None → ((m : ℕ) → (m ≡ k → ⊥) → row_at qs m ≡ row_at rs m)
    → ((m : ℕ) (r : Row) → row_at rs m ≡ Some r → IsOwned m r) → row_at qs n ≡ Some t → (n ≡ k) ⊎ (n ≡ k → ⊥) → IsOwned n t
owned_still k n rs qs t gone rest old is (inl q) = absurd (none_some t (sym gone ∙ ap (row_at qs) (sym q) ∙ is))
owned_still k n rs qs t gone rest old is (inr q) = old n t (sym (rest n q) ∙ is)

pub sound-removed : (o p : Inside) (k : ℕ) → IsSound o → is_in k o.order.items ≡ true → row_at p.rows.slots k ≡ None → ((n : ℕ) → (n ≡ k → ⊥) → row_at p.rows.slots n ≡ row_at o.rows.slots n)
    → slab_len p.rows + 1 ≡ slab_len o.rows → p.rows.capacity ≡ o.rows.capacity → p.order.items ≡ filter (is_not k) o.order.items → vec_capacity p.order ≡ vec_capacity o.order → IsSound p
sound-removed o p k sound inside gone rest less same order cap = record {
  distinct = rw order (AreDistinct-filter k o.order.items sound.distinct);
  there = λ n. ap (is_in n) order ∙ gone_in k n o.order.items o.rows.slots p.rows.slots gone rest (sound.there n) (cases_eq n k);
  owned = λ n t e. owned_still k n o.rows.slots p.rows.slots t gone rest sound.owned e (cases_eq n k);
  count = omega (arith, less, sound.count, ap length order, length-filter_present k o.order.items inside, length-filter_distinct k o.order.items sound.distinct);
  few = omega (arith, sound.few, ap length order, length-filter_present k o.order.items inside);
  low = λ n e. sound.low n (left_in k n o.order.items (sym (ap (is_in n) order) ∙ e) (cases_eq n k));
  room = omega (arith, same, sound.room);
  order_room = omega (arith, cap, sound.order_room);
}

pub view-removed : (o p : Inside) (v : Rows) (k : ℕ) → rows_in o ≡ v → ((n : ℕ) → (n ≡ k → ⊥) → row_at p.rows.slots n ≡ row_at o.rows.slots n)
    → p.order.items ≡ filter (is_not k) o.order.items → p.lives ≡ o.lives → rows_in p ≡ record v { instances = without_slot k v.instances }
view-removed o p v k e rest order lives =
    let seen : map (instance_at p.rows.slots) p.order.items ≡ without_slot k (map (instance_at o.rows.slots) o.order.items) =
    ap (map (instance_at p.rows.slots)) order
    ∙ seen-left number_of (instance_at o.rows.slots) (instance_at p.rows.slots) k o.order.items (slot_shown o.rows.slots) (shown_other o.rows.slots p.rows.slots k rest) in
    rw (← e) (ap (λ (is : List Instance). record { instances = is; lives = p.lives }) seen ∙ ap (λ n. record { instances = without_slot k (map (instance_at o.rows.slots) o.order.items); lives = n }) lives)

-- an instance is new
new_in : (k n : ℕ) (ns : List ℕ) (rs qs : List (Option Row)) (s : Row) → row_at qs k ≡ Some s → ((m : ℕ) → (m ≡ k → ⊥) → row_at qs m ≡ row_at rs m) → is_in n ns ≡ is_some (row_at rs n)
    → (n ≡ k) ⊎ (n ≡ k → ⊥) → is_in n (ns ++ k ∷ []) ≡ is_some (row_at qs n)
new_in k n ns rs qs s here rest old (inl q) =
    ap (λ m. is_in m (ns ++ k ∷ [])) q ∙ is_in-push k k ns ∙ (grind (arith, common_steps)) ∙ sym (ap is_some (ap (row_at qs) q ∙ here))
new_in k n ns rs qs s here rest old (inr q) = is_in-push n k ns ∙ (grind (arith, common_steps)) ∙ old ∙ sym (ap is_some (rest n q))

low_by : (k n : ℕ) (ns : List ℕ) → k < 1345 → (is_in n ns ≡ true → n < 1345) → is_in n (ns ++ k ∷ []) ≡ true → (n ≡ k) ⊎ (n ≡ k → ⊥) → n < 1345
low_by k n ns less old e (inl q) = omega (arith, less, q)
low_by k n ns less old e (inr q) = old (grind (arith, common_steps, e, is_in-push n k ns))

pub sound-joined : (o p : Inside) (k : ℕ) (s : Row) → IsSound o → row_at o.rows.slots k ≡ None → row_at p.rows.slots k ≡ Some s → ((n : ℕ) → (n ≡ k → ⊥) → row_at p.rows.slots n ≡ row_at o.rows.slots n)
    → IsOwned k s → length o.order.items < 1345 → k < 1345 → slab_len p.rows ≡ slab_len o.rows + 1 → p.rows.capacity ≡ o.rows.capacity → p.order.items ≡ o.order.items ++ k ∷ [] → vec_capacity p.order ≡ vec_capacity o.order → IsSound p
sound-joined o p k s sound vacant here rest own few less more same order cap = record {
  distinct = rw order (AreDistinct-push k o.order.items sound.distinct (sound.there k ∙ ap is_some vacant));
  there = λ n. ap (is_in n) order ∙ new_in k n o.order.items o.rows.slots p.rows.slots s here rest (sound.there n) (cases_eq n k);
  owned = λ n t e. owned_by o.rows.slots p.rows.slots k s n t here rest own sound.owned e (cases_eq n k);
  count = omega (arith, more, sound.count, ap length order, length_push o.order.items k);
  few = omega (arith, few, ap length order, length_push o.order.items k);
  low = λ n e. low_by k n o.order.items less (sound.low n) (sym (ap (is_in n) order) ∙ e) (cases_eq n k);
  room = omega (arith, same, sound.room);
  order_room = omega (arith, cap, sound.order_room);
}

pub view-joined : (o p : Inside) (v : Rows) (k : ℕ) (s : Row) → IsSound o → rows_in o ≡ v → row_at o.rows.slots k ≡ None → row_at p.rows.slots k ≡ Some s
    → ((n : ℕ) → (n ≡ k → ⊥) → row_at p.rows.slots n ≡ row_at o.rows.slots n) → p.order.items ≡ o.order.items ++ k ∷ []
    → rows_in p ≡ record { instances = v.instances ++ instance_as k (Some s) ∷ []; lives = p.lives }
view-joined o p v k s sound e vacant here rest order =
    let seen : map (instance_at p.rows.slots) p.order.items ≡ map (instance_at o.rows.slots) o.order.items ++ instance_as k (Some s) ∷ [] =
    ap (map (instance_at p.rows.slots)) order
    ∙ seen-joined (instance_at o.rows.slots) (instance_at p.rows.slots) k o.order.items (shown_other o.rows.slots p.rows.slots k rest) (sound.there k ∙ ap is_some vacant)
    ∙ ap (λ x. map (instance_at o.rows.slots) o.order.items ++ instance_as k x ∷ []) here in
    rw (← e) (ap (λ (is : List Instance). record { instances = is; lives = p.lives }) seen)

-- an instance whose cells changed shows the same face
faces_by : (b : Bool) (i : Instance) (cs : List (Option Cell)) (is js : List Instance) → faces is ≡ faces js → face (cond b (record i { cells = cs }) i) ∷ faces is ≡ face i ∷ faces js
faces_by true i cs is js e = ap (λ fs. face i ∷ fs) e
faces_by false i cs is js e = ap (λ fs. face i ∷ fs) e

pub faces_changed : (k : ℕ) (cs : List (Option Cell)) (is : List Instance) → faces (changed_in k (λ i. record i { cells = cs }) is) ≡ faces is
faces_changed k cs [] = refl
faces_changed k cs (i ∷ is) = faces_by (is_in_slot k i) i cs (changed_in k (λ i. record i { cells = cs }) is) is (faces_changed k cs is)

pub count_seen : (f : ℕ → Instance) (ns : List ℕ) → count_by (λ n. is_row (f n)) ns ≡ count_by is_row (map f ns)
count_seen f [] = refl
count_seen f (n ∷ ns) = let ih = count_seen f ns in grind (arith, common_steps, ih)
