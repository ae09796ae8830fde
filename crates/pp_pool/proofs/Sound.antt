-- Each call keeps the pool sound, and does to its chunks what its clause says.
use Rattle.std.proofs.Common.{ℕ, ◌+◌, ◌*◌, ◌≤◌, ◌<◌, ◌≡◌, true, false, List, [], ◌∷◌, ◌++◌, length, map, set, get_or, take, drop, Vec, Global, ◌-◌, arith, refl, sym, ◌∙◌, ap, subst, Some, vec_capacity}
use Rattle.std.proofs.lemmas.List.{get_or_default, length-drop, length-map, length-set, length-take-le, length_push, with_items_is}
use Rattle.std.proofs.lemmas.List.Elements.{All-filter, All-push, All-set, All-weaker}
use Rattle.std.specs.Prelude.{slice_get}
use Rattle.std.specs.List.{filter, All}
use Rattle.std.specs.Vec.{with_items}
use borrow.Rule.Slice.PartMut.{put_mid}
use Rattle.pp_pool.specs.declared.pool.Slot.{Slot}
use Rattle.pp_pool.specs.declared.pool.Pool.TheInside.{Inside}
use Rattle.pp_pool.specs.Chunks.{Chunks, IsUsed, is_in, is_not, is_other, bytes_in, extended, used_last}
use Rattle.pp_pool.specs.Slots.{used_as, used_at, chunks_of, IsSound}
use Rattle.pp_pool.proofs.Numbers.{is_in_filter_same, AreDistinct-filter, AreDistinct-push, present_below, few_below}
use Rattle.pp_pool.proofs.Blocks.{length-put_mid}
use Rattle.pp_pool.proofs.Views.{is_in_order, present, short_at, view-given, view-filled, view-touched, view-found, view-taken}

abbrev pub IsBacked : List ℕ → ℕ → Type 0
IsBacked block n = n * 4096 + 4096 ≤ length block

all_below : (k m : ℕ) (ns : List ℕ) → k ≡ m → All (λ n. n < k) ns → All (λ n. n < m) ns
all_below k m ns e a = let P : ℕ → Type 0 = λ j. All (λ n. n < j) ns in subst P e a

all_backed : (block block' : List ℕ) (ns : List ℕ) → length block ≤ length block' → All (IsBacked block) ns → All (IsBacked block') ns
all_backed block block' ns le a = All-weaker (IsBacked block) (IsBacked block') (λ n h. omega arith) ns a

-- what holds of the pool, at a number of its order
pub in_range : (p : Inside) (v : Chunks) (c : ℕ) → IsSound p → chunks_of p ≡ v → IsUsed c v → c < length p.slots.items
in_range p v c s e h = present_below c (length p.slots.items) p.order.used s.within (is_in_order p v c e h)

pub is_backed : (p : Inside) (v : Chunks) (c : ℕ) → IsSound p → chunks_of p ≡ v → IsUsed c v → c * 4096 + 4096 ≤ length p.block.items
is_backed p v c s e h = present (IsBacked p.block.items) c p.order.used s.backed (is_in_order p v c e h)

pub found_in : (p : Inside) (v : Chunks) (c : ℕ) (s : Slot) → IsSound p → chunks_of p ≡ v → IsUsed c v → slice_get p.slots.items c ≡ Some s
    → (used_as p.block.items c (Some s)).bytes ≡ bytes_in c v.used
found_in p v c s i e h there =
    let inside : is_in c p.order.used ≡ true = is_in_order p v c e h in
    sym (ap (λ o. (used_as p.block.items c o).bytes) there) ∙ sym (view-found p.block.items p.slots.items c p.order.used inside) ∙ ap (λ w. bytes_in c w.used) e

-- more bytes fit a chunk where they fit what is seen of it
pub fits_in : (p : Inside) (v : Chunks) (c m : ℕ) (s : Slot) → IsSound p → chunks_of p ≡ v → IsUsed c v → slice_get p.slots.items c ≡ Some s
    → length (bytes_in c v.used) + m ≤ 4096 → s.filled + m ≤ 4096
fits_in p v c m s i e h there fits =
    let short : s.filled ≤ 4096 = short_at p.slots.items c s i.short there in
    let long : length (take s.filled (drop (c * 4096) p.block.items)) ≡ s.filled
    = length-take-le s.filled (drop (c * 4096) p.block.items) (omega (arith, length-drop (c * 4096) p.block.items, is_backed p v c i e h, short)) in
    omega (arith, fits, ap length (found_in p v c s i e h there), long)

pub same_slot : (ss : List Slot) (c : ℕ) (s t : Slot) → s ≡ get_or ss c s → t ≡ get_or ss c t → c < length ss → t ≡ s
same_slot ss c s t es et lt = et ∙ get_or_default ss c t s lt ∙ sym es

-- the block once bytes were copied to a place in it
pub record Written (block : List ℕ) (after : List ℕ) (at : ℕ) (bs : List ℕ) : Type 0 where
  pub is : after ≡ put_mid at (length bs) block bs
  pub long : length after ≡ length block

pub written : (v : Vec ℕ Global) (at : ℕ) (lent front bs : List ℕ) → lent ≡ v.items → front ≡ bs → at + length bs ≤ length v.items
    → Written v.items (with_items v (put_mid at (at + length bs - at) lent front)).items at bs
written v at lent front bs el ef le =
    let less : at + length bs - at ≡ length bs = omega arith in
    let same : put_mid at (at + length bs - at) lent front ≡ put_mid at (length bs) v.items bs
    = ap (λ k. put_mid at k lent front) less ∙ ap (λ xs. put_mid at (length bs) xs front) el ∙ ap (put_mid at (length bs) v.items) ef in
    let long : length (put_mid at (length bs) v.items bs) ≡ length v.items = length-put_mid at (length bs) v.items bs le refl in
    let is = with_items_is v (put_mid at (at + length bs - at) lent front) (ap length same ∙ long ∙ sym v.ok.0) ∙ same in
    record { is = is; long = ap length is ∙ long }

pub sound-given : (p q : Inside) (c : ℕ) → IsSound p → q.block ≡ p.block → q.slots ≡ p.slots → q.order ≡ record p.order { used = filter (is_not c) p.order.used } → IsSound q
sound-given p q c i block slots order = record {
  distinct = rw order (AreDistinct-filter c p.order.used i.distinct);
  within = rw (slots, order) (All-filter (is_not c) (λ n. n < length p.slots.items) p.order.used i.within);
  backed = rw (block, order) (All-filter (is_not c) (IsBacked p.block.items) p.order.used i.backed);
  sizes = rw (slots, order) i.sizes;
  short = rw slots i.short;
  room = rw (block, slots) i.room;
}

pub sound-touched : (p q : Inside) (c : ℕ) → IsSound p → is_in c p.order.used ≡ true → q.block ≡ p.block → q.slots ≡ p.slots
    → q.order ≡ record p.order { used = filter (is_not c) p.order.used ++ c ∷ [] } → IsSound q
sound-touched p q c i h block slots order =
    let lt : c < length p.slots.items = present_below c (length p.slots.items) p.order.used i.within h in
    let at : IsBacked p.block.items c = present (IsBacked p.block.items) c p.order.used i.backed h in
    record {
      distinct = rw order (AreDistinct-push c (filter (is_not c) p.order.used) (AreDistinct-filter c p.order.used i.distinct) (is_in_filter_same c p.order.used));
      within = rw (slots, order) (All-push (λ n. n < length p.slots.items) (filter (is_not c) p.order.used) c (All-filter (is_not c) (λ n. n < length p.slots.items) p.order.used i.within) lt);
      backed = rw (block, order) (All-push (IsBacked p.block.items) (filter (is_not c) p.order.used) c (All-filter (is_not c) (IsBacked p.block.items) p.order.used i.backed) at);
      sizes = rw (slots, order) i.sizes;
      short = rw slots i.short;
      room = rw (block, slots) i.room;
    }

pub sound-filled : (p q : Inside) (c : ℕ) (s : Slot) → IsSound p → length q.block.items ≡ length p.block.items → vec_capacity q.block ≡ vec_capacity p.block
    → q.slots.items ≡ set p.slots.items c s → q.order ≡ p.order → s.filled ≤ 4096 → IsSound q
sound-filled p q c s i block cap slots order short =
    let long : length q.slots.items ≡ length p.slots.items = ap length slots ∙ length-set p.slots.items c s in
    record {
      distinct = rw order i.distinct;
      within = rw order (all_below _ _ p.order.used (sym long) i.within);
      backed = rw order (all_backed p.block.items q.block.items p.order.used (omega arith) i.backed);
      sizes = ap (λ o. o.size) order ∙ i.sizes ∙ sym long;
      short = rw slots (All-set (λ t. t.filled ≤ 4096) p.slots.items c s short i.short);
      room = omega (arith, i.room, long, cap);
    }

pub sound-taken : (p q : Inside) (c : ℕ) (s : Slot) → IsSound p → c < length p.slots.items → is_in c p.order.used ≡ false
    → length p.block.items ≤ length q.block.items → c * 4096 + 4096 ≤ length q.block.items → vec_capacity p.block ≤ vec_capacity q.block
    → q.slots.items ≡ set p.slots.items c s → q.order ≡ record p.order { used = p.order.used ++ c ∷ [] } → s.filled ≤ 4096 → IsSound q
sound-taken p q c s i lt h longer at cap slots order short =
    let long : length q.slots.items ≡ length p.slots.items = ap length slots ∙ length-set p.slots.items c s in
    record {
      distinct = rw order (AreDistinct-push c p.order.used i.distinct h);
      within = rw order (All-push (λ n. n < length q.slots.items) p.order.used c (all_below _ _ p.order.used (sym long) i.within) (omega (arith, long, lt)));
      backed = rw order (All-push (IsBacked q.block.items) p.order.used c (all_backed p.block.items q.block.items p.order.used longer i.backed) at);
      sizes = ap (λ o. o.size) order ∙ i.sizes ∙ sym long;
      short = rw slots (All-set (λ t. t.filled ≤ 4096) p.slots.items c s short i.short);
      room = omega (arith, i.room, long, cap);
    }

abbrev view : List ℕ → List Slot → List ℕ → Chunks
view block ss ns = record { size = length ss; used = map (used_at block ss) ns }

-- the chunks after each call
pub chunks-given : (p : Inside) (ns : List ℕ) (v : Chunks) (c : ℕ) → chunks_of p ≡ v → ns ≡ filter (is_not c) p.order.used
    → view p.block.items p.slots.items ns ≡ record v { used = filter (is_other c) v.used }
chunks-given p ns v c e order = rw (← e, order) (rw (view-given p.block.items p.slots.items c p.order.used) refl)

pub chunks-touched : (p : Inside) (ns : List ℕ) (v : Chunks) (c : ℕ) → IsSound p → is_in c p.order.used ≡ true → chunks_of p ≡ v
    → ns ≡ filter (is_not c) p.order.used ++ c ∷ []
    → view p.block.items p.slots.items ns ≡ record v { used = used_last c v.used }
chunks-touched p ns v c i h e order = rw (← e, order) (rw (view-touched p.block.items p.slots.items c p.order.used i.distinct h) refl)

pub chunks-filled : (p : Inside) (block : List ℕ) (ss : List Slot) (v : Chunks) (c : ℕ) (s t : Slot) (bs : List ℕ) → IsSound p → c < length p.slots.items → chunks_of p ≡ v
    → ss ≡ set p.slots.items c s → block ≡ put_mid (c * 4096 + t.filled) (length bs) p.block.items bs
    → slice_get p.slots.items c ≡ Some t → s.owner ≡ t.owner → s.index ≡ t.index → s.filled ≡ t.filled + length bs → s.filled ≤ 4096 → c * 4096 + 4096 ≤ length p.block.items
    → view block ss p.order.used ≡ record v { used = map (extended c bs) v.used }
chunks-filled p block ss v c s t bs i lt e slots bytes there owner index more fits long =
    rw (← e, slots, bytes) (rw (length-set p.slots.items c s, view-filled p.block.items p.slots.items c s t bs p.order.used lt i.short there owner index more fits long) refl)

pub chunks-taken : (p : Inside) (block : List ℕ) (ss : List Slot) (ns : List ℕ) (v : Chunks) (c : ℕ) (s : Slot) → IsSound p → c < length p.slots.items → is_in c p.order.used ≡ false → chunks_of p ≡ v
    → ss ≡ set p.slots.items c s → take (length p.block.items) block ≡ p.block.items → s.filled ≡ 0 → ns ≡ p.order.used ++ c ∷ []
    → view block ss ns ≡ record v { used = v.used ++ record { number = c; owner = s.owner; index = s.index; bytes = [] } ∷ [] }
chunks-taken p block ss ns v c s i lt h e slots kept none order =
    rw (← e, slots, order) (rw (length-set p.slots.items c s, view-taken p.block.items block p.slots.items c s p.order.used lt h i.short i.backed kept none) refl)

-- a number that the order does not have is free
pub room_for : (p : Inside) (n : ℕ) → IsSound p → n < length p.slots.items → is_in n p.order.used ≡ false → length p.order.used < length p.slots.items
room_for p n i lt h =
    omega (arith, few_below (length p.slots.items) (p.order.used ++ n ∷ []) (AreDistinct-push n p.order.used i.distinct h) (All-push (λ m. m < length p.slots.items) p.order.used n i.within lt), length_push p.order.used n)

-- where the order has all numbers, none is free
pub all_used : (p : Inside) (v : Chunks) → IsSound p → chunks_of p ≡ v → length p.order.used ≡ p.order.size → length v.used ≡ v.size
all_used p v i e all = rw (← e) (length-map p.order.used (used_at p.block.items p.slots.items) ∙ all ∙ i.sizes)
