-- What a change of one slot, of the block or of the order does to the used chunks.
use Rattle.std.proofs.Common.{ℕ, ◌+◌, ◌*◌, ◌≤◌, ◌<◌, ◌≡◌, true, false, List, [], ◌∷◌, ◌++◌, length, map, set, take, drop, arith, refl, sym, ◌∙◌, ap, zero, suc, subst, Option, Some, None, ◌⊎◌, inl, inr}
use Rattle.std.proofs.lemmas.Grind.{common_steps}
use Rattle.std.proofs.lemmas.Bool.{cases_eq}
use Rattle.std.proofs.lemmas.List.{map-append}
use Rattle.std.proofs.lemmas.List.Elements.{All-head, All-tail}
use Rattle.std.specs.Prelude.{slice_get}
use Rattle.std.specs.List.{filter, All}
use borrow.Rule.Slice.PartMut.{put_mid}
use Rattle.pp_pool.specs.declared.pool.Slot.{Slot}
use Rattle.pp_pool.specs.declared.pool.Pool.TheInside.{Inside}
use Rattle.pp_pool.specs.Chunks.{Used, Chunks, IsUsed, is_in, is_not, is_other, AreDistinct, numbers, bytes_in, bytes_found, extended, used_last}
use Rattle.pp_pool.specs.Slots.{used_as, used_at, chunks_of}
use Rattle.pp_pool.proofs.Blocks.{part_other, part_longer, part_grown}
use Rattle.pp_pool.proofs.Order.{map_agree, numbers_seen, seen-left, seen-changed, seen-found, seen-moved}

abbrev number_of : Used → ℕ
number_of u = u.number

slice_get_set_other : (ss : List Slot) (c n : ℕ) (s : Slot) → (n ≡ c → ⊥) → slice_get (set ss c s) n ≡ slice_get ss n
slice_get_set_other [] c n s h = refl
slice_get_set_other (t ∷ ss) zero zero s h = absurd (h refl)
slice_get_set_other (t ∷ ss) zero (suc n) s h = refl
slice_get_set_other (t ∷ ss) (suc c) zero s h = refl
slice_get_set_other (t ∷ ss) (suc c) (suc n) s h = slice_get_set_other ss c n s (λ e. h (ap suc e))

slice_get_set_same : (ss : List Slot) (c : ℕ) (s : Slot) → c < length ss → slice_get (set ss c s) c ≡ Some s
slice_get_set_same [] c s h = absurd (omega arith)
slice_get_set_same (t ∷ ss) zero s h = refl
slice_get_set_same (t ∷ ss) (suc c) s h = slice_get_set_same ss c s (omega arith)

as_number : (block : List ℕ) (n : ℕ) (o : Option Slot) → (used_as block n o).number ≡ n
as_number block n None = refl
as_number block n (Some s) = refl

used_at_number : (block : List ℕ) (ss : List Slot) (n : ℕ) → (used_at block ss n).number ≡ n
used_at_number block ss n = as_number block n (slice_get ss n)

pub numbers-view : (block : List ℕ) (ss : List Slot) (ns : List ℕ) → numbers (map (used_at block ss) ns) ≡ ns
numbers-view block ss ns = numbers_seen number_of (used_at block ss) (used_at_number block ss) ns

-- what the invariant says of the order is seen from outside
pub distinct_seen : (block : List ℕ) (ss : List Slot) (ns : List ℕ) → AreDistinct ns → AreDistinct (numbers (map (used_at block ss) ns))
distinct_seen block ss ns d = subst AreDistinct (sym (numbers-view block ss ns)) d

pub is_in_order : (p : Inside) (v : Chunks) (c : ℕ) → chunks_of p ≡ v → IsUsed c v → is_in c p.order.used ≡ true
is_in_order p v c e h = let P : Chunks → Type 0 = λ w. IsUsed c w in
    ap (is_in c) (sym (numbers-view p.block.items p.slots.items p.order.used)) ∙ subst P (sym e) h

-- what holds of each number of a list holds of one in it
present_by : (P : ℕ → Type 0) (c n : ℕ) (ns : List ℕ) → P n → is_in c (n ∷ ns) ≡ true → (n ≡ c) ⊎ (n ≡ c → ⊥) → (is_in c ns ≡ true → P c) → P c
present_by P c n ns here there (inl q) rest = subst P q here
present_by P c n ns here there (inr q) rest = rest (grind (arith, common_steps))

pub present : (P : ℕ → Type 0) (c : ℕ) (ns : List ℕ) → All P ns → is_in c ns ≡ true → P c
present P c [] a there = absurd (grind (arith, common_steps))
present P c (n ∷ ns) a there = present_by P c n ns (All-head P n ns a) there (cases_eq n c) (λ rest. present P c ns (All-tail P n ns a) rest)

-- no slot says more than a chunk
pub short_at : (ss : List Slot) (n : ℕ) (s : Slot) → All (λ t. t.filled ≤ 4096) ss → slice_get ss n ≡ Some s → s.filled ≤ 4096
short_at [] n s a e = absurd cc
short_at (t ∷ ss) zero s a e =
    let same : t ≡ s = cc in
    let P : Slot → Type 0 = λ u. u.filled ≤ 4096 in
    subst P same (All-head P t ss a)
short_at (t ∷ ss) (suc n) s a e = let P : Slot → Type 0 = λ u. u.filled ≤ 4096 in short_at ss n s (All-tail P t ss a) e

-- where the block and one slot change, what is seen of the other numbers stays
as_other : (block block' : List ℕ) (n : ℕ) (o : Option Slot) → ((s : Slot) → o ≡ Some s → take s.filled (drop (n * 4096) block') ≡ take s.filled (drop (n * 4096) block))
    → used_as block' n o ≡ used_as block n o
as_other block block' n None same = refl
as_other block block' n (Some s) same =
    ap (λ bs. record { number = n; owner = s.owner; index = s.index; bytes = bs }) (same s refl)

pub used_at_other : (block block' : List ℕ) (ss : List Slot) (c n : ℕ) (s : Slot) → (n ≡ c → ⊥)
    → ((t : Slot) → slice_get ss n ≡ Some t → take t.filled (drop (n * 4096) block') ≡ take t.filled (drop (n * 4096) block))
    → used_at block' (set ss c s) n ≡ used_at block ss n
used_at_other block block' ss c n s apart same = ap (used_as block' n) (slice_get_set_other ss c n s apart) ∙ as_other block block' n (slice_get ss n) same

used_at_same : (block : List ℕ) (ss : List Slot) (c : ℕ) (s : Slot) → c < length ss → used_at block (set ss c s) c ≡ used_as block c (Some s)
used_at_same block ss c s h = ap (used_as block c) (slice_get_set_same ss c s h)

pub view-given : (block : List ℕ) (ss : List Slot) (c : ℕ) (ns : List ℕ) → map (used_at block ss) (filter (is_not c) ns) ≡ filter (is_other c) (map (used_at block ss) ns)
view-given block ss c ns = seen-left number_of (used_at block ss) (used_at block ss) c ns (used_at_number block ss) (λ m q. refl)

pub view-touched : (block : List ℕ) (ss : List Slot) (c : ℕ) (ns : List ℕ) → AreDistinct ns → is_in c ns ≡ true
    → map (used_at block ss) (filter (is_not c) ns ++ c ∷ []) ≡ used_last c (map (used_at block ss) ns)
view-touched block ss c ns d h = seen-moved number_of (used_at block ss) c ns (used_at_number block ss) d h

pub view-found : (block : List ℕ) (ss : List Slot) (c : ℕ) (ns : List ℕ) → is_in c ns ≡ true → bytes_in c (map (used_at block ss) ns) ≡ (used_at block ss c).bytes
view-found block ss c ns h = ap bytes_found (seen-found number_of (used_at block ss) c ns (used_at_number block ss) h)

-- bytes are written behind those of a chunk
filled_here : (block : List ℕ) (ss : List Slot) (c : ℕ) (s t : Slot) (bs : List ℕ) → slice_get ss c ≡ Some t → s.owner ≡ t.owner → s.index ≡ t.index
    → s.filled ≡ t.filled + length bs → c * 4096 + t.filled ≤ length block
    → used_as (put_mid (c * 4096 + t.filled) (length bs) block bs) c (Some s) ≡ record (used_at block ss c) { bytes = (used_at block ss c).bytes ++ bs }
filled_here block ss c s t bs there owner index more lt =
    rw (there, owner, index, more) (
    ap (λ xs. record { number = c; owner = t.owner; index = t.index; bytes = xs }) (part_longer (c * 4096) t.filled (length bs) block bs lt refl)
    )

pub view-filled : (block : List ℕ) (ss : List Slot) (c : ℕ) (s t : Slot) (bs : List ℕ) (ns : List ℕ) → c < length ss → All (λ u. u.filled ≤ 4096) ss
    → slice_get ss c ≡ Some t → s.owner ≡ t.owner → s.index ≡ t.index → s.filled ≡ t.filled + length bs → s.filled ≤ 4096 → c * 4096 + 4096 ≤ length block
    → map (used_at (put_mid (c * 4096 + t.filled) (length bs) block bs) (set ss c s)) ns ≡ map (extended c bs) (map (used_at block ss) ns)
view-filled block ss c s t bs ns lt short there owner index more fits long =
    let block' : List ℕ = put_mid (c * 4096 + t.filled) (length bs) block bs in
    let at : c * 4096 + t.filled ≤ length block = omega arith in
    seen-changed number_of (used_at block ss) (used_at block' (set ss c s)) (λ u. record u { bytes = u.bytes ++ bs }) c ns (used_at_number block ss)
    (λ n apart. used_at_other block block' ss c n s apart
    (λ u e. part_other (c * 4096 + t.filled) (length bs) n c u.filled block bs at refl (omega arith) (omega arith) (short_at ss n u short e) apart))
    (used_at_same block' ss c s lt ∙ filled_here block ss c s t bs there owner index more at)

-- a number that was free comes last
pub view-taken : (block block' : List ℕ) (ss : List Slot) (c : ℕ) (s : Slot) (ns : List ℕ) → c < length ss → is_in c ns ≡ false → All (λ u. u.filled ≤ 4096) ss
    → All (λ n. n * 4096 + 4096 ≤ length block) ns → take (length block) block' ≡ block → s.filled ≡ 0
    → map (used_at block' (set ss c s)) (ns ++ c ∷ []) ≡ map (used_at block ss) ns ++ record { number = c; owner = s.owner; index = s.index; bytes = [] } ∷ []
view-taken block block' ss c s ns lt out short backed kept none =
    let P : ℕ → Type 0 = λ n. n * 4096 + 4096 ≤ length block in
    let apart : (n : ℕ) → is_in n ns ≡ true → n ≡ c → ⊥ = λ n there e. absurd (grind (arith, ap (λ m. is_in m ns) e)) in
    map-append (used_at block' (set ss c s)) ns (c ∷ [])
    ∙ ap (λ us. us ++ used_at block' (set ss c s) c ∷ []) (map_agree (used_at block' (set ss c s)) (used_at block ss) ns
    (λ n there. used_at_other block block' ss c n s (apart n there)
    (λ u e. part_grown (n * 4096) u.filled block block' kept (omega (arith, present P n ns backed there, short_at ss n u short e)))))
    ∙ ap (λ u. map (used_at block ss) ns ++ u ∷ []) (used_at_same block' ss c s lt ∙ ap (λ k. record { number = c; owner = s.owner; index = s.index; bytes = take k (drop (c * 4096) block') }) none)
