-- The walk over the order of use.
use Rattle.std.proofs.Common.{ℕ, ◌+◌, ◌≤◌, ◌<◌, ◌≡◌, Bool, true, false, ◌&&◌, not, List, [], ◌∷◌, length, map, get_or, drop, refl, sym, ◌∙◌, ap, Option, Some, None, cond}
use Rattle.std.proofs.lemmas.List.{drop_more, drop_all}
use Rattle.std.proofs.lemmas.Option.{slice_get-get_or}
use Rattle.std.specs.List.{list_all}
use Rattle.std.specs.Option.{option_map}
use Rattle.std.specs.Prelude.{is_some, IsNone, ◌↔◌}
use Rattle.pp_pool.specs.declared.pool.Slot.{Slot}
use Rattle.pp_pool.specs.declared.pool.Pool.TheInside.{Inside}
use Rattle.pp_pool.specs.Chunks.{Used, Chunks, is_pinned, oldest_in, place_of}
use Rattle.pp_pool.specs.Slots.{used_at, used_as, chunks_of, IsSound}

pinned_at : (pins : List (ℕ × ℕ)) (p : Inside) (i : ℕ) (s : Slot) → IsSound p → i < length p.order.used → s ≡ get_or p.slots.items (get_or p.order.used i 0) s
    → used_at p.block.items p.slots.items (get_or p.order.used i 0) ≡ used_as p.block.items (get_or p.order.used i 0) (Some s)
pinned_at pins p i s sound lt was =
    ap (used_as p.block.items (get_or p.order.used i 0)) (slice_get-get_or p.slots.items (get_or p.order.used i 0) s (sound.within i 0 lt) ∙ ap (λ x. Some x) (sym was))

walk : (pins : List (ℕ × ℕ)) (p : Inside) (i : ℕ) (s : Slot) (b : Bool) → IsSound p → i < length p.order.used → s ≡ get_or p.slots.items (get_or p.order.used i 0) s
    → is_pinned pins (used_as p.block.items (get_or p.order.used i 0) (Some s)) ≡ b
    → oldest_in pins (map (used_at p.block.items p.slots.items) (drop i p.order.used))
    ≡ cond (not b) (Some (used_as p.block.items (get_or p.order.used i 0) (Some s))) (oldest_in pins (map (used_at p.block.items p.slots.items) (drop (i + 1) p.order.used)))
walk pins p i s b sound lt was e =
    ap (λ ns. oldest_in pins (map (used_at p.block.items p.slots.items) ns)) (drop_more p.order.used i 0 lt)
    ∙ ap (λ u. oldest_in pins (u ∷ map (used_at p.block.items p.slots.items) (drop (i + 1) p.order.used))) (pinned_at pins p i s sound lt was)
    ∙ ap (λ t. cond (not t) (Some (used_as p.block.items (get_or p.order.used i 0) (Some s))) (oldest_in pins (map (used_at p.block.items p.slots.items) (drop (i + 1) p.order.used)))) e

pub pinned_step : (pins : List (ℕ × ℕ)) (p : Inside) (i : ℕ) (s : Slot) → IsSound p → i < length p.order.used → s ≡ get_or p.slots.items (get_or p.order.used i 0) s
    → is_pinned pins (used_as p.block.items (get_or p.order.used i 0) (Some s)) ≡ true
    → oldest_in pins (map (used_at p.block.items p.slots.items) (drop i p.order.used)) ≡ oldest_in pins (map (used_at p.block.items p.slots.items) p.order.used)
    → oldest_in pins (map (used_at p.block.items p.slots.items) (drop (i + 1) p.order.used)) ≡ oldest_in pins (map (used_at p.block.items p.slots.items) p.order.used)
pinned_step pins p i s sound lt was e ih = sym (walk pins p i s true sound lt was e) ∙ ih

pub found_step : (pins : List (ℕ × ℕ)) (p : Inside) (v : Chunks) (i : ℕ) (s : Slot) → IsSound p → chunks_of p ≡ v → i < length p.order.used → s ≡ get_or p.slots.items (get_or p.order.used i 0) s
    → is_pinned pins (used_as p.block.items (get_or p.order.used i 0) (Some s)) ≡ false
    → oldest_in pins (map (used_at p.block.items p.slots.items) (drop i p.order.used)) ≡ oldest_in pins (map (used_at p.block.items p.slots.items) p.order.used)
    → Some (s.owner, s.index) ≡ option_map place_of (oldest_in pins v.used)
found_step pins p v i s sound e lt was n ih =
    ap (option_map place_of) (sym (walk pins p i s false sound lt was n) ∙ ih) ∙ ap (λ w. option_map place_of (oldest_in pins w.used)) e

-- nothing is found exactly where all are pinned
all_by : (b : Bool) (pins : List (ℕ × ℕ)) (u : Used) (us : List Used) → is_pinned pins u ≡ b
    → (oldest_in pins us ≡ None → list_all (is_pinned pins) us ≡ true)
    → cond (not b) (Some u) (oldest_in pins us) ≡ None → (b && list_all (is_pinned pins) us) ≡ true
all_by true pins u us e ih none = ih none
all_by false pins u us e ih none = absurd cc

all_pinned : (pins : List (ℕ × ℕ)) (us : List Used) → oldest_in pins us ≡ None → list_all (is_pinned pins) us ≡ true
all_pinned pins [] none = refl
all_pinned pins (u ∷ us) none = all_by (is_pinned pins u) pins u us refl (all_pinned pins us) none

none_by : (b : Bool) (pins : List (ℕ × ℕ)) (u : Used) (us : List Used) → is_pinned pins u ≡ b
    → (list_all (is_pinned pins) us ≡ true → oldest_in pins us ≡ None)
    → (b && list_all (is_pinned pins) us) ≡ true → cond (not b) (Some u) (oldest_in pins us) ≡ None
none_by true pins u us e ih all = ih all
none_by false pins u us e ih all = absurd cc

none_oldest : (pins : List (ℕ × ℕ)) (us : List Used) → list_all (is_pinned pins) us ≡ true → oldest_in pins us ≡ None
none_oldest pins [] all = refl
none_oldest pins (u ∷ us) all = none_by (is_pinned pins u) pins u us refl (none_oldest pins us) all

none_placed : (o : Option Used) → is_some (option_map place_of o) ≡ false → o ≡ None
none_placed None e = refl
none_placed (Some u) e = absurd cc

pub none_where_pinned : (pins : List (ℕ × ℕ)) (us : List Used) (r : Option (ℕ × ℕ)) → r ≡ option_map place_of (oldest_in pins us)
    → IsNone r ↔ (list_all (is_pinned pins) us ≡ true)
none_where_pinned pins us r e = (
  λ none. all_pinned pins us (none_placed (oldest_in pins us) (ap is_some (sym e) ∙ none)),
  λ all. ap is_some (e ∙ ap (option_map place_of) (none_oldest pins us all)),
)

-- the walk came to the end
pub nothing_found : (pins : List (ℕ × ℕ)) (p : Inside) (v : Chunks) (i : ℕ) → chunks_of p ≡ v → length p.order.used ≤ i
    → oldest_in pins (map (used_at p.block.items p.slots.items) (drop i p.order.used)) ≡ oldest_in pins (map (used_at p.block.items p.slots.items) p.order.used)
    → None ≡ option_map place_of (oldest_in pins v.used)
nothing_found pins p v i e le ih =
    ap (option_map place_of) (sym (ap (λ ns. oldest_in pins (map (used_at p.block.items p.slots.items) ns)) (drop_all i p.order.used le)) ∙ ih ∙ ap (λ w. oldest_in pins w.used) e)
