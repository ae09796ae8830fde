-- What a pool tells of its chunks without their numbers, and what a chunk holds from an offset on.
use Rattle.std.proofs.Common.{◌≡◌, ℕ, Bool, true, false, not, cond, List, [], ◌∷◌, ◌==◌, drop, length, refl, ap, ◌∙◌, arith, Option, Some, None}
use Rattle.std.specs.Prelude.{nat_lt, nat_le, option_map}
use Rattle.std.proofs.lemmas.List.{length-map, length-drop}
use Rattle.std.proofs.lemmas.Bool.Decides.{nat_tests}
use Rattle.pp_cache.specs.Memory.{all_used, used_of}
use Rattle.pp_evict.specs.Victims.{victim_in}
use Rattle.pp_holes.specs.Places.{show, shown}
use Rattle.pp_pool.specs.Chunks.{Used, is_pinned, oldest_in, place_of}

pub shown_length : (us : List Used) → length (shown us) ≡ length us
shown_length us = length-map us show

-- ---- the chunk that has to go

all_length : (us : List Used) → length (all_used (shown us)) ≡ length us
all_length us = length-map (shown us) used_of ∙ shown_length us

oldest_by : (b : Bool) (u : Used) (x y : Option Used) → option_map place_of x ≡ option_map place_of y
    → option_map place_of (cond b (Some (used_of (show u))) x) ≡ option_map place_of (cond b (Some u) y)
oldest_by true u x y same = refl
oldest_by false u x y same = same

oldest_shown : (pins : List (ℕ × ℕ)) (us : List Used) → option_map place_of (oldest_in pins (all_used (shown us))) ≡ option_map place_of (oldest_in pins us)
oldest_shown pins [] = refl
oldest_shown pins (u ∷ us) =
    oldest_by (not (is_pinned pins u)) u (oldest_in pins (all_used (shown us))) (oldest_in pins us) (oldest_shown pins us)

pub victim_shown : (pins : List (ℕ × ℕ)) (floor : ℕ) (us : List Used) → victim_in pins floor (all_used (shown us)) ≡ victim_in pins floor us
victim_shown pins floor us =
    ap (λ n. cond (nat_le n floor) None (option_map place_of (oldest_in pins (all_used (shown us))))) (all_length us)
    ∙ ap (λ x. cond (nat_le (length us) floor) None x) (oldest_shown pins us)

-- ---- what a chunk holds from an offset on

pub rest_there : (k : ℕ) (l : List ℕ) → not (length (drop k l) == 0) ≡ nat_lt k (length l)
rest_there k l = grind (arith, nat_tests, length-drop k l)
