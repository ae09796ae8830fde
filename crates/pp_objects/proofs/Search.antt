-- A search over the order of use.
use Rattle.std.proofs.Common.{ℕ, ◌+◌, ◌<◌, ◌≤◌, ◌≡◌, Bool, true, false, cond, List, length, map, get_or, drop, sym, ◌∙◌, ap, Option, Some, None}
use Rattle.std.specs.List.{find}
use Rattle.std.proofs.lemmas.List.{drop_more, drop_all}
use Rattle.pp_objects.specs.Instances.{Instance}

walk : (p : Instance → Bool) (f : ℕ → Instance) (ns : List ℕ) (i : ℕ) (b : Bool) → i < length ns → p (f (get_or ns i 0)) ≡ b
    → find p (map f (drop i ns)) ≡ cond b (Some (f (get_or ns i 0))) (find p (map f (drop (i + 1) ns)))
walk p f ns i b lt e =
    ap (λ ms. find p (map f ms)) (drop_more ns i 0 lt) ∙ ap (λ t. cond t (Some (f (get_or ns i 0))) (find p (map f (drop (i + 1) ns)))) e

pub passed : (p : Instance → Bool) (f : ℕ → Instance) (ns : List ℕ) (i : ℕ) (x : Option Instance) → i < length ns → p (f (get_or ns i 0)) ≡ false
    → find p (map f (drop i ns)) ≡ x → find p (map f (drop (i + 1) ns)) ≡ x
passed p f ns i x lt e so_far = sym (walk p f ns i false lt e) ∙ so_far

pub found : (p : Instance → Bool) (f : ℕ → Instance) (ns : List ℕ) (i : ℕ) (x : Option Instance) → i < length ns → p (f (get_or ns i 0)) ≡ true
    → find p (map f (drop i ns)) ≡ x → Some (f (get_or ns i 0)) ≡ x
found p f ns i x lt e so_far = sym (walk p f ns i true lt e) ∙ so_far

pub ended : (p : Instance → Bool) (f : ℕ → Instance) (ns : List ℕ) (i : ℕ) (x : Option Instance) → length ns ≤ i → find p (map f (drop i ns)) ≡ x → None ≡ x
ended p f ns i x le so_far = sym (ap (λ ms. find p (map f ms)) (drop_all i ns le)) ∙ so_far
