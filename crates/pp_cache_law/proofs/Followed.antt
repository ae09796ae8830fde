-- One that is retired is still there for a client that follows it.
use Rattle.std.proofs.Common.{◌≡◌, ◌+◌, refl, sym, ap, ◌∙◌, ℕ, Bool, true, false, ◌==◌, cond, List, Option, Some, None, option_map, arith}
use Rattle.std.proofs.lemmas.Bool.Decides.{nat_tests}
use Rattle.pp_objects.specs.Changes.{changed_in, followed, marked, retired, without_slot}
use Rattle.pp_objects.specs.Instances.{Instance, in_slot, is_in_slot}
use Rattle.pp_cache_law.specs.Tables.{AreFollowed}
use Rattle.pp_cache_law.proofs.Moves.{changed_if, in_slot-changed, in_slot-elsewhere, in_slot-gone, in_slot-marked}
use Rattle.pp_cache_law.proofs.Numbers.{is_same, some_is}

none_some : (x : Instance) → None ≡ Some x → ⊥
none_some x e = absurd cc

pub followed-marked : (k : ℕ) (is : List Instance) → AreFollowed is → AreFollowed (marked k is)
followed-marked k is needed slot i there retired = needed slot i (sym (in_slot-marked slot k is) ∙ there) retired

pub followed-changed : (k : ℕ) (f : Instance → Instance) (is : List Instance) → ((i : Instance) → (f i).slot ≡ i.slot) → ((i : Instance) → (f i).is_retired ≡ i.is_retired)
    → ((i : Instance) → (i.followers == 0) ≡ false → ((f i).followers == 0) ≡ false) → AreFollowed is → AreFollowed (changed_in k f is)
followed-changed k f is slots retired more needed slot j there gone = by (in_slot slot is) refl (sym (in_slot-changed slot k f is slots) ∙ there)
  where
    one : (b : Bool) (i : Instance) → in_slot slot is ≡ Some i → cond b (f i) i ≡ j → (j.followers == 0) ≡ false
    one true i here e = ap (λ (x : Instance). x.followers == 0) (sym e) ∙ more i (needed slot i here (sym (retired i) ∙ ap (λ (x : Instance). x.is_retired) e ∙ gone))
    one false i here e = ap (λ (x : Instance). x.followers == 0) (sym e) ∙ needed slot i here (ap (λ (x : Instance). x.is_retired) e ∙ gone)

    by : (u : Option Instance) → in_slot slot is ≡ u → option_map (changed_if k f) u ≡ Some j → (j.followers == 0) ≡ false
    by None here e = absurd (none_some j e)
    by (Some i) here e = one (is_in_slot k i) i here (some_is (changed_if k f i) j e)

one_more : (n : ℕ) → ((n + 1) == 0) ≡ false
one_more n = grind (arith, nat_tests)

pub followed-too : (k : ℕ) (is : List Instance) → AreFollowed is → AreFollowed (changed_in k followed is)
followed-too k is needed = followed-changed k followed is (λ i. refl) (λ i. refl) (λ i some. one_more i.followers) needed

pub followed-without : (k : ℕ) (is : List Instance) → AreFollowed is → AreFollowed (without_slot k is)
followed-without k is needed slot j there gone = by (slot == k) refl
  where
    by : (b : Bool) → (slot == k) ≡ b → (j.followers == 0) ≡ false
    by true same = absurd (none_some j (sym (in_slot-gone k is) ∙ ap (λ (n : ℕ). in_slot n (without_slot k is)) (sym (is_same slot k same)) ∙ there))
    by false apart = needed slot j (sym (in_slot-elsewhere slot k is apart) ∙ there) gone
