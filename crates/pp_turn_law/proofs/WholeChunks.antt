-- Of a chunk that is kept all is in memory, or nothing: the law's, with the bounds of the cache that shows it.
use Rattle.std.proofs.Common.{◌≡◌, ◌⊎◌, ◌<◌, ◌≤◌, inl, inr, refl, sym, subst, ap, ◌∙◌, ℕ, ◌-◌, ◌*◌, ◌/◌, ◌%◌, Bool, true, false, nat_lt, length, max, List, [], ◌∷◌, Option, option_map, arith}
use Rattle.std.proofs.lemmas.Bool.Decides.{nat_tests}
use Rattle.std.specs.Prelude.{min}
use Rattle.pp_cache.specs.Bounds.{IsBounded}
use Rattle.pp_cache.specs.Memory.{Memory, is_in_memory}
use Rattle.pp_cache_law.proofs.Alike.{bytes_in_chunks}
use Rattle.pp_cache_law.specs.Pairs.{AreAll}
use Rattle.pp_cache_law.specs.Tables.{ShowsInstance, ShowsTable}
use Rattle.pp_events_law.specs.ToLoad.{AreWhole}
use Rattle.pp_law.specs.Chunks.{filled}
use Rattle.pp_law.specs.Lists.{Bytes}
use Rattle.pp_law.specs.State.{State, Instance as Known, Term}
use Rattle.pp_law.specs.Table.{is_instance}
use Rattle.pp_holes.specs.Places.{bytes_at}
use Rattle.pp_laws.proofs.Lists.{in_find}
use Rattle.pp_laws.proofs.Tests.{same_number}
use Rattle.pp_laws.specs.Runs.{IsIn}
use Rattle.pp_laws_versions.proofs.Laws.{hold_all_or_none}
use Rattle.pp_obeys.specs.Obeys.{Obeys}
use Rattle.pp_objects.specs.Instances.{Instance, total_of}
use Rattle.pp_valid.specs.declared.version.Version.{Version}
use Rattle.pp_world.specs.Log.{Log}

-- ---- of each that the law knows there is one of the program's

record Shown (number : ℕ → ℕ) (m : Memory) (s : State) (x : Known) : Type 0 where
  one : Instance
  shows : ShowsInstance number m s one x

shown : (number : ℕ → ℕ) (m : Memory) (s : State) (is : List Instance) (xs : List Known) (x : Known) → AreAll (ShowsInstance number m s) is xs → IsIn x xs → Shown number m s x
shown number m s [] [] x all there = absurd there
shown number m s [] (y ∷ xs) x all there = absurd all
shown number m s (i ∷ is) [] x all there = absurd there
shown number m s (i ∷ is) (y ∷ xs) x all (inl same) = record { one = i; shows = subst (λ (z : Known). ShowsInstance number m s i z) (sym same) all.0 }
shown number m s (i ∷ is) (y ∷ xs) x all (inr rest) = shown number m s is xs x all.1 rest

-- ---- nothing is in memory behind the end of a body

beyond : (n k long at : ℕ) → n - k * 4096 < long → long ≤ 4096 → at ≡ max n (k * 4096) → (at / 4096 ≡ k) × (at % 4096 < long)
beyond n k long at over few is = (omega (arith, over, few, is), omega (arith, over, few, is))

from_end : (n k at : ℕ) → at ≡ max n (k * 4096) → n ≤ at
from_end n k at is = omega (arith, is)

test_of : (m n : ℕ) → m < n → nat_lt m n ≡ true
test_of m n lt = grind (arith, nat_tests, lt)

below_of : (m n : ℕ) → nat_lt m n ≡ true → m < n
below_of m n is = grind (arith, nat_tests)

not_below : (m n : ℕ) → nat_lt m n ≡ false → n ≤ m
not_below m n isnt = grind (arith, nat_tests)

module _ (number : ℕ → ℕ) (m : Memory) (s : State) (shows : ShowsTable number m s) (bounded : IsBounded m) (x : Known) (there : IsIn x s.instances) (k : ℕ) where
  it : Shown number m s x
  it = shown number m s m.instances s.instances x shows.instances there

  -- how much of the chunk is in memory
  same : length (bytes_at (it.one.slot, k) m.chunks) ≡ filled x.id k s.chunks
  same =
      ap (λ (bs : Bytes). length bs) (bytes_in_chunks number m it.one.slot (number it.one.life) k m.chunks s.chunks shows.apart (ap (λ (o : Option Instance). option_map (λ i. number i.life) o) it.shows.there) shows.chunks)
      ∙ ap (λ (n : ℕ). filled n k s.chunks) it.shows.id

  few : filled x.id k s.chunks ≤ 4096
  few = subst (λ (n : ℕ). n ≤ 4096) same (bounded.fronts it.one.slot k)

  abbrev at : ℕ
  at = max x.version.length (k * 4096)

  ends : is_in_memory it.one.slot at m.chunks ≡ false
  ends = bounded.ends it.one.slot at (subst (λ (n : ℕ). n ≤ at) (sym (ap total_of it.shows.there ∙ ap (λ (v : Version). v.length) it.shows.version)) (from_end x.version.length k at refl))

  pub inside : filled x.id k s.chunks ≤ min 4096 (x.version.length - k * 4096)
  inside = by (nat_lt (x.version.length - k * 4096) (filled x.id k s.chunks)) refl
    where
      by : (b : Bool) → nat_lt (x.version.length - k * 4096) (filled x.id k s.chunks) ≡ b → filled x.id k s.chunks ≤ min 4096 (x.version.length - k * 4096)
      by false isnt = let le : filled x.id k s.chunks ≤ x.version.length - k * 4096 = not_below (x.version.length - k * 4096) (filled x.id k s.chunks) isnt in omega (arith, le, few)
      by true is =
          let w = beyond x.version.length k (filled x.id k s.chunks) at (below_of (x.version.length - k * 4096) (filled x.id k s.chunks) is) few refl in
          absurd (let both : true ≡ false = sym (test_of (at % 4096) (filled x.id k s.chunks) w.1) ∙ ap (λ (n : ℕ). nat_lt (at % 4096) n) (sym same) ∙ ap (λ (j : ℕ). nat_lt (at % 4096) (length (bytes_at (it.one.slot, j) m.chunks))) (sym w.0) ∙ ends in cc both)

same_as : (a b : ℕ) → a ≤ b → b ≤ a → a ≡ b
same_as a b le ge = omega (arith, le, ge)

pub are_whole : (terms : List Term) (log : Log) (number : ℕ → ℕ) (m : Memory) (s : State) → Obeys terms s log → ShowsTable number m s → IsBounded m → AreWhole s
are_whole terms log number m s obeys shows bounded id k x known below = by (hold_all_or_none terms s log obeys id k x known below)
  where
    there : IsIn x s.instances × (is_instance id x ≡ true)
    there = in_find (is_instance id) x s.instances known

    upper : filled id k s.chunks ≤ min 4096 (x.version.length - k * 4096)
    upper = subst (λ (n : ℕ). filled n k s.chunks ≤ min 4096 (x.version.length - k * 4096)) (same_number x.id id there.1) (inside number m s shows bounded x there.0 k)

    by : (filled id k s.chunks ≡ 0) ⊎ (min 4096 (x.version.length - k * 4096) ≤ filled id k s.chunks) → (filled id k s.chunks ≡ 0) ⊎ (filled id k s.chunks ≡ min 4096 (x.version.length - k * 4096))
    by (inl none) = inl none
    by (inr all) = inr (same_as (filled id k s.chunks) (min 4096 (x.version.length - k * 4096)) upper all)
