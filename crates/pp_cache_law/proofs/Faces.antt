-- What an instance has in memory is no part of its face: where the faces are the same, the same is shown.
use Rattle.std.proofs.Common.{◌≡◌, ◌≤◌, ◌<◌, ◌+◌, refl, sym, subst, ap, ◌∙◌, ℕ, Bool, true, false, ◌==◌, cond, List, [], ◌∷◌, Option, Some, None, option_map, arith}
use Rattle.std.specs.Prelude.{count_by, ⊤}
use Rattle.pp_cache.specs.Memory.{Memory}
use Rattle.pp_law.specs.State.{State, Instance as Known}
use Rattle.pp_objects.specs.Changes.{face, faces}
use Rattle.pp_objects.specs.Instances.{Instance, in_slot, is_in_slot, is_row_of}
use Rattle.pp_cache_law.specs.Pairs.{AreAll}
use Rattle.pp_cache_law.specs.Tables.{AreFollowed, ShowsChunk, ShowsInstance, ShowsTable, number_in}
use Rattle.pp_cache_law.proofs.Finds.{find_mapped, found_counted}
use Rattle.pp_cache_law.proofs.Moves.{chunk_stays, kept_by}
use Rattle.pp_cache_law.proofs.Numbers.{same_test, some_is}
use Rattle.pp_cache_law.proofs.PairLemmas.{also, count_first, count_mapped_same}

-- ---- each stands in its slot, where no two have one

abbrev AreEach : {A : Type 0} → (A → Type 0) → List A → Type 0
AreEach P [] = ⊤
AreEach P (x ∷ xs) = P x × AreEach P xs

each_with : (j : Instance) (is js : List Instance) → ((slot : ℕ) → count_by (is_in_slot slot) (j ∷ is) ≤ 1) → AreEach (λ k. in_slot k.slot is ≡ Some k) js → AreEach (λ k. in_slot k.slot (j ∷ is) ≡ Some k) js
each_with j is [] few each = tt
each_with j is (k ∷ js) few each = (by (j.slot == k.slot) refl, each_with j is js few each.1)
  where
    by : (b : Bool) → (j.slot == k.slot) ≡ b → cond b (Some j) (in_slot k.slot is) ≡ Some k
    by true e =
        let first : count_by (is_in_slot k.slot) (j ∷ is) ≡ 1 + count_by (is_in_slot k.slot) is = count_first (is_in_slot k.slot) j is ∙ ap (λ (b : Bool). cond b 1 0 + count_by (is_in_slot k.slot) is) e in
        absurd (omega (arith, first, few k.slot, found_counted (is_in_slot k.slot) is k each.0))
    by false e = each.0

fewer : (p : Instance → Bool) (j : Instance) (is : List Instance) → count_by p (j ∷ is) ≤ 1 → count_by p is ≤ 1
fewer p j is few = omega (arith, few, count_first p j is)

each_there : (is : List Instance) → ((slot : ℕ) → count_by (is_in_slot slot) is ≤ 1) → AreEach (λ i. in_slot i.slot is ≡ Some i) is
each_there [] few = tt
each_there (j ∷ is) few = (
  ap (λ (b : Bool). cond b (Some j) (in_slot j.slot is)) (same_test j.slot j.slot refl),
  each_with j is is few (each_there is (λ slot. fewer (is_in_slot slot) j is (few slot))),
)

-- ---- what the faces tell

pub count_faced : (p : Instance → Bool) (is js : List Instance) → ((i : Instance) → p (face i) ≡ p i) → faces is ≡ faces js → count_by p is ≡ count_by p js
count_faced p is js same e =
    sym (count_mapped_same p face is same) ∙ ap (λ (ks : List Instance). count_by p ks) e ∙ count_mapped_same p face js same

pub in_slot-faced : (slot : ℕ) (is js : List Instance) → faces is ≡ faces js → option_map face (in_slot slot is) ≡ option_map face (in_slot slot js)
in_slot-faced slot is js e =
    sym (find_mapped (is_in_slot slot) face is (λ i. refl)) ∙ ap (λ (ks : List Instance). in_slot slot ks) e ∙ find_mapped (is_in_slot slot) face js (λ i. refl)

number_of_face : (number : ℕ → ℕ) (u : Option Instance) → option_map (λ (i : Instance). number i.life) u ≡ option_map (λ (i : Instance). number i.life) (option_map face u)
number_of_face number None = refl
number_of_face number (Some i) = refl

pub number_in-faced : (number : ℕ → ℕ) (slot : ℕ) (is js : List Instance) → faces is ≡ faces js → number_in number slot is ≡ number_in number slot js
number_in-faced number slot is js e =
    number_of_face number (in_slot slot is) ∙ ap (λ (u : Option Instance). option_map (λ (i : Instance). number i.life) u) (in_slot-faced slot is js e)
    ∙ sym (number_of_face number (in_slot slot js))

pub followed-faced : (is js : List Instance) → faces is ≡ faces js → AreFollowed js → AreFollowed is
followed-faced is js e needed slot i there retired = by (in_slot slot js) refl (sym (ap (λ (u : Option Instance). option_map face u) there) ∙ in_slot-faced slot is js e)
  where
    none_some : (x : Instance) → Some x ≡ None → ⊥
    none_some x f = absurd cc

    by : (u : Option Instance) → in_slot slot js ≡ u → Some (face i) ≡ option_map face u → (i.followers == 0) ≡ false
    by None here f = absurd (none_some (face i) f)
    by (Some j) here f =
        let same : face i ≡ face j = some_is (face i) (face j) f in
        ap (λ (k : Instance). k.followers == 0) same ∙ needed slot j here (sym (ap (λ (k : Instance). k.is_retired) same) ∙ retired)

-- ---- the table

first_face : (i j : Instance) (is js : List Instance) → face i ∷ is ≡ face j ∷ js → face i ≡ face j
first_face i j is js e = cc

other_faces : (i j : Instance) (is js : List Instance) → face i ∷ is ≡ face j ∷ js → is ≡ js
other_faces i j is js e = cc

no_faces : (i : Instance) (is : List Instance) → i ∷ is ≡ [] → ⊥
no_faces i is e = absurd cc

face_shows : (number : ℕ → ℕ) (m : Memory) (s : State) (is : List Instance) (i j : Instance) (x : Known) → face i ≡ face j → in_slot i.slot is ≡ Some i → ShowsInstance number m s j x
    → ShowsInstance number (record m { instances = is }) s i x
face_shows number m s is i j x e there one = record {
  there = there;
  id = ap (λ (k : Instance). number k.life) e ∙ one.id;
  key = ap (λ (k : Instance). k.key) e ∙ one.key;
  version = ap (λ (k : Instance). k.version) e ∙ one.version;
  fields = ap (λ (k : Instance). k.fields) e ∙ one.fields;
  times = ap (λ (k : Instance). k.times) e ∙ one.times;
  retired = ap (λ (k : Instance). k.is_retired) e ∙ one.retired;
  followers = ap (λ (k : Instance). k.followers) e ∙ one.followers;
  extent = ap (λ (u : Option Instance). kept_by m i u) there ∙ ap (λ (k : Instance). kept_by m k (Some k)) e ∙ sym (ap (λ (u : Option Instance). kept_by m j u) one.there) ∙ one.extent;
  given = subst (λ (k : Instance). k.life < m.lives) (sym e) one.given;
  made = one.made;
}

all_faced : (number : ℕ → ℕ) (m : Memory) (s : State) (all is js : List Instance) (xs : List Known) → AreEach (λ i. in_slot i.slot all ≡ Some i) is → faces is ≡ faces js → AreAll (ShowsInstance number m s) js xs
    → AreAll (ShowsInstance number (record m { instances = all }) s) is xs
all_faced number m s all [] [] [] each e shows = tt
all_faced number m s all [] [] (x ∷ xs) each e shows = absurd shows
all_faced number m s all [] (j ∷ js) xs each e shows = absurd (no_faces (face j) (faces js) (sym e))
all_faced number m s all (i ∷ is) [] xs each e shows = absurd (no_faces (face i) (faces is) e)
all_faced number m s all (i ∷ is) (j ∷ js) [] each e shows = absurd shows
all_faced number m s all (i ∷ is) (j ∷ js) (x ∷ xs) each e shows = (
  face_shows number m s all i j x (first_face i j (faces is) (faces js) e) each.0 shows.0,
  all_faced number m s all is js xs each.1 (other_faces i j (faces is) (faces js) e) shows.1,
)

pub table-faced : (number : ℕ → ℕ) (m : Memory) (s : State) (is : List Instance) → faces is ≡ faces m.instances → ShowsTable number m s → ShowsTable number (record m { instances = is }) s
table-faced number m s is e shows = record {
  instances = all_faced number m s is is m.instances s.instances (each_there is alone) e shows.instances;
  chunks =
      also (ShowsChunk number m) (ShowsChunk number (record m { instances = is })) m.chunks s.chunks
      (λ c d one. chunk_stays number m is m.chunks c d (number_in-faced number c.owner is m.instances e) one) shows.chunks;
  alone = alone;
  apart = λ a b n first second. shows.apart a b n (sym (number_in-faced number a is m.instances e) ∙ first) (sym (number_in-faced number b is m.instances e) ∙ second);
  rows = λ key. omega (arith, count_faced (is_row_of key) is m.instances (λ i. refl) e, shows.rows key);
  once = shows.once;
  unkept = shows.unkept;
}
  where
    alone : (slot : ℕ) → count_by (is_in_slot slot) is ≤ 1
    alone slot = omega (arith, count_faced (is_in_slot slot) is m.instances (λ i. refl) e, shows.alone slot)
