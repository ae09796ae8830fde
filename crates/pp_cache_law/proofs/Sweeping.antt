-- Retired instances leave memory with their last follower.
use Rattle.std.proofs.Common.{◌≡◌, refl, sym, subst, ap, ◌∙◌, ℕ, Bool, true, false, not, ◌==◌, ◌&&◌, ◌||◌, cond, find, List, [], ◌∷◌, filter, Some, arith}
use Rattle.std.specs.List.{list_any}
use Rattle.std.proofs.lemmas.Bool.Decides.{nat_tests}
use Rattle.pp_cache.specs.Memory.{Memory}
use Rattle.pp_holes.specs.Places.{without_owner}
use Rattle.pp_law.specs.Lists.{without as law_without}
use Rattle.pp_law.specs.State.{State, Instance as Known, Chunk as Front}
use Rattle.pp_law.specs.Table.{is_chunk_of_any, is_followed, is_instance, is_left_over, swept}
use Rattle.pp_objects.specs.Changes.{without_slot}
use Rattle.pp_objects.specs.Instances.{Instance, in_slot, is_in_slot}
use Rattle.pp_cache_law.specs.Tables.{AreFollowed, ShowsChunk, ShowsInstance, ShowsTable, number_in}
use Rattle.pp_cache_law.proofs.Moves.{ds_without, forgets_at}
use Rattle.pp_cache_law.proofs.Numbers.{instances_alike, is_same, some_is}
use Rattle.pp_cache_law.proofs.PairLemmas.{filter_all, filter_none, filters_same}
use Rattle.pp_cache_law.proofs.Alike.{unfollowed}

-- ---- of these instances one is of that number

other_number : (a k n : ℕ) → (k == n) ≡ false → (a == n) ≡ true → (a == k) ≡ false
other_number a k n apart is = grind (arith, nat_tests, apart, is)

any_out : (k n : ℕ) (xs : List Known) → (k == n) ≡ false → list_any (is_instance k) (filter (is_instance n) xs) ≡ false
any_out k n [] apart = refl
any_out k n (x ∷ xs) apart = by (x.id == n) refl (any_out k n xs apart)
  where
    by : (b : Bool) → (x.id == n) ≡ b → list_any (is_instance k) (filter (is_instance n) xs) ≡ false → list_any (is_instance k) (cond b (x ∷ filter (is_instance n) xs) (filter (is_instance n) xs)) ≡ false
    by true is rest = ap (λ (b : Bool). b || list_any (is_instance k) (filter (is_instance n) xs)) (other_number x.id k n apart is) ∙ rest
    by false is rest = rest

any_in : (n : ℕ) (xs : List Known) (x : Known) → find (is_instance n) xs ≡ Some x → list_any (is_instance n) (filter (is_instance n) xs) ≡ true
any_in n [] x there = absurd cc
any_in n (y ∷ ys) x there = by (y.id == n) refl (λ found. any_in n ys x found) there
  where
    by : (b : Bool) → (y.id == n) ≡ b → (find (is_instance n) ys ≡ Some x → list_any (is_instance n) (filter (is_instance n) ys) ≡ true) → cond b (Some y) (find (is_instance n) ys) ≡ Some x → list_any (is_instance n) (cond b (y ∷ filter (is_instance n) ys) (filter (is_instance n) ys)) ≡ true
    by true is rest found = ap (λ (b : Bool). b || list_any (is_instance n) (filter (is_instance n) ys)) is
    by false is rest found = rest found

any_of : (k n : ℕ) (xs : List Known) (x : Known) → find (is_instance n) xs ≡ Some x → list_any (is_instance k) (filter (is_instance n) xs) ≡ (k == n)
any_of k n xs x there = by (k == n) refl
  where
    by : (b : Bool) → (k == n) ≡ b → list_any (is_instance k) (filter (is_instance n) xs) ≡ b
    by true is = ap (λ (j : ℕ). list_any (is_instance j) (filter (is_instance n) xs)) (is_same k n is) ∙ any_in n xs x there
    by false isnt = any_out k n xs isnt

-- ---- what is left over

left_false : (number : ℕ → ℕ) (m : Memory) (s : State) (i : Instance) (x : Known) → (i.is_retired ≡ true → (i.followers == 0) ≡ false) → ShowsInstance number m s i x → is_left_over s x ≡ false
left_false number m s i x needed one = by x.is_retired one.retired
  where
    by : (b : Bool) → i.is_retired ≡ b → (b && not (is_followed s x.id)) ≡ false
    by true retired = sym (unfollowed number m s i x one) ∙ needed retired
    by false retired = refl

left_true : (number : ℕ → ℕ) (m : Memory) (s : State) (i : Instance) (x : Known) → i.is_retired ≡ true → (i.followers == 0) ≡ true → ShowsInstance number m s i x → is_left_over s x ≡ true
left_true number m s i x retired none one =
    ap (λ (b : Bool). b && not (is_followed s x.id)) (sym one.retired ∙ retired) ∙ sym (unfollowed number m s i x one) ∙ none

-- ---- none is out

pub none_left : (number : ℕ → ℕ) (m : Memory) (s : State) → ShowsTable number m s → AreFollowed m.instances → filter (is_left_over s) s.instances ≡ []
none_left number m s shows needed =
    filters_same (ShowsInstance number m s) (is_left_over s) (λ x. false) m.instances s.instances (λ i x one. left_false number m s i x (needed i.slot i one.there) one) shows.instances ∙ filter_none s.instances

pub all_stay : (number : ℕ → ℕ) (m : Memory) (s : State) → ShowsTable number m s → AreFollowed m.instances → law_without (is_left_over s) s.instances ≡ s.instances
all_stay number m s shows needed =
    filters_same (ShowsInstance number m s) (λ x. not (is_left_over s x)) (λ x. true) m.instances s.instances
    (λ i x one. ap (λ (b : Bool). not b) (left_false number m s i x (needed i.slot i one.there) one)) shows.instances
    ∙ filter_all s.instances

pub sweeps_none : (number : ℕ → ℕ) (m : Memory) (s : State) → ShowsTable number m s → AreFollowed m.instances → ShowsTable number m (swept s)
unfolding swept
sweeps_none number m s shows needed =
    subst (λ (xs : List Known). ShowsTable number m (record s { instances = xs; chunks = law_without (is_chunk_of_any (filter (is_left_over s) s.instances)) s.chunks })) (sym (all_stay number m s shows needed))
    (subst (λ (xs : List Known). ShowsTable number m (record s { chunks = law_without (is_chunk_of_any xs) s.chunks })) (sym (none_left number m s shows needed))
    (subst (λ (ds : List Front). ShowsTable number m (record s { chunks = ds })) (sym (filter_all s.chunks)) shows))

-- ---- one is out

-- it alone is left over
pub record IsOut (slot n : ℕ) (i : Instance) (x : Known) (m : Memory) (s : State) : Type 0 where
  pub here : in_slot slot m.instances ≡ Some i
  pub there : find (is_instance n) s.instances ≡ Some x
  pub retired : i.is_retired ≡ true
  pub none : (i.followers == 0) ≡ true
  pub others : (a : ℕ) (j : Instance) → (a == slot) ≡ false → in_slot a m.instances ≡ Some j → j.is_retired ≡ true → (j.followers == 0) ≡ false

pub sweeps_one : (number : ℕ → ℕ) (m : Memory) (s : State) (slot n : ℕ) (i : Instance) (x : Known) → ShowsTable number m s → number_in number slot m.instances ≡ Some n → IsOut slot n i x m s
    → ShowsTable number (record m { instances = without_slot slot m.instances; chunks = without_owner slot m.chunks }) (swept s)
unfolding swept
sweeps_one number m s slot n i x shows at out =
    subst (λ (xs : List Known). ShowsTable number (record m { instances = without_slot slot m.instances; chunks = without_owner slot m.chunks })
    (record s { instances = xs; chunks = law_without (is_chunk_of_any (filter (is_left_over s) s.instances)) s.chunks }))
    (sym rest)
    (subst (λ (xs : List Known). ShowsTable number (record m { instances = without_slot slot m.instances; chunks = without_owner slot m.chunks })
    (record s { instances = law_without (is_instance n) s.instances; chunks = law_without (is_chunk_of_any xs) s.chunks }))
    (sym gone)
    (subst (λ (ds : List Front). ShowsTable number (record m { instances = without_slot slot m.instances; chunks = without_owner slot m.chunks })
    (record s { instances = law_without (is_instance n) s.instances; chunks = ds }))
    (sym chunks)
    (forgets_at number m s slot n shows at)))
  where
    is_out : (j : Instance) (y : Known) → ShowsInstance number m s j y → is_left_over s y ≡ is_instance n y
    is_out j y one = by (is_in_slot slot j) refl ∙ instances_alike number m s slot n j y shows.apart at one
      where
        it : (j.slot == slot) ≡ true → j ≡ i
        it is = some_is j i (sym one.there ∙ ap (λ (k : ℕ). in_slot k m.instances) (is_same j.slot slot is) ∙ out.here)

        by : (b : Bool) → is_in_slot slot j ≡ b → is_left_over s y ≡ b
        by true is = left_true number m s j y (ap (λ (k : Instance). k.is_retired) (it is) ∙ out.retired) (ap (λ (k : Instance). k.followers == 0) (it is) ∙ out.none) one
        by false isnt = left_false number m s j y (out.others j.slot j isnt one.there) one

    rest : law_without (is_left_over s) s.instances ≡ law_without (is_instance n) s.instances
    rest = filters_same (ShowsInstance number m s) (λ y. not (is_left_over s y)) (λ y. not (is_instance n y)) m.instances s.instances (λ j y one. ap (λ (b : Bool). not b) (is_out j y one)) shows.instances

    gone : filter (is_left_over s) s.instances ≡ filter (is_instance n) s.instances
    gone = filters_same (ShowsInstance number m s) (is_left_over s) (is_instance n) m.instances s.instances is_out shows.instances

    chunks : law_without (is_chunk_of_any (filter (is_instance n) s.instances)) s.chunks ≡ ds_without n s.chunks
    chunks = filters_same (ShowsChunk number m) (λ d. not (is_chunk_of_any (filter (is_instance n) s.instances) d)) (λ d. not (d.instance == n)) m.chunks s.chunks
        (λ c d one. ap (λ (b : Bool). not b) (any_of d.instance n s.instances x out.there)) shows.chunks
