-- An instance that is there is told by its number, one that is told and gone is gone for the law, and behind a row that is made, what was
-- told before still is.
use Rattle.std.proofs.Common.{◌≡◌, ◌<◌, ◌+◌, refl, sym, subst, ap, ap₂, ◌∙◌, ℕ, Bool, true, false, ◌==◌, ◌&&◌, cond, find, List, [], ◌∷◌, ◌++◌, Some, None, Option, arith}
use Rattle.std.proofs.lemmas.Bool.Decides.{nat_tests}
use Rattle.pp_cache.specs.Memory.{Memory, with_outdated, with_row}
use Rattle.pp_cache_law.proofs.Alike.{instances_of}
use Rattle.pp_cache_law.proofs.Finds.{find_joined, find_passes, first_of_two}
use Rattle.pp_cache_law.proofs.Numbers.{is_same, number_of_there, slots_as_numbers, some_is}
use Rattle.pp_cache_law.specs.Pairs.{AreAll}
use Rattle.pp_cache_law.specs.Reads.{IsFound}
use Rattle.pp_cache_law.specs.Settles.{numbered}
use Rattle.pp_cache_law.specs.Tables.{ShowsInstance, ShowsTable}
use Rattle.pp_flow.specs.Changes.{Exchanges}
use Rattle.pp_flow.specs.Entries.{Span}
use Rattle.pp_flow.specs.declared.entry.Entry.{Entry}
use Rattle.pp_flow_law.proofs.Entries.{none_some}
use Rattle.pp_fresh.specs.declared.aging.Times.{Times}
use Rattle.pp_law.specs.Lists.{Bytes}
use Rattle.pp_law.specs.State.{State, Instance as Known}
use Rattle.pp_law.specs.Table.{instance, is_instance}
use Rattle.pp_objects.specs.Changes.{new_row}
use Rattle.pp_objects.specs.Instances.{Instance, id_of, in_slot, is_in_slot, is_life, is_same_id, is_there, row_of}
use Rattle.pp_objects.specs.Kept.{kept_of}
use Rattle.pp_objects.specs.declared.id.ObjectId.{ObjectId}
use Rattle.pp_states_law.proofs.Told.{there_before}
use Rattle.pp_states_law.specs.Told.{AreTold, EachIsTold, IsTold, IsToldBy}
use Rattle.pp_text.specs.Fields.{Field}
use Rattle.pp_valid.specs.declared.version.Version.{Version}

false_true : false ≡ true → ⊥
false_true e = absurd cc

is_itself : (a b : ℕ) → a ≡ b → (a == b) ≡ true
is_itself a b same = grind (arith, nat_tests)

-- ---- one that is there

one_life : (life k : ℕ) (o : Option Instance) → is_life life o ≡ true → is_life k o ≡ true → (life == k) ≡ true
one_life life k None is other = absurd (false_true is)
one_life life k (Some i) is other = grind (arith, nat_tests, is, other)

pub told_there : (number : ℕ → ℕ) (m : Memory) (s : State) (id : ObjectId) → ShowsTable number m s → is_there id m.instances ≡ true → IsTold number m s.next_instance id
told_there number m s id table there = record {
  given = subst (λ (i : ObjectId). i.life < m.lives) one.same one.shows.given;
  made = subst (λ (n : ℕ). n < s.next_instance) (sym one.shows.id ∙ ap (λ (i : ObjectId). number i.life) one.same) one.shows.made;
  apart = λ other here. by other here (id.slot == other.slot) refl;
}
  where
    one : IsFound number m s id
    one = instances_of number m s table id there

    slots : (other : ObjectId) → is_there other m.instances ≡ true → (id.slot == other.slot) ≡ (number id.life == number other.life)
    slots other here = slots_as_numbers number m.instances id.slot other.slot (number id.life) (number other.life) table.apart (number_of_there number id m.instances there) (number_of_there number other m.instances here)

    by : (other : ObjectId) → is_there other m.instances ≡ true → (b : Bool) → (id.slot == other.slot) ≡ b → is_same_id id other ≡ (number id.life == number other.life)
    by other here true is =
        ap (λ (b : Bool). b && (id.life == other.life)) is
        ∙ one_life id.life other.life (in_slot id.slot m.instances) there (ap (λ (k : ℕ). is_life other.life (in_slot k m.instances)) (is_same id.slot other.slot is) ∙ here) ∙ sym is ∙ slots other here
    by other here false is = ap (λ (b : Bool). b && (id.life == other.life)) is ∙ sym is ∙ slots other here

-- ---- one that is gone is gone for the law

seen_of : (number : ℕ → ℕ) (m : Memory) (s : State) (n : ℕ) (is : List Instance) (xs : List Known) (y : Known) → AreAll (ShowsInstance number m s) is xs → find (is_instance n) xs ≡ Some y → (i : Instance) × ShowsInstance number m s i y
seen_of number m s n [] [] y shows found = absurd (none_some y found)
seen_of number m s n [] (x ∷ xs) y shows found = absurd shows
seen_of number m s n (i ∷ is) [] y shows found = absurd shows
seen_of number m s n (i ∷ is) (x ∷ xs) y shows found = by (is_instance n x) found (λ there. seen_of number m s n is xs y shows.1 there)
  where
    by : (b : Bool) → cond b (Some x) (find (is_instance n) xs) ≡ Some y → (find (is_instance n) xs ≡ Some y → (j : Instance) × ShowsInstance number m s j y) → (j : Instance) × ShowsInstance number m s j y
    by true there rest = (i, subst (λ (z : Known). ShowsInstance number m s i z) (some_is x y there) shows.0)
    by false there rest = rest there

first_true : (a b : Bool) → a && b ≡ true → a ≡ true
first_true true b is = refl
first_true false b is = is

second_true : (a b : Bool) → a && b ≡ true → b ≡ true
second_true true b is = is
second_true false b is = absurd (false_true is)

pub gone_too : (number : ℕ → ℕ) (m : Memory) (s : State) (id : ObjectId) → ShowsTable number m s → IsTold number m s.next_instance id → is_there id m.instances ≡ false → instance s (number id.life) ≡ None
gone_too number m s id table told gone = by (instance s (number id.life)) refl
  where
    there : (y : Known) → find (is_instance (number id.life)) s.instances ≡ Some y → (i : Instance) → ShowsInstance number m s i y → is_there id m.instances ≡ true
    there y found i one =
        let here : is_there (id_of i) m.instances ≡ true = ap (λ (o : Option Instance). is_life i.life o) one.there ∙ is_itself i.life i.life refl in
        let numbered : y.id ≡ number id.life = is_same y.id (number id.life) (find_passes (is_instance (number id.life)) s.instances y found) in
        let same : is_same_id id (id_of i) ≡ true = told.apart (id_of i) here ∙ is_itself (number id.life) (number i.life) (sym (one.id ∙ numbered)) in
        ap₂ (λ (slot life : ℕ). is_life life (in_slot slot m.instances)) (is_same id.slot i.slot (first_true (id.slot == i.slot) (id.life == i.life) same)) (is_same id.life i.life (second_true (id.slot == i.slot) (id.life == i.life) same)) ∙ here

    by : (o : Option Known) → instance s (number id.life) ≡ o → o ≡ None
    by None found = refl
    by (Some y) found =
        let one : (i : Instance) × ShowsInstance number m s i y = seen_of number m s (number id.life) m.instances s.instances y table.instances found in
        absurd (false_true (sym gone ∙ there y found one.0 one.1))

-- ---- a row is made

and_false : (b : Bool) → b && false ≡ false
and_false true = refl
and_false false = refl

isnt_below : (a b : ℕ) → a < b → (a == b) ≡ false
isnt_below a b less = grind (arith, nat_tests)

-- a life that was given before has the number that it had
number_before : (number : ℕ → ℕ) (lives next life : ℕ) → life < lives → numbered lives next number life ≡ number life
number_before number lives next life before = ap (λ (b : Bool). cond b next (number life)) (isnt_below life lives before)

number_now : (number : ℕ → ℕ) (lives next life : ℕ) → life ≡ lives → numbered lives next number life ≡ next
number_now number lives next life now = ap (λ (b : Bool). cond b next (number life)) (is_itself life lives now)

module _ (number : ℕ → ℕ) (m : Memory) (s : State) (table : ShowsTable number m s) (id : ObjectId) (life : id.life ≡ m.lives) (key : Bytes) (version : Version) (fields : List Field) (times : Times) where
  abbrev row : Instance
  row = new_row id key version (kept_of fields times) times

  its_life : row.life ≡ m.lives
  its_life = life

  apart_now : (old other : ObjectId) → IsTold number m s.next_instance old → is_there other (m.instances ++ row ∷ []) ≡ true
      → is_same_id old other ≡ (numbered m.lives s.next_instance number old.life == numbered m.lives s.next_instance number other.life)
  apart_now old other told there =
      by (in_slot other.slot m.instances) refl (sym (ap (λ (o : Option Instance). is_life other.life o) (find_joined (is_in_slot other.slot) m.instances (row ∷ []))) ∙ there)
    where
      before : numbered m.lives s.next_instance number old.life ≡ number old.life
      before = number_before number m.lives s.next_instance old.life told.given

      the_new : (b : Bool) → is_in_slot other.slot row ≡ b → is_life other.life (cond b (Some row) None) ≡ true → other.life ≡ m.lives
      the_new true at is = sym (is_same row.life other.life is) ∙ its_life
      the_new false at is = absurd (false_true is)

      by : (o : Option Instance) → in_slot other.slot m.instances ≡ o → is_life other.life (first_of_two o (in_slot other.slot (row ∷ []))) ≡ true
          → is_same_id old other ≡ (numbered m.lives s.next_instance number old.life == numbered m.lives s.next_instance number other.life)
      by (Some i) here is =
          let stood : is_there other m.instances ≡ true = ap (λ (o : Option Instance). is_life other.life o) here ∙ is in
          told.apart other stood ∙ sym (ap₂ (λ (a b : ℕ). a == b) before (number_before number m.lives s.next_instance other.life (told_there number m s other table stood).given))
      by None here is =
          let new : other.life ≡ m.lives = the_new (is_in_slot other.slot row) refl is in
          ap (λ (b : Bool). (old.slot == other.slot) && b) (isnt_below old.life other.life (subst (λ (k : ℕ). old.life < k) (sym new) told.given)) ∙ and_false (old.slot == other.slot)
          ∙ sym (ap₂ (λ (a b : ℕ). a == b) before (number_now number m.lives s.next_instance other.life new) ∙ isnt_below (number old.life) s.next_instance told.made)

  pub told_made : (later : ℕ) → later ≡ s.next_instance + 1 → (old : ObjectId) → IsTold number m s.next_instance old
      → IsTold (numbered m.lives s.next_instance number) (with_outdated key (with_row id key version fields times m)) later old
  unfolding with_row with_outdated
  told_made later is old told = record {
    given = omega (arith, told.given);
    made = subst (λ (n : ℕ). n < later) (sym (number_before number m.lives s.next_instance old.life told.given)) (omega (arith, told.made, is));
    apart = λ other there. apart_now old other told (there_before other (row_of key m.instances) (m.instances ++ row ∷ []) there);
  }

  by_made : (later : ℕ) → later ≡ s.next_instance + 1 → (o : Option Span) → IsToldBy number m s.next_instance o → IsToldBy (numbered m.lives s.next_instance number) (with_outdated key (with_row id key version fields times m)) later o
  by_made later is None told = tt
  by_made later is (Some b) told = told_made later is b.0 told

  each_made : (later : ℕ) → later ≡ s.next_instance + 1 → (xs : List Entry) → EachIsTold number m s.next_instance xs
      → EachIsTold (numbered m.lives s.next_instance number) (with_outdated key (with_row id key version fields times m)) later xs
  each_made later is [] told = tt
  each_made later is (x ∷ xs) told = (by_made later is x.exchange.bound told.0, each_made later is xs told.1)

  pub are_told_made : (later : ℕ) → later ≡ s.next_instance + 1 → (f : Exchanges) → AreTold number m s.next_instance f → AreTold (numbered m.lives s.next_instance number) (with_outdated key (with_row id key version fields times m)) later f
  are_told_made later is f told = record { waiting = each_made later is f.waiting told.waiting; placed = each_made later is f.placed told.placed }
