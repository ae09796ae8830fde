-- Who is there where a kept row came into memory, and another left for it.
use Rattle.std.proofs.Common.{◌≡◌, ◌<◌, ◌⊎◌, inl, inr, refl, sym, subst, ap, ap₂, ◌∙◌, ℕ, ◌+◌, Bool, true, false, ◌==◌, ◌&&◌, cond, List, [], ◌∷◌, ◌++◌, Option, Some, None, arith}
use Rattle.std.proofs.lemmas.Bool.Decides.{nat_tests}
use Rattle.pp_cache.specs.Memory.{Memory, with_row}
use Rattle.pp_cache_law.proofs.Alike.{instances_of}
use Rattle.pp_cache_law.proofs.Finds.{find_joined, first_of_two}
use Rattle.pp_cache_law.proofs.Numbers.{is_same, same_test, true_false}
use Rattle.pp_cache_law.specs.Reads.{IsFound}
use Rattle.pp_cache_law.specs.Settles.{numbered}
use Rattle.pp_cache_law.specs.Tables.{ShowsTable}
use Rattle.pp_due.specs.OnDisk.{with_kept}
use Rattle.pp_flow.specs.Changes.{Exchanges}
use Rattle.pp_flow.specs.Entries.{Span}
use Rattle.pp_flow.specs.declared.entry.Entry.{Entry as Asking}
use Rattle.pp_law.specs.State.{State}
use Rattle.pp_objects.specs.Changes.{new_row, retired_from}
use Rattle.pp_objects.specs.Instances.{Instance, in_slot, is_in_slot, is_life, is_same_id, is_there, row_of}
use Rattle.pp_objects.specs.Kept.{kept_of}
use Rattle.pp_objects.specs.declared.id.ObjectId.{ObjectId}
use Rattle.pp_state.specs.Pins.{without_instance}
use Rattle.pp_reads_law.proofs.Given.{same_numbers}
use Rattle.pp_states_law.proofs.Told.{there_before}
use Rattle.pp_states_law.specs.Told.{AreTold, EachIsTold, IsTold, IsToldBy}
use Rattle.pp_store.specs.Kept.{Kept}

abbrev pub kept_row : ObjectId → List ℕ → Kept → Instance
kept_row id key row = new_row id key row.entry.version (kept_of row.entry.fields row.entry.times) row.entry.times

pub kept_instances : (id : ObjectId) (key : List ℕ) (row : Kept) (m : Memory) → (with_kept id key row m).instances ≡ retired_from (row_of key m.instances) (m.instances ++ kept_row id key row ∷ [])
unfolding with_row
kept_instances id key row m = refl

pub kept_lives : (id : ObjectId) (key : List ℕ) (row : Kept) (m : Memory) → (with_kept id key row m).lives ≡ m.lives + 1
unfolding with_row
kept_lives id key row m = refl

pub kept_outdated : (id : ObjectId) (key : List ℕ) (row : Kept) (m : Memory) → (with_kept id key row m).outdated ≡ m.outdated
unfolding with_row
kept_outdated id key row m = refl

-- ---- one that is there was there, or is new

there_at_end : (other : ObjectId) (is : List Instance) (new : Instance) → is_there other (is ++ new ∷ []) ≡ true → (other.life ≡ new.life) ⊎ (is_there other is ≡ true)
there_at_end other is new there = by (in_slot other.slot is) refl (sym (ap (λ (o : Option Instance). is_life other.life o) (find_joined (is_in_slot other.slot) is (new ∷ []))) ∙ there)
  where
    at : (b : Bool) → is_life other.life (cond b (Some new) None) ≡ true → (other.life ≡ new.life) ⊎ (is_there other is ≡ true)
    at true is_it = inl (sym (is_same new.life other.life is_it))
    at false none = absurd (true_false (sym none))

    by : (o : Option Instance) → in_slot other.slot is ≡ o → is_life other.life (first_of_two o (in_slot other.slot (new ∷ []))) ≡ true → (other.life ≡ new.life) ⊎ (is_there other is ≡ true)
    by None none life = at (is_in_slot other.slot new) life
    by (Some j) is_j life = inr (ap (λ (o : Option Instance). is_life other.life o) is_j ∙ life)

-- what is there of one memory was there of another, or has the life that was next
abbrev pub IsButNew : Memory → Memory → Type 0
IsButNew m k = (other : ObjectId) → is_there other k.instances ≡ true → (other.life ≡ m.lives) ⊎ (is_there other m.instances ≡ true)

pub kept_there : (id : ObjectId) (key : List ℕ) (row : Kept) (m : Memory) → id.life ≡ m.lives → IsButNew m (with_kept id key row m)
kept_there id key row m life other there =
    by
    (there_at_end other m.instances (kept_row id key row)
    (there_before other (row_of key m.instances) (m.instances ++ kept_row id key row ∷ []) (sym (ap (λ (is : List Instance). is_there other is) (kept_instances id key row m)) ∙ there)))
  where
    by : (other.life ≡ id.life) ⊎ (is_there other m.instances ≡ true) → (other.life ≡ m.lives) ⊎ (is_there other m.instances ≡ true)
    by (inl new) = inl (new ∙ life)
    by (inr old) = inr old

pub left_there : (m k : Memory) (i : Instance) → IsButNew m k → IsButNew m (without_instance i k)
left_there m k i but other there = but other (there_before other (Some (record i { followers = 0 })) k.instances there)

-- ---- what exchanges are bound to is told apart from it, too

neither : (a : Bool) (j k n m x : ℕ) → j < n → k ≡ n → m < x → (a && (j == k)) ≡ (m == x)
neither a j k n m x less same small = by a (j == k) (m == x) (isnt j k n less same) (off m x small)
  where
    isnt : (x y z : ℕ) → x < z → y ≡ z → (x == y) ≡ false
    isnt x y z x_less y_is = grind (arith, nat_tests)

    off : (x y : ℕ) → x < y → (x == y) ≡ false
    off x y x_less = grind (arith, nat_tests)

    by : (x y z : Bool) → y ≡ false → z ≡ false → (x && y) ≡ z
    by true y z no_y no_z = no_y ∙ sym no_z
    by false y z no_y no_z = sym no_z

module _ (number : ℕ → ℕ) (m k : Memory) (s : State) (table : ShowsTable number m s) (lives : k.lives ≡ m.lives + 1) (but : IsButNew m k) where
  abbrev after : ℕ → ℕ
  after = numbered m.lives s.next_instance number

  below : (other : ObjectId) → is_there other m.instances ≡ true → other.life < m.lives
  below other there =
      let one : IsFound number m s other = instances_of number m s table other there in
      subst (λ (o : ObjectId). o.life < m.lives) one.same one.shows.given

  new_number : (n : ℕ) → n ≡ m.lives → after n ≡ s.next_instance
  new_number n is = ap (λ (b : Bool). cond b s.next_instance (number n)) (same_test n m.lives is)

  one_told : (b : ObjectId) → IsTold number m s.next_instance b → IsTold after k (s.next_instance + 1) b
  one_told b told = record {
    given = omega (arith, told.given, lives);
    made = subst (λ (n : ℕ). n < s.next_instance + 1) (sym (same_numbers m.lives s.next_instance number b.life told.given)) (omega (arith, told.made));
    apart = λ other there. by other (but other there);
  }
    where
      by : (other : ObjectId) → (other.life ≡ m.lives) ⊎ (is_there other m.instances ≡ true) → is_same_id b other ≡ (after b.life == after other.life)
      by other (inl new) =
          neither (b.slot == other.slot) b.life other.life m.lives (number b.life) s.next_instance told.given new told.made
          ∙ sym (ap₂ (λ (i j : ℕ). i == j) (same_numbers m.lives s.next_instance number b.life told.given) (new_number other.life new))
      by other (inr old) =
          told.apart other old ∙ sym (ap₂ (λ (i j : ℕ). i == j) (same_numbers m.lives s.next_instance number b.life told.given) (same_numbers m.lives s.next_instance number other.life (below other old)))

  each_told : (xs : List Asking) → EachIsTold number m s.next_instance xs → EachIsTold after k (s.next_instance + 1) xs
  each_told [] told = tt
  each_told (x ∷ xs) told = (by x.exchange.bound told.0, each_told xs told.1)
    where
      by : (o : Option Span) → IsToldBy number m s.next_instance o → IsToldBy after k (s.next_instance + 1) o
      by None one = tt
      by (Some b) one = one_told b.0 one

  pub all_told : (f : Exchanges) → AreTold number m s.next_instance f → AreTold after k (s.next_instance + 1) f
  all_told f told = record { waiting = each_told f.waiting told.waiting; placed = each_told f.placed told.placed }
