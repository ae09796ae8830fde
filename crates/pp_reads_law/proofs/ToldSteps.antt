-- What was told by its number is told behind a step, and so is what is joined in it.
use Rattle.std.proofs.Common.{◌≡◌, ◌⊎◌, ◌≤◌, ◌<◌, inl, inr, refl, sym, ap, ap₂, ◌∙◌, ℕ, Bool, true, false, ◌==◌, ◌&&◌, List, [], ◌∷◌, arith}
use Rattle.std.proofs.lemmas.Bool.Decides.{nat_tests}
use Rattle.pp_answers_law.specs.Joined.{IsThereIn, JoinedOr, WasJoined}
use Rattle.pp_answers_law.specs.Lives.{GivesLives, HaveGivenLives, KeepsLives}
use Rattle.pp_answers_law.specs.Owns.{KeepsNumbers}
use Rattle.pp_cache.specs.Memory.{Memory}
use Rattle.pp_cache_law.specs.Pairs.{AreAll}
use Rattle.pp_cache_law.specs.Tables.{ShowsInstance, ShowsTable}
use Rattle.pp_law.specs.State.{State, Instance as Known}
use Rattle.pp_objects.specs.Instances.{Instance, is_same_id, is_there}
use Rattle.pp_objects.specs.declared.id.ObjectId.{ObjectId}
use Rattle.pp_state.specs.Ends.{Parts}
use Rattle.pp_states_law.proofs.Made.{told_there}
use Rattle.pp_states_law.specs.Told.{IsTold}
use Rattle.pp_reads_law.specs.Told.{StaysTold}

-- ---- the life of each instance was given

all_given : (number : ℕ → ℕ) (m : Memory) (s : State) (is : List Instance) (xs : List Known) → AreAll (ShowsInstance number m s) is xs → HaveGivenLives m.lives is
all_given number m s [] [] all = tt
all_given number m s [] (x ∷ xs) all = absurd all
all_given number m s (i ∷ is) [] all = absurd all
all_given number m s (i ∷ is) (x ∷ xs) all = (all.0.given, all_given number m s is xs all.1)

pub table_gives : (number : ℕ → ℕ) (m : Memory) (s : State) → ShowsTable number m s → GivesLives m
table_gives number m s table = record { alone = table.alone; given = all_given number m s m.instances s.instances table.instances }

-- ---- one step

differ : (a b : ℕ) → a < b → (a == b) ≡ false
differ a b less = grind (arith, nat_tests)

and_false : (b : Bool) → (b && false) ≡ false
and_false true = refl
and_false false = refl

module _ (number new : ℕ → ℕ) (p q : Parts) (s t : State) (table : ShowsTable number p.cache s) (then : ShowsTable new q.cache t) (keeps : KeepsLives p.cache q.cache) (numbers : KeepsNumbers number new p.cache.lives q.cache.lives s.next_instance) (grows : s.next_instance ≤ t.next_instance) where
  pub told_on : (id : ObjectId) → IsTold number p.cache s.next_instance id → IsTold new q.cache t.next_instance id
  told_on id told = record {
    given = omega (arith, told.given, keeps.more);
    made = omega (arith, told.made, grows, same);
    apart = λ other there. by other there (keeps.back other there);
  }
    where
      same : new id.life ≡ number id.life
      same = numbers.same id.life told.given

      by : (other : ObjectId) → is_there other q.cache.instances ≡ true → (is_there other p.cache.instances ≡ true) ⊎ (p.cache.lives ≤ other.life) → is_same_id id other ≡ (new id.life == new other.life)
      by other there (inl before) =
          let given : other.life < p.cache.lives = (told_there number p.cache s other table before).given in
          told.apart other before ∙ ap₂ (λ (a b : ℕ). a == b) (sym same) (sym (numbers.same other.life given))
      by other there (inr late) =
          let later : s.next_instance ≤ new other.life = numbers.new other.life late (told_there new q.cache t other then there).given in
          ap (λ (b : Bool). (id.slot == other.slot) && b) (differ id.life other.life (omega (arith, told.given, late))) ∙ and_false (id.slot == other.slot)
          ∙ sym (differ (new id.life) (new other.life) (omega (arith, same, told.made, later)))

  -- where each that is joined in it is told
  pub told_by : (G : ObjectId → Type 0) → ((id : ObjectId) → G id → IsTold new q.cache t.next_instance id) → JoinedOr G p.seats q.seats → StaysTold number p s new q t
  told_by G tells joined i told seat id plain at is = by (joined i seat id plain at is)
    where
      by : WasJoined p.seats i id ⊎ G id → IsTold new q.cache t.next_instance id
      by (inl was) = told_on id (told was.old id was.plain was.here was.joined)
      by (inr there) = tells id there

  -- or is there, before it or behind it
  pub told_here : (id : ObjectId) → is_there id p.cache.instances ≡ true → IsTold new q.cache t.next_instance id
  told_here id before = told_on id (told_there number p.cache s id table before)

  pub step_told : JoinedOr (IsThereIn p q) p.seats q.seats → StaysTold number p s new q t
  step_told joined = told_by (IsThereIn p q) by joined
    where
      by : (id : ObjectId) → IsThereIn p q id → IsTold new q.cache t.next_instance id
      by id (inl before) = told_here id before
      by id (inr there) = told_there new q.cache t id then there
