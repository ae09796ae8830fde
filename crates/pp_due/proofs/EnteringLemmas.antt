-- What is due first, where the clients before a place have their rows and nothing due.
use Rattle.std.proofs.Common.{arith, Bool, true, false, ◌≡◌, inl, inr, refl, ap, sym, subst, ◌≤◌, ℕ, zero, suc, ◌+◌, add-one, List, [], ◌∷◌, drop, length, slice_get, Option, Some, None}
use Rattle.std.proofs.lemmas.Grind.{common_steps}
use Rattle.pp_seats.specs.declared.due.Due.{Due}
use Rattle.pp_store.specs.Kept.{KeptMap}
use Rattle.pp_due.specs.Due.{due_at}
use Rattle.pp_due.specs.Entering.{FirstDue, HasRow, HasRowOf, IsDueWithRow, is_due_at, key_at}
use Rattle.pp_state.specs.declared.state.State.{State}

awake_of : (shelf : KeptMap) (i : ℕ) (key : Option (List ℕ)) (old new : State) → HasRowOf shelf i key old new → new.awake ≡ old.awake
awake_of shelf i None old new same = ap (λ (s : State). s.awake) same
awake_of shelf i (Some key) old new (inl comes) = ap (λ (s : State). s.awake) comes.rest
awake_of shelf i (Some key) old new (inr refused) = ap (λ (s : State). s.awake) refused.rest

pub awake_kept : (shelf : KeptMap) (i : ℕ) (old new : State) (due : Option Due) → IsDueWithRow shelf i old new due → new.awake ≡ old.awake
awake_kept shelf i old new due has = by (is_due_at shelf i old) has
  where
    by : (b : Bool) → (elim b as (λ c. Type 0) [ true ↦ HasRow shelf i old new × (due ≡ due_at i new) | false ↦ (new ≡ old) × (due ≡ None) ]) → new.awake ≡ old.awake
    by true its = awake_of shelf i (key_at i old) old new its.0
    by false its = ap (λ (s : State). s.awake) its.0

drop_there : (places : List ℕ) (turn i : ℕ) → slice_get places turn ≡ Some i → drop turn places ≡ i ∷ drop (suc turn) places
drop_there [] turn i at = absurd (cc at)
drop_there (j ∷ places) zero i at = grind (arith, common_steps)
drop_there (j ∷ places) (suc turn) i at = drop_there places turn i at

none_there : (places : List ℕ) (turn : ℕ) → slice_get places turn ≡ None → drop turn places ≡ []
none_there [] zero at = refl
none_there [] (suc turn) at = refl
none_there (j ∷ places) zero at = absurd (cc at)
none_there (j ∷ places) (suc turn) at = none_there places turn at

then_by : (shelf : KeptMap) (i : ℕ) (places : List ℕ) (due : Option Due) (now new : State) (found : Option (ℕ × Due)) → due ≡ None → FirstDue shelf places now new found
    → elim due as (λ c. Type 0) [ Some d ↦ (new ≡ now) × (found ≡ Some (i, d)) | None ↦ FirstDue shelf places now new found ]
then_by shelf i places None now new found none first = first
then_by shelf i places (Some d) now new found none first = absurd (cc none)

pub due_later : (shelf : KeptMap) (places : List ℕ) (turn i : ℕ) (old now new : State) (due : Option Due) (found : Option (ℕ × Due)) → slice_get places turn ≡ Some i → IsDueWithRow shelf i old now due → due ≡ None
    → FirstDue shelf (drop (turn + 1) places) now new found → FirstDue shelf (drop turn places) old new found
unfolding FirstDue
due_later shelf places turn i old now new due found at has none first =
    subst (λ (is : List ℕ). FirstDue shelf is old new found) (sym (drop_there places turn i at))
    (now, due, has, then_by shelf i (drop (suc turn) places) due now new found none (subst (λ (n : ℕ). FirstDue shelf (drop n places) now new found) (add-one turn) first))

pub due_here : (shelf : KeptMap) (places : List ℕ) (turn i : ℕ) (old now : State) (due : Due) → slice_get places turn ≡ Some i → IsDueWithRow shelf i old now (Some due)
    → FirstDue shelf (drop turn places) old now (Some (i, due))
unfolding FirstDue
due_here shelf places turn i old now due at has =
    subst (λ (is : List ℕ). FirstDue shelf is old now (Some (i, due))) (sym (drop_there places turn i at)) (now, Some due, has, (refl, refl))

pub due_never : (shelf : KeptMap) (places : List ℕ) (turn : ℕ) (s : State) → slice_get places turn ≡ None → FirstDue shelf (drop turn places) s s None
unfolding FirstDue
due_never shelf places turn s none = subst (λ (is : List ℕ). FirstDue shelf is s s None) (sym (none_there places turn none)) (refl, refl)

pub past_end : (places : List ℕ) (turn : ℕ) → length places ≤ turn → slice_get places turn ≡ None
past_end [] zero over = refl
past_end [] (suc turn) over = refl
past_end (i ∷ places) zero over = absurd (grind (arith, common_steps))
past_end (i ∷ places) (suc turn) over = past_end places turn (grind (arith, common_steps))
