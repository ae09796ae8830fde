-- What is due first is found with all rows in memory, or memory is refused for one of them.
use Rattle.std.proofs.Common.{◌≡◌, ◌⊎◌, inl, inr, refl, sym, subst, ap, ℕ, Bool, true, false, List, [], ◌∷◌, Option, Some, None}
use Rattle.pp_law.specs.Lists.{Bytes}
use Rattle.pp_seats.specs.declared.due.Due.{Due as SeatDue}
use Rattle.pp_due.specs.Due.{due_at}
use Rattle.pp_due.specs.Entering.{FirstDue, HasRow, HasRowOf, IsRefused, is_due_at, key_at}
use Rattle.pp_state.specs.declared.state.State.{State as Turn}
use Rattle.pp_store.specs.Kept.{KeptMap}
use Rattle.pp_turns_law.specs.Firsts.{FirstDueInMemory, HasRowInMemory, IsDueInMemory, IsRefusedFirst, MemoryIsGivenOrRefused}

module _ (shelf : KeptMap) where
  abbrev Then : ℕ → List ℕ → Turn → Turn → Option (ℕ × SeatDue) → Option SeatDue → Type 0
  Then i places now new found due = elim due as (λ c. Type 0) [ Some d ↦ (new ≡ now) × (found ≡ Some (i, d)) | None ↦ FirstDueInMemory shelf places now new found ]

  abbrev Given : List ℕ → Turn → Turn → Option (ℕ × SeatDue) → Type 0
  Given places old new found = FirstDueInMemory shelf places old new found ⊎ IsRefusedFirst shelf places old

  with_first : (i : ℕ) (places : List ℕ) (old now new : Turn) (due : Option SeatDue) (found : Option (ℕ × SeatDue)) → IsDueInMemory shelf i old now due → Then i places now new found due → FirstDueInMemory shelf (i ∷ places) old new found
  unfolding FirstDueInMemory
  with_first i places old now new due found its rest = (now, due, its, rest)

  later : (i : ℕ) (places : List ℕ) (old now : Turn) → IsDueInMemory shelf i old now None → IsRefusedFirst shelf places now → IsRefusedFirst shelf (i ∷ places) old
  later i places old now its one = record {
    before = i ∷ one.before;
    place = one.place;
    behind = one.behind;
    parts = ap (λ (is : List ℕ). i ∷ is) one.parts;
    then = one.then;
    passed = with_first i one.before old now one.then None None its one.passed;
    due = one.due;
    key = one.key;
    names = one.names;
    now = one.now;
    refused = one.refused;
  }

  none_passed : (old : Turn) → FirstDueInMemory shelf [] old old None
  unfolding FirstDueInMemory
  none_passed old = (refl, refl)

  go_on : (i : ℕ) (places : List ℕ) (old now new : Turn) (due : Option SeatDue) (found : Option (ℕ × SeatDue)) → (FirstDue shelf places now new found → Given places now new found) → IsDueInMemory shelf i old now due
      → (elim due as (λ c. Type 0) [ Some d ↦ (new ≡ now) × (found ≡ Some (i, d)) | None ↦ FirstDue shelf places now new found ]) → Given (i ∷ places) old new found
  go_on i places old now new (Some d) found more its here = inl (with_first i places old now new (Some d) found its here)
  go_on i places old now new None found more its rest = by (more rest)
    where
      by : Given places now new found → Given (i ∷ places) old new found
      by (inl given) = inl (with_first i places old now new None found its given)
      by (inr refused) = inr (later i places old now its refused)

  its_row : (i : ℕ) (old now : Turn) (o : Option Bytes) → key_at i old ≡ o → HasRowOf shelf i o old now → HasRowInMemory shelf (key_at i old) old now ⊎ ((key : Bytes) × (key_at i old ≡ Some key) × IsRefused i old now)
  its_row i old now None names same = inl (subst (λ (o : Option Bytes). HasRowInMemory shelf o old now) (sym names) same)
  its_row i old now (Some key) names (inl comes) = inl (subst (λ (o : Option Bytes). HasRowInMemory shelf o old now) (sym names) comes)
  its_row i old now (Some key) names (inr refused) = inr (key, names, refused)

  here : (i : ℕ) (old now : Turn) (due : Option SeatDue) (b : Bool) → is_due_at shelf i old ≡ b → (elim b as (λ c. Type 0) [ true ↦ HasRow shelf i old now × (due ≡ due_at i now) | false ↦ (now ≡ old) × (due ≡ None) ])
      → IsDueInMemory shelf i old now due ⊎ ((is_due_at shelf i old ≡ true) × ((key : Bytes) × (key_at i old ≡ Some key) × IsRefused i old now))
  here i old now due false is its = inl (subst (λ (b : Bool). elim b as (λ c. Type 0) [ true ↦ HasRowInMemory shelf (key_at i old) old now × (due ≡ due_at i now) | false ↦ (now ≡ old) × (due ≡ None) ]) (sym is) its)
  here i old now due true is its = by (its_row i old now (key_at i old) refl its.0)
    where
      by : HasRowInMemory shelf (key_at i old) old now ⊎ ((key : Bytes) × (key_at i old ≡ Some key) × IsRefused i old now)
          → IsDueInMemory shelf i old now due ⊎ ((is_due_at shelf i old ≡ true) × ((key : Bytes) × (key_at i old ≡ Some key) × IsRefused i old now))
      by (inl has) = inl (subst (λ (b : Bool). elim b as (λ c. Type 0) [ true ↦ HasRowInMemory shelf (key_at i old) old now × (due ≡ due_at i now) | false ↦ (now ≡ old) × (due ≡ None) ]) (sym is) (has, its.1))
      by (inr refused) = inr (is, refused)

  at_first : (i : ℕ) (places : List ℕ) (old now new : Turn) (due : Option SeatDue) (found : Option (ℕ × SeatDue)) → (FirstDue shelf places now new found → Given places now new found)
      → IsDueInMemory shelf i old now due ⊎ ((is_due_at shelf i old ≡ true) × ((key : Bytes) × (key_at i old ≡ Some key) × IsRefused i old now))
      → (elim due as (λ c. Type 0) [ Some d ↦ (new ≡ now) × (found ≡ Some (i, d)) | None ↦ FirstDue shelf places now new found ]) → Given (i ∷ places) old new found
  at_first i places old now new due found more (inl one) rest = go_on i places old now new due found more one rest
  at_first i places old now new due found more (inr (is, its)) rest =
      inr (record { before = []; place = i; behind = places; parts = refl; then = old; passed = none_passed old; due = is; key = its.0; names = its.1; now = now; refused = its.2 })

  split : (places : List ℕ) (old new : Turn) (found : Option (ℕ × SeatDue)) → FirstDue shelf places old new found → Given places old new found
  unfolding FirstDue FirstDueInMemory
  split [] old new found first = inl first
  split (i ∷ places) old new found (now, due, its, rest) =
      at_first i places old now new due found (λ first. split places now new found first) (here i old now due (is_due_at shelf i old) refl its) rest

pub splits : MemoryIsGivenOrRefused
splits shelf places old new found first = split shelf places old new found first
