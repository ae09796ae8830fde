-- What the search for what is due first leaves of the clients, but for a row that comes in: their numbers, and what stays in a turn.
use Rattle.std.proofs.Common.{◌≡◌, ◌∙◌, ap, refl, inl, inr, ℕ, Bool, true, false, List, [], ◌∷◌, Option, Some, None}
use Rattle.pp_due.specs.Due.{due_at}
use Rattle.pp_due.specs.Entering.{FirstDue, HasRow, HasRowOf, IsDueWithRow, is_due_at, key_at, refused_at}
use Rattle.pp_seats.specs.declared.due.Due.{Due}
use Rattle.pp_seats.specs.declared.seat.Brought.TheVariants.{Refused}
use Rattle.pp_seats.specs.declared.seat.Seat.{Seat}
use Rattle.pp_state.specs.Ends.{KeepsRest, numbers_of}
use Rattle.pp_state.specs.declared.state.State.{State}
use Rattle.pp_state.proofs.SeatsLemmas.{changed_numbers}
use Rattle.pp_store.specs.Kept.{KeptMap}

pub record Stays (old new : State) : Type 0 where
  pub numbers : numbers_of new.seats.items ≡ numbers_of old.seats.items
  pub rest : KeepsRest old new

abbrev back : State → State → State
back old s = record s { seats = old.seats; flow = old.flow; cache = old.cache; refused = old.refused; is_astray = old.is_astray }

all_stays : (old new : State) → new ≡ old → Stays old new
all_stays old new same = record { numbers = ap (λ (s : State). numbers_of s.seats.items) same; rest = ap (back old) same }

stays_then : (old mid new : State) → Stays old mid → Stays mid new → Stays old new
stays_then old mid new one two = record { numbers = two.numbers ∙ one.numbers; rest = ap (back old) two.rest ∙ one.rest }

refused_numbers : (i : ℕ) (seats : List Seat) → numbers_of (refused_at i seats) ≡ numbers_of seats
refused_numbers i seats = changed_numbers i (λ seat. record seat { brought = Refused }) seats (λ seat. refl)

row_stays : (shelf : KeptMap) (i : ℕ) (key : Option (List ℕ)) (old new : State) → HasRowOf shelf i key old new → Stays old new
row_stays shelf i None old new same = all_stays old new same
row_stays shelf i (Some key) old new (inl comes) = record { numbers = ap (λ (s : State). numbers_of s.seats.items) comes.rest; rest = ap (back old) comes.rest }
row_stays shelf i (Some key) old new (inr refused) = record { numbers = ap numbers_of refused.seats ∙ refused_numbers i old.seats.items; rest = ap (back old) refused.rest }

due_stays : (shelf : KeptMap) (i : ℕ) (old new : State) (due : Option Due) → IsDueWithRow shelf i old new due → Stays old new
due_stays shelf i old new due has = by (is_due_at shelf i old) has
  where
    by : (b : Bool) → (elim b as (λ c. Type 0) [ true ↦ HasRow shelf i old new × (due ≡ due_at i new) | false ↦ (new ≡ old) × (due ≡ None) ]) → Stays old new
    by true its = row_stays shelf i (key_at i old) old new its.0
    by false its = all_stays old new its.0

goes_on : (shelf : KeptMap) (i : ℕ) (places : List ℕ) (now new : State) (due : Option Due) (found : Option (ℕ × Due)) → (FirstDue shelf places now new found → Stays now new)
    → (elim due as (λ c. Type 0) [ Some d ↦ (new ≡ now) × (found ≡ Some (i, d)) | None ↦ FirstDue shelf places now new found ]) → Stays now new
goes_on shelf i places now new (Some d) found more its = all_stays now new its.0
goes_on shelf i places now new None found more first = more first

pub found_stays : (shelf : KeptMap) (places : List ℕ) (old new : State) (found : Option (ℕ × Due)) → FirstDue shelf places old new found → Stays old new
unfolding FirstDue
found_stays shelf [] old new found first = all_stays old new first.0
found_stays shelf (i ∷ places) old new found (now, due, has, rest) =
    stays_then old now new (due_stays shelf i old now due has) (goes_on shelf i places now new due found (λ first. found_stays shelf places now new found first) rest)
