-- What exchanges are bound to, in the program by its id, and in the law by its number.
use Rattle.std.specs.Prelude.{◌≡◌, ◌<◌, ℕ, true, ◌==◌, List, [], ◌∷◌, Option, Some, None, ⊤}
use Rattle.pp_cache.specs.Memory.{Memory}
use Rattle.pp_flow.specs.Changes.{Exchanges}
use Rattle.pp_flow.specs.Entries.{Span}
use Rattle.pp_flow.specs.declared.entry.Entry.{Entry}
use Rattle.pp_objects.specs.Instances.{is_same_id, is_there}
use Rattle.pp_objects.specs.declared.id.ObjectId.{ObjectId}

-- it was given a life, and the law a number below the next. A life that is gone may be the number of none that is there: each that is
-- there is told apart by its number as by its id
pub record IsTold (number : ℕ → ℕ) (m : Memory) (next : ℕ) (id : ObjectId) : Type 0 where
  pub given : id.life < m.lives
  pub made : number id.life < next
  pub apart : (other : ObjectId) → is_there other m.instances ≡ true → is_same_id id other ≡ (number id.life == number other.life)

abbrev pub IsToldBy : (ℕ → ℕ) → Memory → ℕ → Option Span → Type 0
IsToldBy number m next None = ⊤
IsToldBy number m next (Some b) = IsTold number m next b.0

-- of all of these
abbrev pub EachIsTold : (ℕ → ℕ) → Memory → ℕ → List Entry → Type 0
EachIsTold number m next [] = ⊤
EachIsTold number m next (x ∷ xs) = IsToldBy number m next x.exchange.bound × EachIsTold number m next xs

pub record AreTold (number : ℕ → ℕ) (m : Memory) (next : ℕ) (f : Exchanges) : Type 0 where
  pub waiting : EachIsTold number m next f.waiting
  pub placed : EachIsTold number m next f.placed
