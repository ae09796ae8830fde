-- The next byte of a follower, in a state of the program that shows that of the law.
use Rattle.std.specs.Prelude.{◌≡◌, ℕ, true, Some}
use Rattle.pp_cache.specs.Memory.{Memory}
use Rattle.pp_law.specs.State.{State}
use Rattle.pp_law.specs.Table.{Next, instance}
use Rattle.pp_objects.specs.Instances.{is_there}
use Rattle.pp_seats.specs.declared.seat.Next.{Next as SeatNext}
use Rattle.pp_state.specs.Ends.{Parts}
use Rattle.pp_states_law.specs.Steps.{OfSteps}

-- of an instance that is there
pub record IsNext (number : ℕ → ℕ) (m : Memory) (s : State) (x : SeatNext) (n : Next) : Type 0 where
  pub there : is_there x.source m.instances ≡ true
  pub known : instance s (number x.source.life) ≡ Some n.source
  pub at : x.at ≡ n.at
  pub to : x.to ≡ n.to

-- of all of these
abbrev pub OfNexts : (Parts → State → SeatNext → Next → Type 0) → Type 0
OfNexts P = OfSteps (λ number name l peers p s. (x : SeatNext) (n : Next) → IsNext number p.cache s x n → P p s x n)
