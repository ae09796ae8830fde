-- What each step of the law keeps of rows, and of exchanges whose bodies belong to one.
use Rattle.std.proofs.Common.{◌≡◌, ℕ, ◌<◌, ◌≤◌, Bool, true, false, not, ◌||◌, List, map, filter, length, is_some, Option, Some}
use Rattle.pp_law.specs.Lists.{is_this}
use Rattle.pp_law.specs.Opening.{is_same_phase}
use Rattle.pp_law.specs.Stages.{bound_of}
use Rattle.pp_law.specs.State.{State, Phase, Awaiting, Owed, Free, Client, Exchange, Instance}
use Rattle.pp_laws.specs.Numbers.{AreDistinct}
use Rattle.pp_laws.specs.Runs.{IsIn}
use Rattle.pp_laws.proofs.Sound.{instance_id}

-- an exchange that may be bound next, and counts as bound; and whether Stop was said
pub record As : Type 0 where
  pub expects : Option ℕ
  pub stopped : Bool

abbrev pub counts_as_bound : Option ℕ → Exchange → Bool
counts_as_bound expects e = is_some (bound_of e) || is_this e.number expects

abbrev pub is_row : Instance → Bool
is_row x = not x.is_retired

pub record Facts (a : As) (phase : Phase) (owed : Owed) (is_stopped : Bool) (clients : List Client) (exchanges : List Exchange) (next_exchange : ℕ) (instances : List Instance) (next_instance : ℕ) : Type 0 where
  pub said : is_stopped ≡ a.stopped
  -- behind Stop nothing is read or written; and where an event is awaited nothing is owed, and nobody said Stop
  pub rests : a.stopped ≡ true → owed ≡ Free
  pub awaits : is_same_phase Awaiting phase ≡ true → (owed ≡ Free) × (a.stopped ≡ false)
  pub few_clients : length clients ≤ 256
  pub few_bound : length (filter (counts_as_bound a.expects) exchanges) ≤ 64
  pub expected : (n : ℕ) → a.expects ≡ Some n → n < next_exchange
  pub few_rows : length (filter is_row instances) ≤ 1024
  pub differ : AreDistinct (map instance_id instances)
  pub given : (x : Instance) → IsIn x instances → x.id < next_instance

abbrev pub FactsOf : As → State → Type 0
FactsOf a s = Facts a s.phase s.owed s.is_stopped s.clients s.exchanges s.next_exchange s.instances s.next_instance

pub data Small (a : As) (s : State) : Type 0 where
  small : FactsOf a s → Small a s

pub facts_of : {a : As} {s : State} → Small a s → FactsOf a s
facts_of (small facts) = facts
