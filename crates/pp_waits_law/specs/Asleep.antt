-- Whoever is not looked at in a turn was read at the last wait (ours): it is silent, so that it may send more, and there is room for that. So
-- it stays from wait to wait, as amid a turn nobody falls asleep, and where a client leaves all are looked at.
use Rattle.std.specs.Prelude.{◌≡◌, ◌⊎◌, ◌<◌, ◌≤◌, ℕ, true, false, List, [], ◌++◌, length, slice_get, Some}
use Rattle.pp_law.specs.Lists.{has_number}
use Rattle.pp_state.specs.Ends.{AreInOrder, numbers_of}
use Rattle.pp_state.specs.declared.state.State.{State}

-- ---- who was read

-- each is looked at
abbrev pub LooksAtAll : State → Type 0
LooksAtAll s = (i : ℕ) → i < length s.seats.items → has_number i s.awake.items ≡ true

-- these clients were read at the last wait
pub record WereRead (before : List ℕ) (s : State) : Type 0 where
  pub order : AreInOrder before
  pub asleep : (i n : ℕ) → slice_get (numbers_of s.seats.items) i ≡ Some n → has_number i s.awake.items ≡ false → has_number n before ≡ true
  -- each of them is there still, or all are looked at, and written down anew
  pub known : LooksAtAll s ⊎ ((n : ℕ) → has_number n before ≡ true → has_number n (numbers_of s.seats.items) ≡ true)

-- where nobody is there, nobody was
abbrev pub NobodyWasRead : Type 0
NobodyWasRead = (s : State) → s.seats.items ≡ [] → WereRead [] s

-- ---- nobody falls asleep

-- whoever was looked at is, and so is each that comes
pub record LooksOn (old new : State) : Type 0 where
  pub come : List ℕ
  pub numbers : numbers_of new.seats.items ≡ numbers_of old.seats.items ++ come
  pub awake : (i : ℕ) → has_number i old.awake.items ≡ true → has_number i new.awake.items ≡ true
  pub newcomers : (i : ℕ) → length old.seats.items ≤ i → i < length new.seats.items → has_number i new.awake.items ≡ true

abbrev pub KeepsAwake : State → State → Type 0
KeepsAwake old new = LooksOn old new ⊎ LooksAtAll new

-- one behind the other
abbrev pub AwakeByAndBy : Type 0
AwakeByAndBy = (a b c : State) → KeepsAwake a b → KeepsAwake b c → KeepsAwake a c

-- then those who are not looked at were read
abbrev pub ReadStay : Type 0
ReadStay = (before : List ℕ) (old new : State) → KeepsAwake old new → WereRead before old → WereRead before new
