-- Where a log may end.
use Rattle.std.proofs.Common.{◌≡◌, refl, Bool, true, false, [], ◌∷◌, ◌++◌}
use Rattle.pp_world.specs.declared.happening.Happening.TheVariants.{Shut, Dropped, Noted, Stopped, Opened}
use Rattle.pp_world.specs.declared.note.Remark.TheVariants.{Cut, Taken}
use Rattle.pp_world.specs.declared.note.Cause.TheVariants.{Stop}
use Rattle.pp_world.specs.declared.note.Decision.TheVariants.{Pass}
use Rattle.pp_world.specs.Log.{Log}
use Rattle.pp_law.specs.After.{after}
use Rattle.pp_law.specs.Permits.{is_over}
use Rattle.pp_law.specs.State.{State, start}
use Rattle.pp_law.proofs.OnLiterals.{pp_law_on_literals}
use Rattle.pp_law.proofs.Worked.{one_life, opening, client_sends, request, answered}

abbrev behind : State → Log → State
behind s [] = s
behind s (h ∷ log) = behind (after s h) log

abbrev ends_well : Log → Bool
ends_well log = is_over (behind (start one_life) log)

while_it_waits : ends_well answered ≡ true
unfolding pp_law_on_literals
while_it_waits = refl

in_an_opening : ends_well [] ≡ true
unfolding pp_law_on_literals
in_an_opening = refl

-- a decision is owed
in_a_turn : ends_well (opening ++ client_sends request) ≡ false
unfolding pp_law_on_literals
in_a_turn = refl

-- a place is owed
without_its_dial : ends_well (opening ++ client_sends request ++ Noted (Taken 1 0 Pass) ∷ []) ≡ false
unfolding pp_law_on_literals
without_its_dial = refl

-- all is done: it might wait
behind_all : ends_well (opening ++ Opened 1 ∷ []) ≡ true
unfolding pp_law_on_literals
behind_all = refl

stopped_and_left : ends_well (answered ++ Stopped ∷ []) ≡ false
unfolding pp_law_on_literals
stopped_and_left = refl

client_left : ends_well (answered ++ Stopped ∷ Noted (Cut 1 Stop) ∷ Dropped 2 ∷ []) ≡ false
unfolding pp_law_on_literals
client_left = refl

all_closed : ends_well (answered ++ Stopped ∷ Noted (Cut 1 Stop) ∷ Dropped 2 ∷ Shut 1 ∷ []) ≡ true
unfolding pp_law_on_literals
all_closed = refl
