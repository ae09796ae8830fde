-- How few rows stand behind one that came in this turn. All of it is ours.
use Rattle.std.specs.Prelude.{◌≤◌, ℕ, Bool, true, false, not, List, [], ◌∷◌, count_by}
use Rattle.pp_law.specs.State.{State, Term, Instance}
use Rattle.pp_obeys.specs.Obeys.{Obeys}
use Rattle.pp_world.specs.Log.{Log}

abbrev pub is_row : Instance → Bool
is_row x = not x.is_retired

-- the instances stand in the order of their use, the least recently used first: from the first that came in this turn on
abbrev pub since_new : List Instance → List Instance
since_new [] = []
since_new (x ∷ xs) = elim x.is_new [ true ↦ x ∷ xs | false ↦ since_new xs ]

abbrev pub late_rows : State → ℕ
late_rows s = count_by is_row (since_new s.instances)

-- one read brings the heads of 8 asks at most, each of which makes, brings in or refreshes the row of its key; and behind it the rows
-- that are used are those that the requests of 256 clients name, and these stay the same until the turn ends
abbrev pub HasFewLate : State → Type 0
HasFewLate s = late_rows s ≤ 264

-- in each state that a lawful log may go on as from
abbrev pub FewRowsAreLate : Type 0
FewRowsAreLate = (terms : List Term) (s : State) (log : Log) → Obeys terms s log → HasFewLate s
