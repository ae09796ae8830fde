-- Which asks of followers that have no place are given up (ours).
use Rattle.std.specs.Prelude.{ℕ, true, false, List, [], ◌∷◌}
use Rattle.pp_flow.specs.Changes.{entry_of}
use Rattle.pp_state.specs.Asking.{is_useless}
use Rattle.pp_state.specs.Ends.{Parts, ended}

-- one that is of no use is over
abbrev pub given_up_if : ℕ → Parts → Parts
given_up_if n p = elim (is_useless p.cache p.seats (entry_of n p.flow)) [ true ↦ ended n p | false ↦ p ]

-- one behind the other
unfoldable pub all_given_up : List ℕ → Parts → Parts
all_given_up [] p = p
all_given_up (n ∷ ns) p = all_given_up ns (given_up_if n p)
