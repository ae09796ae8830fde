use Rattle.pp_grown_law.proofs.Left.{none_comes_of_the_same, none_is_among_any, none_is_left}
use Rattle.pp_grown_law.proofs.Less.{none_comes_of_less}
use Rattle.pp_grown_law.proofs.behind.none_is_left.Goals as goal

pub returns : goal.returns
returns c = record { left = none_is_left; same = none_comes_of_the_same; less = none_comes_of_less; any = none_is_among_any }
