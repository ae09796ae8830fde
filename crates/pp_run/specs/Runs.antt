-- What a run comes to, whatever its exit, from the outside before it to that behind it (ours).
use Rattle.std.specs.Prelude.{ℕ, List}
use Rattle.pp_run.specs.Breaks.{BreaksAs}
use Rattle.pp_run.specs.Exits.{EndsAs, JudgesWords}
use Rattle.pp_run.specs.Lives.{HasServed, Outside, ServingBy}
use Rattle.pp_run.specs.declared.ending.Exit.{Exit}

pub record RunsAs (words : List (List ℕ)) (exit : Exit) (x y : Outside) : Type 0 where
  pub judges : JudgesWords words exit
  pub ends : EndsAs words exit x.log y.log x.faults y.faults
  pub served : ServingBy words exit (HasServed words exit x y)
  pub breaks : BreaksAs words exit x y
