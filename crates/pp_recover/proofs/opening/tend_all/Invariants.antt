use Rattle.std.proofs.Common.{◌≡◌, ◌≤◌, ◌<◌, ℕ, [], length, take, get_or}
use Rattle.pp_recover.specs.Faults.{CountsFailures}
use Rattle.pp_recover.specs.Looks.{Extends}
use Rattle.pp_recover.specs.Opening.{IsFree}
use Rattle.pp_recover.proofs.EachLemmas.{SoFarAll}
use Rattle.pp_recover.proofs.opening.tend_all.Given as goal

abbrev pub invariant-loop-name : goal.invariant-loop-name
invariant-loop-name g l = record {
  tended : Extends (g.D.Logged.log l.fn.disk) (g.D.Logged.log l.disk) (SoFarAll (take l.name-index l.names) l.store);
  free : (j : ℕ) → l.name-index ≤ j → j < length l.names → IsFree (get_or l.names j []) l.store;
  faults : g.D.Logged.faults l.fn.disk ≤ g.D.Logged.faults l.disk;
  counted : Extends (g.D.Logged.log l.fn.disk) (g.D.Logged.log l.disk) (CountsFailures (g.D.Logged.faults l.fn.disk) (g.D.Logged.faults l.disk));
  top : g.D.Logged.top l.disk ≡ g.D.Logged.top l.fn.disk;
}
