use Rattle.pp_shelf_law.proofs.Calls.{keeps_add, runs_add}
use Rattle.pp_shelf_law.proofs.calling.calls_of_the_disk_are_counted.Goals as goal

pub returns : goal.returns
returns c = record { runs = runs_add; drafts = keeps_add }
