use Rattle.std.proofs.Common.{subst, sym}
use Rattle.pp_run.specs.Exits.{ShowsAs}
use Rattle.pp_run.specs.declared.ending.Exit.{Exit}
use Rattle.pp_run.proofs.program.show.Goals as goal

pub returns-in-Ok : goal.returns-in-Ok
returns-in-Ok g c = (c.in-Ok.shown.summary, c.tell.ensures)

pub returns-in-Err : goal.returns-in-Err
returns-in-Err g c = subst (λ (e : Exit). ShowsAs e (g.W.Logged.log c.args.world.now) (g.W.Logged.log c.refuse.new.world)) (sym c.refuse.ensures.exit) c.refuse.ensures.told
