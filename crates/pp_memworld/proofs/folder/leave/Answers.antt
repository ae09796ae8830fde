use Rattle.std.proofs.Common.{sym, subst}
use Rattle.pp_memworld.specs.Slots.{AreListed}
use Rattle.pp_memworld.proofs.Leaving.{on_ok}
use Rattle.pp_memworld.proofs.Listed.{listed_put}
use Rattle.pp_memworld.proofs.folder.leave.Goals as goal

pub returns-in-Some-clause-listed : goal.returns-in-Some-clause-listed
returns-in-Some-clause-listed c = on_ok c.put.result (λ is. subst AreListed (sym is) (listed_put c.args.name.now c.in-Some.bytes c.args.image.now c.requires.listed)) c.put.ensures.ok
