use Rattle.std.proofs.Common.{rules}
use Rattle.pp_recover.proofs.LookLemmas.{read_look, gates_read}
use Rattle.pp_recover.proofs.examine.read_gates.Goals as goal

pub returns-clause-gates : goal.returns-clause-gates
returns-clause-gates g c =
    gates_read _ _ c.args.name.now c.args.n c.read.new.buf _ c.read.result (search rules) c.read.ensures.within
    (read_look _ _ c.args.name.now 8192 c.read.new.buf c.read.result c.read.ensures.told c.read.ensures.bytes)
