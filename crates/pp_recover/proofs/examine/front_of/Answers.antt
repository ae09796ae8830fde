use Rattle.std.proofs.Common.{arith}
use Rattle.std.specs.Prelude.{Ok}
use Rattle.pp_recover.proofs.LookLemmas.{length_look, front_read}
use Rattle.pp_recover.proofs.examine.front_of.Goals as goal

pub returns-clause-front : goal.returns-clause-front
returns-clause-front g c =
    front_read _ _ _ c.args.name.now c.args.n c.in_ok-length.length c.in_ok-count.count c.read_gates.new.gates c.front_in.result
    (omega (arith, c.in_ok-count.ensures.few, c.read_gates.array_long))
    (length_look _ _ c.args.name.now (Ok c.in_ok-length.length) c.in_ok-length.ensures.told c.in_ok-length.ensures.length)
    c.in_ok-count.ensures.gates
    c.front_in.ensures
