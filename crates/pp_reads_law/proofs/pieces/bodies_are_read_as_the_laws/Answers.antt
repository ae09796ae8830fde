use Rattle.pp_reads_law.proofs.Amid.{begins, pieces_got}
use Rattle.pp_reads_law.proofs.ReadOn.{read, steps}
use Rattle.pp_reads_law.proofs.pieces.bodies_are_read_as_the_laws.Goals as goal

pub returns : goal.returns
returns c = record { begins = begins; steps = steps; read = read; got = pieces_got }
