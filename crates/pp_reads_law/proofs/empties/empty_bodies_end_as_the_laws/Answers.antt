use Rattle.pp_reads_law.proofs.AllGoing.{heads_let_go}
use Rattle.pp_reads_law.proofs.Behind.{ends_alike}
use Rattle.pp_reads_law.proofs.BehindFilling.{heads_note}
use Rattle.pp_reads_law.proofs.EndsThere.{empties_end}
use Rattle.pp_reads_law.proofs.empties.empty_bodies_end_as_the_laws.Goals as goal

pub returns : goal.returns
returns c = record { noted = heads_note; go = heads_let_go; alike = ends_alike; ends = empties_end }
