use Rattle.pp_reads_law.proofs.Delivers.{data_come}
use Rattle.pp_reads_law.proofs.data.data_come_as_the_laws.Goals as goal

pub returns : goal.returns
returns c = record { came = data_come }
