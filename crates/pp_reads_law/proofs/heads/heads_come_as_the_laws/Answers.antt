use Rattle.pp_reads_law.proofs.HeadsCome.{heads_come}
use Rattle.pp_reads_law.proofs.heads.heads_come_as_the_laws.Goals as goal

pub returns : goal.returns
returns c = record { heads = heads_come c.final_heads_are_the_laws.ensures.rules c.final_heads_are_the_laws.ensures.own c.final_heads_are_the_laws.ensures.passed c.final_heads_are_the_laws.ensures.part }
