use Rattle.pp_joints_law.proofs.NotedCome.{heads_tie}
use Rattle.pp_joints_law.proofs.NotedRefused.{refused_heads_tie}
use Rattle.pp_joints_law.proofs.heads.heads_tie_as_they_come.Goals as goal

pub returns : goal.returns
returns c = record {
  tie = heads_tie c.final_heads_are_the_laws.ensures.rules c.final_heads_are_the_laws.ensures.own c.final_heads_are_the_laws.ensures.passed c.final_heads_are_the_laws.ensures.part c.part_heads_are_the_laws.ensures.part;
  refused = refused_heads_tie c.final_heads_are_the_laws.ensures.rules c.final_heads_are_the_laws.ensures.own c.final_heads_are_the_laws.ensures.passed c.final_heads_are_the_laws.ensures.part;
}
