use Rattle.pp_joints_law.proofs.MomentsAll.{reads_note_all}
use Rattle.pp_joints_law.proofs.ReadsLeft.{reads_note_behind}
use Rattle.pp_joints_law.proofs.moments.reads_note_what_they_clear.Goals as goal

pub returns : goal.returns
returns c = record {
  all = reads_note_all c.final_heads_are_the_laws.ensures.rules c.final_heads_are_the_laws.ensures.own c.final_heads_are_the_laws.ensures.passed c.final_heads_are_the_laws.ensures.part c.part_heads_are_the_laws.ensures.part;
  behind = reads_note_behind c.final_heads_are_the_laws.ensures.rules c.final_heads_are_the_laws.ensures.own c.final_heads_are_the_laws.ensures.passed c.final_heads_are_the_laws.ensures.part c.part_heads_are_the_laws.ensures.part;
}
