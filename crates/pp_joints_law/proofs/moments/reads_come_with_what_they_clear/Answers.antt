use Rattle.pp_joints_law.proofs.ReadsCome.{reads_come_behind, reads_note_amid}
use Rattle.pp_joints_law.proofs.moments.reads_come_with_what_they_clear.Goals as goal

pub returns : goal.returns
returns c = record {
  amid = reads_note_amid c.final_heads_are_the_laws.ensures.rules c.final_heads_are_the_laws.ensures.own c.final_heads_are_the_laws.ensures.passed c.final_heads_are_the_laws.ensures.part c.part_heads_are_the_laws.ensures.part;
  behind = reads_come_behind c.final_heads_are_the_laws.ensures.rules c.final_heads_are_the_laws.ensures.own c.final_heads_are_the_laws.ensures.passed c.final_heads_are_the_laws.ensures.part c.part_heads_are_the_laws.ensures.part;
}
