use Rattle.pp_joints_law.proofs.MomentsHeads.{heads_note_on}
use Rattle.pp_joints_law.proofs.MomentsKept.{noted_ones_kept}
use Rattle.pp_joints_law.proofs.MomentsPieces.{pieces_note_on}
use Rattle.pp_joints_law.proofs.moments.moments_note_what_they_clear.Goals as goal

pub returns : goal.returns
returns c = record {
  heads = heads_note_on c.final_heads_are_the_laws.ensures.rules c.final_heads_are_the_laws.ensures.own c.final_heads_are_the_laws.ensures.passed c.final_heads_are_the_laws.ensures.part c.part_heads_are_the_laws.ensures.part;
  pieces = pieces_note_on;
  kept = noted_ones_kept;
}
