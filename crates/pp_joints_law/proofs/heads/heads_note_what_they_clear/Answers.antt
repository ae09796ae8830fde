use Rattle.pp_joints_law.proofs.NotedHeads.{own_heads_note}
use Rattle.pp_joints_law.proofs.NotedParts.{filling_heads_note, part_heads_note}
use Rattle.pp_joints_law.proofs.NotedPassed.{passed_heads_note}
use Rattle.pp_joints_law.proofs.NotedPlaces.{naming_heads_note}
use Rattle.pp_joints_law.proofs.heads.heads_note_what_they_clear.Goals as goal

pub returns : goal.returns
returns c = record { own = own_heads_note; passed = passed_heads_note; naming = naming_heads_note; part = part_heads_note; filling = filling_heads_note c.part_heads_are_the_laws.ensures.part }
