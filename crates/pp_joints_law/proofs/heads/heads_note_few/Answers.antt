use Rattle.pp_joints_law.proofs.FewNames.{heads_note_few, rows_note_few}
use Rattle.pp_joints_law.proofs.heads.heads_note_few.Goals as goal

pub returns : goal.returns
returns c = record { heads = heads_note_few; rows = rows_note_few }
