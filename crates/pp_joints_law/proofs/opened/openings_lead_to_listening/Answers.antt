use Rattle.pp_joints_law.proofs.OpenedFolder.{folders_lead}
use Rattle.pp_joints_law.proofs.OpenedRows.{rows_short}
use Rattle.pp_joints_law.proofs.OpenedWords.{strings_are, words_lead}
use Rattle.pp_joints_law.proofs.opened.openings_lead_to_listening.Goals as goal

pub returns : goal.returns
returns c = record { texts = strings_are; words = words_lead; rows = rows_short; folders = folders_lead }
