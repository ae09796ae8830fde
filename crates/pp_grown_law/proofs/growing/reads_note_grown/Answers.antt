use Rattle.pp_grown_law.proofs.Reading.{handlings_note, lines_short, reads_note}
use Rattle.pp_grown_law.proofs.growing.reads_note_grown.Goals as goal

pub returns : goal.returns
returns c = record { reads = reads_note; short = lines_short; handlings = handlings_note }
