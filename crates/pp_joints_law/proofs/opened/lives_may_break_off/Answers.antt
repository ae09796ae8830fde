use Rattle.pp_joints_law.proofs.OpenedBreaks.{doors_stay, folders_break, lives_break, words_break}
use Rattle.pp_joints_law.proofs.opened.lives_may_break_off.Goals as goal

pub returns : goal.returns
returns c = record { words = words_break; folders = folders_break; doors = doors_stay; lives = lives_break }
